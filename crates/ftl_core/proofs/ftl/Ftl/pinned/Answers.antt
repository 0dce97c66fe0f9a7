use Rattle.ftl_core.proofs.Common.{sym, ◌∙◌}
use Rattle.ftl_core.proofs.small_calls.PinCalls.{keeps_mended}
use Rattle.ftl_core.proofs.ftl.Ftl.pinned.Goals as goal

pub returns-clause-described_mended : goal.returns-clause-described_mended
returns-clause-described_mended c =
    λ t name h is. keeps_mended c.args.self.now t c.args.reader c.args.index name h (sym c.looked_by.ensures ∙ is)
