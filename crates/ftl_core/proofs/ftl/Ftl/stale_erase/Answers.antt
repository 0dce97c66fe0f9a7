use Rattle.ftl_core.proofs.Common.{ap, has_stale, sym, ◌∙◌}
use Rattle.ftl_core.proofs.job_taken.Lowest.{none_stale}
use Rattle.ftl_core.proofs.ftl.Ftl.stale_erase.Goals as goal

pub returns-else-has_stale : goal.returns-else-has_stale
returns-else-has_stale c =
    sym (none_stale c.args.self.now c.args.die
    (ap has_stale (sym c.self.view_is) ∙ (sym c.has_stale.ensures ∙ c.if-has_stale.false)))
