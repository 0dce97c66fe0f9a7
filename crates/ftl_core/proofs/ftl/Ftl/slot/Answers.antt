use Rattle.ftl_core.proofs.Common.{rules, ◌∙◌, ◌≡◌}
use Rattle.std.specs.Prelude.{option_copied}
use Rattle.ftl_core.specs.Moves.{slot_of}
use Rattle.ftl_core.proofs.look_and_accept.SlotBodies.{slot_is, slot_waits}
use Rattle.ftl_core.proofs.ftl.Ftl.slot.Goals as goal

pub returns-clause-described : goal.returns-clause-described
returns-clause-described c =
    let core : option_copied c.content.result ≡ slot_of c.args.self.now c.args.name = search rules in
    λ t e h mended above is none. core ∙ slot_is c.args.self.now t c.args.name e h mended above is none

pub returns-clause-described_waiting : goal.returns-clause-described_waiting
returns-clause-described_waiting c =
    let core : option_copied c.content.result ≡ slot_of c.args.self.now c.args.name = search rules in
    λ t h some. core ∙ slot_waits c.args.self.now t c.args.name h some

pub returns-in_err-page-clause-described : goal.returns-in_err-page-clause-described
returns-in_err-page-clause-described c =
    let core : option_copied c.from_residual.result ≡ slot_of c.args.self.now c.args.name =
    search rules in
    λ t e h mended above is none. core ∙ slot_is c.args.self.now t c.args.name e h mended above is none

pub returns-in_err-page-clause-described_waiting : goal.returns-in_err-page-clause-described_waiting
returns-in_err-page-clause-described_waiting c =
    let core : option_copied c.from_residual.result ≡ slot_of c.args.self.now c.args.name =
    search rules in
    λ t h some. core ∙ slot_waits c.args.self.now t c.args.name h some
