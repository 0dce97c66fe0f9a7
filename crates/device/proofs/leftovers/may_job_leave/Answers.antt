use Rattle.device.proofs.Common.{MayBeLeft, Page, subst, sym}
use Rattle.device.proofs.dies_of_world.JobLeaves.{MayAllBe, erase_leaves, erase_left, program_leaves}
use Rattle.device.proofs.leftovers.may_job_leave.Goals as goal

pub returns-in-Page-clause-lawful : goal.returns-in-Page-clause-lawful
returns-in-Page-clause-lawful c =
    λ told.
    program_leaves c.args.die.now c.args.job.now c.args.leftover.now c.in-Program.place c.in-Page.field-0
    c.in-Program.intended c.in-Page.left c.in-Program.is c.in-Page.is
    (subst (λ (before : Page). MayBeLeft before c.in-Program.intended c.in-Page.left) c.page_at.ensures
    (c.leftover_ok.ensures.0 told))

pub returns-in-Block-leftover-clause-lawful : goal.returns-in-Block-leftover-clause-lawful
returns-in-Block-leftover-clause-lawful c =
    λ told.
    erase_leaves c.args.die.now c.args.job.now c.args.leftover.now c.in-Erase.die c.in-Erase.block
    c.in-Block-leftover.die c.in-Block-leftover.block c.in-Block-leftover.pages c.in-Erase.is c.in-Block-leftover.is
    (subst (MayAllBe c.args.die.now c.in-Erase.block) c.as_slice.ensures.value (c.may_erase_leave.ensures.lawful told))

pub returns-in-Block-leftover-clause-unlawful : goal.returns-in-Block-leftover-clause-unlawful
returns-in-Block-leftover-clause-unlawful c =
    λ told may.
    c.may_erase_leave.ensures.unlawful told
    (subst (MayAllBe c.args.die.now c.in-Erase.block) (sym c.as_slice.ensures.value)
    (erase_left c.args.die.now c.args.job.now c.args.leftover.now c.in-Erase.die c.in-Erase.block
    c.in-Block-leftover.die c.in-Block-leftover.block c.in-Block-leftover.pages c.in-Erase.is c.in-Block-leftover.is
    may))
