use Rattle.device.proofs.Common.{arith}
use Rattle.device.proofs.dies_of_world.BlockWritten.{pages_many}
use Rattle.device.proofs.dies_of_world.JobLeaves.{erased_more, page_may}
use Rattle.device.proofs.leftovers.may_erase_leave.Goals as goal
use Rattle.device.proofs.leftovers.may_erase_leave.Goals.{else-page-pages-via-then-page-pages+else-not-leftover_ok}
use Rattle.device.proofs.leftovers.may_erase_leave.Goals.{else-page-pages-via-else-page-pages}

pub loop-index-preserved : goal.loop-index-preserved
loop-index-preserved c =
    erased_more c.args.die.now c.args.block c.args.pages.now c.loop-index.index c.loop-index.invariant (λ inside.
    elim c.else-page-pages.branch [
      | else-page-pages-via-then-page-pages+else-not-leftover_ok w ↦
          page_may _ w.page_at.result.now c.blank-erased.result _ c.args.pages.now c.loop-index.index
          w.page_at.ensures c.blank-erased.ensures inside (w.leftover_ok.ensures.0 w.if-not-leftover_ok.false)
      | else-page-pages-via-else-page-pages w ↦ let past = w.if-page-pages.false in absurd (omega arith)
    ])

pub returns-clause-lawful : goal.returns-clause-lawful
returns-clause-lawful c =
    λ told i inside.
    let many = pages_many c.args.die.now c.args.block c.pages-index-end.result c.requires.there
    c.pages-index-end.ensures in
    let as_many = c.requires.as_many in
    let over = c.loop-index-test.false in c.loop-index.invariant i (omega arith) inside
