use Rattle.std.proofs.Common.{◌≡◌, ◌++◌, replicate, drop}
use Rattle.ufs_spec.specs.Dies.{blank_page}
use Rattle.ufs_spec.proofs.PlainFacts.{fill_next}
use Rattle.nand_model.proofs.mem_die.erase_all.Goals as goal

pub loop-page-preserved : goal.loop-page-preserved
loop-page-preserved c =
    let so_far : c.loop-page.pages ≡ replicate c.loop-page.page-index blank_page ++ drop c.loop-page.page-index
    c.args.pages.now = c.loop-page.invariant in
    let next = fill_next c.loop-page.page-index blank_page c.args.pages.now c.loop-page-test.true in
    cc
