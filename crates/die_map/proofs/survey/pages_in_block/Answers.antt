use Rattle.std.proofs.Common.{◌≡◌, ℕ, subst, sym}
use Rattle.ufs_spec.specs.Cells.{IsCell}
use Rattle.ufs_spec.specs.Disk.{at_place}
use Rattle.ufs_spec.specs.declared.flash.Page.{Page}
use Rattle.recovery.specs.Reading.{place_at}
use Rattle.die_map.specs.Surveys.{ArePagesFound, IsPageFound, IsReadTo, written_at}
use Rattle.die_map.proofs.MarkFacts.{block_end, block_read, page_read}
use Rattle.die_map.proofs.PageFacts.{page_step}
use Rattle.die_map.proofs.survey.pages_in_block.Goals as goal

pub loop-page-preserved : goal.loop-page-preserved
loop-page-preserved c = λ n cells shown r.
    let number = c.args.number in
    let block = c.args.block in
    let page = c.loop-page.page in
    let mark = c.args.mark in
    let old = written_at c.loop-page.newest in
    let new = written_at c.note_page.new.newest in
    let place = place_at number block page in
    let is : IsCell c.page_at.result.now (cells place) =
    subst (λ (p : Page). IsCell p (cells place)) (sym c.page_at.ensures) (shown.shown block page) in
    page_read (λ s. ArePagesFound s mark old) (λ s. ArePagesFound s mark new) cells number block page
    (λ s empty so a.
    subst (IsPageFound (at_place s place (cells place)) mark a) (sym (c.in_ok-note_page.ensures (cells place) is a))
    (page_step s place (cells place) mark old empty so a))
    (c.loop-page.invariant n cells shown r)

pub returns : goal.returns
returns c = λ n cells shown r.
    let number = c.args.number in
    let block = c.args.block in
    let mark = c.args.mark in
    let found = written_at c.loop-page.newest in
    let end : c.loop-page.page ≡ n.pages =
    block_end n cells number c.args.die.now c.loop-page.page c.pages-page-end.result shown block c.requires
    c.pages-page-end.ensures c.loop-page.auto.page-end c.loop-page-test.false in
    block_read (λ s. ArePagesFound s mark found) n cells shown.within number block
    (subst (λ (k : ℕ). IsReadTo (λ s. ArePagesFound s mark found) number block k cells) end
    (c.loop-page.invariant n cells shown r))
