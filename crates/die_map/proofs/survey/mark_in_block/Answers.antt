use Rattle.std.proofs.Common.{◌≡◌, ℕ, Option, subst, sym}
use Rattle.ufs_spec.specs.Cells.{IsCell}
use Rattle.ufs_spec.specs.Disk.{at_place}
use Rattle.ufs_spec.specs.declared.flash.Page.{Page}
use Rattle.recovery.specs.Reading.{place_at}
use Rattle.die_map.specs.Surveys.{IsMarkFound, IsReadTo}
use Rattle.die_map.specs.declared.survey.FoundMark.{FoundMark}
use Rattle.die_map.proofs.MarkFacts.{block_end, block_read, mark_step, page_read}
use Rattle.die_map.proofs.survey.mark_in_block.Goals as goal

pub loop-page-preserved : goal.loop-page-preserved
loop-page-preserved c = λ n cells shown r.
    let number = c.args.number in
    let block = c.args.block in
    let page = c.loop-page.page in
    let found = c.loop-page.found in
    let place = place_at number block page in
    let is : IsCell c.page_at.result.now (cells place) =
    subst (λ (p : Page). IsCell p (cells place)) (sym c.page_at.ensures) (shown.shown block page) in
    page_read (λ s. IsMarkFound s found) (λ s. IsMarkFound s c.mark_at-found.result) cells number block page
    (λ s empty so.
    subst (λ (f : Option FoundMark). IsMarkFound (at_place s place (cells place)) f)
    (sym (c.mark_at-found.ensures (cells place) is)) (mark_step s place (cells place) found empty so))
    (c.loop-page.invariant n cells shown r)

pub returns : goal.returns
returns c = λ n cells shown r.
    let d = c.args.die.now in
    let number = c.args.number in
    let block = c.args.block in
    let found = c.loop-page.found in
    let end : c.loop-page.page ≡ n.pages =
    block_end n cells number d c.loop-page.page c.pages-page-end.result shown block c.requires
    c.pages-page-end.ensures c.loop-page.auto.page-end c.loop-page-test.false in
    block_read (λ s. IsMarkFound s found) n cells shown.within number block
    (subst (λ (k : ℕ). IsReadTo (λ s. IsMarkFound s found) number block k cells) end
    (c.loop-page.invariant n cells shown r))
