use Rattle.recovery.proofs.Common.{Bool, List, add-one, ap, arith, get_or, length, shape_of_numbers, slice_get-get_or}
use Rattle.recovery.proofs.Common.{subst, sym, ℕ, ◌+◌, ◌∙◌, ◌≡◌}
use Rattle.recovery.proofs.key_order.Entries.{no_page, whole_written}
use Rattle.recovery.proofs.key_order.LostKeys.{MarksLost, page_marked}
use Rattle.recovery.proofs.keys.lost_marks.Goals as goal

pub loop-page-preserved : goal.loop-page-preserved
loop-page-preserved c =
    let same : length c.mark.new.marked ≡ length c.loop-page.marked.items =
    c.mark.auto.marked ∙ ap length c.as_mut_slice.ensures.value in
    let e = whole_written c.loop-page.marked.len c.mark.new.marked c.loop-page.marked.items
    c.loop-page.marked.ok.0 same in
    record {
      long = ap length e ∙ same ∙ c.loop-page.invariant.long;
      lost =
          subst
          (λ (xs : List Bool). MarksLost (shape_of_numbers c.args.numbers.now) c.args.pages.now c.args.low
          (c.loop-page.page-index + 1) xs)
          (sym e)
          (rw add-one
          (page_marked (shape_of_numbers c.args.numbers.now) c.args.pages.now c.args.low c.loop-page.page-index
          (get_or c.args.pages.now c.loop-page.page-index no_page)
          (slice_get-get_or c.args.pages.now c.loop-page.page-index no_page c.loop-page-test.true)
          c.as_mut_slice.result.now c.mark.new.marked c.mark.ensures.same c.mark.ensures.here
          (subst
          (λ (xs : List Bool). MarksLost (shape_of_numbers c.args.numbers.now) c.args.pages.now c.args.low
          c.loop-page.page-index xs)
          (sym c.as_mut_slice.ensures.value) c.loop-page.invariant.lost)));
    }

pub returns-clause-lost : goal.returns-clause-lost
returns-clause-lost c =
    let e : c.loop-page.page-index ≡ length c.args.pages.now = omega arith in
    subst
    (λ (n : ℕ). MarksLost (shape_of_numbers c.args.numbers.now) c.args.pages.now c.args.low n c.loop-page.marked.items)
    e c.loop-page.invariant.lost
