use Rattle.recovery.proofs.Common.{AreNeeded, Bool, List, [], add-one, arith, get_or, shape_of_numbers}
use Rattle.recovery.proofs.Common.{slice_get-get_or, subst, sym, ◌++◌, ◌+◌, ◌∷◌}
use Rattle.recovery.proofs.frees.Answered.{one_told}
use Rattle.recovery.proofs.key_order.Entries.{no_page}
use Rattle.recovery.proofs.free.needed_pages.Goals as goal

pub loop-page-preserved : goal.loop-page-preserved
loop-page-preserved c =
    let s = shape_of_numbers c.args.numbers.now in
    let pages = c.args.pages.now in
    let i = c.loop-page.page-index in
    let before = c.loop-page.needed.items in
    let more : AreNeeded s c.args.fence c.args.contents.now pages (i + 1) (before ++ c.is_needed.result ∷ []) =
    rw add-one
    (one_told s c.args.fence c.args.contents.now pages i (get_or pages i no_page) before c.is_needed.result
    (slice_get-get_or pages i no_page c.loop-page-test.true) c.loop-page.invariant.long c.is_needed.ensures
    c.loop-page.invariant.told) in
    record {
      long = omega (arith, c.loop-page.invariant.long, c.in_ok-push.ensures.len);
      told =
          subst (λ (xs : List Bool). AreNeeded s c.args.fence c.args.contents.now pages (i + 1) xs)
          (sym c.in_ok-push.ensures.items) more;
    }
