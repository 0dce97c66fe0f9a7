use Rattle.recovery.proofs.Common.{FoundPage, HasOther, Some, ap, arith, false, false≢true, get_or, same_Some}
use Rattle.recovery.proofs.Common.{slice_get, slice_get-get_or, sym, true, ◌∙◌, ◌≡◌}
use Rattle.recovery.proofs.frees.Answered.{one_more}
use Rattle.recovery.proofs.key_order.Entries.{no_page}
use Rattle.recovery.proofs.free.all_go.Goals as goal
use Rattle.recovery.proofs.free.all_go.Goals.{else-needed-index-via-else-needed-index}
use Rattle.recovery.proofs.free.all_go.Goals.{else-needed-index-via-then-needed-index+else-not-has_other}

pub returns-then-not-has_other-clause-stays : goal.returns-then-not-has_other-clause-stays
returns-then-not-has_other-clause-stays c = λ same rising named.
    let pages = c.args.pages.now in
    let i = c.loop-index.index in
    let e = get_or pages i no_page in
    let there = slice_get-get_or pages i no_page (omega (arith, c.end_of-end.ensures.bound)) in
    let low = (c.first_in-index.ensures.cut rising).behind i e there c.loop-index.auto.index in
    let high = (c.end_of-end.ensures.cut rising).before i e there c.loop-index-test.true in (
      i,
      e,
      record {
        there = there;
        needed_there =
            slice_get-get_or c.args.needed.now i false (omega (arith, c.requires, c.end_of-end.ensures.bound))
            ∙ ap Some c.if-needed-index.true;
        inside = omega (arith, low, high);
      },
      c.has_other.ensures.stays c.if-not-has_other.true named,
    )

pub loop-index-preserved : goal.loop-index-preserved
loop-index-preserved c = λ named.
    let pages = c.args.pages.now in
    let index = c.loop-index.index in
    let e = get_or pages index no_page in
    let there = slice_get-get_or pages index no_page (omega (arith, c.end_of-end.ensures.bound)) in
    let told = slice_get-get_or c.args.needed.now index false
    (omega (arith, c.requires, c.end_of-end.ensures.bound)) in
    let here : slice_get c.args.needed.now index ≡ Some true →
    HasOther c.args.blocks c.args.named.now c.args.free.now e =
    elim c.else-needed-index.branch [
      | else-needed-index-via-then-needed-index+else-not-has_other w ↦
          λ need. w.has_other.ensures.goes w.if-not-has_other.false named
      | else-needed-index-via-else-needed-index w ↦
          λ need. absurd (false≢true (sym w.if-needed-index.false ∙ same_Some _ true (sym told ∙ need)))
    ] in
    one_more (λ (f : FoundPage). HasOther c.args.blocks c.args.named.now c.args.free.now f) pages c.args.needed.now
    c.first_in-index.result index e there here (c.loop-index.invariant named)
