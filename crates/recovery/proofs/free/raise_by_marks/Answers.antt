use Rattle.recovery.proofs.Common.{add-one, get_or, refl, slice_get-get_or, subst, ℕ, ◌∙◌}
use Rattle.recovery.proofs.frees.Ages.{IsRaised, mark_recorded, no_mark, no_mark_recorded}
use Rattle.recovery.proofs.free.raise_by_marks.Goals as goal

pub loop-mark-init : goal.loop-mark-init
loop-mark-init c = record {
  long = refl;
  greatest = λ pages are. no_mark_recorded c.args.blocks pages c.args.marks.now c.args.latests.now.items are;
}

pub loop-mark-preserved : goal.loop-mark-preserved
loop-mark-preserved c =
    let marks = c.args.marks.now in
    let i = c.loop-mark.mark-index in
    let e = get_or marks i no_mark in
    let raised : IsRaised c.loop-mark.latests.items c.raise.new.latests.items c.block_number.result e.records =
    record { other = c.raise.ensures.other; here = c.raise.ensures.here } in
    record {
      long = c.raise.ensures.long ∙ c.loop-mark.invariant.long;
      greatest = λ pages are.
          rw add-one
          (mark_recorded c.args.blocks pages marks i e c.loop-mark.latests.items c.raise.new.latests.items
          (slice_get-get_or marks i no_mark c.loop-mark-test.true)
          (subst (λ (k : ℕ). IsRaised c.loop-mark.latests.items c.raise.new.latests.items k e.records)
          c.block_number.ensures raised)
          (c.loop-mark.invariant.greatest pages are));
    }
