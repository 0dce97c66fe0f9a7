use Rattle.recovery.proofs.Common.{AreMarked, Key, List, Some, add-one, ap, false, shape, slice_get-get_or, subst, sym}
use Rattle.recovery.proofs.Common.{◌+◌, ◌∙◌}
use Rattle.std.proofs.Common.{Global, Vec}
use Rattle.recovery.proofs.key_order.LostKeys.{key_listed, key_skipped}
use Rattle.recovery.proofs.keys.marked_keys.Goals as goal
use Rattle.recovery.proofs.keys.marked_keys.Goals.{then-is_marked+in_ok-push, else-is_marked}

pub loop-index-preserved : goal.loop-index-preserved
loop-index-preserved c =
    let there = slice_get-get_or c.args.marked.now c.loop-index.index false c.loop-index-test.true in
    elim c.if-is_marked.branch [
      | then-is_marked+in_ok-push w ↦
          subst
          (λ (keys : List Key). AreMarked (shape c.args.numbers.now) c.args.marked.now (c.loop-index.index + 1)
          keys)
          (sym (ap (λ (v : Vec Key Global). v.items) w.keys-is ∙ w.in_ok-push.ensures.items))
          (rw add-one
          (key_listed (shape c.args.numbers.now) c.args.marked.now c.loop-index.index c.loop-index.keys.items
          c.loop-index.invariant w.key_at.result (there ∙ ap Some w.if-is_marked.true) w.key_at.ensures))
      | else-is_marked w ↦
          subst
          (λ (keys : List Key). AreMarked (shape c.args.numbers.now) c.args.marked.now (c.loop-index.index + 1)
          keys)
          (sym (ap (λ (v : Vec Key Global). v.items) w.keys-is))
          (rw add-one
          (key_skipped (shape c.args.numbers.now) c.args.marked.now c.loop-index.index c.loop-index.keys.items
          c.loop-index.invariant (there ∙ ap Some w.if-is_marked.false)))
    ]
