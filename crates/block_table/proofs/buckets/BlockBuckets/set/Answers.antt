use Rattle.block_table.proofs.Common.{Bool, ap, arith, beq, sym, words_for, ◌∙◌}
use Rattle.block_table.proofs.LiveCounts.{count_after}
use Rattle.block_table.proofs.Marks.{group_read, marked_at}
use Rattle.block_table.proofs.BucketCounts.{held_after, held_room, held_some, is_read, stands_after}
use Rattle.block_table.proofs.BucketCounts.{stands_already, whole_after}
use Rattle.block_table.proofs.buckets.BlockBuckets.set.Goals as goal
use Rattle.block_table.proofs.buckets.BlockBuckets.set.Goals.{then-stands, else-stands}

pub returns-then-has_bit-stands : goal.returns-then-has_bit-stands
returns-then-has_bit-stands c =
    let r = is_read c.self.inside.words c.self.inside.table.items c.self.inside.held.items c.args.self.now c.args.bucket
    c.args.place c.index-word.result.now c.self.view_is c.requires.bucket_there c.requires.place_there
    c.self.invariant.whole c.index-word.ensures in
    stands_already c.args.self.now c.has_bit.result c.args.stands r c.self.view_is c.has_bit.ensures
    c.if-has_bit-stands.true

pub overflow_add-counted : goal.overflow_add-counted
overflow_add-counted c =
    let r = is_read c.self.inside.words c.self.inside.table.items c.self.inside.held.items c.args.self.now c.args.bucket
    c.args.place c.index-word.result.now c.self.view_is c.requires.bucket_there c.requires.place_there
    c.self.invariant.whole c.index-word.ensures in
    let h = held_room c.index-held.result.now c.has_bit.result r c.self.invariant.counted c.index-held.ensures
    c.has_bit.ensures (ap (beq c.has_bit.result) (sym c.if-stands.true) ∙ c.if-has_bit-stands.false) in
    omega (arith, c.self.invariant.few)

pub overflow_sub-counted : goal.overflow_sub-counted
overflow_sub-counted c =
    let r = is_read c.self.inside.words c.self.inside.table.items c.self.inside.held.items c.args.self.now c.args.bucket
    c.args.place c.index-word.result.now c.self.view_is c.requires.bucket_there c.requires.place_there
    c.self.invariant.whole c.index-word.ensures in
    let h = held_some c.index-held.result.now c.has_bit.result r c.self.invariant.counted c.index-held.ensures
    c.has_bit.ensures (ap (beq c.has_bit.result) (sym c.if-stands.false) ∙ c.if-has_bit-stands.false) in
    omega arith

pub invariant_of-self : goal.invariant_of-self
invariant_of-self c =
    let r = is_read c.self.inside.words c.self.inside.table.items c.self.inside.held.items c.args.self.now c.args.bucket
    c.args.place c.index-word.result.now c.self.view_is c.requires.bucket_there c.requires.place_there
    c.self.invariant.whole c.index-word.ensures in
    record {
      whole = whole_after c.self.inside.words c.self.inside.table.items c.self.inside.held.items _ _ _ _
          c.self.invariant.whole;
      few = c.self.invariant.few;
      counted = held_after c.index-held.result.now _ c.with_bit-after.result c.has_bit.result c.args.stands r
          c.self.invariant.counted c.index-held.ensures c.has_bit.ensures c.if-has_bit-stands.false
          (elim c.if-stands.branch [
            | then-stands w ↦ w.counted-is ∙ ap (λ (b : Bool). count_after b c.index-held.result.now)
                (sym w.if-stands.true)
            | else-stands w ↦ w.counted-is ∙ ap (λ (b : Bool). count_after b c.index-held.result.now)
                (sym w.if-stands.false)
          ]) c.with_bit-after.ensures;
      level = whole_after (words_for c.self.inside.words) c.self.inside.marks.items c.self.inside.held.items _ _ _ _
          c.self.invariant.level;
      marked = marked_at c.words_for.result c.with_bit-after.result c.with_bit.result c.args.stands r
          (group_read c.self.inside.marks.items c.words_for.result c.index-marks.result.now r c.self.invariant.level
          c.words_for.ensures c.index-marks.ensures) c.self.invariant.marked c.words_for.ensures (omega arith)
          c.with_bit-after.ensures c.with_bit.ensures;
    }

pub returns : goal.returns
returns c =
    let r = is_read c.self.inside.words c.self.inside.table.items c.self.inside.held.items c.args.self.now c.args.bucket
    c.args.place c.index-word.result.now c.self.view_is c.requires.bucket_there c.requires.place_there
    c.self.invariant.whole c.index-word.ensures in
    stands_after c.args.self.now _ c.with_bit-after.result c.args.stands r c.self.view_is c.with_bit-after.ensures
