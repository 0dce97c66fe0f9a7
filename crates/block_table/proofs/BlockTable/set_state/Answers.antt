use Rattle.block_table.proofs.Common.{Stands, arith, has, length, moved, refl, slice_get_read, subst, ℕ, ◌<◌}
use Rattle.block_table.specs.Blocks.{is_bad, is_free, is_stale}
use Rattle.block_table.specs.Sorted.{bucket_of}
use Rattle.block_table.proofs.States.{counted_after, sorted_moved}
use Rattle.block_table.proofs.BlockTable.set_state.Goals as goal

pub invariant_of-self : goal.invariant_of-self
invariant_of-self c =
    let states = c.self.inside.states.items in
    let i = c.index-index.result in
    let was = c.index.result.now in
    let l : i < length states = omega (arith, c.self.inside.states.ok.0) in
    record {
      free = counted_after is_free states i was c.args.state _ _ c.is_free.result c.is_free-2.result l c.index.ensures
          c.self.invariant.free c.is_free.ensures c.is_free-2.ensures c.recounted-self-inside.ensures;
      stale = counted_after is_stale states i was c.args.state _ _ c.is_stale.result c.is_stale-2.result l
          c.index.ensures c.self.invariant.stale c.is_stale.ensures c.is_stale-2.ensures
          c.recounted-self-inside-2.ensures;
      bad = counted_after is_bad states i was c.args.state _ _ c.is_bad.result c.is_bad-2.result l c.index.ensures
          c.self.invariant.bad c.is_bad.ensures c.is_bad-2.ensures c.recounted-self-inside-3.ensures;
      sorted = sorted_moved c.self.inside.sorted c.move_block.new.self states i was c.args.state
          c.self.invariant.sorted (slice_get_read states (length states) i was refl l c.index.ensures)
          (subst (λ (from : ℕ). Stands c.move_block.new.self c.self.inside.sorted.buckets c.self.inside.sorted.words
          (moved (has c.self.inside.sorted) i from (bucket_of c.args.state))) c.bucket_of.ensures
          (subst (λ (to : ℕ). Stands c.move_block.new.self c.self.inside.sorted.buckets c.self.inside.sorted.words
          (moved (has c.self.inside.sorted) i c.bucket_of.result to)) c.bucket_of-2.ensures c.move_block.ensures));
    }
