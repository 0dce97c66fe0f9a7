use Rattle.block_table.proofs.Common.{Stands, get_or, has, length, subst, true, with_block, words_for, ℕ}
use Rattle.std.proofs.lemmas.Option.{slice_get-get_or}
use Rattle.block_table.specs.declared.BlockState.TheVariants as state
use Rattle.block_table.proofs.States.{all_sorted, one_sorted}
use Rattle.block_table.proofs.sorted.Goals as goal

pub loop-place-preserved : goal.loop-place-preserved
loop-place-preserved c =
    let s = get_or c.args.states.now c.loop-place.place state.Free in
    one_sorted c.loop-place.sorted c.set.new.self (words_for (length c.args.states.now)) c.loop-place.place
    c.args.states.now s (slice_get-get_or c.args.states.now c.loop-place.place state.Free c.loop-place-test.true)
    c.loop-place.invariant
    (subst (λ (k : ℕ). Stands c.set.new.self c.loop-place.sorted.buckets c.loop-place.sorted.words
    (with_block (has c.loop-place.sorted) k c.loop-place.place true)) c.bucket_of.ensures c.set.ensures)

pub returns : goal.returns
returns c =
    all_sorted c.loop-place.sorted c.loop-place.place (words_for (length c.args.states.now)) c.args.states.now
    c.loop-place-test.false c.loop-place.invariant
