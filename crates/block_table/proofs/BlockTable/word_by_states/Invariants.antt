use Rattle.block_table.proofs.Common.{bit, blocks_in, same_state, state_there, ℕ, ◌*◌, ◌+◌, ◌<◌, ◌≡◌}
use Rattle.block_table.proofs.BlockTable.word_by_states.Given as goal

abbrev pub invariant-loop-place : goal.invariant-loop-place
invariant-loop-place l =
    (j : ℕ) → j < l.place → 64 * l.number + j < blocks_in l.sizes →
    bit l.word j ≡ same_state (state_there l.self l.sizes (64 * l.number + j)) l.state
