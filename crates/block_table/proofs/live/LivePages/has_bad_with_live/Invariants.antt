use Rattle.block_table.proofs.Common.{false, is_bad_at, ℕ, ◌*◌, ◌<◌, ◌≡◌}
use Rattle.block_table.proofs.live.LivePages.has_bad_with_live.Given as goal

abbrev pub invariant-loop-number : goal.invariant-loop-number
invariant-loop-number l = (p : ℕ) → p < 64 * l.number → is_bad_at l.self l.blocks p ≡ false
