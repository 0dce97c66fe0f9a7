use Rattle.block_table.proofs.Common.{false, is_used_from, ℕ, ◌*◌, ◌<◌, ◌≡◌}
use Rattle.block_table.proofs.live.LivePages.first_used.Given as goal

abbrev pub invariant-loop-number : goal.invariant-loop-number
invariant-loop-number l =
    (p : ℕ) → p < 64 * l.number → is_used_from l.self l.blocks l.state l.start p ≡ false
