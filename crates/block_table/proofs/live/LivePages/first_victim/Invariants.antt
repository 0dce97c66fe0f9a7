use Rattle.block_table.proofs.Common.{false, is_victim_at, ℕ, ◌*◌, ◌<◌, ◌≡◌}
use Rattle.block_table.proofs.live.LivePages.first_victim.Given as goal

abbrev pub invariant-loop-group : goal.invariant-loop-group
invariant-loop-group l =
    (p : ℕ) → p < 64 * (64 * l.group) → is_victim_at l.self l.blocks l.scarce l.count p ≡ false
