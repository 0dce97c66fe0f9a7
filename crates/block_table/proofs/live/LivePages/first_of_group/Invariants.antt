use Rattle.block_table.proofs.Common.{false, is_victim_at, ℕ, ◌*◌, ◌+◌, ◌-◌, ◌<◌, ◌≡◌}
use Rattle.block_table.proofs.live.LivePages.first_of_group.Given as goal

abbrev pub decreases-loop-from : goal.decreases-loop-from
decreases-loop-from l = 64 - l.from

abbrev pub invariant-loop-from : goal.invariant-loop-from
invariant-loop-from l =
    (p : ℕ) → p < 64 * (64 * l.group + l.from) → is_victim_at l.self l.blocks l.scarce l.count p ≡ false
