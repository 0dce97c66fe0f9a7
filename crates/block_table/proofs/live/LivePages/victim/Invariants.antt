use Rattle.block_table.proofs.Common.{CanBeVictim, Spot, live_count, ◌≤◌}
use Rattle.block_table.proofs.live.LivePages.victim.Given as goal

abbrev pub invariant-loop-count : goal.invariant-loop-count
invariant-loop-count l = (s : Spot) → CanBeVictim l.self l.blocks l.scarce s → l.count ≤ live_count l.self s
