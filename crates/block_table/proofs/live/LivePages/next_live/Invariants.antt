use Rattle.block_table.proofs.Common.{false, is_live, place_in, spot, ℕ, ◌<◌, ◌≡◌, ◌≤◌}
use Rattle.block_table.proofs.live.LivePages.next_live.Given as goal

abbrev pub invariant-loop-page : goal.invariant-loop-page
invariant-loop-page l =
    (k : ℕ) → l.from ≤ k → k < l.page → is_live l.self (place_in (spot l.die l.block) k) ≡ false
