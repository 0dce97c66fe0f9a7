use Rattle.lanes.proofs.Common.{arc_value, length, ◌≡◌}
use Rattle.std.proofs.Common.{All}
use Rattle.lanes.proofs.shared.more_boards.Given as goal

abbrev pub invariant-loop : goal.invariant-loop
invariant-loop g l = (l.board ≡ l.fn.board) × (length l.boards.items ≡ l.counter)
    × All (λ b. arc_value b ≡ arc_value l.fn.board) l.boards.items
