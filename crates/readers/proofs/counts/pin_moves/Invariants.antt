use Rattle.readers.proofs.Common.{fold, pin_moves, take, ◌≡◌}
use Rattle.readers.proofs.counts.pin_moves.Given as goal

abbrev pub invariant-loop-pin : goal.invariant-loop-pin
invariant-loop-pin l = l.live ≡ fold (pin_moves l.stored) l.initial.live (take l.pin-index l.pins)
