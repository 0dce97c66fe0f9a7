use Rattle.readers.proofs.Common.{drop, map, moved_pin, take, ◌++◌, ◌≡◌}
use Rattle.readers.proofs.walks.move_pins.Given as goal

abbrev pub invariant-loop-pin : goal.invariant-loop-pin
invariant-loop-pin l =
    l.pins ≡ map (moved_pin l.stored) (take l.pin-index l.initial.pins) ++ drop l.pin-index l.initial.pins
