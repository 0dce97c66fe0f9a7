use Rattle.readers.proofs.Common.{drop, map, take, wanted_no_more, ◌++◌, ◌≡◌}
use Rattle.readers.proofs.walks.end_wants.Given as goal

abbrev pub invariant-loop-pin : goal.invariant-loop-pin
invariant-loop-pin l =
    l.pins ≡ map (wanted_no_more l.reader l.index) (take l.pin-index l.initial.pins) ++ drop l.pin-index l.initial.pins
