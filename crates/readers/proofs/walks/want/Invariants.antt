use Rattle.readers.proofs.Common.{drop, map, take, wanted_now, ◌++◌, ◌≡◌}
use Rattle.readers.proofs.walks.want.Given as goal

abbrev pub invariant-loop-pin : goal.invariant-loop-pin
invariant-loop-pin l =
    l.pins ≡ map (wanted_now l.reader l.index) (take l.pin-index l.initial.pins) ++ drop l.pin-index l.initial.pins
