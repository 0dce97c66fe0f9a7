use Rattle.readers.proofs.Common.{fold, is_of_reader, let_go, take, ◌≡◌}
use Rattle.readers.proofs.counts.unpin_blocks.Given as goal

abbrev pub invariant-loop-pin : goal.invariant-loop-pin
invariant-loop-pin l = l.live ≡ fold (let_go (is_of_reader l.reader)) l.initial.live (take l.pin-index l.pins)
