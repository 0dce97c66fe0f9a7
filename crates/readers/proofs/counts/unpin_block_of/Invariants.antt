use Rattle.readers.proofs.Common.{fold, is_pin_of, let_go, take, ◌≡◌}
use Rattle.readers.proofs.counts.unpin_block_of.Given as goal

abbrev pub invariant-loop-pin : goal.invariant-loop-pin
invariant-loop-pin l = l.live ≡ fold (let_go (is_pin_of l.reader l.index)) l.initial.live (take l.pin-index l.pins)
