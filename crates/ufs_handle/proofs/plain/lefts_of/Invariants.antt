use Rattle.std.proofs.Common.{◌≡◌, map, take}
use Rattle.ufs_handle.specs.Plain.{left_number}
use Rattle.ufs_handle.proofs.plain.lefts_of.Given as goal

abbrev pub invariant-loop-number : goal.invariant-loop-number
invariant-loop-number l = map left_number l.lefts.items ≡ take l.number-index l.numbers
