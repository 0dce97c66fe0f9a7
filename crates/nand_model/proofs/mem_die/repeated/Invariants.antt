use Rattle.std.proofs.Common.{◌≡◌, replicate}
use Rattle.nand_model.proofs.mem_die.repeated.Given as goal

abbrev pub invariant-loop : goal.invariant-loop
invariant-loop g l = l.all.items ≡ replicate l.counter l.value
