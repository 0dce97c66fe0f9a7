use Rattle.std.proofs.Common.{◌≡◌, replicate}
use Rattle.ufs_spec.specs.Dies.{new_die}
use Rattle.stress.proofs.opened.new_dies.Given as goal

abbrev pub invariant-loop : goal.invariant-loop
invariant-loop l = l.dies.items ≡ replicate l.counter (new_die l.numbers.blocks l.numbers.pages)
