use Rattle.std.proofs.Common.{◌≡◌, replicate}
use Rattle.ufs_spec.specs.Dies.{new_die}
use Rattle.ufs_handle.proofs.held.new_dies.Given as goal

abbrev pub invariant-loop : goal.invariant-loop
invariant-loop l = l.all.items ≡ replicate l.counter (new_die l.blocks l.pages)
