use Rattle.std.proofs.Common.{◌≡◌, replicate, None}
use Rattle.ufs_handle.proofs.held.idle.Given as goal

abbrev pub invariant-loop : goal.invariant-loop
invariant-loop l = l.all.items ≡ replicate l.counter None
