use Rattle.std.proofs.Common.{◌≡◌}
use Rattle.ufs_handle.specs.Left.{filled}
use Rattle.ufs_handle.proofs.left.fill.Given as goal

abbrev pub invariant-loop-page : goal.invariant-loop-page
invariant-loop-page l = l.die ≡ filled l.block l.content l.page l.fn.die
