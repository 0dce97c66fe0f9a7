use Rattle.std.proofs.Common.{◌≡◌}
use Rattle.ufs_handle.specs.Left.{stopped}
use Rattle.ufs_handle.proofs.held.Held.leave_all.Given as goal

abbrev pub invariant-loop-index : goal.invariant-loop-index
invariant-loop-index l =
    l.self ≡ record l.fn.self {
      dies = stopped l.fn.self.config.pages l.lefts l.fn.self.jobs l.index l.fn.self.dies;
    }
