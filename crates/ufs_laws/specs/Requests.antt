-- Tasks whose RPMB requests have filled their registers.
use Rattle.std.specs.Prelude.{◌≡◌, List, [], ◌∷◌, false}
use Rattle.ufs_spec.specs.Exchanges.{Task, is_unfilled}

-- none of the tasks has a request that is yet to fill its register; without a request there is nothing to fill
abbrev pub HaveNoneToFill : List Task → Type 0
HaveNoneToFill [] = Unit {0}
HaveNoneToFill (task ∷ tasks) = (is_unfilled task.request ≡ false) × HaveNoneToFill tasks
