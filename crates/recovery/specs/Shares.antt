-- How dies are shared out among workers.
use Rattle.std.specs.Prelude.{◌*◌, ◌≤◌, ℕ, suc}

-- a worker reads the least number of dies, or one more
abbrev pub IsShare : ℕ → ℕ → Type 0
IsShare least dies = (least ≤ dies) × (dies ≤ suc least)

-- so many workers can read a share each, which are all dies
abbrev pub AreShared : ℕ → ℕ → ℕ → Type 0
AreShared least workers dies = (1 ≤ workers) × (workers * least ≤ dies) × (dies ≤ workers * suc least)
