-- How many free blocks groups leave to the device's own pages, and what a die is given them for.
use Rattle.std.specs.Prelude.{◌≡◌, ◌≢◌, ℕ, ◌+◌, ◌-◌, ◌*◌, ◌≤◌, Some}
use Rattle.ufs_spec.specs.Cells.{Cell}
use Rattle.ufs_spec.specs.Disk.{Erasing, Flight, Free, Programming, Reading, Stale, spot_of}
use Rattle.ufs_spec.specs.Translation.{Translation, waiting_step}
use Rattle.ufs_spec.specs.declared.configs.Numbers.{Numbers}

-- so many blocks hold the pages of a full write cache
abbrev pub HoldCache : Numbers → ℕ → Type 0
HoldCache n blocks = n.slots ≤ blocks * n.pages

-- where so many blocks are bad, it is one block for each die, two, twice the fewest blocks that hold the pages of a full
-- write cache, and one for each block that may go bad before more are than the spare ones
pub record IsOwnRoom (n : Numbers) (bad room : ℕ) : Type 0 where
  pub filled : ℕ
  pub hold : HoldCache n filled
  pub fewest : (blocks : ℕ) → HoldCache n blocks → filled ≤ blocks
  pub is : room ≡ n.dies + 2 + 2 * filled + (n.spare - bad)

-- this is the page of the step under way, its content is there, and no die programs it yet
abbrev pub IsWaitingStep : Translation → Cell → Type 0
IsWaitingStep t cell = waiting_step t t.work.step ≡ Some cell

-- this job opens a block: it erases one to fill it, not for pages of it that may go, or it programs into one that is
-- free still
abbrev pub OpensBlock : Translation → Flight → Type 0
OpensBlock t (Erasing s) = t.disk.vacancies s ≢ Stale
OpensBlock t (Programming p cell) = t.disk.blocks (spot_of p) ≡ Free
OpensBlock t (Reading reader place) = ⊥
