-- What a leftover is to a die and to its job, as the world checks it.
use Rattle.std.specs.Prelude.{◌≡◌, ℕ, ◌<◌, ◌⊎◌, length, Some, slice_index_or, List}
use Rattle.ufs_spec.specs.Cells.{IsPlace}
use Rattle.ufs_spec.specs.Dies.{CanDo, DieState, LiesOnDie, blank_page, page_at, pages_of}
use Rattle.ufs_spec.specs.Pages.{MayBeLeft}
use Rattle.ufs_spec.specs.declared.configs.Numbers.{Numbers}
use Rattle.ufs_spec.specs.declared.events.Event.{Event}
use Rattle.ufs_spec.specs.declared.events.Event.TheVariants as event
use Rattle.ufs_spec.specs.declared.events.Leftover.{Leftover}
use Rattle.ufs_spec.specs.declared.events.Leftover.TheVariants as leftover
use Rattle.ufs_spec.specs.declared.flash.Job.{Job}
use Rattle.ufs_spec.specs.declared.flash.Job.TheVariants as job
use Rattle.power_loss.specs.Exchange.{IsSpot}
use Rattle.device.specs.Kept.{WorldState}
use Rattle.device.specs.Worlds.{die_at, dies_stopped, job_at}

-- it names just the page, or just all of so many pages of the block, that the job touches; a read leaves nothing
abbrev pub IsOfJob : ℕ → Job → Leftover → Type 0
IsOfJob pages (job.Program p intended) (leftover.Page q left) = q ≡ p
IsOfJob pages (job.Erase die block) (leftover.Block other there left) =
    (other ≡ die) × (there ≡ block) × (length left.items ≡ pages)
IsOfJob pages j l = ⊥

-- each page that it names is one that the job may leave there, on a die that holds what this one holds
abbrev pub MayJobLeave : DieState → Job → Leftover → Type 0
MayJobLeave d (job.Program p intended) (leftover.Page q left) = MayBeLeft (page_at d p.block p.page) intended left
MayJobLeave d (job.Erase die block) (leftover.Block other there left) =
    (i : ℕ) → i < length left.items →
    MayBeLeft (page_at d block i) blank_page (slice_index_or left.items i blank_page)
MayJobLeave d j l = ⊥

-- the die has the pages that it names
abbrev pub HasPagesOf : DieState → Leftover → Type 0
HasPagesOf d (leftover.Page p left) = LiesOnDie d p.block p.page
HasPagesOf d (leftover.Block die block left) =
    (block < length d.blocks) × (length left.items ≡ length (pages_of d block))

-- the dies of the numbers have them
abbrev pub IsInside : Numbers → Leftover → Type 0
IsInside n (leftover.Page p left) = IsPlace n p
IsInside n (leftover.Block die block left) =
    IsSpot n (record { die = die; block = block }) × (length left.items ≡ n.pages)

-- it is that of the job that the die has in flight, and that the die can do
abbrev pub IsOfDie : WorldState → ℕ → Leftover → Type 0
IsOfDie w die l =
    (j : Job) × (job_at w.jobs die ≡ Some j) × CanDo (die_at w.dies die) j × IsOfJob w.config.pages j l

-- the job that the die has in flight may leave what the leftover says
abbrev pub MayDieLeave : WorldState → ℕ → Leftover → Type 0
MayDieLeave w die l = (j : Job) → job_at w.jobs die ≡ Some j → MayJobLeave (die_at w.dies die) j l

-- an event that is refused leaves the dies as they were; a stop may leave them stopped
abbrev pub IsLeftRefused : List DieState → Event → List DieState → Type 0
IsLeftRefused dies (event.Stop lefts) after = (after ≡ dies) ⊎ (after ≡ dies_stopped dies lefts.items)
IsLeftRefused dies e after = after ≡ dies
