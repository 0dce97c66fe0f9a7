-- By the laws of power loss each stop of a layer that is described is right, and an erase is of a block that may go.
use Rattle.ftl_core.proofs.Common.{Cells, Core, Describes, IsTaken, Job, MayTake, None, Option, Some, Spot}
use Rattle.ftl_core.proofs.Common.{StopsRightGiven, Translation, Valid, ap, option_map, spot_at, subst, sym, ℕ, ◌∙◌}
use Rattle.ftl_core.proofs.Common.{◌≡◌}
use Rattle.ufs_spec.specs.Disk as disk
use Rattle.ufs_spec.specs.Disk.{CellCrash}
use Rattle.ufs_spec.specs.declared.flash.Job.TheVariants as job
use Rattle.ufs_laws.proofs.array_cells.KeptNumberFound.{kept}
use Rattle.ufs_laws.proofs.array_cells.NewestFound.{newest_mark}
use Rattle.ufs_laws.proofs.jobs.JobsOnTheirDies.{job_here}
use Rattle.power_loss.proofs.spent.ErasedIsSpent.{erased_are_spent}
use Rattle.power_loss.proofs.stops.LeftCells.{within}
use Rattle.power_loss.proofs.stops.LeftFront.{front}
use Rattle.power_loss.proofs.stops.LeftIsSound.{sound, suits}
use Rattle.ftl_core.specs.Describes.{given}
use Rattle.ftl_core.specs.Stops.{IsLeftRight, MayGo, StopsRight}

-- Stops

left_right : (t : Translation) → Valid t → (left : Cells) → CellCrash t.disk.cells t.disk.flights left →
    IsLeftRight t left
left_right t v left crash =
    let inside = within t left v crash in
    let m = newest_mark t.numbers left inside in
    let k = kept t.numbers left inside m.0 in
    record {
      within = inside;
      newest = m.0;
      is_newest = m.1;
      sound = sound t left m.0 v crash m.1;
      suits = suits t left m.0 v crash m.1;
      kept_number = k.0;
      is_kept = k.1;
      front = front t left m.0 k.0 v crash m.1 k.1;
    }

pub stops_right : (core : Core) (t : Translation) → Describes core t → StopsRight core t
stops_right core t h = record { kept = h.kept; each = left_right t h.valid }

pub taken_stops : (t : Translation) (die : ℕ) (told : Option Job) (after : Core) → IsTaken t die told after →
    StopsRightGiven t die told after
taken_stops t die told after x = (x.job, x.shown, stops_right after (given t die x.job) x.describes)

-- Erases

same_spot : (s : Spot) (die block : ℕ) → job.Erase die block ≡ job.Erase s.die s.block → s ≡ spot_at die block
same_spot s die block e =
    let at_die : s.die ≡ die = cc in
    let at_block : s.block ≡ block = cc in
    λ i. record { die = at_die i; block = at_block i }

-- what is told to erase a block erases it
erasing_told : (die block : ℕ) (o : Option disk.Flight) → Some (job.Erase die block) ≡ option_map disk.job_of o →
    o ≡ Some (disk.Erasing (spot_at die block))
erasing_told die block None e = cc
erasing_told die block (Some (disk.Reading reader place)) e = cc
erasing_told die block (Some (disk.Programming place cell)) e = cc
erasing_told die block (Some (disk.Erasing s)) e =
    let told : job.Erase die block ≡ job.Erase s.die s.block = cc in
    ap (λ (x : Spot). Some (disk.Erasing x)) (same_spot s die block told)

pub erased_may_go : (t : Translation) (die : ℕ) (told : Option Job) (after : Core) → Valid t →
    IsTaken t die told after → (at block : ℕ) → told ≡ Some (job.Erase at block) → MayGo t die (spot_at at block)
erased_may_go t die told after v x at block is =
    let may = subst (MayTake t die) (erasing_told at block x.job (sym is ∙ x.shown)) x.right in
    let spent = erased_are_spent t die (spot_at at block) v may in
    record {
      here = job_here t die (disk.Erasing (spot_at at block)) may;
      unpinned = spent.1;
      spent = spent.0;
    }

-- The calls

-- what a die is given, by what is told of it
pub takes_stop : (c after : Core) (die : ℕ) (told : Option Job) →
    ((t : Translation) → Describes c t → IsTaken t die told after) →
    (t : Translation) → Describes c t → StopsRightGiven t die told after
takes_stop c after die told given t h = taken_stops t die told after (given t h)

pub takes_erase : (c after : Core) (die : ℕ) (told : Option Job) →
    ((t : Translation) → Describes c t → IsTaken t die told after) →
    (t : Translation) (at block : ℕ) → Describes c t → told ≡ Some (job.Erase at block) → MayGo t die (spot_at at block)
takes_erase c after die told given t at block h = erased_may_go t die told after h.valid (given t h) at block
