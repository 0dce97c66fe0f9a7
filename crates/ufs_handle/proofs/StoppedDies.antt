-- The dies that a stop leaves.
use Rattle.std.proofs.Common.{◌≡◌, ◌∙◌, ℕ, zero, suc, List, Option, length, refl, slice_index_or}
use Rattle.std.proofs.lemmas.List.{length-set}
use Rattle.ufs_spec.specs.Dies.{DieState, power_cycle_ended}
use Rattle.ufs_spec.specs.declared.flash.Job.{Job}
use Rattle.ufs_handle.specs.Kept.{die_at, job_at}
use Rattle.ufs_handle.specs.Left.{left_by, stopped}
use Rattle.ufs_handle.specs.declared.left.Left.{Left}
use Rattle.ufs_handle.specs.declared.left.Left.TheVariants as left

-- they are as many as before
pub as_many : (pages : ℕ) (lefts : List Left) (jobs : List (Option Job)) (die : ℕ) (dies : List DieState) →
    length (stopped pages lefts jobs die dies) ≡ length dies
as_many pages lefts jobs zero dies = refl
as_many pages lefts jobs (suc die) dies =
    let before = stopped pages lefts jobs die dies in
    length-set before die
    (power_cycle_ended (left_by pages (slice_index_or lefts die left.Old) (job_at jobs die) (die_at before die)))
    ∙ as_many pages lefts jobs die dies
