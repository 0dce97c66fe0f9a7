-- What becomes of a block once its plan's mark is finished, and of blocks that are erased or filled.
use Rattle.ufs_laws.proofs.Common.{Bad, BlockState, Cell, Closed, Disk, Filling, Free, Mark, MarkPage, Place}
use Rattle.ufs_laws.proofs.Common.{Programming, Ready, Some, Spot, Stale, Translation, ap, erased, programmed, refl}
use Rattle.ufs_laws.proofs.Common.{spot_of, ℕ, ◌∙◌, ◌≡◌, ◌≢◌}
use Rattle.ufs_spec.proofs.Equalities.{spot_self}
use Rattle.ufs_spec.specs.Disk.{job_begun}
use Rattle.ufs_spec.specs.Moves.{freed_state, mark_written}
use Rattle.ufs_spec.specs.Translation.{Plan}

-- ## Erased and filled

pub ready : (d : Disk) (s : Spot) → ((erased d s).blocks ≡ d.blocks) × ((erased d s).vacancies s ≡ Ready)
ready d s = (refl, rw (spot_self s) refl)

pub filled : (d : Disk) (die : ℕ) (p : Place) (cell : Cell) →
    (job_begun d die (Programming p cell)).blocks (spot_of p) ≡ Filling p.page
filled d die p cell = rw (spot_self (spot_of p)) refl

-- ## Victims

free_state : (b : BlockState) → b ≢ Bad → freed_state b ≡ Free
free_state Free good = refl
free_state (Filling next) good = refl
free_state Closed good = refl
free_state Bad good = absurd (good refl)

module _ (t : Translation) (p : Place) (m : Mark) (plan : Plan) (planned : t.work.plan ≡ Some plan) where
  abbrev behind : Disk
  behind = programmed t.numbers.pages t.disk p (MarkPage m)

  victim_is : (mark_written t p m).disk.blocks plan.victim ≡ freed_state (behind.blocks plan.victim)
  victim_is = rw (planned, spot_self plan.victim) refl

  pub stale : behind.blocks plan.victim ≢ Bad →
      ((mark_written t p m).disk.blocks plan.victim ≡ Free) × ((mark_written t p m).disk.vacancies plan.victim ≡ Stale)
  stale good = (victim_is ∙ free_state _ good, rw (planned, spot_self plan.victim) refl)

  pub bad : behind.blocks plan.victim ≡ Bad → (mark_written t p m).disk.blocks plan.victim ≡ Bad
  bad is = victim_is ∙ ap freed_state is
