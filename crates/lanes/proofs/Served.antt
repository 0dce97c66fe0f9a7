-- The keeper makes one turn more, and a lane one step more.
use Rattle.lanes.proofs.Common.{Bool, Did, DieState, Job, LaneView, None, Option, Some, View, ap, inl, inr, job_of}
use Rattle.lanes.proofs.Common.{lane_given, refl, subst, suc, ℕ, ◌∙◌, ◌≡◌}
use Rattle.lanes.specs.Rule.{job_given}
use Rattle.lanes.specs.Serving.{HasAsked, HasFinished, HasServed, HasTurned}
use Rattle.lanes.specs.declared.view.Made.TheVariants as made

pub turned_more : {D : Type 0} (state : D → DieState) (v u w : View D) (due : Bool) →
    HasTurned state v u → Did state u (made.Turn due) None w → HasTurned state v w
turned_more state v u w due turned did = (suc turned.0, (u, turned.1, (due, did)))

-- the die of the lane has the same number all along
pub asked_for_one : {D : Type 0} (state : D → DieState) (number other : ℕ) (v u w : View D) (job : Option Job) →
    other ≡ number → HasServed state number v u → Did state u (made.Take other job) (lane_given u.lane job) w →
    HasServed state number v w
asked_for_one state number other v u w job same served did =
    (suc served.0, (u, served.1, inl (subst (λ (n : ℕ). HasAsked state n u w) same (job, did))))

pub finished_one : {D : Type 0} (state : D → DieState) (number other : ℕ) (v u w : View D) → other ≡ number →
    HasServed state number v u → HasFinished state other u w → HasServed state number v w
finished_one state number other v u w same served finished =
    (suc served.0, (u, served.1, inr (subst (λ (n : ℕ). HasFinished state n u w) same finished)))

-- a lane that asked in vain has the job that it had
pub still_idle : {D : Type 0} (lane : Option (LaneView D)) (job : Option Job) → job ≡ None → job_of lane ≡ None →
    job_of (lane_given lane job) ≡ None
still_idle None job none idle = refl
still_idle (Some l) job none idle = ap (job_given l.job) none ∙ idle
