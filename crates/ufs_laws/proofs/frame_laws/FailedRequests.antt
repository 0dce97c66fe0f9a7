-- A request that fails a check accepts nothing.
use Rattle.ufs_laws.proofs.Common.{Answering, Bool, Command, Frame, Good, List, None, Option, Results, Some, State}
use Rattle.ufs_laws.proofs.Common.{Task, accepts_nothing, ap, cond-false, false, frames_complete, given_back, inl, inr}
use Rattle.ufs_laws.proofs.Common.{ne_eqb, or_from, outcome_in, plain_now, reads_area, refl, requested, true, ℕ, ◌&&◌}
use Rattle.ufs_laws.proofs.Common.{◌==◌, ◌∙◌, ◌∷◌, ◌≡◌}
use Rattle.ufs_laws.proofs.exchanges.RpmbResults.{accepted_result}
use Rattle.ufs_laws.proofs.frame_laws.RegistersEmptied.{decided_as}
use Rattle.ufs_laws.specs.FrameLaws.{IsSuccess}
use Rattle.ufs_spec.specs.Rpmb.{read_data, region_of}
use Rattle.ufs_spec.specs.RpmbResponses.{is_success}

no_success : (result : ℕ) → (IsSuccess result → ⊥) → is_success result ≡ false
no_success result failed =
    or_from (result == 0) (result == 0x80) (ne_eqb result 0 (λ e. failed (inl e)))
    (ne_eqb result 0x80 (λ e. failed (inr e)))

no_area : (f : Frame) (result : ℕ) → (IsSuccess result → ⊥) → reads_area f result ≡ false
no_area f result failed =
    ap (λ (b : Bool). (f.kind == read_data) && b) (no_success result failed) ∙ by (f.kind == read_data)
  where
    by : (b : Bool) → (b && false) ≡ false
    by true = refl
    by false = refl

-- it is answered at once, and that is all
told_at_once : (s : State) (task : Task) (region : ℕ) (f : Frame) (fs : List Frame) (result : ℕ)
    (c : Option Command) → outcome_in s region (f ∷ fs) ≡ Results result c → (IsSuccess result → ⊥) →
    frames_complete s task region (f ∷ fs)
    ≡ requested (given_back s task) task region (f ∷ fs) result (Answering Good task.length)
told_at_once s task region f fs result (Some c) e failed =
    absurd (failed (accepted_result region (region_of (plain_now s) region) (s.registers region) (accepts_nothing s) (f ∷ fs) result c
    e))
told_at_once s task region f fs result None e failed =
    decided_as s task region (f ∷ fs) (Results result None) e
    ∙ cond-false (reads_area f result) _ _ (no_area f result failed)

pub commands : (s : State) (task : Task) (region : ℕ) (f : Frame) (fs : List Frame) (result : ℕ)
    (c : Option Command) → outcome_in s region (f ∷ fs) ≡ Results result c → (IsSuccess result → ⊥) →
    (frames_complete s task region (f ∷ fs)).accepted ≡ s.accepted
commands s task region f fs result c e failed =
    ap (λ (t : State). t.accepted) (told_at_once s task region f fs result c e failed)

pub groups : (s : State) (task : Task) (region : ℕ) (f : Frame) (fs : List Frame) (result : ℕ)
    (c : Option Command) → outcome_in s region (f ∷ fs) ≡ Results result c → (IsSuccess result → ⊥) →
    (frames_complete s task region (f ∷ fs)).translation.ledger ≡ s.translation.ledger
groups s task region f fs result c e failed =
    ap (λ (t : State). t.translation.ledger) (told_at_once s task region f fs result c e failed)

pub contents : (s : State) (task : Task) (region : ℕ) (f : Frame) (fs : List Frame) (result : ℕ)
    (c : Option Command) → outcome_in s region (f ∷ fs) ≡ Results result c → (IsSuccess result → ⊥) →
    plain_now (frames_complete s task region (f ∷ fs)) ≡ plain_now s
contents s task region f fs result c e failed = ap plain_now (told_at_once s task region f fs result c e failed)
