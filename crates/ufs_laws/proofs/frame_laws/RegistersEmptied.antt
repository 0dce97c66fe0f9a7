-- What the last data of a request, and SECURITY PROTOCOL IN, leave in the registers.
use Rattle.ufs_laws.proofs.Common.{Bool, Command, Frame, List, None, Option, Refused, Registers, Results, RpmbOutcome}
use Rattle.ufs_laws.proofs.Common.{Some, State, Status, Task, [], ap, false, frames_complete, if_both, if◌then◌else◌}
use Rattle.ufs_laws.proofs.Common.{inl, inr, ne_eqb, or_from, outcome_in, reads_area, refl, request_decided, ℕ, ◌==◌}
use Rattle.ufs_laws.proofs.Common.{◌∙◌, ◌∷◌, ◌≡◌, ◌≢◌}
use Rattle.ufs_laws.specs.FrameLaws.{IsKeyOrWrite}
use Rattle.ufs_spec.proofs.Facts.{eqb-self}
use Rattle.ufs_spec.specs.Exchanges.{at_region, empty_registers}
use Rattle.ufs_spec.specs.RpmbResponses.{emptied_by, has_result_register}

-- ## Regions

pub at_own : (r : ℕ → Registers) (region : ℕ) (x : Registers) → at_region r region x region ≡ x
at_own r region x = ap (λ (b : Bool). if b then x else r region) (eqb-self region)

pub at_another : (r : ℕ → Registers) (region : ℕ) (x : Registers) (other : ℕ) → other ≢ region →
    at_region r region x other ≡ r other
at_another r region x other differ = ap (λ (b : Bool). if b then x else r other) (ne_eqb other region differ)

-- ## Kinds

abbrev by_kind : Registers → ℕ → Registers
by_kind r kind = if has_result_register kind then empty_registers else record r { response = [] }

pub both_emptied : (f : Frame) (fs : List Frame) (r : Registers) → IsKeyOrWrite f →
    emptied_by (f ∷ fs) r ≡ empty_registers
both_emptied f fs r (inl e) = ap (by_kind r) e
both_emptied f fs r (inr e) = ap (by_kind r) e

pub other_kind : (f : Frame) → (IsKeyOrWrite f → ⊥) → has_result_register f.kind ≡ false
other_kind f other =
    or_from (f.kind == 1) (f.kind == 3) (ne_eqb f.kind 1 (λ e. other (inl e))) (ne_eqb f.kind 3 (λ e. other (inr e)))

pub one_emptied : (f : Frame) (fs : List Frame) (r : Registers) → (IsKeyOrWrite f → ⊥) →
    emptied_by (f ∷ fs) r ≡ record r { response = [] }
one_emptied f fs r other =
    ap (λ (b : Bool). if b then empty_registers else record r { response = [] }) (other_kind f other)

-- ## Last data

-- what was decided is what becomes of the frames
pub decided_as : (s : State) (task : Task) (region : ℕ) (frames : List Frame) (o : RpmbOutcome) →
    outcome_in s region frames ≡ o → frames_complete s task region frames ≡ request_decided s task region frames o
decided_as s task region frames o e = ap (request_decided s task region frames) e

left_registers : (s : State) (task : Task) (region : ℕ) (f : Frame) (fs : List Frame) (result : ℕ)
    (c : Option Command) → (request_decided s task region (f ∷ fs) (Results result c)).registers
    ≡ at_region s.registers region (emptied_by (f ∷ fs) (s.registers region))
left_registers s task region f fs result (Some c) = refl
left_registers s task region f fs result None =
    if_both (λ (t : State). t.registers ≡ at_region s.registers region (emptied_by (f ∷ fs) (s.registers region)))
    (reads_area f result) refl refl

left_at : (s : State) (task : Task) (region : ℕ) (f : Frame) (fs : List Frame) (result : ℕ) (c : Option Command) →
    outcome_in s region (f ∷ fs) ≡ Results result c →
    (frames_complete s task region (f ∷ fs)).registers region ≡ emptied_by (f ∷ fs) (s.registers region)
left_at s task region f fs result c e =
    ap (λ (t : State). t.registers region) (decided_as s task region (f ∷ fs) (Results result c) e)
    ∙ ap (λ (r : ℕ → Registers). r region) (left_registers s task region f fs result c)
    ∙ at_own s.registers region (emptied_by (f ∷ fs) (s.registers region))

pub key_or_write : (s : State) (task : Task) (region : ℕ) (f : Frame) (fs : List Frame) (result : ℕ)
    (c : Option Command) → outcome_in s region (f ∷ fs) ≡ Results result c → IsKeyOrWrite f →
    (frames_complete s task region (f ∷ fs)).registers region ≡ empty_registers
key_or_write s task region f fs result c e is =
    left_at s task region f fs result c e ∙ both_emptied f fs (s.registers region) is

pub other_kinds : (s : State) (task : Task) (region : ℕ) (f : Frame) (fs : List Frame) (result : ℕ)
    (c : Option Command) → outcome_in s region (f ∷ fs) ≡ Results result c → (IsKeyOrWrite f → ⊥) →
    (frames_complete s task region (f ∷ fs)).registers region ≡ record (s.registers region) { response = [] }
other_kinds s task region f fs result c e other =
    left_at s task region f fs result c e ∙ one_emptied f fs (s.registers region) other

pub refused : (s : State) (task : Task) (region : ℕ) (frames : List Frame) (status : Status) →
    outcome_in s region frames ≡ Refused status → (frames_complete s task region frames).registers ≡ s.registers
refused s task region frames status e =
    ap (λ (t : State). t.registers) (decided_as s task region frames (Refused status) e)

-- whatever was decided
decided_elsewhere : (s : State) (task : Task) (region : ℕ) (frames : List Frame) (o : RpmbOutcome) (other : ℕ) →
    other ≢ region → (request_decided s task region frames o).registers other ≡ s.registers other
decided_elsewhere s task region frames (Refused status) other differ = refl
decided_elsewhere s task region [] (Results result None) other differ = refl
decided_elsewhere s task region [] (Results result (Some c)) other differ =
    at_another s.registers region (s.registers region) other differ
decided_elsewhere s task region (f ∷ fs) (Results result c) other differ =
    ap (λ (r : ℕ → Registers). r other) (left_registers s task region f fs result c)
    ∙ at_another s.registers region (emptied_by (f ∷ fs) (s.registers region)) other differ

pub other_regions : (s : State) (task : Task) (region : ℕ) (frames : List Frame) (other : ℕ) → other ≢ region →
    (frames_complete s task region frames).registers other ≡ s.registers other
other_regions s task region frames other differ =
    decided_elsewhere s task region frames (outcome_in s region frames) other differ
