-- What a journal takes of the frames of a request to the RPMB is what the device accepts of them.
use Rattle.heard_laws.proofs.Common.{Bool, Frame, IsKept, List, None, Option, RegionState, Some, Status, []}
use Rattle.heard_laws.proofs.Common.{accepted_by, accepted_in, and_parts, ap, eqb-true, false, if◌then◌else◌, is_none}
use Rattle.heard_laws.proofs.Common.{length, nat_lt, none-some, not, refl, same_Some, subst, sym, true, ℕ, ◌*◌, ◌+◌}
use Rattle.heard_laws.proofs.Common.{◌==◌, ◌∙◌, ◌∷◌, ◌≡◌}
use Rattle.std.proofs.Common.{replicate}
use Rattle.std.proofs.lemmas.List.{length-replicate}
use Rattle.std.specs.List.{flat_map}
use Rattle.std.specs.Prelude.{is_some}
use Rattle.ufs_spec.specs.Commands.{Command, RpmbWrite, SetKey}
use Rattle.ufs_spec.specs.Exchanges.{Registers, empty_registers, invalid_list_field, sequence_error}
use Rattle.ufs_spec.specs.Plain.{counter_end}
use Rattle.ufs_spec.specs.Rpmb.{Check, Refused, Region, checks, command_in, fails_if, first_failed, has_wrong_mac}
use Rattle.ufs_spec.specs.Rpmb.{is_well_formed, lacks_result, outcome_after, program_key, read_counter, read_data}
use Rattle.ufs_spec.specs.Rpmb.{read_result, rpmb_outcome, write_data}
use Rattle.journal.specs.Requests.{region_like}

-- ## What the checks look at

-- the checks of a request to a region with this key, this counter and so many bytes
abbrev checks_of : Option (List ℕ) → ℕ → ℕ → Bool → Frame → List Frame → List Check
checks_of key counter bytes is_locked f fs =
    if f.kind == program_key then fails_if (is_some key) 1 ∷ fails_if is_locked 5 ∷ []
    else if f.kind == write_data then
    fails_if (not (is_some key)) 7 ∷ fails_if (counter == counter_end) 5
    ∷ fails_if (nat_lt bytes (256 * (f.address + f.count))) 4
    ∷ fails_if (has_wrong_mac key f fs) 2 ∷ fails_if (not (f.counter == counter)) 3
    ∷ fails_if is_locked 5 ∷ []
    else if f.kind == read_data then
    fails_if (not (is_some key)) 7 ∷ fails_if (nat_lt bytes (256 * (f.address + f.count))) 4 ∷ []
    else if f.kind == read_counter then fails_if (not (is_some key)) 7 ∷ []
    else []

checks_are : (region : Region) (is_locked : Bool) (f : Frame) (fs : List Frame) →
    checks region is_locked f fs ≡ checks_of region.key region.counter (length region.area) is_locked f fs
checks_are region is_locked f fs = refl

-- a region of which this is kept has the checks of the one that is like it
same_checks : (s : RegionState) (region : Region) (is_locked : Bool) (f : Frame) (fs : List Frame) → IsKept s region →
    checks region is_locked f fs ≡ checks (region_like s) is_locked f fs
same_checks s region is_locked f fs kept =
    let long : length region.area ≡ length (replicate (256 * s.blocks) 0) =
    kept.area ∙ sym (length-replicate (256 * s.blocks) 0) in
    λ i. checks_of (sym kept.key i) (sym kept.counter i) (long i) is_locked f fs

-- ## Outcomes

-- what the outcome has accepted does not depend on what the region becomes
accepted_after : Option Command → Option ℕ → Option Command
accepted_after c None = c
accepted_after c (Some code) = None

after_is : (region : Region) (c : Option Command) (failed : Option ℕ) →
    accepted_in (outcome_after region c failed) ≡ accepted_after c failed
unfolding accepted_after
after_is region c None = refl
after_is region c (Some code) = refl

-- a request for a result has no command
no_command : (number : ℕ) (f : Frame) (gs : List Frame) (registers : Registers) → lacks_result f registers ≡ true →
    command_in number f gs ≡ None
no_command number f gs registers e =
    ap
    (λ (k : ℕ). if k == program_key then Some (SetKey number f.key_or_mac)
    else if k == write_data then Some (RpmbWrite number f.address (flat_map (λ (g : Frame). g.payload) (f ∷ gs)))
    else None)
    (eqb-true f.kind read_result (and_parts (f.kind == read_result) (is_none registers.result) e).0)

nothing_after : (c : Option Command) (failed : Option ℕ) → c ≡ None → accepted_after c failed ≡ None
unfolding accepted_after
nothing_after c None e = e
nothing_after c (Some code) e = refl

-- so that a result is lacking changes nothing
lacking : (region : Region) (c : Option Command) (failed : Option ℕ) (lacks : Bool) (status : Status) →
    (lacks ≡ true → c ≡ None) →
    accepted_in (if lacks then Refused status else outcome_after region c failed) ≡ accepted_after c failed
lacking region c failed false status none = after_is region c failed
lacking region c failed true status none = sym (nothing_after c failed (none refl))

decided : (number : ℕ) (region : Region) (registers : Registers) (is_locked : Bool) (f : Frame) (fs : List Frame) →
    (b : Bool) → is_well_formed f fs ≡ b →
    accepted_in (if not b then Refused invalid_list_field
    else if lacks_result f registers then Refused sequence_error
    else outcome_after region (command_in number f fs) (first_failed (checks region is_locked f fs)))
    ≡ (if b then accepted_after (command_in number f fs) (first_failed (checks region is_locked f fs)) else None)
decided number region registers is_locked f fs false e = refl
decided number region registers is_locked f fs true e =
    lacking region (command_in number f fs) (first_failed (checks region is_locked f fs)) (lacks_result f registers)
    sequence_error (no_command number f fs registers)

-- what is accepted of frames, no register has a part in, nor any byte of the area
pub same_accepted : (number : ℕ) (s : RegionState) (region : Region) (registers : Registers) (is_locked : Bool)
    (frames : List Frame) → IsKept s region →
    accepted_in (rpmb_outcome number region registers is_locked frames) ≡ accepted_by number s is_locked frames
same_accepted number s region registers is_locked [] kept = refl
same_accepted number s region registers is_locked (f ∷ fs) kept =
    decided number region registers is_locked f fs (is_well_formed f fs) refl
    ∙ (ap (λ (cs : List Check). if is_well_formed f fs
    then accepted_after (command_in number f fs) (first_failed cs) else None) (same_checks s region is_locked f fs kept)
    ∙ sym (decided number (region_like s) empty_registers is_locked f fs (is_well_formed f fs) refl))

-- ## Which commands

-- the command of frames is one for their region
abbrev pub IsFor : ℕ → Command → Type 0
IsFor number (SetKey region key) = region ≡ number
IsFor number (RpmbWrite region address bytes) = region ≡ number
IsFor number other = ⊥

command_for : (number : ℕ) (f : Frame) (fs : List Frame) (c : Command) → command_in number f fs ≡ Some c →
    IsFor number c
command_for number f fs c e = by (f.kind == program_key) (f.kind == write_data) e
  where
    by : (a b : Bool) →
        (if a then Some (SetKey number f.key_or_mac)
        else if b then Some (RpmbWrite number f.address (flat_map (λ (g : Frame). g.payload) (f ∷ fs)))
        else None) ≡ Some c → IsFor number c
    by true b k = subst (IsFor number) (same_Some _ c k) refl
    by false true k = subst (IsFor number) (same_Some _ c k) refl
    by false false k = absurd (none-some c k)

accepted_for : (number : ℕ) (c : Option Command) (failed : Option ℕ) (d : Command) →
    ((x : Command) → c ≡ Some x → IsFor number x) → accepted_after c failed ≡ Some d → IsFor number d
unfolding accepted_after
accepted_for number c None d each e = each d e
accepted_for number c (Some code) d each e = absurd (none-some d e)

pub accepted_is_for : (number : ℕ) (s : RegionState) (is_locked : Bool) (frames : List Frame) (c : Command) →
    accepted_by number s is_locked frames ≡ Some c → IsFor number c
accepted_is_for number s is_locked [] c e = absurd (none-some c e)
accepted_is_for number s is_locked (f ∷ fs) c e =
    by (is_well_formed f fs)
    (sym (decided number (region_like s) empty_registers is_locked f fs (is_well_formed f fs) refl) ∙ e)
  where
    by : (b : Bool) →
        (if b then accepted_after (command_in number f fs) (first_failed (checks (region_like s) is_locked f fs))
        else None) ≡ Some c → IsFor number c
    by true k =
        accepted_for number (command_in number f fs) (first_failed (checks (region_like s) is_locked f fs)) c
        (command_for number f fs) k
    by false k = absurd (none-some c k)

-- ## A locked device

step : (c : Option Command) (b : Bool) (code : ℕ) (rest : Option ℕ) → accepted_after c rest ≡ None →
    accepted_after c (if b then Some code else rest) ≡ None
unfolding accepted_after
step c true code rest e = refl
step c false code rest e = e

last_step : (c : Option Command) (code : ℕ) → accepted_after c (Some code) ≡ None
unfolding accepted_after
last_step c code = refl

-- a locked device accepts no key and no write
pub locked_takes_none : (number : ℕ) (s : RegionState) (frames : List Frame) → accepted_by number s true frames ≡ None
locked_takes_none number s [] = refl
locked_takes_none number s (f ∷ fs) =
    decided number (region_like s) empty_registers true f fs (is_well_formed f fs) refl ∙ formed (is_well_formed f fs)
  where
    key : Command
    key = SetKey number f.key_or_mac

    write : Command
    write = RpmbWrite number f.address (flat_map (λ (g : Frame). g.payload) (f ∷ fs))

    bytes : ℕ
    bytes = length {A = ℕ} (replicate (256 * s.blocks) 0)

    past : Bool
    past = nat_lt bytes (256 * (f.address + f.count))

    by : (a b : Bool) (rest : List Check) →
        accepted_after (if a then Some key else if b then Some write else None)
        (first_failed (if a then fails_if (is_some s.key) 1 ∷ fails_if true 5 ∷ []
        else if b then
        fails_if (not (is_some s.key)) 7 ∷ fails_if (s.counter == counter_end) 5 ∷ fails_if past 4
        ∷ fails_if (has_wrong_mac s.key f fs) 2 ∷ fails_if (not (f.counter == s.counter)) 3
        ∷ fails_if true 5 ∷ []
        else rest)) ≡ None
    by true b rest = step (Some key) (is_some s.key) 1 (Some 5) (last_step (Some key) 5)
    by false true rest =
        step (Some write) (not (is_some s.key)) 7 _
        (step (Some write) (s.counter == counter_end) 5 _
        (step (Some write) past 4 _
        (step (Some write) (has_wrong_mac s.key f fs) 2 _
        (step (Some write) (not (f.counter == s.counter)) 3 _ (last_step (Some write) 5)))))
    by false false rest = nothing_after None (first_failed rest) refl

    formed : (b : Bool) →
        (if b then accepted_after (command_in number f fs) (first_failed (checks (region_like s) true f fs)) else None)
        ≡ None
    formed false = refl
    formed true = by (f.kind == program_key) (f.kind == write_data) _
