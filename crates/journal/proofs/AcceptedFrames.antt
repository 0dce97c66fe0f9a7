-- What is accepted of frames, by the outcome that is told of them.
use Rattle.std.proofs.Common.{◌≡◌, ◌∙◌, ◌∷◌, ◌==◌, ◌*◌, ℕ, Bool, true, false, not, if◌then◌else◌, List, [], Option}
use Rattle.std.proofs.Common.{None, Some, ap, refl, sym}
use Rattle.std.proofs.lemmas.Bool.{and_parts, eqb-true}
use Rattle.std.proofs.lemmas.List.{length-replicate}
use Rattle.std.specs.List.{flat_map}
use Rattle.ufs_spec.specs.Commands.{Command, RpmbWrite, SetKey}
use Rattle.ufs_spec.specs.Exchanges.{empty_registers, invalid_list_field, sequence_error}
use Rattle.ufs_spec.specs.declared.exchanges.Status.{Status}
use Rattle.ufs_spec.specs.Frames.{Frame}
use Rattle.ufs_spec.specs.Rpmb.{Refused, Region, checks, command_in, first_failed, is_well_formed, lacks_result}
use Rattle.ufs_spec.specs.Rpmb.{outcome_after, program_key, read_result, write_data}
use Rattle.rpmb.specs.Kept.{IsKept}
use Rattle.rpmb.specs.Outcomes.{command_of, outcome_of}
use Rattle.rpmb.specs.Requests.{AreMalformed, Asks, IsRequest}
use Rattle.rpmb.specs.declared.outcomes.Accepted.{Accepted}
use Rattle.rpmb.specs.declared.outcomes.Outcome.{Outcome}
use Rattle.rpmb.specs.declared.regions.RegionState.{RegionState}
use Rattle.rpmb.specs.declared.requests.Request.{Request}
use Rattle.journal.specs.Requests.{accepted_by, accepted_in, region_like}

-- frames that are no request have nothing accepted
pub none_of_malformed : (number : ℕ) (s : RegionState) (locked : Bool) (fs : List Frame) → AreMalformed fs →
    accepted_by number s locked fs ≡ None
none_of_malformed number s locked [] h = refl
none_of_malformed number s locked (f ∷ fs) h = rw h refl

-- a request for a result has no command
no_command : (number : ℕ) (f : Frame) (gs : List Frame) → lacks_result f empty_registers ≡ true →
    command_in number f gs ≡ None
no_command number f gs e =
    ap
    (λ (k : ℕ). if k == program_key then Some (SetKey number f.key_or_mac)
    else if k == write_data then Some (RpmbWrite number f.address (flat_map (λ (g : Frame). g.payload) (f ∷ gs)))
    else None)
    (eqb-true f.kind read_result (and_parts (f.kind == read_result) true e).0)

-- whether a result is lacking or not, the same command is accepted
whatever_is_lacking : (region : Region) (c : Option Command) (failed : Option ℕ) (lacks : Bool) (status : Status) →
    (lacks ≡ true → c ≡ None) →
    accepted_in (if lacks then Refused status else outcome_after region c failed)
    ≡ accepted_in (outcome_after region c failed)
whatever_is_lacking region c failed false status none = refl
whatever_is_lacking region c None true status none = sym (none refl)
whatever_is_lacking region c (Some code) true status none = refl

-- what a well-formed request has accepted, its checks decide alone
formed : (number : ℕ) (s : RegionState) (locked : Bool) (f : Frame) (gs : List Frame) → is_well_formed f gs ≡ true →
    accepted_by number s locked (f ∷ gs)
    ≡ accepted_in
    (outcome_after (region_like s) (command_in number f gs) (first_failed (checks (region_like s) locked f gs)))
formed number s locked f gs e =
    let after =
    outcome_after (region_like s) (command_in number f gs) (first_failed (checks (region_like s) locked f gs)) in
    ap
    (λ (b : Bool). accepted_in (if not b then Refused invalid_list_field
    else if lacks_result f empty_registers then Refused sequence_error else after))
    e
    ∙ whatever_is_lacking (region_like s) (command_in number f gs) (first_failed (checks (region_like s) locked f gs))
    (lacks_result f empty_registers) sequence_error (no_command number f gs)

-- this is kept of the region that is like it
like_kept : (s : RegionState) → IsKept s (region_like s)
like_kept s = record { key = refl; counter = refl; area = length-replicate (256 * s.blocks) 0 }

-- the outcome that is told of the frames
abbrev pub Tells : RegionState → Bool → List Frame → Request → Outcome → Type 0
Tells s locked frames request told =
    (number : ℕ) (region : Region) (f : Frame) (fs : List Frame) → IsKept s region → f ∷ fs ≡ frames →
    IsRequest request f →
    outcome_after region (command_in number f fs) (first_failed (checks region locked f fs))
    ≡ outcome_of number (f ∷ fs) told

-- what the outcome has accepted is accepted of the frames
pub accepted_told : (number : ℕ) (s : RegionState) (locked : Bool) (frames : List Frame) (request : Request)
    (told : Outcome) (what : Accepted) → Asks request frames → Tells s locked frames request told →
    accepted_in (outcome_of number frames told) ≡ command_of number frames what →
    command_of number frames what ≡ accepted_by number s locked frames
accepted_told number s locked [] request told what asks tells same = absurd asks
accepted_told number s locked (f ∷ fs) request told what asks tells same =
    sym same
    ∙ (ap accepted_in (sym (tells number (region_like s) f fs (like_kept s) refl asks.0))
    ∙ sym (formed number s locked f fs asks.1))
