-- What an RPMB request was that is accepted: its command may come. What one for data was that passed its checks: its
-- pages lie in the area.
use Rattle.power_loss.proofs.Common.{All, All-head, All-tail, Bool, CanApply, IsCommand, IsPlain, List, None, Option}
use Rattle.power_loss.proofs.Common.{Plain, Some, [], and_parts, ap, arith, cond, eqb-true, false, false≢true, flat_map}
use Rattle.power_loss.proofs.Common.{get_or, inl, inr, length, length-append, ltb-false, nat_le, none-some, not}
use Rattle.power_loss.proofs.Common.{not-false, refl, same_Some, shape_of, subst, sym, true, ℕ, ◌&&◌, ◌*◌, ◌+◌, ◌<◌}
use Rattle.power_loss.proofs.Common.{◌==◌, ◌∙◌, ◌∷◌, ◌≡◌, ◌≤◌, ◌⊎◌}
use Rattle.power_loss.proofs.MachineWords.{AreBytes, Command}
use Rattle.std.specs.Prelude.{bit_or}
use Rattle.ufs_spec.specs.Commands as command
use Rattle.ufs_spec.specs.Exchanges.{Registers, invalid_list_field, sequence_error}
use Rattle.ufs_spec.specs.declared.exchanges.Status.{Status}
use Rattle.ufs_spec.specs.Frames.{Frame, IsFrame}
use Rattle.ufs_spec.specs.Keys.{keys}
use Rattle.ufs_spec.specs.Plain.{HasRegion, counter_end}
use Rattle.ufs_spec.specs.Rpmb.{Check, Refused, Region, Results, RpmbOutcome, checks, command_in, fails_if}
use Rattle.ufs_spec.specs.Rpmb.{first_failed, has_key, is_past_area, is_well_formed, lacks_result, outcome_after}
use Rattle.ufs_spec.specs.Rpmb.{read_data, region_of, rpmb_outcome}
use Rattle.ufs_spec.proofs.RegionPages.{area_there}
use Rattle.ufs_laws.proofs.plain_contents.CommandsKeepPlain.{its_region}
use Rattle.ufs_spec.specs.RpmbResponses.{is_success}
use Rattle.ufs_spec.proofs.Facts.{leb-true}
use Rattle.power_loss.specs.WaitingFrames.{AsksInside}
use Rattle.ufs_laws.proofs.pages.ByteLists.{bytes-append, bytes-nil}
use Rattle.ufs_laws.proofs.rpmb_frames.RequestOutcomes.{refused}
use Rattle.ufs_laws.proofs.rpmb_frames.RightWrites.{none_failed, not_refused, right_write, unlocked}
use Rattle.power_loss.proofs.commands.CommandGroups.{area_few}

-- Frames

abbrev payloads : List Frame → List ℕ
payloads fs = flat_map (λ (g : Frame). g.payload) fs

payloads_are : (fs : List Frame) → All IsFrame fs → (length (payloads fs) ≡ 256 * length fs) × AreBytes (payloads fs)
payloads_are [] each = (refl, bytes-nil)
payloads_are (f ∷ fs) each =
    let first = (All-head IsFrame f fs each).payload in
    let rest = payloads_are fs (All-tail IsFrame f fs each) in
    let size = first.0 in
    let more = rest.0 in (
      omega (arith, length-append f.payload (payloads fs), size, more),
      bytes-append f.payload (payloads fs) first.1
          rest.1,
    )

-- The command

-- the command of a request may come, has a key for each of three slots at most, and comes on no locked device
pub record IsRequested (p : Plain) (locked : Bool) (c : Command) : Type 0 where
  pub is : IsCommand c
  pub can : CanApply p c
  pub few : length (keys c) ≤ 3
  pub unlocked : locked ≡ false

set_or_written : (one three : Bool) (k w c : Command) → cond one (Some k) (cond three (Some w) None) ≡ Some c →
    ((one ≡ true) × (k ≡ c)) ⊎ (w ≡ c)
set_or_written true three k w c e = inl (refl, same_Some k c e)
set_or_written false true k w c e = inr (same_Some w c e)
set_or_written false false k w c e = absurd (none-some c e)

-- the two checks of a key, if neither fails
key_passes : (a b : Bool) → first_failed (fails_if a 1 ∷ fails_if b 5 ∷ []) ≡ None → b ≡ false
key_passes true b e = absurd (none-some 1 (sym e))
key_passes false true e = absurd (none-some 5 (sym e))
key_passes false false e = refl

-- what is accepted of these frames
record IsAsked (number : ℕ) (region : Region) (locked : Bool) (f : Frame) (fs : List Frame) (c : Command) : Type 0 where
  passes : first_failed (checks region locked f fs) ≡ None
  command : command_in number f fs ≡ Some c

asked : (number : ℕ) (region : Region) (r : Registers) (locked : Bool) (f : Frame) (fs : List Frame) {result : ℕ}
    {c : Command} → rpmb_outcome number region r locked (f ∷ fs) ≡ Results result (Some c) →
    IsAsked number region locked f fs c
asked number region r locked f fs {result} {c} e =
    let formed = not_refused (not (is_well_formed f fs)) invalid_list_field _ result c e in
    let there = not_refused (lacks_result f r) sequence_error _ result c formed.1 in
    let told = none_failed region (command_in number f fs) (first_failed (checks region locked f fs)) result c there.1
    in
    record { passes = told.0; command = told.1 }

key_requested : (p : Plain) (number : ℕ) (locked : Bool) (f : Frame) (fs : List Frame) →
    HasRegion (shape_of p) number → IsFrame f →
    f.kind ≡ 1 → first_failed (checks (region_of p number) locked f fs) ≡ None →
    IsRequested p locked (command.SetKey number f.key_or_mac)
key_requested p number locked f fs there is kind passes = record {
  is = is.key_or_mac.1;
  can = ((there, is.key_or_mac.0), tt);
  few = omega arith;
  unlocked =
      let of_key : checks (region_of p number) locked f fs
      ≡ fails_if (has_key (region_of p number)) 1 ∷ fails_if locked 5 ∷ [] = rw kind refl in
      key_passes (has_key (region_of p number)) locked (sym (ap first_failed of_key) ∙ passes);
}

write_requested : (p : Plain) (number : ℕ) (r : Registers) (locked : Bool) (f : Frame) (fs : List Frame) {result : ℕ} →
    IsPlain p → HasRegion (shape_of p) number → All IsFrame (f ∷ fs) → length (f ∷ fs) ≤ 8 →
    rpmb_outcome number (region_of p number) r locked (f ∷ fs)
    ≡ Results result (Some (command.RpmbWrite number f.address (payloads (f ∷ fs)))) →
    IsRequested p locked (command.RpmbWrite number f.address (payloads (f ∷ fs)))
write_requested p number r locked f fs {result} plain there each few e = record {
  is = all.1;
  can = (lies, counter);
  few = (area_few (shape_of p) number f.address (payloads (f ∷ fs)) lies).1;
  unlocked = unlocked number (region_of p number) r locked f fs result number f.address (payloads (f ∷ fs)) e;
}
  where
    all : (length (payloads (f ∷ fs)) ≡ 256 * length (f ∷ fs)) × AreBytes (payloads (f ∷ fs))
    all = payloads_are (f ∷ fs) each

    lies : HasRegion (shape_of p) number
        × (((count : ℕ) × (length (payloads (f ∷ fs)) ≡ 256 * count) × (1 ≤ count) × (count ≤ 8))
        × (256 * f.address + length (payloads (f ∷ fs)) ≤ get_or (shape_of p).areas number 0))
    lies =
        let right = right_write number (region_of p number) r locked f fs result number f.address
        (payloads (f ∷ fs)) e in
        let size = all.0 in
        let count = right.count in
        let within = right.within in
        let bytes = area_there p number in
        (there, ((length (f ∷ fs), size, omega arith, few), omega (arith, within, size, count, bytes)))

    counter : (region_of p number).counter < counter_end
    counter =
        let right = right_write number (region_of p number) r locked f fs result number f.address
        (payloads (f ∷ fs)) e in
        let fits = (its_region p number plain there.0).counter_fits in
        let below = right.below_end in
        omega arith

pub frames_requested : (p : Plain) (number : ℕ) (r : Registers) (locked : Bool) (frames : List Frame) {result : ℕ}
    {c : Command} → IsPlain p → HasRegion (shape_of p) number → All IsFrame frames → length frames ≤ 8 →
    rpmb_outcome number (region_of p number) r locked frames ≡ Results result (Some c) → IsRequested p locked c
frames_requested p number r locked [] {result} {c} plain there each few e =
    absurd (refused invalid_list_field result c e)
frames_requested p number r locked (f ∷ fs) {result} {c} plain there each few e =
    by (set_or_written (f.kind == 1) (f.kind == 3) (command.SetKey number f.key_or_mac)
    (command.RpmbWrite number f.address (payloads (f ∷ fs))) c a.command)
  where
    a : IsAsked number (region_of p number) locked f fs c
    a = asked number (region_of p number) r locked f fs e

    by : (((f.kind == 1) ≡ true) × (command.SetKey number f.key_or_mac ≡ c))
        ⊎ (command.RpmbWrite number f.address (payloads (f ∷ fs)) ≡ c) → IsRequested p locked c
    by (inl key) = subst (IsRequested p locked) key.1
        (key_requested p number locked f fs there (All-head IsFrame f fs each) (eqb-true f.kind 1 key.0) a.passes)
    by (inr same) = subst (IsRequested p locked) same
        (write_requested p number r locked f fs plain there each few
        (e ∙ ap (λ (x : Command). Results result (Some x)) (sym same)))

-- A request for data

result_told : {n result : ℕ} {a b : Option Command} → Results n a ≡ Results result b → n ≡ result
result_told e = cc

-- a test that refuses the request says no
not_malformed : (b : Bool) (s : Status) (o : RpmbOutcome) {result : ℕ} {a : Option Command} →
    cond b (Refused s) o ≡ Results result a → (b ≡ false) × (o ≡ Results result a)
not_malformed true s o {result} {a} e = absurd (no_result s e)
  where
    no_result : (s : Status) → Refused s ≡ Results result a → ⊥
    no_result s e = cc
not_malformed false s o e = (refl, e)

-- a test of it that fails gives no success
with_bit : (b : Bool) → (is_success (cond b (bit_or 7 0x80) 7) ≡ false) ×
    (is_success (cond b (bit_or 4 0x80) 4) ≡ false)
with_bit true = (refl, refl)
with_bit false = (refl, refl)

data_passes : (region : Region) (a b : Bool) (accepted : Option Command) (result : ℕ) →
    outcome_after region accepted (first_failed (fails_if a 7 ∷ fails_if b 4 ∷ [])) ≡ Results result None →
    is_success result ≡ true → b ≡ false
data_passes region true b accepted result e good = absurd (false≢true (sym
    (with_bit (has_key region && (region.counter == counter_end))).0 ∙ (ap is_success (result_told e) ∙ good)))
data_passes region false true accepted result e good = absurd (false≢true (sym
    (with_bit (has_key region && (region.counter == counter_end))).1 ∙ (ap is_success (result_told e) ∙ good)))
data_passes region false false accepted result e good = refl

pub data_in_area : (p : Plain) (number : ℕ) (r : Registers) (locked : Bool) (f : Frame) (fs : List Frame) (result : ℕ) →
    rpmb_outcome number (region_of p number) r locked (f ∷ fs) ≡ Results result None → f.kind ≡ read_data →
    is_success result ≡ true → AsksInside (length (region_of p number).area) f
data_in_area p number r locked f fs result e kind good = record {
  some = leb-true 1 f.count counts.0;
  few = leb-true f.count 8 counts.1;
  within = ltb-false (length (region_of p number).area) (256 * (f.address + f.count)) (data_passes (region_of p number)
      (not (has_key (region_of p number))) (is_past_area (region_of p number) f) (command_in number f fs) result
      (sym (ap (λ (cs : List Check). outcome_after (region_of p number) (command_in number f fs)
      (first_failed cs)) of_data)
      ∙ (not_malformed (lacks_result f r) sequence_error _ formed.1).1) good);
}
  where
    formed : (not (is_well_formed f fs) ≡ false)
        × (cond (lacks_result f r) (Refused sequence_error)
        (outcome_after (region_of p number) (command_in number f fs)
        (first_failed (checks (region_of p number) locked f fs)))
        ≡ Results result None)
    formed = not_malformed (not (is_well_formed f fs)) invalid_list_field _ e

    of_data : checks (region_of p number) locked f fs
        ≡ fails_if (not (has_key (region_of p number))) 7 ∷ fails_if (is_past_area (region_of p number) f) 4 ∷ []
    of_data = rw kind refl

    well_formed : is_well_formed f fs ≡ ((length fs == 0) && (nat_le 1 f.count && nat_le f.count 8))
    well_formed = rw kind refl

    counts : (nat_le 1 f.count ≡ true) × (nat_le f.count 8 ≡ true)
    counts = and_parts (nat_le 1 f.count) (nat_le f.count 8)
        (and_parts (length fs == 0) _ (sym well_formed ∙ not-false _ formed.0)).1

-- a command is accepted of no request for data
no_command : (number : ℕ) (f : Frame) (fs : List Frame) (c : Command) → f.kind ≡ read_data →
    command_in number f fs ≡ Some c → ⊥
no_command number f fs c kind e = absurd (none-some c (sym of_data ∙ e))
  where
    of_data : command_in number f fs ≡ None
    of_data = rw kind refl

pub asks_inside : (p : Plain) (number : ℕ) (r : Registers) (locked : Bool) (f : Frame) (fs : List Frame) (result : ℕ)
    (c : Option Command) → rpmb_outcome number (region_of p number) r locked (f ∷ fs) ≡ Results result c →
    f.kind ≡ read_data →
    is_success result ≡ true → AsksInside (length (region_of p number).area) f
asks_inside p number r locked f fs result None e kind good = data_in_area p number r locked f fs result e kind good
asks_inside p number r locked f fs result (Some c) e kind good =
    absurd (no_command number f fs c kind (asked number (region_of p number) r locked f fs e).command)
