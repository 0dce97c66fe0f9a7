-- One request is open at a time, in three slots.
use Rattle.ufs_spec.proofs.Facts.{or_with_false}
use Rattle.ufs_laws.proofs.Common.{Bool, Busy, Cdb, Deed, ForFrames, Frame, Gathering, Key, List, None, Option, Pin}
use Rattle.ufs_laws.proofs.Common.{Refused, Request, Results, RpmbOutcome, Some, State, Task, Translation, UnitSpec, []}
use Rattle.ufs_laws.proofs.Common.{ap, area_key, arith, asks, begun, below, claimed_by, false, false_from_ne_true}
use Rattle.ufs_laws.proofs.Common.{first_line, fold, frames_complete, free_slots, given_back, if_both, invalid_field}
use Rattle.ufs_laws.proofs.Common.{le-ltb, leb-true, list_any, locked, map, mended, moved, nat_le, nat_lt, ne_eqb, not}
use Rattle.ufs_laws.proofs.Common.{not_ready, numbers_of, or_left, or_right, out_of_range, outcome_in, reads_area, refl}
use Rattle.ufs_laws.proofs.Common.{request_decided, same_Some, slice_get, suc, true, unit_numbers_of, zero, ℕ, ◌%◌}
use Rattle.ufs_laws.proofs.Common.{◌&&◌, ◌+◌, ◌-◌, ◌<◌, ◌==◌, ◌||◌, ◌∙◌, ◌∷◌, ◌≡◌, ◌≢◌}
use Rattle.ufs_laws.proofs.refusals.TableLines.{decides, either, is_there, leaves, once_mended}
use Rattle.ufs_spec.specs.FrameRequests.{first_page, page_kept, pages_named}
use Rattle.ufs_spec.specs.Moves.{Keep}
use Rattle.ufs_spec.specs.Refusals.{is_crowded, is_frames, is_past, lines_for, sends_frames}
use Rattle.ufs_spec.specs.Plain.{steps_of}
use Rattle.ufs_spec.specs.declared.scsi.Cdb.TheVariants as cdb

-- ## Busy

abbrev Sends : Task → Bool
Sends task = sends_frames task.command

one_open : (tasks : List Task) (k : ℕ) (task : Task) (other n : ℕ) → slice_get tasks k ≡ Some task →
    task.command ≡ Some (cdb.SecurityOut other n) → list_any Sends tasks ≡ true
one_open [] k task other n there e = let none : None ≡ Some task = there in cc
one_open (t ∷ ts) zero task other n there e =
    or_left (Sends t) (list_any Sends ts) (ap Sends (same_Some t task there) ∙ ap sends_frames e)
one_open (t ∷ ts) (suc k) task other n there e =
    or_right (Sends t) (list_any Sends ts) (one_open ts k task other n there e)

-- a command without blocks lies within any unit
within : (region n : ℕ) (u : Option UnitSpec) → is_past (cdb.SecurityOut region n) u ≡ false
within region n None = refl
within region n (Some u) = le-ltb u.blocks 0 (omega arith)

abbrev brings : ℕ → Cdb
brings region = cdb.SecurityOut region 512

pub busy : (s : State) (tag region k : ℕ) (task : Task) (other n : ℕ) → 0 < steps_of (numbers_of s) region →
    mended s ≡ true →
    slice_get s.tasks k ≡ Some task → task.command ≡ Some (cdb.SecurityOut other n) →
    first_line (lines_for s (asks 0x20 0xC4 tag (brings region)) (brings region)) ≡ Some Busy
busy s tag region k task other n has ready there e =
    leaves ((steps_of (numbers_of s) region == 0) || false) invalid_field Busy _ (or_with_false _ ∙ is_there _ has)
    (leaves (is_past (brings region) (unit_numbers_of s (asks 0x20 0xC4 tag (brings region)))) out_of_range Busy _
    (within region 512 (unit_numbers_of s (asks 0x20 0xC4 tag (brings region))))
    (leaves (not (mended s || locked s)) not_ready Busy _ (once_mended _ _ ready)
    (decides (is_crowded s (brings region)) Busy _
    (or_left (list_any Sends s.tasks) (nat_lt (free_slots s.translation) 3)
    (one_open s.tasks k task other n there e)))))

-- ## Slots

pub claims : (s : State) (r : Request) (unit region n : ℕ) →
    (begun s r unit (cdb.SecurityOut region n)).translation.claims ≡ s.translation.claims + 3
claims s r unit region n = refl

-- what is kept claims nothing, and leaves the ledger
pub kept_claims : (t : Translation) (k : ℕ → Key) (f : ℕ → Pin) (xs : List ℕ) →
    (fold moved t (map (λ i. Keep (k i) (f i)) xs)).claims ≡ t.claims
kept_claims t k f [] = refl
kept_claims t k f (x ∷ xs) = kept_claims (moved t (Keep (k x) (f x))) k f xs

-- what a task has claimed it gives back, whatever is decided
decided_claims : (s : State) (task : Task) (region : ℕ) (frames : List Frame) (o : RpmbOutcome) →
    (request_decided s task region frames o).translation.claims
    ≡ s.translation.claims - claimed_by (numbers_of s) task.deed task.command
decided_claims s task region frames (Refused status) = refl
decided_claims s task region frames (Results result (Some c)) = refl
decided_claims s task region [] (Results result None) = refl
decided_claims s task region (f ∷ fs) (Results result None) =
    if_both (λ (t : State). t.translation.claims
    ≡ s.translation.claims - claimed_by (numbers_of s) task.deed task.command) (reads_area f result)
    (kept_claims (given_back s task).translation (λ i. area_key region (first_page f + i))
    (page_kept s task.tag region f) (below (pages_named f))) refl

three_claimed : (s : State) (o : Option Cdb) (d : Deed) (region n : ℕ) (gathered : List ℕ) (asked : Bool) →
    o ≡ Some (cdb.SecurityOut region n) → d ≡ Gathering (ForFrames region) gathered asked →
    claimed_by (numbers_of s) d o ≡ 3
three_claimed s o d region n gathered asked e k =
    ap (λ (x : Deed). claimed_by (numbers_of s) x o) k
    ∙ ap (claimed_by (numbers_of s) (Gathering (ForFrames region) gathered asked)) e

pub gives_back : (s : State) (task : Task) (region n : ℕ) (gathered : List ℕ) (asked : Bool) (frames : List Frame) →
    task.command ≡ Some (cdb.SecurityOut region n) → task.deed ≡ Gathering (ForFrames region) gathered asked →
    (frames_complete s task region frames).translation.claims ≡ s.translation.claims - 3
gives_back s task region n gathered asked frames e k =
    decided_claims s task region frames (outcome_in s region frames)
    ∙ ap (λ (x : ℕ). s.translation.claims - x) (three_claimed s task.command task.deed region n gathered asked e k)

-- ## Lengths

long : (n : ℕ) → 4096 < n → not (is_frames n) ≡ true
long n high = by (nat_le 512 n) (n % 512 == 0) (false_from_ne_true (nat_le n 4096) over)
  where
    over : nat_le n 4096 ≡ true → ⊥
    over e = let low = leb-true n 4096 e in omega arith

    by : (a b : Bool) → nat_le n 4096 ≡ false → not (a && nat_le n 4096 && b) ≡ true
    by true b e = ap (λ (c : Bool). not (c && b)) e
    by false b e = refl

broken : (n : ℕ) → n % 512 ≢ 0 → not (is_frames n) ≡ true
broken n part = by (nat_le 512 n && nat_le n 4096) (ne_eqb (n % 512) 0 part)
  where
    by : (a : Bool) → (n % 512 == 0) ≡ false → not (a && (n % 512 == 0)) ≡ true
    by true e = ap not e
    by false e = refl

pub too_long : (s : State) (r : Request) (region n : ℕ) → 4096 < n →
    first_line (lines_for s r (cdb.SecurityOut region n)) ≡ Some invalid_field
too_long s r region n high =
    either ((steps_of (numbers_of s) region == 0) || false) invalid_field _
    (decides (not (is_frames n)) invalid_field _ (long n high))

pub no_frames : (s : State) (r : Request) (region n : ℕ) → n % 512 ≢ 0 →
    first_line (lines_for s r (cdb.SecurityOut region n)) ≡ Some invalid_field
no_frames s r region n part =
    either ((steps_of (numbers_of s) region == 0) || false) invalid_field _
    (decides (not (is_frames n)) invalid_field _ (broken n part))

pub too_long_to_read : (s : State) (r : Request) (region n : ℕ) → 4096 < n →
    first_line (lines_for s r (cdb.SecurityIn region n)) ≡ Some invalid_field
too_long_to_read s r region n high =
    either ((steps_of (numbers_of s) region == 0) || false) invalid_field _
    (decides (not (is_frames n)) invalid_field _ (long n high))

pub no_frames_to_read : (s : State) (r : Request) (region n : ℕ) → n % 512 ≢ 0 →
    first_line (lines_for s r (cdb.SecurityIn region n)) ≡ Some invalid_field
no_frames_to_read s r region n part =
    either ((steps_of (numbers_of s) region == 0) || false) invalid_field _
    (decides (not (is_frames n)) invalid_field _ (broken n part))
