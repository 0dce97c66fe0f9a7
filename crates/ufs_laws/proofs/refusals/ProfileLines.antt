-- The lines that came with profile 1, and what they leave.
use Rattle.ufs_laws.proofs.Common.{Bool, Busy, Cdb, IsIdle, Lun, None, Numbers, Option, Request, Some, State, Status, UnitSpec}
use Rattle.ufs_laws.proofs.Common.{arith, asks, command_blocks, false, false≢true, free_slots, has_wrong_list}
use Rattle.ufs_laws.proofs.Common.{if◌then◌else◌, invalid_field, invalid_operation, is_too_long, le-ltb, locked, mended}
use Rattle.ufs_laws.proofs.Common.{nat_lt, not, not_ready, numbers_of, out_of_range, refl, refusal, replicate, subst}
use Rattle.ufs_laws.proofs.Common.{true, ℕ, ◌&&◌, ◌||◌, ◌∙◌, ◌∷◌, ◌≡◌}
use Rattle.ufs_laws.proofs.refusals.RefusedCommands.{answers}
use Rattle.ufs_laws.proofs.refusals.TableLines.{decides, leaves, neither, once_locked, once_mended}
use Rattle.ufs_laws.proofs.refusals.TakenRequests.{clear, needs_none, numbered, skips, untold}
use Rattle.ufs_laws.specs.Table.{IsRefused, asks_in, profile_1_row, pushed_out}
use Rattle.std.proofs.lemmas.Bool.{and_right}
use Rattle.ufs_spec.specs.Exchanges.{saving_unsupported, self_test_failed, unit_attention}
use Rattle.ufs_spec.proofs.Facts.{or_with_false}
use Rattle.ufs_laws.proofs.Common.{write_protected, ◌≤◌, lt-ltb}
use Rattle.ufs_spec.specs.Refusals.{BootUnit, brought}
use Rattle.ufs_spec.specs.Refusals.{DeviceUnit, UnitOf, fails_test, has_attention, has_other_response, is_crowded}
use Rattle.ufs_spec.specs.Refusals.{is_refused_write, is_unready, lacks_page}
use Rattle.ufs_spec.specs.Refusals.{lacks_region, lacks_response, wants_saved}
use Rattle.ufs_spec.specs.declared.operations.TheConstants.{INQUIRY, MODE_SENSE_10, MODE_SENSE_6, SERVICE_ACTION_IN_16}
use Rattle.ufs_spec.specs.declared.operations.Told.TheVariants as told
use Rattle.ufs_spec.specs.declared.scsi.Cdb.TheVariants as cdb

-- ## A device of profile 0

pub operation : (s : State) (tag : ℕ) → IsIdle s →
    IsRefused s (asks 0x40 0 tag (cdb.Tell told.Modes 0x0800 28)) invalid_operation
operation s tag h = answers s (asks 0x40 0 tag (cdb.Tell told.Modes 0x0800 28)) invalid_operation h refl refl

pub beyond : (s : State) (tag : ℕ) → IsIdle s → IsRefused s (asks_in 0x40 0 tag (pushed_out 1)) invalid_field
beyond s tag h = answers s (asks_in 0x40 0 tag (pushed_out 1)) invalid_field h refl refl

pub beyond_alone : (s : State) (tag : ℕ) → IsIdle s → IsRefused s (asks_in 0x40 0 tag (pushed_out 0)) invalid_field
beyond_alone s tag h = answers s (asks_in 0x40 0 tag (pushed_out 0)) invalid_field h refl refl

-- ## A device of profile 1

-- the state with these numbers
abbrev there : State → State
there s = numbered s profile_1_row

-- whether a LUN has an attention that a request meets
abbrev meeting : State → Lun → Bool → Bool
meeting s lun meets = has_attention (there s) lun && meets

module _ (s : State) (tag : ℕ) (row : numbers_of s ≡ profile_1_row) where
  is_there : s ≡ there s
  is_there i = record s { translation = record s.translation { numbers = row i } }

  locks : (b : Bool) → locked s ≡ b → locked (there s) ≡ b
  locks b e = subst (λ (t : State). locked t ≡ b) is_there e

  -- INQUIRY does not meet an attention
  asked : (lun : Lun) (r : Request) (o rest : Option Status) →
      refusal (there s) r ≡ (if meeting s lun false then Some unit_attention else rest) → rest ≡ o → refusal s r ≡ o
  asked lun r o rest lines e =
      untold s profile_1_row lun false r o rest row (and_right (has_attention s lun) false refl) lines e

  -- the line of the slots is the last one
  needs_no_slot : (rest : Option Status) →
      rest ≡ (if nat_lt (free_slots (there s).translation) 0 then Some Busy else None) → rest ≡ None
  needs_no_slot rest last =
      last ∙ skips (nat_lt (free_slots (there s).translation) 0) Busy None (needs_none (there s)) refl

  pub page_refused : refusal s (asks 0x40 0xD0 tag (cdb.Tell told.Page 0xB0 64)) ≡ Some invalid_field
  page_refused = asked DeviceUnit (asks 0x40 0xD0 tag (cdb.Tell told.Page 0xB0 64)) (Some invalid_field) _ refl refl

  pub page_without_evpd :
      refusal s (asks_in 0x40 0 tag (INQUIRY ∷ 0 ∷ 0x80 ∷ 0 ∷ 0x40 ∷ replicate 11 0)) ≡ Some invalid_field
  page_without_evpd =
      asked (UnitOf 0) (asks_in 0x40 0 tag (INQUIRY ∷ 0 ∷ 0x80 ∷ 0 ∷ 0x40 ∷ replicate 11 0)) (Some invalid_field) _ refl
      refl

  pub page_told : refusal s (asks 0x40 0 tag (cdb.Tell told.Page 0xB0 64)) ≡ None
  page_told = asked (UnitOf 0) (asks 0x40 0 tag (cdb.Tell told.Page 0xB0 64)) None _ refl (needs_no_slot _ refl)

  -- ## Unit 0 without an attention

  module _ (clear_unit : has_attention s (UnitOf 0) ≡ false) where
    says : (r : Request) (o rest : Option Status) →
        refusal (there s) r ≡ (if meeting s (UnitOf 0) true then Some unit_attention else rest) → rest ≡ o →
        refusal s r ≡ o
    says r o rest lines e =
        untold s profile_1_row (UnitOf 0) true r o rest row (clear (has_attention s (UnitOf 0)) clear_unit) lines e

    pub action : refusal s (asks_in 0x40 0 tag (SERVICE_ACTION_IN_16 ∷ 0x12 ∷ replicate 14 0)) ≡ Some invalid_operation
    action =
        says (asks_in 0x40 0 tag (SERVICE_ACTION_IN_16 ∷ 0x12 ∷ replicate 14 0)) (Some invalid_operation) _ refl refl

    pub above_the_action :
        refusal s (asks_in 0x40 0 tag (SERVICE_ACTION_IN_16 ∷ 0x30 ∷ replicate 14 0)) ≡ Some invalid_field
    above_the_action =
        says (asks_in 0x40 0 tag (SERVICE_ACTION_IN_16 ∷ 0x30 ∷ replicate 14 0)) (Some invalid_field) _ refl refl

    pub subpages :
        refusal s (asks_in 0x40 0 tag (MODE_SENSE_10 ∷ 0 ∷ 0x08 ∷ 0xFF ∷ replicate 12 0)) ≡ Some invalid_field
    subpages =
        says (asks_in 0x40 0 tag (MODE_SENSE_10 ∷ 0 ∷ 0x08 ∷ 0xFF ∷ replicate 12 0)) (Some invalid_field) _ refl refl

    pub no_mode_page :
        refusal s (asks_in 0x40 0 tag (MODE_SENSE_6 ∷ 0 ∷ 0x1C ∷ 0 ∷ 0x40 ∷ replicate 11 0)) ≡ Some invalid_field
    no_mode_page =
        says (asks_in 0x40 0 tag (MODE_SENSE_6 ∷ 0 ∷ 0x1C ∷ 0 ∷ 0x40 ∷ replicate 11 0)) (Some invalid_field) _ refl refl

    pub saved : refusal s (asks 0x00 0 tag (cdb.Tell told.Modes 0xC800 28)) ≡ Some saving_unsupported
    saved = says (asks 0x00 0 tag (cdb.Tell told.Modes 0xC800 28)) (Some saving_unsupported) _ refl refl

    pub saved_in_short : refusal s (asks 0x00 0 tag (cdb.Tell told.ShortModes 0xFF00 48)) ≡ Some saving_unsupported
    saved_in_short = says (asks 0x00 0 tag (cdb.Tell told.ShortModes 0xFF00 48)) (Some saving_unsupported) _ refl refl

    pub past : refusal s (asks 0x00 0 tag (cdb.Prefetch 256 1)) ≡ Some out_of_range
    past = says (asks 0x00 0 tag (cdb.Prefetch 256 1)) (Some out_of_range) _ refl refl

    pub past_without_blocks : refusal s (asks 0x00 0 tag (cdb.Prefetch 257 0)) ≡ Some out_of_range
    past_without_blocks = says (asks 0x00 0 tag (cdb.Prefetch 257 0)) (Some out_of_range) _ refl refl

    -- the line of the mending
    unready : (r : Request) (later : Option Status) →
        refusal (there s) r ≡ (if meeting s (UnitOf 0) true then Some unit_attention
        else if not (mended s || locked (there s)) then Some not_ready else later) → mended s ≡ false →
        locked s ≡ false → refusal s r ≡ Some not_ready
    unready r later lines e k =
        says r (Some not_ready) (if not (mended s || locked (there s)) then Some not_ready else later) lines
        (decides (not (mended s || locked (there s))) not_ready later (neither _ _ e (locks false k)))

    pub prefetch_ready : mended s ≡ false → locked s ≡ false →
        refusal s (asks 0x00 0 tag (cdb.Prefetch 0 1)) ≡ Some not_ready
    prefetch_ready = unready (asks 0x00 0 tag (cdb.Prefetch 0 1)) _ refl

    pub diagnostic_ready : mended s ≡ false → locked s ≡ false →
        refusal s (asks 0x00 0 tag (cdb.Diagnose true)) ≡ Some not_ready
    diagnostic_ready = unready (asks 0x00 0 tag (cdb.Diagnose true)) _ refl

    pub test_failed : locked s ≡ true → refusal s (asks 0x00 0 tag (cdb.Diagnose true)) ≡ Some self_test_failed
    test_failed k =
        says (asks 0x00 0 tag (cdb.Diagnose true)) (Some self_test_failed) _ refl
        (leaves (not (mended s || locked (there s))) not_ready self_test_failed _ (once_locked _ _ (locks true k))
        (decides (locked (there s)) self_test_failed _ (locks true k)))

    -- ## What is taken

    -- a request that no line before the last can refuse, and that needs no slot
    told_all : (r : Request) →
        refusal (there s) r ≡ (if meeting s (UnitOf 0) true then Some unit_attention
        else if nat_lt (free_slots (there s).translation) 0 then Some Busy else None) → refusal s r ≡ None
    told_all r lines =
        says r None (if nat_lt (free_slots (there s).translation) 0 then Some Busy else None) lines (needs_no_slot _ refl)

    pub modes_taken : refusal s (asks 0x40 0 tag (cdb.Tell told.Modes 0x0800 28)) ≡ None
    modes_taken = told_all (asks 0x40 0 tag (cdb.Tell told.Modes 0x0800 28)) refl

    pub delivered : refusal s (asks 0x40 0 tag (cdb.Tell told.Modes 0xBFFF 52)) ≡ None
    delivered = told_all (asks 0x40 0 tag (cdb.Tell told.Modes 0xBFFF 52)) refl

    pub changeable : refusal s (asks 0x40 0 tag (cdb.Tell told.ShortModes 0x7F00 48)) ≡ None
    changeable = told_all (asks 0x40 0 tag (cdb.Tell told.ShortModes 0x7F00 48)) refl

    pub capacity : refusal s (asks 0x40 0 tag (cdb.Tell told.LongCapacity 0 32)) ≡ None
    capacity = told_all (asks 0x40 0 tag (cdb.Tell told.LongCapacity 0 32)) refl

    -- the same that the line of the mending may refuse
    taken : (r : Request) →
        refusal (there s) r ≡ (if meeting s (UnitOf 0) true then Some unit_attention
        else if not (mended s || locked (there s)) then Some not_ready
        else if nat_lt (free_slots (there s).translation) 0 then Some Busy else None) →
        mended s ≡ true → refusal s r ≡ None
    taken r lines e =
        says r None
        (if not (mended s || locked (there s)) then Some not_ready
        else if nat_lt (free_slots (there s).translation) 0 then Some Busy else None) lines
        (skips (not (mended s || locked (there s))) not_ready _ (once_mended _ _ e) (needs_no_slot _ refl))

    pub pushed_out_taken : mended s ≡ true → refusal s (asks_in 0x40 0 tag (pushed_out 0)) ≡ None
    pushed_out_taken = taken (asks_in 0x40 0 tag (pushed_out 0)) refl

    pub prefetch : mended s ≡ true → refusal s (asks 0x00 0 tag (cdb.Prefetch 0 256)) ≡ None
    prefetch = taken (asks 0x00 0 tag (cdb.Prefetch 0 256)) refl

    pub prefetch_of_none : mended s ≡ true → refusal s (asks 0x00 0 tag (cdb.Prefetch 256 0)) ≡ None
    prefetch_of_none = taken (asks 0x00 0 tag (cdb.Prefetch 256 0)) refl

    pub diagnostic : mended s ≡ true → refusal s (asks 0x00 0 tag (cdb.Diagnose false)) ≡ None
    diagnostic = taken (asks 0x00 0 tag (cdb.Diagnose false)) refl

    pub test_passed : mended s ≡ true → locked s ≡ false → refusal s (asks 0x00 0 tag (cdb.Diagnose true)) ≡ None
    test_passed e k =
        says (asks 0x00 0 tag (cdb.Diagnose true)) None _ refl
        (skips (not (mended s || locked (there s))) not_ready _ (once_mended _ _ e)
        (skips (locked (there s)) self_test_failed _ (locks false k) (needs_no_slot _ refl)))

    -- ## VERIFY

    abbrev verify : (flags address blocks : ℕ) → Request
    verify flags address blocks = asks flags 0 tag (cdb.Verify address blocks false)

    pub verify_taken : mended s ≡ true → refusal s (verify 0x00 0 1) ≡ None
    verify_taken = taken (verify 0x00 0 1) refl

    pub verify_with_flags : mended s ≡ true → refusal s (verify 0x40 0 1) ≡ None
    verify_with_flags = taken (verify 0x40 0 1) refl

    pub verify_long : refusal s (verify 0x00 0 33) ≡ Some invalid_field
    verify_long = says (verify 0x00 0 33) (Some invalid_field) _ refl refl

    pub verify_past : refusal s (verify 0x00 256 1) ≡ Some out_of_range
    verify_past = says (verify 0x00 256 1) (Some out_of_range) _ refl refl

    pub verify_ready : mended s ≡ false → locked s ≡ false → refusal s (verify 0x00 0 1) ≡ Some not_ready
    verify_ready = unready (verify 0x00 0 1) _ refl

    abbrev compared : (flags address blocks : ℕ) → Request
    compared flags address blocks = asks flags 0 tag (cdb.Verify address blocks true)

    pub compared_taken : mended s ≡ true → refusal s (compared 0x20 0 1) ≡ None
    compared_taken = taken (compared 0x20 0 1) refl

    pub none_compared : mended s ≡ true → refusal s (compared 0x00 0 0) ≡ None
    none_compared = taken (compared 0x00 0 0) refl

    pub compared_direction : refusal s (compared 0x00 0 1) ≡ Some invalid_field
    compared_direction = says (compared 0x00 0 1) (Some invalid_field) _ refl refl

    pub compared_fewer : refusal s (compared 0x20 0 2) ≡ Some invalid_field
    compared_fewer = says (compared 0x20 0 2) (Some invalid_field) _ refl refl

    pub compared_long : refusal s (compared 0x20 0 33) ≡ Some invalid_field
    compared_long = says (compared 0x20 0 33) (Some invalid_field) _ refl refl

    pub compared_past : refusal s (compared 0x20 256 1) ≡ Some out_of_range
    compared_past = says (compared 0x20 256 1) (Some out_of_range) _ refl refl

    -- ## A WRITE of two blocks, of which one comes

    abbrev short_write : Bool → Request
    short_write forced = asks 0x20 0 tag (cdb.Write 0 2 forced)

    pub short_taken : (forced : Bool) → mended s ≡ true → locked s ≡ false → 1 ≤ free_slots s.translation →
        refusal s (short_write forced) ≡ None
    short_taken forced e k room =
        says (short_write forced) None _ refl
        (skips (not (mended s || locked (there s))) not_ready _ (once_mended _ _ e)
        (skips (locked (there s) || false) write_protected _ (or_with_false _ ∙ locks false k)
        (skips (nat_lt (free_slots (there s).translation) 1) Busy _
        (le-ltb (free_slots (there s).translation) 1 (subst (λ (t : State). 1 ≤ free_slots t.translation) is_there room))
        refl)))

    pub short_crowded : (forced : Bool) → mended s ≡ true → locked s ≡ false → free_slots s.translation ≡ 0 →
        refusal s (short_write forced) ≡ Some Busy
    short_crowded forced e k none =
        says (short_write forced) (Some Busy) _ refl
        (leaves (not (mended s || locked (there s))) not_ready Busy _ (once_mended _ _ e)
        (leaves (locked (there s) || false) write_protected Busy _ (or_with_false _ ∙ locks false k)
        (decides (nat_lt (free_slots (there s).translation) 1) Busy _
        (lt-ltb (free_slots (there s).translation) 1
        (let few = subst (λ (t : State). free_slots t.translation ≡ 0) is_there none in omega arith)))))

    pub short_direction : (forced : Bool) → refusal s (asks 0x40 0 tag (cdb.Write 0 2 forced)) ≡ Some invalid_field
    short_direction forced = says (asks 0x40 0 tag (cdb.Write 0 2 forced)) (Some invalid_field) _ refl refl

    pub short_past : (forced : Bool) → refusal s (asks 0x20 0 tag (cdb.Write 255 2 forced)) ≡ Some out_of_range
    short_past forced = says (asks 0x20 0 tag (cdb.Write 255 2 forced)) (Some out_of_range) _ refl refl

    pub short_list :
        refusal s (record (asks 0x20 0 tag (cdb.Unmap 24)) { expected = 23 }) ≡ Some invalid_field
    short_list = says (record (asks 0x20 0 tag (cdb.Unmap 24)) { expected = 23 }) (Some invalid_field) _ refl refl

pub verify_older : (s : State) (tag : ℕ) → IsIdle s → IsRefused s (asks 0x00 0 tag (cdb.Verify 0 1 false)) invalid_operation
verify_older s tag h = answers s (asks 0x00 0 tag (cdb.Verify 0 1 false)) invalid_operation h refl refl

pub compared_older : (s : State) (tag : ℕ) → IsIdle s →
    IsRefused s (asks 0x20 0 tag (cdb.Verify 0 1 true)) invalid_operation
compared_older s tag h = answers s (asks 0x20 0 tag (cdb.Verify 0 1 true)) invalid_operation h refl refl

-- a well-known unit without an attention takes none
pub verify_of : (s : State) (tag byte : ℕ) (lun : Lun) (rest : Option Status) → numbers_of s ≡ profile_1_row →
    has_attention s lun ≡ false →
    refusal (there s) (asks 0x00 byte tag (cdb.Verify 0 1 false))
    ≡ (if meeting s lun true then Some unit_attention else rest) →
    rest ≡ Some invalid_operation → refusal s (asks 0x00 byte tag (cdb.Verify 0 1 false)) ≡ Some invalid_operation
verify_of s tag byte lun rest row none lines e =
    untold s profile_1_row lun true (asks 0x00 byte tag (cdb.Verify 0 1 false)) (Some invalid_operation) rest row
    (clear (has_attention s lun) none) lines e

pub verify_device : (s : State) (tag : ℕ) → numbers_of s ≡ profile_1_row → has_attention s DeviceUnit ≡ false →
    refusal s (asks 0x00 0xD0 tag (cdb.Verify 0 1 false)) ≡ Some invalid_operation
verify_device s tag row none = verify_of s tag 0xD0 DeviceUnit _ row none refl refl

pub verify_boot : (s : State) (tag : ℕ) → numbers_of s ≡ profile_1_row → has_attention s BootUnit ≡ false →
    refusal s (asks 0x00 0xB0 tag (cdb.Verify 0 1 false)) ≡ Some invalid_operation
verify_boot s tag row none = verify_of s tag 0xB0 BootUnit _ row none refl refl

pub short_older : (s : State) (tag : ℕ) (forced : Bool) → IsIdle s →
    IsRefused s (asks 0x20 0 tag (cdb.Write 0 2 forced)) invalid_field
short_older s tag true h = answers s (asks 0x20 0 tag (cdb.Write 0 2 true)) invalid_field h refl refl
short_older s tag false h = answers s (asks 0x20 0 tag (cdb.Write 0 2 false)) invalid_field h refl refl

-- ## Lines that never meet

pub region_or_page : (n : Numbers) (lun : ℕ) (c : Cdb) → lacks_region n c ≡ true → lacks_page n lun c ≡ false
region_or_page n lun (cdb.Tell what select allocation) e = absurd (false≢true e)
region_or_page n lun c e = refl

pub page_or_saved : (n : Numbers) (lun : ℕ) (c : Cdb) → lacks_page n lun c ≡ true → wants_saved c ≡ false
page_or_saved n lun (cdb.Tell told.Page page allocation) e = refl
page_or_saved n lun c e = absurd (false≢true e)

pub saved_or_blocks : (n : Numbers) (c : Cdb) → wants_saved c ≡ true → is_too_long n c ≡ false
saved_or_blocks n (cdb.Tell what select allocation) e = le-ltb (command_blocks n) 0 (omega arith)
saved_or_blocks n c e = absurd (false≢true e)

pub saved_or_list : (c : Cdb) → wants_saved c ≡ true → has_wrong_list c ≡ false
saved_or_list (cdb.Tell what select allocation) e = refl
saved_or_list c e = absurd (false≢true e)

-- what waits for the mending is not locked
unlocked : (mends locks : Bool) → not (mends || locks) ≡ true → locks ≡ false
unlocked false false e = refl
unlocked false true e = absurd (false≢true e)
unlocked true locks e = absurd (false≢true e)

pub ready_or_test : (s : State) (c : Cdb) → is_unready s c ≡ true → fails_test s c ≡ false
ready_or_test s (cdb.Diagnose true) e = unlocked (mended s) (locked s) e
ready_or_test s (cdb.Diagnose false) e = refl
ready_or_test s c e = refl

pub write_or_test : (s : State) (u : Option UnitSpec) (c : Cdb) → is_refused_write s u c ≡ true → fails_test s c ≡ false
write_or_test s u (cdb.Diagnose tests) e = absurd (false≢true e)
write_or_test s u c e = refl

pub test_or_response : (s : State) (c : Cdb) → fails_test s c ≡ true → lacks_response s c ≡ false
test_or_response s (cdb.Diagnose tests) e = refl
test_or_response s c e = absurd (false≢true e)

pub test_or_other_response : (s : State) (c : Cdb) → fails_test s c ≡ true → has_other_response s c ≡ false
test_or_other_response s (cdb.Diagnose tests) e = refl
test_or_other_response s c e = absurd (false≢true e)

pub test_or_slots : (s : State) (r : Request) (c : Cdb) → fails_test s c ≡ true → is_crowded s (brought r.expected c) ≡ false
test_or_slots s r (cdb.Diagnose tests) e = le-ltb (free_slots s.translation) 0 (omega arith)
test_or_slots s r c e = absurd (false≢true e)
