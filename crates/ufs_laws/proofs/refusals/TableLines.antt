-- The line of the table that stands first decides.
use Rattle.ufs_spec.specs.Refusals.{brought}
use Rattle.ufs_laws.proofs.Common.{Bool, Busy, Cdb, IsIdle, List, None, Numbers, Option, Request, Some, State, Status}
use Rattle.ufs_laws.proofs.Common.{UnitSpec, [], ap, arith, asks, command_blocks, cond-false, cond-true, false}
use Rattle.ufs_laws.proofs.Common.{false≢true, first_line, flush, free_slots, has_wrong_list, if◌then◌else◌}
use Rattle.ufs_laws.proofs.Common.{invalid_field, invalid_operation, is_too_long, le-ltb, length, locked, lt-ltb}
use Rattle.ufs_laws.proofs.Common.{mended, nat_le, nat_lt, ne_eqb, no_unit, not, not_ready, not_taken, numbers_of}
use Rattle.ufs_laws.proofs.Common.{out_of_range, read_at, refl, refusal, refused_or_begun, response, sequence_error}
use Rattle.ufs_laws.proofs.Common.{short_reply, subst, sym, true, unit_numbers_of, with_short, write_at}
use Rattle.ufs_laws.proofs.Common.{write_protected, ℕ, ◌&&◌, ◌*◌, ◌<◌, ◌==◌, ◌||◌, ◌∙◌, ◌∷◌, ◌≡◌, ◌≤◌}
use Rattle.std.proofs.lemmas.Bool.{le-leb, ltb-true}
use Rattle.ufs_laws.proofs.refusals.RefusedCommands.{answers, idle_is, idle_state, lacks}
use Rattle.ufs_laws.specs.Table.{IsRefused, protected_row, reads_response, spells_none}
use Rattle.ufs_spec.specs.Exchanges.{list_length_error, most_tasks}
use Rattle.ufs_spec.specs.declared.exchanges.Status.TheVariants.{TaskSetFull}
use Rattle.ufs_spec.specs.Machine.{command_taken}
use Rattle.ufs_spec.specs.Plain.{steps_of}
use Rattle.ufs_spec.specs.Refusals.{BootUnit, has_other_response, is_boot_read, is_crowded, is_past, is_refused_write}
use Rattle.ufs_spec.specs.Refusals.{lacks_response, lines_for, needs_blocks, takes_row}
use Rattle.ufs_spec.specs.Translation.{has_pending}
use Rattle.ufs_spec.specs.declared.scsi.Cdb.TheVariants as cdb
use Rattle.ufs_spec.proofs.CommandTable.{row_holds}
use Rattle.ufs_spec.proofs.Facts.{and_from, and_parts, or_with_false}
use Rattle.ufs_spec.specs.CdbFields.{row_of}
use Rattle.ufs_spec.specs.declared.operations.Row.{Row}

-- ## Lines

-- a line of the same status as the rest may apply or not
pub either : (b : Bool) (status : Status) (rest : Option Status) → rest ≡ Some status →
    (if b then Some status else rest) ≡ Some status
either true status rest k = refl
either false status rest k = k

-- a line that applies decides, and one that does not leaves it to the rest
pub decides : (b : Bool) (status : Status) (rest : Option Status) → b ≡ true →
    (if b then Some status else rest) ≡ Some status
decides b status rest e = cond-true b (Some status) rest e

pub leaves : (b : Bool) (status other : Status) (rest : Option Status) → b ≡ false → rest ≡ Some other →
    (if b then Some status else rest) ≡ Some other
leaves b status other rest e k = cond-false b (Some status) rest e ∙ k

-- the line of the mending does not apply once the device is mended, nor on a locked one, but for TEST UNIT READY
pub once_mended : (mends locks : Bool) → mends ≡ true → not (mends || locks) ≡ false
once_mended mends locks e = ap (λ (b : Bool). not (b || locks)) e

pub once_locked : (mends locks : Bool) → locks ≡ true → not (mends || locks) ≡ false
once_locked true locks e = refl
once_locked false locks e = ap not e

-- before that it applies
pub neither : (mends locks : Bool) → mends ≡ false → locks ≡ false → not (mends || locks) ≡ true
neither mends locks e k = ap (λ (b : Bool). not (b || locks)) e ∙ ap not k

pub full : (s : State) (r : Request) (status : Status) → most_tasks ≤ length s.tasks → refusal s r ≡ Some status →
    command_taken s r ≡ with_short s (short_reply r.tag (response r.lun r.tag r.expected 0 TaskSetFull))
full s r status many e =
    cond-true (nat_le most_tasks (length s.tasks)) _ (refused_or_begun s r (refusal s r))
    (le-leb most_tasks (length s.tasks) many)

pub locked_idle : (s : State) (b : Bool) → IsIdle s → locked s ≡ b → locked (idle_state s) ≡ b
locked_idle s b h e = subst (λ (t : State). locked t ≡ b) (idle_is s h) e

slots_idle : (s : State) → IsIdle s → free_slots s.translation ≡ 0 → free_slots (idle_state s).translation ≡ 0
slots_idle s h e = subst (λ (t : State). free_slots t.translation ≡ 0) (idle_is s h) e

-- ## Through the table

pub unit : (s : State) (tag : ℕ) (bytes : List ℕ) → IsIdle s → IsRefused s (spells_none 0x40 3 tag bytes) no_unit
unit s tag bytes h =
    answers s (spells_none 0x40 3 tag bytes) no_unit h refl (lacks s (spells_none 0x40 3 tag bytes) (omega arith) refl)

pub operation : (s : State) (tag : ℕ) (rest : List ℕ) → IsIdle s →
    IsRefused s (spells_none 0x40 0 tag (0xFF ∷ rest)) invalid_operation
operation s tag rest h = answers s (spells_none 0x40 0 tag (0xFF ∷ rest)) invalid_operation h refl refl

pub blocks : (s : State) (tag : ℕ) → IsIdle s → IsRefused s (asks 0x40 0 tag (read_at 256 33)) invalid_field
blocks s tag h = answers s (asks 0x40 0 tag (read_at 256 33)) invalid_field h refl refl

pub list : (s : State) (tag : ℕ) →
    first_line (lines_for s (asks 0x00 0 tag (cdb.Unmap 16)) (cdb.Unmap 16)) ≡ Some list_length_error
list s tag =
    leaves (is_too_long (numbers_of s) (cdb.Unmap 16)) invalid_field list_length_error _
    (le-ltb (command_blocks (numbers_of s)) 0 (omega arith)) refl

pub flag : (s : State) (tag : ℕ) → IsIdle s → IsRefused s (asks 0x00 0 tag (read_at 256 1)) invalid_field
flag s tag h = answers s (asks 0x00 0 tag (read_at 256 1)) invalid_field h refl refl

pub past : (s : State) (tag : ℕ) → IsIdle s → mended s ≡ false → locked s ≡ false →
    IsRefused s (asks 0x40 0 tag (read_at 256 1)) out_of_range
past s tag h e k = answers s (asks 0x40 0 tag (read_at 256 1)) out_of_range h refl refl

pub ready : (s : State) (tag : ℕ) → IsIdle s → mended s ≡ false → locked s ≡ false → free_slots s.translation ≡ 0 →
    IsRefused s (asks 0x20 0 tag (write_at 0)) not_ready
ready s tag h e k none =
    answers s (asks 0x20 0 tag (write_at 0)) not_ready h refl
    (decides (not (mended (idle_state s) || locked (idle_state s))) not_ready _
    (neither _ _ e (locked_idle s false h k)))

-- a unit that is protected until the next power cycle
pub ready_and_protected : (s : State) (tag : ℕ) → numbers_of s ≡ protected_row → mended s ≡ false → locked s ≡ false →
    s.volatile.power_on ≡ true → refusal s (asks 0x20 1 tag (write_at 0)) ≡ Some not_ready
ready_and_protected s tag row e k on =
    subst (λ (t : State). refusal t (asks 0x20 1 tag (write_at 0)) ≡ Some not_ready) (sym same)
    (decides (not (mended s || locked numbered)) not_ready _
    (neither _ _ e (subst (λ (t : State). locked t ≡ false) same k)))
  where
    numbered : State
    numbered = record s { translation = record s.translation { numbers = protected_row } }

    same : s ≡ numbered
    same i = record s { translation = record s.translation { numbers = row i } }

pub protected : (s : State) (tag : ℕ) → IsIdle s → mended s ≡ true → locked s ≡ true → free_slots s.translation ≡ 0 →
    IsRefused s (asks 0x20 0 tag (write_at 0)) write_protected
protected s tag h e k none = answers s (asks 0x20 0 tag (write_at 0)) write_protected h refl
    (leaves (not (mended (idle_state s) || locked (idle_state s))) not_ready write_protected _ (once_mended _ _ e)
    (decides (locked (idle_state s) || false) write_protected _ (or_with_false _ ∙ (locked_idle s true h k))))

pending_idle : (s : State) → IsIdle s → has_pending s.translation ≡ true → has_pending (idle_state s).translation ≡ true
pending_idle s h e = subst (λ (t : State). has_pending t.translation ≡ true) (idle_is s h) e

pub flush_refused : (s : State) (tag : ℕ) (immediate : Bool) → IsIdle s → mended s ≡ true → locked s ≡ true →
    has_pending s.translation ≡ true → IsRefused s (asks 0x00 0 tag (flush immediate)) write_protected
flush_refused s tag immediate h e k some = answers s (asks 0x00 0 tag (flush immediate)) write_protected h refl
    (in_row immediate (leaves (not (mended (idle_state s) || locked (idle_state s))) not_ready write_protected _ (once_mended _ _ e)
    (decides (locked (idle_state s) && has_pending (idle_state s).translation) write_protected _
    (and_from (locked (idle_state s)) (has_pending (idle_state s).translation) (locked_idle s true h k)
    (pending_idle s h some)))))
  where
    -- no bit of a flush goes beyond profile 0
    in_row : (now : Bool) →
        first_line (lines_for (idle_state s) (asks 0x00 0 tag (flush now)) (flush now)) ≡ Some write_protected →
        refusal (idle_state s) (asks 0x00 0 tag (flush now)) ≡ Some write_protected
    in_row true lines = lines
    in_row false lines = lines

pub crowded : (s : State) (tag : ℕ) → IsIdle s → mended s ≡ true → locked s ≡ false → free_slots s.translation ≡ 0 →
    IsRefused s (asks 0x20 0 tag (write_at 0)) Busy
crowded s tag h e k none = answers s (asks 0x20 0 tag (write_at 0)) Busy h refl
    (leaves (not (mended (idle_state s) || locked (idle_state s))) not_ready Busy _ (once_mended _ _ e)
    (leaves (locked (idle_state s) || false) write_protected Busy _ (or_with_false _ ∙ (locked_idle s false h k))
    (decides (nat_lt (free_slots (idle_state s).translation) 1) Busy _
    (lt-ltb (free_slots (idle_state s).translation) 1 (let few = slots_idle s h none in omega arith)))))

-- ## The frames of the RPMB

-- a command without blocks lies within any unit
within : (s : State) (r : Request) (region n : ℕ) → is_past (cdb.SecurityIn region n) (unit_numbers_of s r) ≡ false
within s r region n = by (unit_numbers_of s r)
  where
    by : (u : Option UnitSpec) → is_past (cdb.SecurityIn region n) u ≡ false
    by None = refl
    by (Some u) = le-ltb u.blocks 0 (omega arith)

-- a region whose area has bytes is there
pub is_there : (n : ℕ) → 0 < n → (n == 0) ≡ false
is_there n l = ne_eqb n 0 (λ e. omega (arith, l, e))

pub ready_first : (s : State) (tag region : ℕ) → 0 < steps_of (numbers_of s) region → mended s ≡ false →
    locked s ≡ false → (s.registers region).response ≡ [] →
    first_line (lines_for s (reads_response tag region) (cdb.SecurityIn region 512)) ≡ Some not_ready
ready_first s tag region there e k none =
    leaves ((steps_of (numbers_of s) region == 0) || false) invalid_field not_ready _ (or_with_false _ ∙ is_there _ there)
    (leaves (is_past (cdb.SecurityIn region 512) (unit_numbers_of s (reads_response tag region))) out_of_range not_ready _
    (within s (reads_response tag region) region 512)
    (decides (not (mended s || locked s)) not_ready _ (neither _ _ e k)))

pub response_first : (s : State) (tag region : ℕ) → 0 < steps_of (numbers_of s) region → mended s ≡ true →
    (s.registers region).response ≡ [] →
    first_line (lines_for s (reads_response tag region) (cdb.SecurityIn region 512)) ≡ Some sequence_error
response_first s tag region there e none =
    leaves ((steps_of (numbers_of s) region == 0) || false) invalid_field sequence_error _
    (or_with_false _ ∙ is_there _ there)
    (leaves (is_past (cdb.SecurityIn region 512) (unit_numbers_of s (reads_response tag region))) out_of_range
    sequence_error _ (within s (reads_response tag region) region 512)
    (leaves (not (mended s || locked s)) not_ready sequence_error _ (once_mended _ _ e)
    (decides (length (s.registers region).response == 0) sequence_error _
    (ap (λ (frames : List (List ℕ)). length frames == 0) none))))

pub other_response : (s : State) (tag region : ℕ) (a b : List ℕ) → 0 < steps_of (numbers_of s) region →
    mended s ≡ true → (s.registers region).response ≡ a ∷ b ∷ [] →
    first_line (lines_for s (reads_response tag region) (cdb.SecurityIn region 512)) ≡ Some invalid_field
other_response s tag region a b there e two =
    leaves ((steps_of (numbers_of s) region == 0) || false) invalid_field invalid_field _
    (or_with_false _ ∙ is_there _ there)
    (leaves (is_past (cdb.SecurityIn region 512) (unit_numbers_of s (reads_response tag region))) out_of_range
    invalid_field _ (within s (reads_response tag region) region 512)
    (leaves (not (mended s || locked s)) not_ready invalid_field _ (once_mended _ _ e)
    (leaves (length (s.registers region).response == 0) sequence_error invalid_field _
    (ap (λ (frames : List (List ℕ)). length frames == 0) two)
    (decides (not (512 == 512 * length (s.registers region).response)) invalid_field _
    (ap (λ (frames : List (List ℕ)). not (512 == 512 * length frames)) two)))))

pub no_region : (s : State) (r : Request) (region n : ℕ) → steps_of (numbers_of s) region ≡ 0 →
    first_line (lines_for s r (cdb.SecurityIn region n)) ≡ Some invalid_field
no_region s r region n none =
    decides ((steps_of (numbers_of s) region == 0) || false) invalid_field _
    (ap (λ (steps : ℕ). (steps == 0) || false) none)

pub no_region_to_write : (s : State) (r : Request) (region n : ℕ) → steps_of (numbers_of s) region ≡ 0 →
    first_line (lines_for s r (cdb.SecurityOut region n)) ≡ Some invalid_field
no_region_to_write s r region n none =
    decides ((steps_of (numbers_of s) region == 0) || false) invalid_field _
    (ap (λ (steps : ℕ). (steps == 0) || false) none)

-- ## Lines that never meet

pub unit_or_operation : (n : Numbers) (r : Request) → not_taken n r None ≡ false
unit_or_operation n r = refl

-- what the boot unit takes, where it needs blocks
abbrev boots : Row → Bool
boots row = not (needs_blocks row.kind) || row.takers.boot

pub boot_or_operation : (n : Numbers) (bytes : List ℕ) → is_boot_read n (row_of bytes) ≡ true →
    takes_row n BootUnit (row_of bytes) ≡ true
boot_or_operation n bytes e = by (row_of bytes) refl e
  where
    later : (a b : Bool) → (not a || b) ≡ true → a ≡ true → b ≡ true
    later true b e k = e
    later false b e k = absurd (false≢true k)

    by : (o : Option Row) → row_of bytes ≡ o → is_boot_read n o ≡ true → takes_row n BootUnit o ≡ true
    by None f k = absurd (false≢true k)
    by (Some other) f k =
        let parts = and_parts (nat_le other.profile n.profile) (needs_blocks other.kind) k in
        and_from (nat_le other.profile n.profile) other.takers.boot parts.0
        (later (needs_blocks other.kind) other.takers.boot (row_holds boots refl bytes other f) parts.1)

few : (most n : ℕ) → n ≡ 0 → nat_lt most n ≡ true → ⊥
few most n e k = let l = ltb-true most n k in omega arith

pub blocks_or_list : (n : Numbers) (c : Cdb) → is_too_long n c ≡ true → has_wrong_list c ≡ false
blocks_or_list n (cdb.Unmap size) e = absurd (few (command_blocks n) 0 refl e)
blocks_or_list n c e = refl

no_write : (s : State) (u : Option UnitSpec) (region n : ℕ) → is_refused_write s u (cdb.SecurityIn region n) ≡ true → ⊥
no_write s u region n e = let none : false ≡ true = e in cc

pub write_or_response : (s : State) (u : Option UnitSpec) (c : Cdb) → is_refused_write s u c ≡ true →
    lacks_response s c ≡ false
write_or_response s u (cdb.SecurityIn region n) e = absurd (no_write s u region n e)
write_or_response s u c e = refl

pub write_or_other_response : (s : State) (u : Option UnitSpec) (c : Cdb) → is_refused_write s u c ≡ true →
    has_other_response s c ≡ false
write_or_other_response s u (cdb.SecurityIn region n) e = absurd (no_write s u region n e)
write_or_other_response s u c e = refl

uncrowded : (s : State) (region n : ℕ) → is_crowded s (cdb.SecurityIn region n) ≡ false
uncrowded s region n = le-ltb (free_slots s.translation) 0 (omega arith)

no_response : false ≡ true → ⊥
no_response e = cc

pub response_or_slots : (s : State) (r : Request) (c : Cdb) → lacks_response s c ≡ true →
    is_crowded s (brought r.expected c) ≡ false
response_or_slots s r (cdb.SecurityIn region n) e = uncrowded s region n
response_or_slots s r c e = absurd (no_response e)

pub other_response_or_slots : (s : State) (r : Request) (c : Cdb) → has_other_response s c ≡ true →
    is_crowded s (brought r.expected c) ≡ false
other_response_or_slots s r (cdb.SecurityIn region n) e = uncrowded s region n
other_response_or_slots s r c e = absurd (no_response e)
