-- What the table of refusals lets through: the unit of a command, the blocks of it, and a device that is mended or locked.
use Rattle.ufs_spec.specs.declared.scsi.Cdb.TheVariants as cdb
use Rattle.ufs_spec.specs.Cdbs.{blocks_of}
use Rattle.power_loss.proofs.Common.{◌≡◌, ℕ, ◌+◌, ◌<◌, ◌≤◌, ◌==◌, ◌&&◌, Bool, true, false, not, List, [], ◌∷◌, Option}
use Rattle.power_loss.proofs.Common.{Some, None, length, map, get_or, refl, sym, ap, ◌∙◌, subst, arith, nat_lt, ◌||◌}
use Rattle.power_loss.proofs.Common.{AllByRecursion, get_or-map, slice_get-get_or, false≢true, ltb-false, ltb-true}
use Rattle.power_loss.proofs.Common.{none-some, not-false, is_mended, Numbers, or_parts, and_parts, or_cases, ⊎_elim}
use Rattle.power_loss.proofs.MachineWords.{address_of, BootUnit}
use Rattle.power_loss.proofs.MachineWords.{DeviceUnit, Line, Lun, ReportLunsUnit, Request, RpmbUnit, State, UnitOf}
use Rattle.power_loss.proofs.MachineWords.{first_line, is_past, lacks_unit, lines_after, lun_of, mended}
use Rattle.power_loss.proofs.MachineWords.{needs_mended, not_taken, numbers_of, refusal, unit_numbers_at}
use Rattle.power_loss.proofs.MachineWords.{unit_in, unit_of_request, UnitSpec, Cdb}
use Rattle.std.specs.Prelude.{if◌then◌else◌, nat_le}
use Rattle.ufs_spec.proofs.CommandTable.{changes_blocks, changing_taken, row_behind}
use Rattle.ufs_spec.specs.CdbFields.{kind_of, row_of, spelled_cdb}
use Rattle.ufs_spec.specs.declared.operations.Kind.TheVariants as kind
use Rattle.ufs_spec.specs.declared.operations.Row.{Row}
use Rattle.ufs_spec.specs.Refusals.{has_wrong_list, is_crowded, is_protected, is_ready_for, is_refused_write}
use Rattle.ufs_spec.specs.Cdbs.{blocks_meant}
use Rattle.ufs_spec.specs.Refusals.{is_too_long, is_unready, lacks_operation, lacks_page, lacks_region, locked, row_in}
use Rattle.ufs_laws.proofs.exchanges.TakenCommandsKnown.{past}
use Rattle.ufs_spec.specs.Refusals.{is_told_anywhere, takes, takes_row, tells_of_none}
use Rattle.ufs_spec.specs.declared.operations.Kind.{Kind}
use Rattle.ufs_spec.specs.Refusals.{tests_unit, writes}
use Rattle.ufs_spec.specs.Refusals.{brought, unit_numbers_of, well_known}

-- No line of the table applies

all_pass : (ls : List Line) → first_line ls ≡ None → AllByRecursion (λ (l : Line). l.applies ≡ false) ls
all_pass [] h = tt
all_pass (l ∷ ls) h = by l.applies refl h (all_pass ls)
  where
    by : (b : Bool) → l.applies ≡ b → (if b then Some l.status else first_line ls) ≡ None →
        (first_line ls ≡ None → AllByRecursion (λ (x : Line). x.applies ≡ false) ls) →
        (l.applies ≡ false) × AllByRecursion (λ (x : Line). x.applies ≡ false) ls
    by true e k rest = absurd (none-some l.status (sym k))
    by false e k rest = (e, rest k)

pub record Passed (s : State) (r : Request) (command : Cdb) : Type 0 where
  pub unit : lacks_unit s r (lun_of (numbers_of s) r.lun) ≡ false
  pub taken : not_taken (numbers_of s) r (lun_of (numbers_of s) r.lun) ≡ false
  pub has_region : lacks_region (numbers_of s) command ≡ false
  pub not_long : is_too_long (numbers_of s) command ≡ false
  pub listed : has_wrong_list command ≡ false
  pub within : is_past command (unit_numbers_of s r) ≡ false
  pub ready : is_unready s command ≡ false
  pub free : is_refused_write s (unit_numbers_of s r) command ≡ false
  pub room : is_crowded s (brought r.expected command) ≡ false

pub passed : (s : State) (r : Request) (command : Cdb) → r.cdb ≡ Some command → refusal s r ≡ None → Passed s r command
passed s r command e h =
    let front = past s r h in
    let p = all_pass (lines_after s r (Some command))
    (subst (λ (c : Option Cdb). first_line (lines_after s r c) ≡ None) e front.later) in
    record {
      unit = front.there;
      taken = front.taken;
      has_region =
          (or_parts (lacks_region (numbers_of s) command)
          (lacks_page (numbers_of s) r.lun command || lacks_operation command) p.1.0).0;
      not_long = p.1.1.1.0;
      listed = p.1.1.1.1.0;
      within = p.1.1.1.1.1.1.0;
      ready = p.1.1.1.1.1.1.1.0;
      free = p.1.1.1.1.1.1.1.1.0;
      room = p.1.1.1.1.1.1.1.1.1.1.1.1.0;
    }

-- a command that changes blocks passes on a mended device alone: on one that is neither mended nor locked the line of
-- the mending applies, and on a locked one that of what is not written
pub ready_now : (s : State) (r : Request) (command : Cdb) → needs_mended command ≡ true →
    writes command ≡ true → Passed s r command → is_mended s.translation.work.mending ≡ true
ready_now s r command needs changes p =
    let ready = not-false (is_ready_for s command)
    (sym (ap (λ b. b && not (is_ready_for s command)) needs) ∙ p.ready) in
    ⊎_elim (λ e. e) (λ e. absurd (false≢true (sym unlocked ∙ (and_parts _ _ e).1)))
    (or_cases (mended s) (not (tests_unit command) && locked s) ready)
  where
    write_passes : (writes command && (is_protected s (unit_numbers_of s r) || locked s)) ≡ false
    write_passes = (or_parts _ _ p.free).0

    unlocked : locked s ≡ false
    unlocked = (or_parts (is_protected s (unit_numbers_of s r)) (locked s)
        (sym (ap (λ b. b && (is_protected s (unit_numbers_of s r) || locked s)) changes) ∙ write_passes)).1

-- Units

-- no unit with another byte is an ordinary one
well_known_none : (byte unit : ℕ) → well_known byte ≡ Some (UnitOf unit) → ⊥
well_known_none byte unit h = by (byte == 0x81) (byte == 0xB0) (byte == 0xC4) (byte == 0xD0) h
  where
    by : (a b c d : Bool) → (if a then Some ReportLunsUnit else if b then Some BootUnit
        else if c then Some RpmbUnit else if d then Some DeviceUnit else None) ≡ Some (UnitOf unit) → ⊥
    by true b c d e = cc
    by false true c d e = cc
    by false false true d e = cc
    by false false false true e = cc
    by false false false false e = cc

pub lun_told : (n : Numbers) {byte unit : ℕ} → lun_of n byte ≡ Some (UnitOf unit) →
    (byte < length n.units.items) × (unit ≡ byte)
lun_told n {byte} {unit} h = by (nat_lt byte (length n.units.items)) refl h
  where
    by : (b : Bool) → nat_lt byte (length n.units.items) ≡ b →
        (if b then Some (UnitOf byte) else well_known byte) ≡ Some (UnitOf unit) →
        (byte < length n.units.items) × (unit ≡ byte)
    by true e k = (ltb-true byte (length n.units.items) e, cc)
    by false e k = absurd (well_known_none byte unit k)

-- what such bytes ask for changes blocks of a unit
abbrev pub Changes : List ℕ → Type 0
Changes bytes = (row : Row) × (row_of bytes ≡ Some row) × (changes_blocks row.kind ≡ true)

pub write_changes : (bytes : List ℕ) (c : Cdb) → spelled_cdb bytes ≡ Some c → kind_of c ≡ kind.Write → Changes bytes
write_changes bytes c e is =
    let its = row_behind bytes c e in
    (its.row, its.found, ap changes_blocks (its.kind_is ∙ is))

pub unmap_changes : (bytes : List ℕ) (c : Cdb) → spelled_cdb bytes ≡ Some c → kind_of c ≡ kind.Unmap → Changes bytes
unmap_changes bytes c e is =
    let its = row_behind bytes c e in
    (its.row, its.found, ap changes_blocks (its.kind_is ∙ is))

pub verify_changes : (bytes : List ℕ) (c : Cdb) → spelled_cdb bytes ≡ Some c → kind_of c ≡ kind.Verify → Changes bytes
verify_changes bytes c e is =
    let its = row_behind bytes c e in
    (its.row, its.found, ap changes_blocks (its.kind_is ∙ is))

-- what is answered where there is no unit changes no blocks
pub changes_told : (n : Numbers) (bytes : List ℕ) → Changes bytes → is_told_anywhere n (row_of bytes) ≡ true → ⊥
changes_told n bytes (row, found, changes) told =
    by row.kind changes
    (and_parts (nat_lt 0 n.profile) (tells_of_none row.kind)
    (subst (λ (o : Option Row). is_told_anywhere n o ≡ true) found told)).1
  where
    by : (k : Kind) → changes_blocks k ≡ true → tells_of_none k ≡ true → ⊥
    by (kind.Tell what) e f = false≢true e
    by k e f = false≢true f

pub record UnitTold (s : State) (r : Request) : Type 0 where
  pub there : r.lun < length (numbers_of s).units.items
  pub is : unit_of_request s r ≡ Some r.lun

pub unit_told : (s : State) (r : Request) (c : Cdb) → Changes r.bytes → Passed s r c → UnitTold s r
unit_told s r c units p = by (lun_of (numbers_of s) r.lun) refl p.unit p.taken
  where
    by : (x : Option Lun) → lun_of (numbers_of s) r.lun ≡ x → lacks_unit s r x ≡ false →
        not_taken (numbers_of s) r x ≡ false → UnitTold s r
    by None e lacks taken = absurd (changes_told (numbers_of s) r.bytes units (not-false _ lacks))
    by (Some lun) e lacks taken =
        let takes_it = (and_parts (nat_le units.0.profile (numbers_of s).profile) (takes lun units.0)
        (subst (λ (o : Option Row). takes_row (numbers_of s) lun o ≡ true) units.1
        (not-false (takes_row (numbers_of s) lun (row_in r)) taken))).1 in
        let unit = changing_taken r.bytes units.0 lun units.1 units.2 takes_it in
        let is : lun_of (numbers_of s) r.lun ≡ Some (UnitOf unit.0) = e ∙ ap Some unit.1 in
        let told = lun_told (numbers_of s) is in
        record { there = told.0; is = ap (unit_in s r) is ∙ ap Some told.1 }

pub no_spec : UnitSpec
no_spec = record { blocks = 0; boot = 0; protect = 0 }

-- no command reads or writes more blocks than it means
pub means_more : (c : Cdb) → blocks_of c ≤ blocks_meant c
means_more (cdb.Prefetch address blocks) = omega arith
means_more c = omega arith

-- the blocks lie within the unit
pub lies_within : {s : State} {r : Request} (command : Cdb) → UnitTold s r →
    is_past command (unit_numbers_of s r) ≡ false →
    address_of command + blocks_meant command
    ≤ get_or (map (λ (u : UnitSpec). u.blocks) (numbers_of s).units.items) r.lun 0
lies_within {s} {r} command told h =
    let units = (numbers_of s).units.items in
    let unit = get_or units r.lun no_spec in
    let spec : unit_numbers_of s r ≡ Some unit =
    ap (unit_numbers_at (numbers_of s)) told.is ∙ slice_get-get_or units r.lun no_spec
    told.there in
    let past = subst (λ (u : Option UnitSpec). is_past command u ≡ false) spec h in
    let bound = ltb-false unit.blocks (address_of command + blocks_meant command) past in
    let same = get_or-map (λ (u : UnitSpec). u.blocks) units r.lun no_spec 0 told.there in
    omega arith
