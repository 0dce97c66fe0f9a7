-- The lines of attentions and task attributes, and LUNs that are not there, on a device of profile 1.
use Rattle.ufs_laws.proofs.Common.{Answer, Array, Bool, Busy, Call, Host, HostFault, IsOpened, List, Lun, None, Numbers, Option}
use Rattle.ufs_laws.proofs.Common.{Request, Some, Spot, State, Status, and_parts, ap, arith, asks, behind, cond-false}
use Rattle.ufs_laws.proofs.Common.{cond-true, fills, false, false≢true, free_slots, heard, if_both, if◌then◌else◌}
use Rattle.ufs_laws.proofs.Common.{invalid_field, lacks_unit, leb-true, length, locked, lt-ltb, lun_of, mended}
use Rattle.ufs_laws.proofs.Common.{message_fault, nat_le, nat_lt, ne_eqb, no_unit, not, not_ready, numbers_of, observe}
use Rattle.ufs_laws.proofs.Common.{refl, refusal, refused_or_begun, refused_state, replicate, same_Some, slice_get, subst}
use Rattle.ufs_laws.proofs.Common.{suc, sym, true, zero, ℕ, ◌&&◌, ◌++◌, ◌<◌, ◌==◌, ◌||◌, ◌∙◌, ◌∷◌, ◌≡◌, ◌≢◌, ◌≤◌}
use Rattle.std.proofs.lemmas.Bool.{and_right, ltb-true}
use Rattle.std.specs.Prelude.{bit_and, is_some, unwrap_or}
use Rattle.ufs_laws.proofs.exchanges.Attentions.{has_in, is_over, is_pending, met, none_has, not_again, refused_leaves}
use Rattle.ufs_laws.proofs.refusals.TableLines.{decides, once_mended}
use Rattle.ufs_laws.proofs.refusals.TakenRequests.{clear, decided, needs_none, numbered, skips, untold}
use Rattle.ufs_laws.proofs.walk.VolatileChanges.{same_numbers}
use Rattle.ufs_laws.specs.Table.{heard_as, profile_1_row, spells_none}
use Rattle.ufs_spec.specs.Begins.{nothing_wrong, sense_at, told_bytes}
use Rattle.ufs_spec.specs.Cdbs.{fixed_sense}
use Rattle.ufs_spec.specs.Exchanges.{message_error, most_tasks, unit_attention}
use Rattle.ufs_spec.specs.Identities.{device_type, inquiry_bytes}
use Rattle.ufs_spec.specs.Machine.{command_taken, has_attribute, opening_fault, opens_short}
use Rattle.ufs_spec.specs.Refusals.{BootUnit, DeviceUnit, ReportLunsUnit, RpmbUnit, UnitOf, attention_place}
use Rattle.ufs_spec.specs.Refusals.{has_attention, is_told_anywhere, meets_attention, row_in, tells_of_none, well_known}
use Rattle.ufs_spec.specs.declared.faults.HostFault.TheVariants.{Reserved}
use Rattle.ufs_spec.specs.declared.messages.Message.TheVariants as message
use Rattle.ufs_spec.specs.declared.operations.Row.{Row}
use Rattle.ufs_spec.specs.declared.operations.Told.TheVariants as told
use Rattle.ufs_spec.specs.declared.scsi.Cdb.TheVariants as cdb
use Rattle.ufs_spec.specs.declared.volatile.TheConstants.Volatile.{NEW}
use Rattle.ufs_spec.specs.declared.volatile.Volatile.{Volatile}

-- ## Lines

module _ (s : State) (tag : ℕ) (row : numbers_of s ≡ profile_1_row) where
  abbrev there : State
  there = numbered s profile_1_row

  is_there : s ≡ there
  is_there i = record s { translation = record s.translation { numbers = row i } }

  pub attention : has_attention s (UnitOf 0) ≡ true →
      refusal s (asks 0x01 0 tag cdb.Nothing) ≡ Some unit_attention
  attention has =
      decided s profile_1_row (asks 0x01 0 tag cdb.Nothing) (Some unit_attention) row
      (decides (has_attention there (UnitOf 0) && true) unit_attention _
      (ap (λ (b : Bool). b && true) (subst (λ (t : State). has_attention t (UnitOf 0) ≡ true) is_there has)))

  -- without an attention
  says : (r : Request) (o rest : Option Status) → has_attention s (UnitOf 0) ≡ false →
      refusal there r ≡ (if has_attention there (UnitOf 0) && true then Some unit_attention else rest) → rest ≡ o →
      refusal s r ≡ o
  says r o rest none lines e =
      untold s profile_1_row (UnitOf 0) true r o rest row (clear (has_attention s (UnitOf 0)) none) lines e

  pub head_of_queue : (rest : List ℕ) → has_attention s (UnitOf 0) ≡ false →
      refusal s (spells_none 0x01 0 tag (0xFF ∷ rest)) ≡ Some message_error
  head_of_queue rest none = says (spells_none 0x01 0 tag (0xFF ∷ rest)) (Some message_error) _ none refl refl

  pub ordered : (rest : List ℕ) → has_attention s (UnitOf 0) ≡ false →
      refusal s (spells_none 0x42 0 tag (0xFF ∷ rest)) ≡ Some message_error
  ordered rest none = says (spells_none 0x42 0 tag (0xFF ∷ rest)) (Some message_error) _ none refl refl

  pub contingent : (rest : List ℕ) → has_attention s (UnitOf 0) ≡ false →
      refusal s (spells_none 0x03 0 tag (0xFF ∷ rest)) ≡ Some message_error
  contingent rest none = says (spells_none 0x03 0 tag (0xFF ∷ rest)) (Some message_error) _ none refl refl

  pub unit_first : (rest : List ℕ) → refusal s (spells_none 0x01 3 tag (0xFF ∷ rest)) ≡ Some no_unit
  unit_first rest = decided s profile_1_row (spells_none 0x01 3 tag (0xFF ∷ rest)) (Some no_unit) row refl

  -- the line of the slots is the last one
  needs_no_slot : (rest : Option Status) →
      rest ≡ (if nat_lt (free_slots there.translation) 0 then Some Busy else None) → rest ≡ None
  needs_no_slot rest last = last ∙ skips (nat_lt (free_slots there.translation) 0) Busy None (needs_none there) refl

  pub priority : has_attention s (UnitOf 0) ≡ false → mended s ≡ true →
      refusal s (asks 0x04 0 tag cdb.Nothing) ≡ None
  priority none e =
      says (asks 0x04 0 tag cdb.Nothing) None _ none refl
      (skips (not (mended s || false)) not_ready _ (once_mended (mended s) false e) (needs_no_slot _ refl))

  -- ## A LUN that is not there

  pub inquiry_anywhere : refusal s (asks 0x40 3 tag (cdb.Tell told.Identity 0 36)) ≡ None
  inquiry_anywhere =
      decided s profile_1_row (asks 0x40 3 tag (cdb.Tell told.Identity 0 36)) None row (needs_no_slot _ refl)

  pub sense_anywhere : refusal s (asks 0x40 3 tag (cdb.Tell told.Sense 0 18)) ≡ None
  sense_anywhere = decided s profile_1_row (asks 0x40 3 tag (cdb.Tell told.Sense 0 18)) None row (needs_no_slot _ refl)

  pub page_nowhere : refusal s (asks 0x40 3 tag (cdb.Tell told.Page 0x80 64)) ≡ Some invalid_field
  page_nowhere = decided s profile_1_row (asks 0x40 3 tag (cdb.Tell told.Page 0x80 64)) (Some invalid_field) row refl

  pub other_nowhere : refusal s (asks 0x00 3 tag cdb.Nothing) ≡ Some no_unit
  other_nowhere = decided s profile_1_row (asks 0x00 3 tag cdb.Nothing) (Some no_unit) row refl

  -- ## What passes an attention

  passes : (r : Request) (rest : Option Status) →
      refusal there r ≡ (if has_attention there (UnitOf 0) && false then Some unit_attention else rest) → rest ≡ None →
      refusal s r ≡ None
  passes r rest lines e =
      untold s profile_1_row (UnitOf 0) false r None rest row (and_right (has_attention s (UnitOf 0)) false refl) lines e

  pub inquiry_passes : refusal s (asks 0x40 0 tag (cdb.Tell told.Identity 0 36)) ≡ None
  inquiry_passes = passes (asks 0x40 0 tag (cdb.Tell told.Identity 0 36)) _ refl (needs_no_slot _ refl)

  pub luns_pass : refusal s (asks 0x40 0 tag (cdb.Tell told.Units 0 32)) ≡ None
  luns_pass = passes (asks 0x40 0 tag (cdb.Tell told.Units 0 32)) _ refl (needs_no_slot _ refl)

  pub sense_passes : refusal s (asks 0x40 0 tag (cdb.Tell told.Sense 0 18)) ≡ None
  sense_passes = passes (asks 0x40 0 tag (cdb.Tell told.Sense 0 18)) _ refl (needs_no_slot _ refl)

-- no device of profile 0 answers where there is no unit
pub refused_nowhere : (s : State) (r : Request) → (numbers_of s).profile ≡ 0 → lun_of (numbers_of s) r.lun ≡ None →
    refusal s r ≡ Some no_unit
refused_nowhere s r profile none =
    cond-true (lacks_unit s r (lun_of (numbers_of s) r.lun)) (Some no_unit) _
    (ap (lacks_unit s r) none ∙ by (row_in r))
  where
    by : (o : Option Row) → not (is_told_anywhere (numbers_of s) o) ≡ true
    by None = refl
    by (Some row) = ap (λ (p : ℕ). not (nat_lt 0 p && tells_of_none row.kind)) profile

-- ## Task attributes

module _ (s : State) (flags lun tag expected : ℕ) (bytes : List ℕ) where
  abbrev attributed : Bool
  attributed = has_attribute (numbers_of s) flags

  abbrev opening : Option HostFault
  opening = opening_fault s false tag (opens_short s (message.Command flags lun tag expected bytes))

  pub not_taken_so : (numbers_of s).profile ≡ 0 → bit_and flags 0x07 ≢ 0 →
      message_fault s (message.Command flags lun tag expected bytes) ≡ Some Reserved
  not_taken_so profile some =
      cond-true attributed (Some Reserved) opening
      (ap (λ (p : ℕ). (p == 0) && not (bit_and flags 0x07 == 0)) profile
      ∙ ap not (ne_eqb (bit_and flags 0x07) 0 some))

  pub plainly_taken : bit_and flags 0x07 ≡ 0 →
      message_fault s (message.Command flags lun tag expected bytes) ≡ opening
  plainly_taken plain =
      cond-false attributed (Some Reserved) opening
      (and_right ((numbers_of s).profile == 0) (not (bit_and flags 0x07 == 0))
      (ap (λ (bits : ℕ). not (bits == 0)) plain))

  pub taken_in_profile_1 : 0 < (numbers_of s).profile →
      message_fault s (message.Command flags lun tag expected bytes) ≡ opening
  taken_in_profile_1 some =
      cond-false attributed (Some Reserved) opening
      (ap (λ (b : Bool). b && not (bit_and flags 0x07 == 0))
      (ne_eqb (numbers_of s).profile 0 (λ e. omega (arith, some, e))))

-- ## What is told

pub type_nowhere : (s : State) (r : Request) (select : ℕ) → lun_of (numbers_of s) r.lun ≡ None →
    told_bytes s r told.Identity select ≡ inquiry_bytes 0x7F
type_nowhere s r select none =
    ap (λ (o : Option Lun). inquiry_bytes (if is_some o then device_type r.lun else 0x7F)) none

pub type_of_unit : (s : State) (r : Request) (select : ℕ) (lun : Lun) → lun_of (numbers_of s) r.lun ≡ Some lun →
    told_bytes s r told.Identity select ≡ inquiry_bytes (device_type r.lun)
type_of_unit s r select lun is =
    ap (λ (o : Option Lun). inquiry_bytes (if is_some o then device_type r.lun else 0x7F)) is

-- the sense on a device of profile 1
at_lun : (s : State) (r : Request) (o : Option Lun) → 0 < (numbers_of s).profile → lun_of (numbers_of s) r.lun ≡ o →
    told_bytes s r told.Sense 0 ≡ fixed_sense (sense_at s o)
at_lun s r o some is =
    ap fixed_sense
    (cond-false ((numbers_of s).profile == 0) nothing_wrong (sense_at s (lun_of (numbers_of s) r.lun))
    (ne_eqb (numbers_of s).profile 0 (λ e. omega (arith, some, e)))
    ∙ ap (sense_at s) is)

pub sense_nowhere : (s : State) (r : Request) (select : ℕ) → 0 < (numbers_of s).profile →
    lun_of (numbers_of s) r.lun ≡ None →
    told_bytes s r told.Sense select ≡ fixed_sense (record { key = 0x05; asc = 0x25; ascq = 0x00 })
sense_nowhere s r select some none = at_lun s r None some none

module _ (s : State) (r : Request) (select : ℕ) (lun : Lun) (is : lun_of (numbers_of s) r.lun ≡ Some lun) where
  pub sense_tells : has_attention s lun ≡ true →
      told_bytes s r told.Sense select ≡ fixed_sense (record { key = 0x06; asc = 0x29; ascq = 0x00 })
  sense_tells has =
      at_lun s r (Some lun)
      (ltb-true 0 (numbers_of s).profile (and_parts (nat_lt 0 (numbers_of s).profile) (is_pending lun s.volatile) has).0) is
      ∙ ap fixed_sense (cond-true (has_attention s lun) _ _ has)

  pub sense_not_ready : 0 < (numbers_of s).profile → has_attention s lun ≡ false → mended s ≡ false →
      told_bytes s r told.Sense select ≡ fixed_sense (record { key = 0x02; asc = 0x04; ascq = 0x01 })
  sense_not_ready some none e =
      at_lun s r (Some lun) some is
      ∙ ap fixed_sense (cond-false (has_attention s lun) _ _ none ∙ cond-false (mended s) nothing_wrong _ e)

  pub sense_of_nothing : has_attention s lun ≡ false → mended s ≡ true →
      told_bytes s r told.Sense select ≡ fixed_sense (record { key = 0x00; asc = 0x00; ascq = 0x00 })
  sense_of_nothing none e =
      ap fixed_sense
      (if_both (λ x. x ≡ nothing_wrong) ((numbers_of s).profile == 0) refl
      (ap (sense_at s) is
      ∙ cond-false (has_attention s lun) _ _ none ∙ cond-true (mended s) nothing_wrong _ e))

-- ## Profile 0

pub none_in_profile_0 : (s : State) (lun : Lun) → (numbers_of s).profile ≡ 0 → has_attention s lun ≡ false
none_in_profile_0 s lun profile = ap (λ (p : ℕ). nat_lt 0 p && is_pending lun s.volatile) profile

pub never_in_profile_0 : (s : State) (r : Request) → (numbers_of s).profile ≡ 0 → refusal s r ≢ Some unit_attention
never_in_profile_0 s r profile e = by (lun_of (numbers_of s) r.lun) (met s r e)
  where
    by : (o : Option Lun) → meets_attention s r o ≡ true → ⊥
    by None meets = false≢true meets
    by (Some lun) meets =
        false≢true (sym (none_in_profile_0 s lun profile) ∙ (and_parts (has_attention s lun) _ meets).0)

pub sense_in_profile_0 : (s : State) (r : Request) (select : ℕ) → (numbers_of s).profile ≡ 0 →
    told_bytes s r told.Sense select ≡ (0x70 ∷ replicate 6 0) ++ (0x0A ∷ replicate 10 0)
sense_in_profile_0 s r select profile =
    ap fixed_sense
    (ap (λ (p : ℕ). if p == 0 then nothing_wrong else sense_at s (lun_of (numbers_of s) r.lun)) profile)

-- ## An opening

-- each place of an attention lies below 12
well_known_below : (byte : ℕ) (lun : Lun) → well_known byte ≡ Some lun → attention_place lun < 12
well_known_below byte lun is =
    if_both Below (byte == 0x81) (at ReportLunsUnit (omega arith))
    (if_both Below (byte == 0xB0) (at BootUnit (omega arith))
    (if_both Below (byte == 0xC4) (at RpmbUnit (omega arith))
    (if_both Below (byte == 0xD0) (at DeviceUnit (omega arith)) nowhere))) is
  where
    Below : Option Lun → Type 0
    Below o = o ≡ Some lun → attention_place lun < 12

    at : (l : Lun) → attention_place l < 12 → Below (Some l)
    at l low e = subst (λ (x : Lun). attention_place x < 12) (same_Some l lun e) low

    nowhere : Below None
    nowhere e = let none : None ≡ Some lun = e in cc

pub place_below : (n : Numbers) (byte : ℕ) (lun : Lun) → length n.units.items ≤ 8 → lun_of n byte ≡ Some lun →
    attention_place lun < 12
place_below n byte lun few is = by (nat_lt byte (length n.units.items)) refl is
  where
    by : (b : Bool) → nat_lt byte (length n.units.items) ≡ b →
        (if b then Some (UnitOf byte) else well_known byte) ≡ Some lun → attention_place lun < 12
    by true e k =
        let short = ltb-true byte (length n.units.items) e in
        subst (λ (x : Lun). attention_place x < 12) (same_Some (UnitOf byte) lun k) (omega (arith, short, few))
    by false e k = well_known_below byte lun k

pub all_there : (n k : ℕ) → k < n → unwrap_or (slice_get (replicate n true) k) false ≡ true
all_there zero k l = absurd (omega (arith, l))
all_there (suc n) zero l = refl
all_there (suc n) (suc k) l = all_there n k (omega (arith, l))

pub opened_has : (n : Numbers) (array : Array) (bad : Spot → Bool) (s : State) (byte : ℕ) (lun : Lun) →
    IsOpened n array bad s → 0 < n.profile → length n.units.items ≤ 8 → lun_of n byte ≡ Some lun →
    has_attention s lun ≡ true
opened_has n array bad s byte lun o some few is =
    ap (λ (m : Numbers). has_in m s.volatile lun) o.translation.numbers
    ∙ ap (λ (v : Volatile). has_in n v lun) o.fresh
    ∙ ap (λ (b : Bool). b && is_pending lun NEW) (lt-ltb 0 n.profile some)
    ∙ all_there 12 (attention_place lun) (place_below n byte lun few is)

-- ## The COMMAND that is refused

-- registers and lock leave what is volatile
observed_volatile : (s : State) (call : Call) (answer : Answer) →
    (observe s call answer).volatile ≡ (behind s call answer).volatile
observed_volatile s call answer =
    if_both (λ (t : State). t.volatile ≡ (behind s call answer).volatile) (locked (fills (behind s call answer))) refl refl

pub few_tasks : (m n : ℕ) → n < m → nat_le m n ≡ false
few_tasks m n few = by (nat_le m n) refl
  where
    by : (b : Bool) → nat_le m n ≡ b → b ≡ false
    by true e = let many = leb-true m n e in absurd (omega (arith, many, few))
    by false e = refl

module _ (s : State) (r : Request) (lun : Lun) (is : lun_of (numbers_of s) r.lun ≡ Some lun) where
  abbrev next : State
  next = observe s (Host (heard_as r)) heard

  refused_so : refusal s r ≡ Some unit_attention → length s.tasks < most_tasks →
      (command_taken s r).volatile ≡ (refused_state s r).volatile
  refused_so e few =
      ap (λ (t : State). t.volatile)
      (cond-false (nat_le most_tasks (length s.tasks)) _ (refused_or_begun s r (refusal s r))
      (few_tasks most_tasks (length s.tasks) few)
      ∙ ap (refused_or_begun s r) e)

  pub taken_ends : refusal s r ≡ Some unit_attention → length s.tasks < most_tasks → has_attention next lun ≡ false
  taken_ends e few =
      none_has next lun
      (ap (is_pending lun)
      (observed_volatile s (Host (heard_as r)) heard ∙ refused_so e few ∙ refused_leaves s r lun is e)
      ∙ is_over lun s.volatile)

pub told_once : (s : State) (r q : Request) (lun : Lun) → lun_of (numbers_of s) r.lun ≡ Some lun → q.lun ≡ r.lun →
    refusal s r ≡ Some unit_attention → length s.tasks < most_tasks →
    refusal (observe s (Host (heard_as r)) heard) q ≢ Some unit_attention
told_once s r q lun is same e few =
    not_again (observe s (Host (heard_as r)) heard) q lun
    (ap (λ (n : Numbers). lun_of n q.lun) (same_numbers s (Host (heard_as r)) heard)
    ∙ ap (lun_of (numbers_of s)) same ∙ is)
    (taken_ends s r lun is e few)
