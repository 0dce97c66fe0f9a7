-- A command that was taken never ends with an invalid operation code.
use Rattle.ufs_laws.proofs.Common.{Allowed, Answer, Answering, Array, Awaiting, Bool, Call, Cdb, Deed, Every, Gathering}
use Rattle.ufs_laws.proofs.Common.{Good, IsOpened, IsRequest, IsSpoken, List, Lun, None, Numbers, Option, ReadBlock}
use Rattle.ufs_laws.proofs.Common.{ReadingArea, Request, Sending, Some, Spot, State, Status, Task, [], ap, arith, begun}
use Rattle.ufs_laws.proofs.Common.{blocks_expected, data_begun, deed_after, false, first_line, flat_map, if_both}
use Rattle.ufs_laws.proofs.Common.{if◌then◌else◌, invalid_field, invalid_operation, kind_of, lacks_unit, lines_after}
use Rattle.ufs_laws.proofs.Common.{lun_of, no_unit, none-some, not-false, not_taken, numbers_of, observe, read_begun}
use Rattle.ufs_laws.proofs.Common.{read_blocks, refl, refusal, sending, slice_get, subst, sym, true, unit_of_request}
use Rattle.ufs_laws.proofs.Common.{unit_or_first, with_block, write_error, ℕ, ◌*◌, ◌++◌, ◌+◌, ◌==◌, ◌∙◌, ◌∷◌, ◌≡◌, ◌≢◌}
use Rattle.std.specs.Prelude.{length, nat_le, nat_lt}
use Rattle.ufs_spec.proofs.Facts.{and_parts, ltb-true}
use Rattle.ufs_laws.proofs.walk.WaysOfCommands.{Answered, Beginning, Gathered, Handing, Reading, Telling, Waiting}
use Rattle.ufs_laws.proofs.walk.WaysOfCommands.{WhyBegun, begins_by, begun_as}
use Rattle.ufs_laws.proofs.walk.WaysOfData.{IsAnswerOfData, IsGood, IsOutOfRange, IsOutOfSequence, IsWriteError}
use Rattle.ufs_laws.proofs.walk.WaysOfData.{IsWrongField, answer_one}
use Rattle.ufs_laws.proofs.walk.TaskLaws.{Any, any_asks, IsTaskLaw, task_for, tasks_kept}
use Rattle.ufs_laws.specs.Exchange.{AllKnown, IsAnsweredAt, IsKnownDeed, IsKnownTask}
use Rattle.ufs_spec.specs.CdbFields.{row_of}
use Rattle.ufs_spec.specs.Cdbs.{carried}
use Rattle.ufs_spec.specs.declared.exchanges.Status.TheVariants.{CheckCondition}
use Rattle.ufs_spec.specs.Exchanges.{check, message_error, unit_attention}
use Rattle.ufs_spec.specs.Machine.{IsCdbIn, sending_bytes}
use Rattle.ufs_spec.specs.Refusals.{is_not_simple, is_told_anywhere, meets_attention, row_in, takes, takes_row}
use Rattle.ufs_laws.proofs.walk.WaysOfCommands.{Checking, Verifying, expecting}
use Rattle.ufs_laws.proofs.Common.{Comparing}
use Rattle.ufs_spec.specs.DataOuts.{deed_after_same}
use Rattle.ufs_spec.specs.Exchanges.{miscompare}
use Rattle.ufs_spec.specs.Refusals.{brought, tells_of_none}
use Rattle.ufs_spec.specs.declared.operations.Row.{Row}
use Rattle.ufs_spec.specs.declared.scsi.Cdb.TheVariants as cdb
use Rattle.ufs_spec.proofs.CommandTable.{row_behind}
use Rattle.ufs_laws.proofs.exchanges.DeedLaws.{IsDeedLaw, filled_keeps, goes, locks, read_keeps, reads, set_keeps}
use Rattle.ufs_laws.proofs.exchanges.DeedLaws.{set_request_keeps}

-- ## What the table lets through

-- where no line applies, the first does not, nor one behind it
pub passed_line : (applies : Bool) (status : Status) (rest : Option Status) →
    (if applies then Some status else rest) ≡ None → (applies ≡ false) × (rest ≡ None)
passed_line true status rest e = absurd (none e)
  where
    none : Some status ≡ None → ⊥
    none k = cc
passed_line false status rest e = (refl, e)

-- the first four lines and the rest
pub record Past (s : State) (r : Request) : Type 0 where
  pub there : lacks_unit s r (lun_of (numbers_of s) r.lun) ≡ false
  pub attended : meets_attention s r (lun_of (numbers_of s) r.lun) ≡ false
  pub simple : is_not_simple r ≡ false
  pub taken : not_taken (numbers_of s) r (lun_of (numbers_of s) r.lun) ≡ false
  pub later : first_line (lines_after s r r.cdb) ≡ None

pub past : (s : State) (r : Request) → refusal s r ≡ None → Past s r
past s r e =
    let one = passed_line (lacks_unit s r (lun_of (numbers_of s) r.lun)) no_unit _ e in
    let two = passed_line (meets_attention s r (lun_of (numbers_of s) r.lun)) unit_attention _ one.1 in
    let three = passed_line (is_not_simple r) message_error _ two.1 in
    let four = passed_line (not_taken (numbers_of s) r (lun_of (numbers_of s) r.lun)) invalid_operation _ three.1 in
    record { there = one.0; attended = two.0; simple = three.0; taken = four.0; later = four.1 }

-- the unit takes the operation code, or the command is answered where there is none
row_answered : (s : State) (r : Request) (row : Row) → row_in r ≡ Some row → Past s r →
    IsAnsweredAt (numbers_of s) (lun_of (numbers_of s) r.lun) row
row_answered s r row found p = by (lun_of (numbers_of s) r.lun) p.there p.taken
  where
    by : (o : Option Lun) → lacks_unit s r o ≡ false → not_taken (numbers_of s) r o ≡ false →
        IsAnsweredAt (numbers_of s) o row
    by None lacks taken =
        let both = and_parts (nat_lt 0 (numbers_of s).profile) (tells_of_none row.kind)
        (subst (λ (o : Option Row). is_told_anywhere (numbers_of s) o ≡ true) found (not-false _ lacks)) in
        (ltb-true 0 (numbers_of s).profile both.0, both.1)
    by (Some unit) lacks taken =
        (and_parts (nat_le row.profile (numbers_of s).profile) (takes unit row)
        (subst (λ (o : Option Row). takes_row (numbers_of s) unit o ≡ true) found (not-false _ taken))).1

pub passes : (s : State) (r : Request) → IsRequest r → refusal s r ≡ None →
    (row : Row) × (c : Cdb) × (row_of r.bytes ≡ Some row)
    × IsAnsweredAt (numbers_of s) (lun_of (numbers_of s) r.lun) row × (r.cdb ≡ Some c) × (row.kind ≡ kind_of c)
passes s r is e = by r.cdb refl is.1.2
  where
    p : Past s r
    p = past s r e

    no_line : Some invalid_field ≡ None → ⊥
    no_line k = cc

    by : (o : Option Cdb) → r.cdb ≡ o → IsCdbIn (Some r.bytes) o →
        (row : Row) × (c : Cdb) × (row_of r.bytes ≡ Some row)
        × IsAnsweredAt (numbers_of s) (lun_of (numbers_of s) r.lun) row × (r.cdb ≡ Some c) × (row.kind ≡ kind_of c)
    by None same spells = absurd
        (no_line (subst (λ (o : Option Cdb). first_line (lines_after s r o) ≡ None) same p.later))
    by (Some c) same spells =
        let its = row_behind r.bytes c (sym spells) in
        (its.row, c, its.found, row_answered s r its.row its.found p, same, its.kind_is)

-- ## What begins

abbrev Known : Task → Type 0
Known task = IsKnownTask task.command task.deed

-- its task is opened, of this command, and is known
abbrev pub Begins : State → State → Cdb → Type 0
Begins s t c = (task : Task) × (t.tasks ≡ s.tasks ++ task ∷ []) × (task.command ≡ Some c) × IsKnownDeed task.deed

good_known : Good ≢ invalid_operation
good_known e = cc

abbrev sense_key : Status → ℕ
sense_key (CheckCondition known) = known.key
sense_key status = 0

abbrev sense_code : Status → ℕ
sense_code (CheckCondition known) = known.asc
sense_code status = 0

error_known : write_error ≢ invalid_operation
error_known e = other (sense_key write_error) refl (ap sense_key e)
  where
    other : (key : ℕ) → key ≡ 3 → key ≡ 5 → ⊥
    other key h k = omega arith

-- another code is another status
code_known : (code : ℕ) → code ≢ 0x20 → check 0x05 code ≢ invalid_operation
code_known code other e = other (ap sense_code e)

sending_known : (blocks : List ReadBlock) (n : ℕ) → IsKnownDeed (sending blocks n)
sending_known [] n = good_known
sending_known (b ∷ bs) n = tt

read_known : (s : State) (r : Request) (c : Cdb) (unit address n : ℕ) → Begins s (read_begun s r c unit address n) c
read_known s r c unit address n =
    let deed : Deed = sending (read_blocks s unit address (blocks_expected r n)) n in
    (task_for r (Some c) n deed, refl, refl, sending_known (read_blocks s unit address (blocks_expected r n)) n)

data_known : (s : State) (r : Request) (c : Cdb) (bytes : List ℕ) → Begins s (data_begun s r c bytes) c
data_known s r c bytes = (
  task_for r (Some c) (length bytes) (sending_bytes r bytes),
  refl,
  refl,
  if_both IsKnownDeed (carried r.expected (length bytes) == 0) good_known tt,
)

abbrev first_task : Request → Cdb → ℕ → Deed → Task
first_task r c n deed = task_for r (Some c) n deed

pub begins : (s : State) (r : Request) (unit : ℕ) (c : Cdb) → Begins s (begun s r unit c) (brought r.expected c)
begins s r unit c = begins_by (λ t. Begins s t (brought r.expected c)) s r unit c one
  where
    one : (b : Beginning) → WhyBegun s r unit c b → Begins s (begun_as s r c b) (brought r.expected c)
    one (Answered expected n) why =
        (first_task (expecting r expected) (brought r.expected c) n (Answering Good n), refl, refl, good_known)
    one Waiting why = (first_task r (brought r.expected c) 0 (Awaiting (length s.accepted)), refl, refl, tt)
    one (Telling volatile bytes) why = data_known (record s { volatile = volatile }) r (brought r.expected c) bytes
    one (Handing region n) why =
        let frames : List ℕ = flat_map (λ frame. frame) (s.registers region).response in
        let told = data_known s r (cdb.SecurityIn region n) frames in
        (told.0, told.1, told.2 ∙ ap (λ (x : Cdb). Some (brought r.expected x)) (sym why), told.3)
    one (Reading u address n) why = read_known s r (brought r.expected c) u address n
    one (Verifying u address n) why =
        (first_task r (brought r.expected c) 0 (ReadingArea (read_blocks s u address n)), refl, refl, tt)
    one (Checking u address n) why =
        (first_task r (brought r.expected c) (4096 * n) (Comparing (read_blocks s u address n) 0 false), refl, refl, tt)
    one (Gathered expected count purpose n) why =
        (first_task (expecting r expected) (brought r.expected c) n (Gathering purpose [] false), refl, refl, tt)

answers_not : (deed : Deed) → IsKnownDeed deed → (carried : ℕ) → deed ≢ Answering invalid_operation carried
answers_not deed known carried e = subst IsKnownDeed e known refl

pub begins_known : (s : State) (r : Request) (unit : ℕ) (c : Cdb) →
    (task : Task) × ((begun s r unit c).tasks ≡ s.tasks ++ task ∷ []) × (task.command ≡ Some (brought r.expected c))
    × ((carried : ℕ) → task.deed ≢ Answering invalid_operation carried)
begins_known s r unit c = let b = begins s r unit c in (b.0, b.1, b.2, answers_not b.0.deed b.3)

-- ## Every call

-- what is known of a deed is known of it, whatever the task is
known_in : (c : Option Cdb) (deed : Deed) → IsKnownDeed deed → IsKnownTask c deed
known_in None deed h = tt
known_in (Some command) deed h = h

-- what is known of a deed is known of what its task does next, whether the command was taken or refused
known_deeds : (c : Option Cdb) (task : Task) → IsDeedLaw (IsKnownTask c) task
known_deeds c task = record {
  asked = λ purpose gathered was d. known_in c (Gathering purpose gathered true) tt;
  next = λ blocks sent more d. known_in c (Sending blocks (sent + 1)) tt;
  sent = known_in c (Answering Good task.length) good_known;
  fails = known_in c (Answering write_error task.length) error_known;
  read = λ blocks sent index state d. known_in c (Sending (with_block blocks index state (slice_get blocks index)) sent)
      tt;
  page = λ pages index state d. known_in c (ReadingArea (with_block pages index state (slice_get pages index))) tt;
  compares = λ blocks compared was d. known_in c (Comparing blocks compared true) tt;
  found = λ blocks compared was index state d.
      known_in c (Comparing (with_block blocks index state (slice_get blocks index)) compared was) tt;
}

-- a task that answers does nothing behind it, so what it does is known of every command
goes_known : (c : Option Cdb) (task : Task) (before deed : Deed) → IsKnownTask c before →
    deed_after task before ≡ Some deed → IsKnownDeed deed
goes_known (Some command) task before deed h e = goes IsKnownDeed task (known_deeds (Some command) task) before deed h e
goes_known None task (Answering status carried) deed h e = absurd (none-some deed e)
goes_known None task before deed h e = goes IsKnownDeed task (known_deeds (Some cdb.Nothing) task) before deed h e

-- data are answered GOOD, or with an error that is another one
answer_known : (n : ℕ) (status : Status) → IsAnswerOfData status → IsKnownDeed (Answering status n)
answer_known n Good IsGood = good_known
answer_known n status IsWriteError = error_known
answer_known n status IsWrongField = code_known 0x26 (λ e. omega arith)
answer_known n status IsOutOfRange = code_known 0x21 (λ e. omega arith)
answer_known n status IsOutOfSequence = code_known 0x2C (λ e. omega arith)

-- another key is another status
miscompare_known : miscompare ≢ invalid_operation
miscompare_known e = other (sense_key miscompare) refl (ap sense_key e)
  where
    other : (key : ℕ) → key ≡ 0x0E → key ≡ 5 → ⊥
    other key h k = omega arith

same_known : (task : Task) (blocks : List ReadBlock) (compared : ℕ) → IsKnownDeed (deed_after_same task blocks compared)
same_known task blocks compared = if_both IsKnownDeed (nat_lt (compared + 1) (length blocks)) tt good_known

known_law : (s : State) → IsTaskLaw Known (λ task deed. IsKnownDeed deed) Any s
known_law s = record {
  set = λ task deed found all known. set_keeps Known task.tag deed s.tasks (λ t is h. known_in t.command deed known)
      all;
  set_request = λ task request deed found all known.
      set_request_keeps Known task.tag request deed s.tasks (λ t is h. known_in t.command deed known) all;
  refused = λ r status is asks free e. tt;
  begins = λ r c is asks free e passed.
      (let b = begins s r (unit_or_first (unit_of_request s r)) c in (b.0, b.1, known_in b.0.command b.0.deed b.3));
  gathers = λ task purpose gathered bytes asked e h next more. tt;
  answers = λ task purpose gathered asked status e h is. answer_known task.length status (answer_one purpose status is);
  waits = λ task purpose gathered asked position e h. tt;
  reads_area = λ task purpose gathered asked pages e h. tt;
  same = λ task blocks compared asked e h. same_known task blocks compared;
  differs = λ task blocks compared asked block e there h. miscompare_known;
  goes = λ task deed e h. goes_known task.command task task.deed deed h e;
  fills = λ u task h. filled_keeps Known u task h h;
  locks = λ u task h. locks (IsKnownTask task.command) task (known_deeds task.command task) u task.deed h;
  reads = λ tag index state task h.
      read_keeps Known tag index state task (reads (IsKnownTask task.command) task (known_deeds task.command task) index
      state task.deed h) h;
}

pub call_known : (s : State) (call : Call) (answer : Answer) → IsSpoken call → Allowed s call answer → AllKnown s →
    AllKnown (observe s call answer)
call_known s call answer is may all = tasks_kept Known (λ task deed. IsKnownDeed deed) Any s (known_law s) all call
    answer is (any_asks call) may

opened_known : (s : State) → s.tasks ≡ [] → AllKnown s
opened_known s none = subst (Every Known) (sym none) tt

pub open_known : (n : Numbers) (array : Array) (bad : Spot → Bool) (s : State) → IsOpened n array bad s → AllKnown s
open_known n array bad s h = opened_known s h.no_tasks
