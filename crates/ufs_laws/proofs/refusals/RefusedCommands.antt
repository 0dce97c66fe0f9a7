-- Commands that are refused: each is a task that answers at once, whatever else the device is doing.
use Rattle.ufs_laws.proofs.Common.{Answering, Bool, Cdb, Gets, Heard, Host, IsIdle, List, Message, None, OfReply, Ok}
use Rattle.ufs_laws.proofs.Common.{Option, Reply, Request, Some, Spelled, State, Status, Task, [], ap, arith, cond-false}
use Rattle.ufs_laws.proofs.Common.{cond-true, false, fills, heard, if◌then◌else◌, invalid_field, lacks_unit, le-ltb}
use Rattle.ufs_laws.proofs.Common.{lock_applied, locked, lt-ltb, lun_of, map, nat_lt, no_unit, not, observe}
use Rattle.ufs_laws.proofs.Common.{out_of_range, refl, refusal, refused_or_begun, refused_state, response, result_of, row}
use Rattle.ufs_laws.proofs.Common.{short_locked, subst, sym, task_locked, true, with_task, ℕ, ◌-◌, ◌<◌, ◌==◌, ◌∙◌, ◌∷◌}
use Rattle.ufs_laws.proofs.Common.{◌≡◌, ◌≤◌}
use Rattle.ufs_laws.proofs.answers.OnlyAnswers.{host_gets, reply_gets}
use Rattle.ufs_laws.specs.Runs.{IsAnswered, read_bytes, read_of, refused}
use Rattle.ufs_spec.specs.Cdbs.{Residual, residual_of}
use Rattle.ufs_spec.specs.declared.operations.TheConstants.{READ_10}
use Rattle.ufs_spec.specs.Exchanges.{check, message_error, response_message}
use Rattle.ufs_spec.specs.Machine.{has_attribute}
use Rattle.ufs_spec.specs.Refusals.{UnitOf, is_told_anywhere, row_in, well_known}
use Rattle.ufs_spec.specs.declared.faults.HostFault.TheVariants.{Reserved}
use Rattle.ufs_spec.specs.declared.operations.Row.{Row}
use Rattle.std.specs.Prelude.{bit_and}
use Rattle.std.proofs.lemmas.Nat.{and_assoc}
use Rattle.ufs_spec.specs.declared.messages.Message.TheVariants as message
use Rattle.ufs_spec.specs.declared.scsi.Cdb.TheVariants as cdb

-- Idle states

-- what an idle state is
abbrev pub idle_state : State → State
idle_state s = record s { translation = record s.translation { numbers = row }; tasks = []; shorts = [] }

pub idle_is : (s : State) → IsIdle s → s ≡ idle_state s
idle_is s h i =
    record s
    { translation = record s.translation { numbers = h.numbers i }; tasks = h.no_tasks i; shorts = h.no_shorts i }

-- A command that is refused

abbrev refused_task : Request → Status → Task
refused_task r status =
    record {
      lun = r.lun;
      tag = r.tag;
      expected = r.expected;
      command = None;
      length = 0;
      deed = Answering status 0;
      request = None;
    }

-- a lock leaves a task that answers as it is
told_tasks : (s : State) (r : Request) (status : Status) (b : Bool) → s.tasks ≡ refused_task r status ∷ []
    → (if b then record s { tasks = map (task_locked s) s.tasks; shorts = map (short_locked s) s.shorts } else s).tasks
    ≡ refused_task r status ∷ []
told_tasks s r status false one = one
told_tasks s r status true one = ap (map (task_locked s)) one

told_shorts : (s : State) (b : Bool) → s.shorts ≡ []
    → (if b then record s { tasks = map (task_locked s) s.tasks; shorts = map (short_locked s) s.shorts } else s).shorts
    ≡ []
told_shorts s false none = none
told_shorts s true none = ap (map (short_locked s)) none

abbrev heard_as : Request → Heard
heard_as r = Spelled (message.Command r.flags r.lun r.tag r.expected r.bytes) r.cdb

abbrev answer_of : Request → Status → Message
answer_of r status = response r.lun r.tag r.expected 0 status

-- the state behind the command
abbrev behind : State → Request → Status → State
behind s r status = with_task (refused_state (idle_state s) r) r None 0 (Answering status 0)

behind_reply : (s : State) (r : Request) (status : Status) →
    Gets (lock_applied (behind s r status)) Reply (OfReply (Some (answer_of r status)))
behind_reply s r status =
    let t = behind s r status in
    reply_gets (lock_applied t) (refused_task r status) (answer_of r status)
    (told_tasks t r status (locked t) refl) (told_shorts t (locked t) refl) refl

is_behind : (s : State) (r : Request) (status : Status) → refusal (idle_state s) r ≡ Some status
    → observe (idle_state s) (Host (heard_as r)) heard ≡ lock_applied (behind s r status)
is_behind s r status e = ap (λ o. lock_applied (fills (refused_or_begun (idle_state s) r o))) e

idle_answers : (s : State) (r : Request) (status : Status) → has_attribute row r.flags ≡ false →
    refusal (idle_state s) r ≡ Some status → IsAnswered (idle_state s) (heard_as r) (answer_of r status)
idle_answers s r status plain e = record {
  taken =
      host_gets (idle_state s) (message.Command r.flags r.lun r.tag r.expected r.bytes) r.cdb (Ok tt)
      (ap result_of (sym (cond-false (has_attribute row r.flags) (Some Reserved) None plain)));
  reply =
      subst (λ t. Gets t Reply (OfReply (Some (answer_of r status)))) (sym (is_behind s r status e))
      (behind_reply s r status);
}

pub answers : (s : State) (r : Request) (status : Status) → IsIdle s → has_attribute row r.flags ≡ false →
    refusal (idle_state s) r ≡ Some status → IsAnswered s (heard_as r) (answer_of r status)
answers s r status h plain e =
    subst (λ t. IsAnswered t (heard_as r) (answer_of r status)) (sym (idle_is s h)) (idle_answers s r status plain e)

-- The four

abbrev request : ℕ → ℕ → ℕ → ℕ → List ℕ → Option Cdb → Request
request flags lun tag expected bytes c =
    record { flags = flags; lun = lun; tag = tag; expected = expected; bytes = bytes; cdb = c }

abbrev read_request : ℕ → ℕ → Bool → ℕ → ℕ → Request
read_request address blocks forced tag expected =
    request 0x40 0 tag expected (read_bytes address blocks forced) (Some (cdb.Read address blocks))

abbrev under : ℕ → Residual
under missing = record { flags = 0x20; count = missing }

-- all that was expected is missing
residual_under : (n : ℕ) → 0 < n → residual_of n 0 ≡ under n
residual_under n more =
    let none : n - 0 ≡ n = omega arith in
    let other : Residual =
    (if nat_lt n 0 then record { flags = 0x40; count = 0 - n } else record { flags = 0x00; count = 0 }) in
    ap (λ (b : Bool). if b then under (n - 0) else other) (lt-ltb 0 n more) ∙ ap under none

answer_under : (lun tag expected asc : ℕ) → 0 < expected →
    response lun tag expected 0 (check 0x05 asc) ≡ refused lun tag expected asc
answer_under lun tag expected asc more =
    ap (λ r. response_message r lun tag (check 0x05 asc)) (residual_under expected more)

no_such_unit : (lun : ℕ) → 3 ≤ lun → well_known lun ≡ None → lun_of row lun ≡ None
no_such_unit lun high other =
    ap (λ (b : Bool). if b then Some (UnitOf lun) else well_known lun) (le-ltb lun 3 high) ∙ other

pub lacks : (s : State) (r : Request) → 3 ≤ r.lun → well_known r.lun ≡ None → refusal (idle_state s) r ≡ Some no_unit
lacks s r high other =
    cond-true (lacks_unit (idle_state s) r (lun_of row r.lun)) (Some no_unit) _
    (ap (lacks_unit (idle_state s) r) (no_such_unit r.lun high other) ∙ not_told (row_in r))
  where
    -- no command is answered where there is no unit
    not_told : (o : Option Row) → not (is_told_anywhere row o) ≡ true
    not_told None = refl
    not_told (Some other) = refl

-- flags without a priority and a task attribute
pub plain_flags : (flags : ℕ) → bit_and flags 0x07 ≡ 0 → has_attribute row flags ≡ false
plain_flags flags plain = ap (λ (bits : ℕ). not (bits == 0)) plain

-- have none of the two bits of the attribute
pub simple_flags : (flags : ℕ) → bit_and flags 0x07 ≡ 0 → not (bit_and flags 0x03 == 0) ≡ false
simple_flags flags plain =
    ap (λ (bits : ℕ). not (bits == 0)) (sym (and_assoc 0x03 flags 0x07) ∙ ap (λ (bits : ℕ). bit_and bits 0x03) plain)

pub past_the_end : (s : State) (forced : Bool) (tag : ℕ) → IsIdle s →
    IsAnswered s (read_of 256 1 forced tag 4096) (refused 0 tag 4096 0x21)
past_the_end s true tag h = answers s (read_request 256 1 true tag 4096) out_of_range h refl refl
past_the_end s false tag h = answers s (read_request 256 1 false tag 4096) out_of_range h refl refl

pub too_many_blocks : (s : State) (address : ℕ) (forced : Bool) (tag : ℕ) → IsIdle s →
    IsAnswered s (read_of address 33 forced tag 0x21000) (refused 0 tag 0x21000 0x24)
too_many_blocks s address true tag h = answers s (read_request address 33 true tag 0x21000) invalid_field h refl refl
too_many_blocks s address false tag h = answers s (read_request address 33 false tag 0x21000) invalid_field h refl refl

pub not_a_unit : (s : State) (flags lun tag expected : ℕ) (bytes : List ℕ) (c : Option Cdb) → IsIdle s →
    bit_and flags 0x07 ≡ 0 → 3 ≤ lun → well_known lun ≡ None → 0 < expected
    → IsAnswered s (Spelled (message.Command flags lun tag expected bytes) c) (refused lun tag expected 0x25)
not_a_unit s flags lun tag expected bytes c h plain high other more =
    let r = request flags lun tag expected bytes c in
    subst (IsAnswered s (heard_as r)) (answer_under lun tag expected 0x25 more)
    (answers s r no_unit h (plain_flags flags plain) (lacks s r high other))

pub no_command : (s : State) (flags tag expected : ℕ) (rest : List ℕ) → IsIdle s → bit_and flags 0x07 ≡ 0 →
    0 < expected → IsAnswered s (Spelled (message.Command flags 0 tag expected (READ_10 ∷ rest)) None) (refused 0 tag expected 0x24)
no_command s flags tag expected rest h plain more =
    let r = request flags 0 tag expected (READ_10 ∷ rest) None in
    subst (IsAnswered s (heard_as r)) (answer_under 0 tag expected 0x24 more)
    (answers s r invalid_field h (plain_flags flags plain)
    (cond-false (not (bit_and flags 0x03 == 0)) (Some message_error) (Some invalid_field) (simple_flags flags plain)))
