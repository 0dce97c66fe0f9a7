-- What a call makes of the exchanges, behind what it does first: one happening of few kinds, for a reason. This is the
-- one walk through messages, data and replies; what follows of it is a case for each kind (`behind_by`).
use Rattle.ufs_laws.proofs.Common.{Allowed, Answer, Answering, AreBytes, Array, Bool, Call, Cdb, Claim, Command}
use Rattle.ufs_laws.proofs.Common.{Comparing, Deed, ReadBlock, slice_get}
use Rattle.ufs_laws.proofs.Common.{Done, EndJob, Ending, Erasing, Faulty, Flight, ForTask, Gathering, GiveJob, Host}
use Rattle.ufs_laws.proofs.Common.{HostFault, IsSpoken, List, Message, None, NotRead, OfDone, OfHost, OfReply, OfTake}
use Rattle.ufs_laws.proofs.Common.{OfTurn, Option, Programming, Purpose, Query, ReadState, ReadWrong, Reader, Reading}
use Rattle.ufs_laws.proofs.Common.{Reply, Request, Short, Some, Spelled, State, Status, Take, TakeStep, Task, Turn}
use Rattle.ufs_laws.proofs.Common.{WasRead, WentWrong, [], accepts, and_parts, apply, begun, behind, count_at}
use Rattle.ufs_laws.proofs.Common.{deed_after, eqb-true, false, find, if_cases, if◌then◌else◌, is_aborted}
use Rattle.ufs_laws.proofs.Common.{is_asked_of, is_short_of, is_task_of, length, map, mended, moves_after, nat_le, nat_lt}
use Rattle.ufs_laws.proofs.Common.{none-some, not, numbers_of, plain_now, query_passed, refl, refusal, refused_or_begun}
use Rattle.ufs_laws.proofs.Common.{refused_state, replied_by, result_of, same_Some, service, set_deed, setting_of}
use Rattle.ufs_laws.proofs.Common.{short_replied, short_reply, subst, sym, tag_in, task_goes_on, task_of, task_read}
use Rattle.ufs_laws.proofs.Common.{true, unit_of_request, unit_or_first, with_moves, with_short, with_task}
use Rattle.ufs_laws.proofs.Common.{without_tasks, ℕ, ◌&&◌, ◌*◌, ◌++◌, ◌+◌, ◌==◌, ◌∷◌, ◌≡◌}
use Rattle.std.specs.Prelude.{Err, Ok}
use Rattle.ufs_spec.specs.Exchanges.{is_asked_in, most_tasks, number_of, to_gather}
use Rattle.ufs_spec.specs.DataOuts.{block_compared, block_differs, block_same}
use Rattle.ufs_spec.specs.Rpmb.{same_bytes}
use Rattle.ufs_spec.specs.Machine.{array_after, asked_fault, begun_if_any, command_taken, data_for, data_heard}
use Rattle.ufs_spec.specs.Machine.{NoEvent, ends_with, has_attribute, heard, in_use, link_reset, opening_fault}
use Rattle.ufs_spec.specs.Machine.{read_noted}
use Rattle.ufs_spec.specs.Moves.{ReadRight, WentWell}
use Rattle.ufs_spec.specs.Queries.{query_code, volatile_after}
use Rattle.ufs_spec.specs.QueryAnswers.{may_set, query_done, query_failed, query_heard}
use Rattle.ufs_spec.specs.declared.faults.HostFault.TheVariants.{NotAskedFor, Reserved, TagInUse}
use Rattle.ufs_spec.specs.declared.messages.Message.TheVariants as message
use Rattle.ufs_spec.specs.declared.layer.Reader.TheVariants.{ForNobody, ForRest, ForStep}
use Rattle.ufs_laws.proofs.walk.WaysOfData.{Completion, WhyCompleted, completed, completes_by}
use Rattle.ufs_laws.proofs.exchanges.TaskManagement.{unmanaged}
use Rattle.ufs_spec.proofs.Facts.{eqb-false}
use Rattle.ufs_spec.specs.Management.{volatile_managed}
use Rattle.ufs_spec.specs.declared.volatile.Volatile.{Volatile}

-- ## What a call does first

-- the dies and the pages where a job is over
abbrev pub job_over : State → ℕ → Option Flight → Ending → Array → State
job_over s die None ending left = s
job_over s die (Some flight) ending left =
    record (with_moves s (EndJob die ending ∷ [])) { array = array_after s flight ending left }

abbrev pub first : State → Call → Answer → State
first s (Take die) (OfTake (Some flight)) = with_moves s (GiveJob die flight ∷ [])
first s (Done die ending left) (OfDone true) = job_over s die (s.translation.disk.flights die) ending left
first s Turn (OfTurn due) = with_moves s (TakeStep ∷ [])
first s call answer = s

-- ## What happens then

pub data Happening : Type 0 where
  NothingMore : Happening
  -- a message is answered by a short exchange; a query leaves so what is volatile, or is a setting that is accepted
  Replies : (short : Short) → Happening
  Tells : (volatile : Volatile) → (short : Short) → Happening
  Sets : (command : Command) → (short : Short) → Happening
  -- a command is refused, or begins
  Refuses : (r : Request) → (status : Status) → Happening
  Begins : (r : Request) → (command : Cdb) → Happening
  -- a task gets data: it goes on, or has all of them
  Gathers : (task : Task) → (purpose : Purpose) → (all : List ℕ) → Happening
  Completes : (task : Task) → (completion : Completion) → Happening
  -- a task compares data with its next block: they are the same, or others
  IsSame : (task : Task) → (blocks : List ReadBlock) → (compared : ℕ) → Happening
  Differs : (task : Task) → (compared : ℕ) → Happening
  -- tasks are aborted; a reset leaves so what is volatile
  Aborts : (volatile : Volatile) → (is : Task → Bool) → (short : Short) → Happening
  -- the link was reset
  Resets : (kind : ℕ) → Happening
  -- a reply is handed out, and the task goes on or is over, or the short exchange is
  GoesOn : (task : Task) → (deed : Deed) → Happening
  IsOver : (task : Task) → Happening
  ShortOver : (short : Short) → Happening
  -- a block of a task was read, or could not be
  BlockRead : (tag index : ℕ) → (state : ReadState) → Happening

abbrev pub happened : State → Happening → State
happened s NothingMore = s
happened s (Replies short) = with_short s short
happened s (Tells volatile short) = with_short (record s { volatile = volatile }) short
happened s (Sets command short) = with_short (accepts (with_moves s (Claim 1 ∷ [])) command 1) short
happened s (Refuses r status) = with_task (refused_state s r) r None 0 (Answering status 0)
happened s (Begins r c) = begun s r (unit_or_first (unit_of_request s r)) c
happened s (Gathers task purpose all) = set_deed s task.tag (Gathering purpose all false)
happened s (Completes task completion) = completed s task completion
happened s (IsSame task blocks compared) = block_same s task blocks compared
happened s (Differs task compared) = block_differs s task compared
happened s (Aborts volatile is short) = with_short (without_tasks (record s { volatile = volatile }) is) short
happened s (Resets kind) = link_reset s kind
happened s (GoesOn task deed) = set_deed (with_moves s (moves_after task task.deed)) task.tag deed
happened s (IsOver task) = task_goes_on (with_moves s (moves_after task task.deed)) task None
happened s (ShortOver short) = short_replied s (Some short)
happened s (BlockRead tag index state) = record s { tasks = map (task_read tag index state) s.tasks }

-- ## Why

-- the call is a COMMAND of this request, with a tag that is free
abbrev pub IsCommand : Call → Request → Type 0
IsCommand (Host (Spelled (message.Command flags lun tag expected bytes) c)) r =
    r ≡ record { flags = flags; lun = lun; tag = tag; expected = expected; bytes = bytes; cdb = c }
IsCommand call r = ⊥

pub record IsAsked (s : State) (call : Call) (answer : Answer) (r : Request) : Type 0 where
  pub is : IsCommand call r
  pub free : Allowed s call answer → in_use s false r.tag ≡ false

-- the call is this query, with this tag
abbrev pub IsQueryOf : Call → ℕ → Query → Type 0
IsQueryOf (Host (Spelled (message.QueryRequest tag function asked size value «data») c)) t q =
    (t ≡ tag) × (q ≡ record { function = function; asked = asked; length = size; value = value })
IsQueryOf call t q = ⊥

-- the call is a task management request with this LUN and this function
abbrev pub IsRequestOf : Call → (lun function : ℕ) → Type 0
IsRequestOf (Host (Spelled (message.TaskRequest lun tag function meant) c)) l f = (l ≡ lun) × (f ≡ function)
IsRequestOf call l f = ⊥

-- the call is a LINK EVENT of this kind
abbrev pub IsEventOf : Call → (kind : ℕ) → Type 0
IsEventOf (Host (Spelled (message.LinkEvent kind) c)) k = k ≡ kind
IsEventOf call k = ⊥

-- the code by which a query is answered
abbrev pub code_of_query : State → Query → ℕ
code_of_query s q = query_code (numbers_of s) (plain_now s) (may_set s) q

-- the query succeeds
pub record IsSuccess (s : State) (call : Call) (tag : ℕ) (q : Query) : Type 0 where
  pub is : IsQueryOf call tag q
  pub code : code_of_query s q ≡ 0x00

-- the exchange of a setting, that waits until the setting is durable
abbrev pub setting_short : State → ℕ → Query → Command → Short
setting_short s tag q c =
    record {
      tag = tag;
      awaits = Some (length s.accepted + 1);
      reply = query_done (numbers_of s) (apply (plain_now s) c) s.volatile tag q;
      locked_reply = query_failed tag q 0xFF;
    }

-- the exchange of a query that is answered at once
abbrev pub told_short : State → Volatile → ℕ → Query → Short
told_short s volatile tag q = short_reply tag (query_done (numbers_of s) (plain_now s) volatile tag q)

-- the task gathers for this purpose, and the data are bytes, as many as it asked for
pub record GetsData (s : State) (call : Call) (answer : Answer) (task : Task) (purpose : Purpose) : Type 0 where
  pub found : task_of task.tag s.tasks ≡ Some task
  pub gathered : List ℕ
  pub more : List ℕ
  pub asked : Bool
  pub deed : task.deed ≡ Gathering purpose gathered asked
  pub next : Allowed s call answer → length more ≡ count_at (to_gather purpose task.length) (length gathered)
  pub are_bytes : IsSpoken call → AreBytes more

-- the task compares its blocks, so many of which were compared, and there is one more
pub record Compares (s : State) (call : Call) (answer : Answer) (task : Task) (blocks : List ReadBlock)
    (compared : ℕ) : Type 0 where
  pub found : task_of task.tag s.tasks ≡ Some task
  pub asked : Bool
  pub deed : task.deed ≡ Comparing blocks compared asked
  pub block : ReadBlock
  pub there : slice_get blocks compared ≡ Some block
  pub was : Allowed s call answer → asked ≡ true

abbrev pub Why : State → Call → Answer → Happening → Type 0
Why s call answer (Tells volatile short) =
    (tag : ℕ) × (q : Query) × IsSuccess s call tag q × (setting_of q ≡ None)
    × (volatile ≡ volatile_after (numbers_of s) (mended s) s.volatile q) × (short ≡ told_short s volatile tag q)
Why s call answer (Sets command short) =
    (tag : ℕ) × (q : Query) × IsSuccess s call tag q × (setting_of q ≡ Some command)
    × (short ≡ setting_short s tag q command)
Why s call answer (Refuses r status) = IsAsked s call answer r × (refusal s r ≡ Some status)
Why s call answer (Begins r c) = IsAsked s call answer r × (r.cdb ≡ Some c) × (refusal s r ≡ None)
Why s call answer (Gathers task purpose all) =
    (d : GetsData s call answer task purpose) × (all ≡ d.gathered ++ d.more) × (nat_lt (length all) (to_gather purpose task.length) ≡ true)
Why s call answer (Completes task completion) =
    (purpose : Purpose) × (d : GetsData s call answer task purpose)
    × WhyCompleted s task purpose (d.gathered ++ d.more) completion
Why s call answer (IsSame task blocks compared) = Compares s call answer task blocks compared
Why s call answer (Differs task compared) =
    (blocks : List ReadBlock) × Compares s call answer task blocks compared
Why s call answer (Aborts volatile is short) =
    (lun : ℕ) × (function : ℕ) × IsRequestOf call lun function × (volatile ≡ volatile_managed s lun function)
Why s call answer (Resets kind) = IsEventOf call kind
Why s call answer (GoesOn task deed) =
    (task_of task.tag s.tasks ≡ Some task) × (deed_after task task.deed ≡ Some deed)
Why s call answer (IsOver task) = task_of task.tag s.tasks ≡ Some task
Why s call answer happening = Unit {0}

-- ## Tasks that are found

-- what is found is what is sought
pub found_tag : (tag : ℕ) (tasks : List Task) (task : Task) → task_of tag tasks ≡ Some task →
    is_task_of tag task ≡ true
found_tag tag [] task e = absurd (none-some task e)
found_tag tag (t ∷ ts) task e = by (is_task_of tag t) refl e (λ k. found_tag tag ts task k)
  where
    by : (b : Bool) → is_task_of tag t ≡ b → (if b then Some t else find (is_task_of tag) ts) ≡ Some task →
        (find (is_task_of tag) ts ≡ Some task → is_task_of tag task ≡ true) → is_task_of tag task ≡ true
    by true k e rest = subst (λ (x : Task). is_task_of tag x ≡ true) (same_Some t task e) k
    by false k e rest = rest e

found_self : (tag : ℕ) (tasks : List Task) (task : Task) → task_of tag tasks ≡ Some task →
    task_of task.tag tasks ≡ Some task
found_self tag tasks task e =
    subst (λ (x : ℕ). task_of x tasks ≡ Some task) (sym (eqb-true task.tag tag (found_tag tag tasks task e))) e

-- ## What is taken

pub is_asked : (b : Bool) → asked_fault b ≡ None → b ≡ true
is_asked true e = refl
is_asked false e = absurd (none-some NotAskedFor (sym e))

-- what is taken has no fault
pub not_refused : (fault : Option HostFault) (done : Unit) → Ok done ≡ result_of fault → fault ≡ None
not_refused None done e = refl
not_refused (Some fault) done e = let other : Ok done ≡ Err fault = e in cc

-- a COMMAND that is taken may open an exchange
pub may_open : (s : State) (flags : ℕ) (rest : Option HostFault) →
    (if has_attribute (numbers_of s) flags then Some Reserved else rest) ≡ None → rest ≡ None
may_open s flags rest =
    if_cases (λ (x : Option HostFault). x ≡ None → rest ≡ None) (has_attribute (numbers_of s) flags)
    (λ has e. absurd (none-some Reserved (sym e))) (λ has e. e)

is_unused : (s : State) (manages : Bool) (tag : ℕ) (short : Bool) → opening_fault s manages tag short ≡ None →
    in_use s manages tag ≡ false
is_unused s manages tag short =
    if_cases (λ x. x ≡ None → in_use s manages tag ≡ false) (in_use s manages tag) (λ used e. absurd (none-some TagInUse (sym e)))
    (λ free e. free)

-- ## The walk

-- each happening that has its reason
abbrev Each : (State → Type 0) → State → State → Call → Answer → Type 0
Each P s first call answer = (h : Happening) → Why s call answer h → P (happened first h)

module _ (P : State → Type 0) (s : State) (call : Call) (answer : Answer) (each : Each P s s call answer) where
  -- Commands

  opened_by : (r : Request) (refused : Option Status) → IsAsked s call answer r → refusal s r ≡ refused →
      P (refused_or_begun s r refused)
  opened_by r (Some status) is e = each (Refuses r status) (is, e)
  opened_by r None is e = by r.cdb refl
    where
      by : (c : Option Cdb) → r.cdb ≡ c → P (begun_if_any s r c)
      by None k = each NothingMore tt
      by (Some c) k = each (Begins r c) (is, k, e)

  command_by : (r : Request) → IsAsked s call answer r → P (command_taken s r)
  command_by r is =
      if_cases P (nat_le most_tasks (length s.tasks)) (λ e. each (Replies _) tt)
      (λ e. opened_by r (refusal s r) is refl)

  -- Data

  data_by : (task : Task) (deed : Deed) (lun offset : ℕ) (more : List ℕ) → task_of task.tag s.tasks ≡ Some task →
      task.deed ≡ deed →
      (Allowed s call answer → is_asked_in task lun offset (length more) deed ≡ true) → (IsSpoken call → AreBytes more) →
      P (data_for s task deed more)
  data_by task (Gathering purpose gathered asked) lun offset more found e right are =
      if_cases P (nat_lt (length (gathered ++ more)) (to_gather purpose task.length))
      (λ few. each (Gathers task purpose (gathered ++ more)) (d, refl, few))
      (λ over. completes_by P s task purpose (gathered ++ more) (λ k why. each (Completes task k) (purpose, d, why)))
    where
      d : GetsData s call answer task purpose
      d = record {
        found = found;
        gathered = gathered;
        more = more;
        asked = asked;
        deed = e;
        next = λ may.
            eqb-true (length more) (count_at (to_gather purpose task.length) (length gathered))
            (and_parts (asked && (task.lun == lun) && (offset == length gathered)) _ (right may)).1;
        are_bytes = are;
      }
  data_by task (Comparing blocks compared asked) lun offset more found e right are = by (slice_get blocks compared) refl
    where
      was : Allowed s call answer → asked ≡ true
      was may =
          (and_parts asked (task.lun == lun)
          (and_parts (asked && (task.lun == lun)) (offset == 4096 * compared)
          (and_parts (asked && (task.lun == lun) && (offset == 4096 * compared)) _ (right may)).0).0).0

      by : (o : Option ReadBlock) → slice_get blocks compared ≡ o → P (block_compared s task blocks compared o more)
      by None there = each NothingMore tt
      by (Some block) there =
          let d : Compares s call answer task blocks compared =
          record { found = found; asked = asked; deed = e; block = block; there = there; was = was } in
          if_cases P (same_bytes more block.body) (λ same. each (IsSame task blocks compared) d)
          (λ other. each (Differs task compared) (blocks, d))
  data_by task deed lun offset more found e right are = each NothingMore tt

  -- Queries

  query_by : (tag : ℕ) (q : Query) → IsQueryOf call tag q → P (query_heard s tag q)
  query_by tag q is =
      if_cases P ((code_of_query s q == 0x00) && not (q.asked.opcode == 0))
      (λ e. passed (setting_of q) (record { is = is; code = succeeds e }) refl)
      (λ e. each (Replies _) tt)
    where
      succeeds : ((code_of_query s q == 0x00) && not (q.asked.opcode == 0)) ≡ true → code_of_query s q ≡ 0x00
      succeeds e =
          eqb-true (code_of_query s q) 0x00 (and_parts (code_of_query s q == 0x00) (not (q.asked.opcode == 0)) e).0

      passed : (o : Option Command) → IsSuccess s call tag q → setting_of q ≡ o → P (query_passed s tag q o)
      passed None ok e = each (Tells _ _) (tag, q, ok, e, refl, refl)
      passed (Some c) ok e = each (Sets c _) (tag, q, ok, e, refl)

  data_heard_by : (tag lun offset : ℕ) (o : Option Task) (more : List ℕ) → task_of tag s.tasks ≡ o →
      (Allowed s call answer → is_asked_of o lun offset (length more) ≡ true) → (IsSpoken call → AreBytes more) →
      P (data_heard s o more)
  data_heard_by tag lun offset None more e right are = each NothingMore tt
  data_heard_by tag lun offset (Some task) more e right are =
      data_by task task.deed lun offset more (found_self tag s.tasks task e) refl right are

  -- Replies

  task_by : (task : Task) (deed : Option Deed) → task_of task.tag s.tasks ≡ Some task →
      deed_after task task.deed ≡ deed →
      P (task_goes_on (with_moves s (moves_after task task.deed)) task deed)
  task_by task (Some deed) found e = each (GoesOn task deed) (found, e)
  task_by task None found e = each (IsOver task) found

  short_by : (o : Option Short) → P (short_replied s o)
  short_by None = each NothingMore tt
  short_by (Some short) = each (ShortOver short) tt

  replied_by_kind : (tag : ℕ) (o : Option Task) → task_of tag s.tasks ≡ o → P (replied_by s tag o)
  replied_by_kind tag (Some task) e = task_by task (deed_after task task.deed) (found_self tag s.tasks task e) refl
  replied_by_kind tag None e = short_by (find (is_short_of tag) s.shorts)

-- Messages

heard_by : (P : State → Type 0) (s : State) (m : Message) (c : Option Cdb) (done : Unit) →
    Each P s s (Host (Spelled m c)) (OfHost (Ok done)) → P (heard s m c)
heard_by P s (message.Command flags lun tag expected bytes) c done each =
    command_by P s _ _ each
    (record { flags = flags; lun = lun; tag = tag; expected = expected; bytes = bytes; cdb = c })
    (record { is = refl; free = λ may. is_unused s false tag _ (may_open s flags _ (not_refused _ done may)) })
heard_by P s (message.DataOut lun tag offset «data») c done each =
    data_heard_by P s _ _ each tag lun offset (task_of tag s.tasks) «data».items refl
    (λ may. is_asked _ (not_refused _ done may)) (λ is. is.1.0.0.3.2)
heard_by P s (message.TaskRequest lun tag function meant) c done each =
    if_cases
    (λ t. P (with_short t
    (short_reply (number_of true tag) (message.TaskResponse lun tag (service s lun function meant)))))
    (service s lun function meant == 0x00)
    (λ e. each (Aborts _ (is_aborted lun function meant) _) (lun, function, (refl, refl), refl))
    (λ e. subst (λ (v : Volatile). P (with_short (record s { volatile = v })
    (short_reply (number_of true tag) (message.TaskResponse lun tag (service s lun function meant)))))
    (sym (unmanaged s lun function meant (eqb-false (service s lun function meant) 0x00 e))) (each (Replies _) tt))
heard_by P s (message.NopOut tag) c done each = each (Replies _) tt
heard_by P s (message.QueryRequest tag function asked size value «data») c done each =
    query_by P s _ _ each tag (record { function = function; asked = asked; length = size; value = value }) (refl, refl)
heard_by P s (message.LinkEvent kind) c done each = each (Resets kind) refl
heard_by P s m c done each = each NothingMore tt

-- The ends of jobs

abbrev ended_over : State → ℕ → Ending → Array → State
ended_over s die ending array = record (with_moves s (EndJob die ending ∷ [])) { array = array }

read_by : (P : State → Type 0) (s : State) (die : ℕ) (reader : Reader) (state : ReadState) (array : Array)
    (ending : Ending) → ((tag index : ℕ) → P (happened (ended_over s die ending array) (BlockRead tag index state))) →
    P (ended_over s die ending array) →
    P (with_moves (record (read_noted s reader state) { array = array }) (EndJob die ending ∷ []))
read_by P s die (ForTask tag index) state array ending told none = told tag index
read_by P s die ForStep state array ending told none = none
read_by P s die (ForRest number index) state array ending told none = none
read_by P s die ForNobody state array ending told none = none

-- behind the end of a job a task is told at most that a block of it was read, or not
pub ends_by : (P : State → Type 0) (s : State) (die : ℕ) (o : Option Flight) (ending : Ending) (left : Array) →
    ((tag index : ℕ) (state : ReadState) → P (happened (job_over s die o ending left) (BlockRead tag index state))) →
    P (job_over s die o ending left) → P (ends_with s die o ending left)
ends_by P s die (Some (Reading reader place)) ReadRight left told none =
    read_by P s die reader WasRead _ ReadRight (λ tag index. told tag index WasRead) none
ends_by P s die (Some (Reading reader place)) ReadWrong left told none =
    read_by P s die reader NotRead _ ReadWrong (λ tag index. told tag index NotRead) none
ends_by P s die None ending left told none = none
ends_by P s die (Some (Reading reader place)) WentWell left told none = none
ends_by P s die (Some (Reading reader place)) (WentWrong cells) left told none = none
ends_by P s die (Some (Programming place cell)) ending left told none = none
ends_by P s die (Some (Erasing spot)) ending left told none = none

-- Calls

-- what holds of each happening that has its reason holds of a call
pub behind_by : (P : State → Type 0) (s : State) (call : Call) (answer : Answer) →
    Each P s (first s call answer) call answer → P (behind s call answer)
behind_by P s (Host (Spelled m c)) (OfHost (Ok done)) each = heard_by P s m c done each
behind_by P s (Host (Faulty fault)) (OfHost (Ok done)) each = each NothingMore tt
behind_by P s (Host NoEvent) (OfHost (Ok done)) each = each NothingMore tt
behind_by P s (Take die) (OfTake None) each = each NothingMore tt
behind_by P s (Take die) (OfTake (Some flight)) each = each NothingMore tt
behind_by P s (Done die ending left) (OfDone true) each =
    ends_by P s die (s.translation.disk.flights die) ending left
    (λ tag index state. each (BlockRead tag index state) tt)
    (each NothingMore tt)
behind_by P s Turn (OfTurn due) each = each NothingMore tt
behind_by P s Reply (OfReply (Some m)) each =
    replied_by_kind P s _ _ each (tag_in m) (task_of (tag_in m) s.tasks) refl
behind_by P s call answer each = each NothingMore tt
