-- A promising command from its COMMAND to its GOOD: how it begins, and what holds once GOOD was handed out.
use Rattle.power_loss.proofs.Common.{◌≡◌, ℕ, ◌*◌, ◌≤◌, ◌==◌, Bool, true, false, List, [], ◌∷◌, ◌++◌, length, Option}
use Rattle.power_loss.proofs.Common.{Some, None, inl, inr, refl, sym, ap, ◌∙◌, subst, arith, Ok, nat_le, AllByRecursion}
use Rattle.power_loss.proofs.Common.{list_any, nat_tests, false≢true, none-some, same_Some, eqb-self, Claim, drop_all}
use Rattle.power_loss.proofs.Common.{Group, drop, ⊎_elim, cases_Bool, not}
use Rattle.power_loss.proofs.MachineWords.{Command, Answering, Awaiting, Deed, ForWrite, Gathering, Good, Short, Status}
use Rattle.power_loss.proofs.MachineWords.{Task, TaskSetFull, is_task_of, response}
use Rattle.power_loss.proofs.MachineWords.{short_reply, task_of, Life, held, Reply, Due, OfHost, Host, IsCdbIn, OfReply}
use Rattle.power_loss.proofs.MachineWords.{begun_if_any, command_taken, deed_reply, message_fault, refused_or_begun}
use Rattle.power_loss.proofs.MachineWords.{opens_short, tag_in, unit_or_first, with_moves, with_short, with_task}
use Rattle.power_loss.proofs.MachineWords.{most_tasks, Line, Request, State, first_line, lines_after}
use Rattle.power_loss.proofs.MachineWords.{refusal, unit_of_request, Event, Output}
use Rattle.power_loss.proofs.MachineWords.{Message, Cdb, IsTied, ValidState, IsReplied, has_task}
use Rattle.std.specs.Prelude.{if◌then◌else◌}
use Rattle.ufs_spec.specs.Exchanges.{ready_message}
use Rattle.ufs_spec.specs.Begins.{of_write, write_begun}
use Rattle.ufs_spec.specs.Refusals.{blocks_brought, numbers_of}
use Rattle.ufs_laws.proofs.refusals.WholeWrites.{all_come}
use Rattle.ufs_spec.specs.declared.events.Event.TheVariants as event
use Rattle.ufs_spec.specs.declared.events.Output.TheVariants as output
use Rattle.ufs_spec.specs.declared.scsi.Cdb.TheVariants as cdb
use Rattle.ufs_laws.proofs.lives.AcceptedAndHeldGrow.{accepted_grows}
use Rattle.ufs_laws.proofs.lives.HeldAlongLives.{life_grows, life_held, task_held}
use Rattle.power_loss.specs.Promises.{IsAnsweredGood, IsGood, IsHeldWrite, IsTaken, command_message, heard_command}
use Rattle.power_loss.proofs.calls.CallsKeepTied.{no_fault, spelled_is}
use Rattle.power_loss.proofs.lives.EachEventKeeps.{one_event}
use Rattle.power_loss.proofs.open_tasks.FoundInLists.{found_last, none_found}
use Rattle.power_loss.proofs.host_commands.OpenedByCommands.{is_free, opened_task}
use Rattle.power_loss.proofs.host_commands.PassedCommands.{passed, unit_told, write_changes}
use Rattle.power_loss.proofs.open_tasks.TaskLists.{found_task, no_task_found, short_fits_at}
use Rattle.power_loss.proofs.kept_promises.PromisedCommands.{IsMet, KeepsTo, NotGood, OfFlush, OfWrite, Promise}
use Rattle.power_loss.proofs.kept_promises.PromisedCommands.{TrackedIn, first_of, met_more}
use Rattle.power_loss.proofs.kept_promises.CallsKeepPromises.{carried_tracks, carries_open, closed, settled_open}
use Rattle.power_loss.proofs.kept_promises.CallsKeepPromises.{settled_tracks}
use Rattle.ufs_laws.proofs.exchanges.AbortedTasks.{reply_tag}
use Rattle.ufs_laws.proofs.walk.Happenings.{may_open}
use Rattle.ufs_spec.specs.Refusals.{mended, refused_state, table}
use Rattle.ufs_laws.proofs.plain_contents.GroupsOfCommands.{length-groups}

-- The COMMAND

-- each line of the table refuses with another status than GOOD
abbrev AreBad : List Line → Type 0
AreBad = AllByRecursion (λ (l : Line). NotGood l.status)

first_bad : (ls : List Line) (status : Status) → AreBad ls → first_line ls ≡ Some status → NotGood status
first_bad [] status all e = absurd (none-some status e)
first_bad (l ∷ ls) status all e = by l.applies e (first_bad ls status all.1)
  where
    by : (b : Bool) → (if b then Some l.status else first_line ls) ≡ Some status →
        (first_line ls ≡ Some status → NotGood status) → NotGood status
    by true k rest = subst NotGood (same_Some l.status status k) all.0
    by false k rest = rest k

lines_bad : (s : State) (r : Request) (c : Option Cdb) → AreBad (lines_after s r c)
lines_bad s r None = (tt, tt)
lines_bad s r (Some c) = (tt, (tt, (tt, (tt, (tt, (tt, (tt, (tt, (tt, (tt, (tt, (tt, (tt, tt)))))))))))))

refused_bad : (s : State) (r : Request) {status : Status} → refusal s r ≡ Some status → NotGood status
refused_bad s r {status} e = first_bad (table s r) status (tt, (tt, (tt, (tt, lines_bad s r r.cdb)))) e

-- a task that is opened
opens : (p : Promise) (s : State) (r : Request) (c : Option Cdb) (n : ℕ) (deed : Deed) →
    list_any (is_task_of r.tag) s.tasks ≡ false → KeepsTo p s.accepted [] deed →
    first_of p ≤ length s.accepted → TrackedIn p r.tag [] (with_task s r c n deed)
opens p s r c n deed none keeps later =
    let x = opened_task r c n deed in
    record {
      task = x;
      there = found_last (is_task_of r.tag) s.tasks x none (eqb-self r.tag);
      keeps = keeps;
      later = later;
    }

-- what a COMMAND of this kind promises
abbrev pub IsPromise : State → Request → Promise → Type 0
IsPromise s r p = (u : State) → list_any (is_task_of r.tag) s.tasks ≡ false → refusal s r ≡ None →
    u ≡ begun_if_any s r r.cdb → TrackedIn p r.tag [] u

opened_tracks : (p : Promise) (s : State) (r : Request) → list_any (is_task_of r.tag) s.tasks ≡ false →
    first_of p ≤ length s.accepted → IsPromise s r p → (x : Option Status) → refusal s r ≡ x →
    TrackedIn p r.tag [] (refused_or_begun s r x)
opened_tracks p s r none later is (Some status) e =
    opens p (refused_state s r) r None 0 (Answering status 0) none (refused_bad s r e) later
opened_tracks p s r none later is None e = is (begun_if_any s r r.cdb) none e refl

command_tracks : (p : Promise) (s : State) (r : Request) → list_any (is_task_of r.tag) s.tasks ≡ false →
    first_of p ≤ length s.accepted → IsPromise s r p →
    has_task r.tag (command_taken s r) ≡ true → TrackedIn p r.tag [] (command_taken s r)
command_tracks p s r none later is still = by (nat_le most_tasks (length s.tasks)) still
  where
    by : (b : Bool) →
        has_task r.tag (if b then with_short s (short_reply r.tag (response r.lun r.tag r.expected 0 TaskSetFull))
        else refused_or_begun s r (refusal s r)) ≡ true →
        TrackedIn p r.tag [] (if b then with_short s (short_reply r.tag (response r.lun r.tag r.expected 0 TaskSetFull))
        else refused_or_begun s r (refusal s r))
    by true k = closed r.tag s.tasks (none_found (is_task_of r.tag) s.tasks none) k
    by false k = opened_tracks p s r none later is (refusal s r) refl

taken_tracks : (p : Promise) {s t : State} {r : Request} → IsTaken s r t → first_of p ≤ length s.accepted →
    IsPromise s r p → has_task r.tag t ≡ true → TrackedIn p r.tag [] t
taken_tracks p {s = s} {r = r} taken later is still =
    let fault = no_fault (message_fault s (command_message r)) taken.right in
    let free = is_free s false r.tag (opens_short s (command_message r)) (may_open s r.flags _ fault) in
    let open_now = settled_open r.tag (command_taken s r) (subst (λ (x : State). has_task r.tag x ≡ true) taken.next
    still) in
    subst (TrackedIn p r.tag []) (sym taken.next)
    (settled_tracks p r.tag [] (command_taken s r) (command_tracks p s r free.no_task later is open_now))

taken_valid : {s t : State} {r : Request} → ValidState s → IsTaken s r t → ValidState t
taken_valid {s} {t} {r} v taken = one_event s t (event.Host taken.bytes) (output.Host (Ok tt)) v (record {
  call = Host (heard_command r);
  answer = OfHost (Ok tt);
  is_call = (heard_command r, taken.spelled, refl);
  is_shown = refl;
  right = taken.right;
  next = taken.next;
})

-- a flush waits for what was accepted before it
flush_promises : (s : State) (r : Request) → mended s ≡ true →
    r.cdb ≡ Some (cdb.Flush false) → IsPromise s r (OfFlush (length s.accepted))
flush_promises s r mends e = λ u none passes is.
    subst (TrackedIn (OfFlush (length s.accepted)) r.tag [])
    (sym (is ∙ (ap (begun_if_any s r) e
    ∙ ap (λ (b : Bool). with_task s r (Some (cdb.Flush false)) 0
    (if not b then Answering Good 0 else Awaiting (length s.accepted))) mends)))
    (opens (OfFlush (length s.accepted)) s r (Some (cdb.Flush false)) 0
    (Awaiting (length s.accepted)) none (omega arith) (omega arith))

-- before the device is mended nothing was accepted
none_accepted : (s : State) → IsTied s → mended s ≡ false → length s.accepted ≡ 0
none_accepted s v un =
    sym (length-groups s.base s.accepted)
    ∙ (ap (λ (gs : List Group). length gs) (sym v.groups)
    ∙ (ap (λ (n : ℕ). length (drop n s.translation.ledger.groups)) (v.valid.history.mending un).0
    ∙ ap (λ (gs : List Group). length gs) (drop_all (length s.translation.ledger.groups) s.translation.ledger.groups (omega arith))))

-- a write with FUA gathers the data of its blocks that come for its unit
write_promises : (s : State) (r : Request) (address blocks count : ℕ) → r.cdb ≡ Some (cdb.Write address blocks true) →
    (refusal s r ≡ None → blocks_brought r.expected blocks ≡ count) →
    1 ≤ count → IsCdbIn (Some r.bytes) r.cdb → IsPromise s r (OfWrite (length s.accepted) r.lun address count)
write_promises s r address blocks count e those some spelled = λ u none passes is.
    let c : Cdb = cdb.Write address blocks true in
    let unit = unit_or_first (unit_of_request s r) in
    let pass = passed s r c e passes in
    let told = unit_told s r c (write_changes r.bytes c (spelled_is r.cdb c r.bytes spelled e) refl) pass in
    let here : unit ≡ r.lun = ap unit_or_first told.is in
    subst (TrackedIn (OfWrite (length s.accepted) r.lun address count) r.tag [])
    (sym (is ∙ ap (begun_if_any s r) e
    ∙ ap (λ (k : ℕ). write_begun s r unit address k true (4096 * blocks)) (those passes)))
    (begins unit here none (count == 0) (not_zero some))
  where
    p : Promise
    p = OfWrite (length s.accepted) r.lun address count

    not_zero : 1 ≤ count → (count == 0) ≡ false
    not_zero h = grind (arith, nat_tests)

    w : Request
    w = of_write r (4096 * blocks)

    begins : (unit : ℕ) → unit ≡ r.lun → list_any (is_task_of r.tag) s.tasks ≡ false → (b : Bool) → b ≡ false →
        TrackedIn p r.tag []
        (if b then with_task s w (Some (cdb.Write address count true)) (4096 * blocks) (Answering Good (4096 * blocks))
        else with_task (with_moves s (Claim count ∷ [])) w (Some (cdb.Write address count true)) (4096 * blocks)
        (Gathering (ForWrite unit address count true) [] false))
    begins unit here none true h = absurd (false≢true (sym h))
    begins unit here none false h =
        opens p (with_moves s (Claim count ∷ [])) w (Some (cdb.Write address count true)) (4096 * blocks)
        (Gathering (ForWrite unit address count true) [] false) none ((here, refl, refl, refl), refl) (omega arith)

-- GOOD

-- a task that keeps to its promise answers GOOD only if it waited
record Waited (p : Promise) (cs : List Command) (bytes : List ℕ) (deed : Deed) : Type 0 where
  commands : ℕ
  deed_is : deed ≡ Awaiting commands
  met : IsMet p cs bytes commands

bad_reply : {A : Type 0} (status : Status) (task : Task) (n : ℕ) {m : Message} → NotGood status →
    Some (response task.lun task.tag task.expected n status) ≡ Some m → IsGood m → A
bad_reply Good task n bad e good = absurd bad
bad_reply status task n {m} bad e good =
    let is : IsGood (response task.lun task.tag task.expected n status) = subst IsGood (sym (same_Some _ m e)) good in
    absurd (omega arith)

good_waited : {p : Promise} {cs : List Command} {bytes : List ℕ} (s : State) (task : Task) (deed : Deed) {m : Message} →
    KeepsTo p cs bytes deed → deed_reply s task deed ≡ Some m → IsGood m → Waited p cs bytes deed
good_waited s task (Gathering purpose gathered true) {m} keeps reply good = absurd (none-some m reply)
good_waited s task (Gathering purpose gathered false) {m} keeps reply good =
    absurd (subst IsGood (sym (same_Some (ready_message task purpose gathered) m reply)) good)
good_waited s task (Awaiting n) keeps reply good = record { commands = n; deed_is = refl; met = keeps }
good_waited s task (Answering status n) {m} keeps reply good = bad_reply status task n keeps reply good
good_waited s task deed keeps reply good = absurd keeps

-- so what was promised is held then
record IsKept (p : Promise) (bytes : List ℕ) (s t : State) : Type 0 where
  commands : ℕ
  met : IsMet p s.accepted bytes commands
  is_held : commands ≤ held t

good_kept : {p : Promise} {tag : ℕ} {bytes : List ℕ} {s t : State} {m : Message} → IsTied s →
    TrackedIn p tag bytes s → IsGood m → IsReplied s tag m t → IsKept p bytes s t
good_kept {p} {tag} {bytes} {s} {t} {m} v h good replied = by replied.right
  where
    waits : (task : Task) → task_of task.tag s.tasks ≡ Some task → deed_reply s task task.deed ≡ Some m →
        IsKept p bytes s t
    waits task found reply =
        let own : task.tag ≡ tag = sym (reply_tag s task task.deed m reply) ∙ replied.tag_is in
        let same : h.task ≡ task =
        same_Some h.task task (sym h.there ∙ (ap (λ (n : ℕ). task_of n s.tasks) (sym own) ∙ found)) in
        let w = good_waited s task task.deed
        (subst (λ (x : Task). KeepsTo p s.accepted bytes x.deed) same h.keeps) reply good in
        let at : task_of (tag_in m) s.tasks ≡ Some task =
        ap (λ (n : ℕ). task_of n s.tasks) (reply_tag s task task.deed m reply) ∙ found in
        record {
          commands = w.commands;
          met = w.met;
          is_held = subst (λ (x : State). w.commands ≤ held x) (sym replied.next)
              (task_held s m task w.commands at w.deed_is);
        }

    by : Due s m → IsKept p bytes s t
    by (inl due) = waits due.1 (found_task s.tasks due.0 due.1 v.tasks.tasks_differ due.2) due.3
    by (inr due) =
        let short : Short = due.1 in
        let fits = short_fits_at s.shorts due.0 short v.tasks.waits due.2 in
        let tag_is : short.tag ≡ tag = sym fits.reply ∙ ap tag_in (sym due.4) ∙ replied.tag_is in
        let none = no_task_found s.shorts s.tasks due.0 short v.tasks.apart due.2 in
        absurd (none-some h.task (sym none ∙ (ap (λ (n : ℕ). task_of n s.tasks) tag_is ∙ h.there)))

-- From the COMMAND to the GOOD and on

answered_kept : {p : Promise} {s t : State} (r : Request) {bytes : List ℕ} → ValidState s →
    (a : IsAnsweredGood s r bytes t) → first_of p ≤ length s.accepted → IsPromise s r p → IsKept p bytes a.ended t
answered_kept {p} {s} {t} r {bytes} v a later is =
    let valid = taken_valid v a.taken in
    let begins = taken_tracks p a.taken later is (carries_open r.tag a.begun a.ended a.events a.outputs
    bytes a.carries) in
    let all = carried_tracks p r.tag [] bytes a.begun a.ended a.events a.outputs valid a.carries begins in
    good_kept all.0.tied all.1 a.good a.replied

pub flush_held : (s t u : State) (r : Request) (bytes : List ℕ) (es : List Event)
    (os : List Output) → ValidState s → r.cdb ≡ Some (cdb.Flush false) →
    IsAnsweredGood s r bytes t → Life t es os u → length s.accepted ≤ held u
flush_held s t u r bytes es os v e a life = ⊎_elim
    (λ mends.
    let k = answered_kept r v a (omega arith) (flush_promises s r mends e) in
    let met = k.met in
    let is = k.is_held in
    let on = life_held t u es os life in
    omega arith)
    (λ un. let none = none_accepted s v.tied un in omega (arith, none)) (cases_Bool (mended s))

-- a write with FUA of which so many blocks come, if it is taken
brought_held : (s t u : State) (r : Request) (bytes : List ℕ) (address blocks count : ℕ) (es : List Event)
    (os : List Output) → ValidState s → r.cdb ≡ Some (cdb.Write address blocks true) →
    (refusal s r ≡ None → blocks_brought r.expected blocks ≡ count) → 1 ≤ count →
    IsAnsweredGood s r bytes t → Life t es os u → IsHeldWrite s r address count bytes u
brought_held s t u r bytes address blocks count es os v e those some a life =
    let p : Promise = OfWrite (length s.accepted) r.lun address count in
    let k = answered_kept r v a (omega arith)
    (write_promises s r address blocks count e those some a.taken.spelled.2) in
    let one = accepted_grows a.ended Reply (OfReply (Some a.answer)) in
    let first : t.accepted ≡ a.ended.accepted ++ one.0 = ap (λ (x : State). x.accepted) a.replied.next ∙ one.1 in
    let rest = life_grows t u es os life in
    let met = subst (λ (cs : List Command). IsMet p cs bytes k.commands) (sym rest.1)
    (met_more p t.accepted rest.0 bytes k.commands
    (subst (λ (cs : List Command). IsMet p cs bytes k.commands) (sym first)
    (met_more p a.ended.accepted one.0 bytes k.commands k.met))) in
    let place = met.1 in
    let is = k.is_held in
    let on = life_held t u es os life in
    record { position = met.0; later = met.2.later; is_held = omega arith; there = met.2.there; whole = met.2.whole }

pub write_held : (s t u : State) (r : Request) (bytes : List ℕ) (address blocks : ℕ) (es : List Event)
    (os : List Output) → ValidState s → r.cdb ≡ Some (cdb.Write address blocks true) →
    1 ≤ blocks_brought r.expected blocks → IsAnsweredGood s r bytes t → Life t es os u →
    IsHeldWrite s r address (blocks_brought r.expected blocks) bytes u
write_held s t u r bytes address blocks es os v e some a life =
    brought_held s t u r bytes address blocks (blocks_brought r.expected blocks) es os v e (λ passes. refl) some a life

-- a device of profile 0 takes no WRITE of which less comes than it has
pub whole_write_held : (s t u : State) (r : Request) (bytes : List ℕ) (address blocks : ℕ) (es : List Event)
    (os : List Output) → ValidState s → (numbers_of s).profile ≡ 0 → r.cdb ≡ Some (cdb.Write address blocks true) →
    1 ≤ blocks → IsAnsweredGood s r bytes t → Life t es os u → IsHeldWrite s r address blocks bytes u
whole_write_held s t u r bytes address blocks es os v older e some a life =
    brought_held s t u r bytes address blocks blocks es os v e (λ passes. all_come s r address blocks true older e passes)
    some a life
