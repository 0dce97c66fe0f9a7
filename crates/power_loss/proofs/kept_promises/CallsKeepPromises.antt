-- While its task is open, each call leaves one promising command on its way.
use Rattle.ufs_spec.specs.Exchanges.{Comparing}
use Rattle.power_loss.proofs.Common.{◌≡◌, ℕ, ◌==◌, Bool, true, false, cond, not, List, [], ◌∷◌, ◌++◌, length, Option}
use Rattle.power_loss.proofs.Common.{Some, None, map, refl, sym, ap, ◌∙◌, subst, Ok, filter, find, list_any, append-nil}
use Rattle.power_loss.proofs.Common.{append_assoc, if_both, false≢true, none-some, same_Some, Array, Flight, Ending}
use Rattle.power_loss.proofs.Common.{is_mended}
use Rattle.power_loss.proofs.MachineWords.{Command, Answering, Awaiting, Deed, Gathering, ReadState, Sending, Short}
use Rattle.power_loss.proofs.MachineWords.{Task, SendingBytes, is_asked_of, is_short_of, is_task_of, short_reply}
use Rattle.power_loss.proofs.MachineWords.{task_of, with_deed, without_task, Allowed, Answer, Reply, Call, Faulty, Done}
use Rattle.power_loss.proofs.MachineWords.{OfDone, Take, OfTake, OfHost, Host, OfReply, Spelled, Turn, OfTurn}
use Rattle.power_loss.proofs.MachineWords.{asked_fault, behind, data_heard, deed_after, ends_with, given, heard}
use Rattle.power_loss.proofs.MachineWords.{is_aborted, lock_applied, managed, message_fault, moves_after, observe}
use Rattle.power_loss.proofs.MachineWords.{ReadingArea, replied_by, service, short_locked, short_replied, tag_in}
use Rattle.power_loss.proofs.MachineWords.{task_goes_on, task_locked, task_read, task_replied, with_moves, with_short}
use Rattle.power_loss.proofs.MachineWords.{without_tasks, fills, task_filled, Request, State, locked, numbers_of, Event}
use Rattle.power_loss.proofs.MachineWords.{Output, Message, Cdb, IsTied, TasksDiffer, ValidState, has_task}
use Rattle.std.specs.Prelude.{if◌then◌else◌, is_some}
use Rattle.ufs_laws.proofs.exchanges.DeedLaws.{filled_keeps}
use Rattle.ufs_spec.specs.Exchanges.{number_of}
use Rattle.ufs_spec.specs.Machine.{NoEvent}
use Rattle.ufs_spec.specs.Management.{volatile_managed}
use Rattle.ufs_spec.specs.declared.messages.Message.TheVariants as message
use Rattle.ufs_laws.proofs.walk.SmallChanges.{reads, fills_task}
use Rattle.ufs_laws.proofs.walk.Happenings.{BlockRead, ends_by, happened, job_over, is_asked as no_offence}
use Rattle.ufs_laws.proofs.lives.AcceptedAndHeldGrow.{Grows, behind_grows}
use Rattle.power_loss.specs.Promises.{Carries, data_in, data_of}
use Rattle.power_loss.proofs.calls.CallsKeepTied.{no_fault}
use Rattle.power_loss.proofs.lives.EachEventKeeps.{one_event}
use Rattle.power_loss.proofs.open_tasks.FoundInLists.{found_gone, found_is, found_more, none_left, some_map}
use Rattle.power_loss.proofs.books.SmallFacts.{eq_told}
use Rattle.power_loss.proofs.open_tasks.OpenExchanges.{Adds, adds_short, command_adds, data_leaves, query_adds}
use Rattle.power_loss.proofs.open_tasks.OpenExchanges.{replied_leaves}
use Rattle.power_loss.proofs.open_tasks.TaskLists.{found_fits}
use Rattle.power_loss.proofs.kept_promises.PromisedCommands.{KeepsTo, Promise, Tracked, TrackedIn, data_tracked}
use Rattle.power_loss.proofs.kept_promises.PromisedCommands.{lock_keeps, map_tracked, same_tracked, set_tracked}
use Rattle.power_loss.proofs.kept_promises.PromisedCommands.{task_read_keeps}

-- no task of the tag is open
pub closed : {A : Type 0} (tag : ℕ) (tasks : List Task) → task_of tag tasks ≡ None →
    is_some (task_of tag tasks) ≡ true → A
closed tag tasks none still = absurd (false≢true (sym (ap is_some none) ∙ still))

-- with no data
quiet : {p : Promise} {tag : ℕ} {bytes : List ℕ} {tasks : List Task} {cs : List Command} →
    Tracked p tag bytes tasks cs → Tracked p tag (bytes ++ []) tasks cs
quiet {p} {tag} {bytes} {tasks} {cs} h = subst (λ (xs : List ℕ). Tracked p tag xs tasks cs) (sym (append-nil bytes)) h

-- what leaves the task as it is
stays : {p : Promise} {tag : ℕ} {bytes : List ℕ} (s t : State) → ((task : Task) → task_of tag s.tasks ≡ Some task →
    task_of tag t.tasks ≡ Some task) → Grows s t → TrackedIn p tag bytes s → TrackedIn p tag bytes t
stays {p} {tag} {bytes} s t same grows h = same_tracked p tag bytes s.tasks t.tasks s.accepted grows.0 same grows.1 h

-- Messages

added : {p : Promise} {tag : ℕ} {bytes : List ℕ} (s t : State) → Adds s t → Grows s t → TrackedIn p tag bytes s →
    TrackedIn p tag (bytes ++ []) t
added {p} {tag} {bytes} s t adds grows h =
    quiet (stays s t (λ task e. ap (task_of tag) adds.tasks_are ∙ found_more
    (is_task_of tag) s.tasks adds.tasks e) grows h)

-- some tasks are gone; the one that is still open is the same
left_same : (tag : ℕ) (q : Task → Bool) (tasks : List Task) (task : Task) → TasksDiffer tasks →
    is_some (task_of tag (filter q tasks)) ≡ true → task_of tag tasks ≡ Some task →
    task_of tag (filter q tasks) ≡ Some task
left_same tag q [] task differ still h = absurd (none-some task h)
left_same tag q (x ∷ xs) task differ still h =
    by (is_task_of tag x) (q x) refl refl still h (left_same tag q xs task differ.1)
  where
    by : (b c : Bool) → is_task_of tag x ≡ b → q x ≡ c →
        is_some (task_of tag (cond c (x ∷ filter q xs) (filter q xs))) ≡ true →
        cond b (Some x) (task_of tag xs) ≡ Some task →
        (is_some (task_of tag (filter q xs)) ≡ true → task_of tag xs ≡ Some task →
        task_of tag (filter q xs) ≡ Some task) → task_of tag (cond c (x ∷ filter q xs) (filter q xs)) ≡ Some task
    by true true e g k i rest = ap (λ y. cond y (Some x) (task_of tag (filter q xs))) e ∙ i
    by true false e g k i rest =
        closed tag (filter q xs) (none_left (is_task_of tag) q xs (ap (λ (n : ℕ). list_any (is_task_of n) xs) (sym
        (eq_told x.tag tag e)) ∙ differ.0)) k
    by false true e g k i rest =
        let skip = ap (λ y. cond y (Some x) (task_of tag (filter q xs))) e in
        skip ∙ rest (sym (ap is_some skip) ∙ k) i
    by false false e g k i rest = rest k i

managed_same : (s : State) (lun function meant tag : ℕ) {task : Task} → TasksDiffer s.tasks →
    is_some (task_of tag (managed s lun function meant).tasks) ≡ true → task_of tag s.tasks ≡ Some task →
    task_of tag (managed s lun function meant).tasks ≡ Some task
managed_same s lun function meant tag {task} differ still h =
    let t : State = record s { volatile = volatile_managed s lun function } in
    if_both (λ (u : State). is_some (task_of tag u.tasks) ≡ true → task_of tag u.tasks ≡ Some task)
    (service s lun function meant == 0x00) {x = without_tasks t (is_aborted lun function meant)} {y = t}
    (λ k. left_same tag (λ x. not (is_aborted lun function meant x)) s.tasks task differ k h) (λ k. h) still

-- data for this task or for another one
data_comes : (p : Promise) (tag : ℕ) (bytes : List ℕ) {s : State} (lun other offset : ℕ) (more : List ℕ) → IsTied s →
    asked_fault (is_asked_of (task_of other s.tasks) lun offset (length more)) ≡ None →
    Grows s (data_heard s (task_of other s.tasks) more) → TrackedIn p tag bytes s →
    TrackedIn p tag (bytes ++ (if other == tag then more else [])) (data_heard s (task_of other s.tasks) more)
data_comes p tag bytes {s} lun other offset more v fault grows h = by (other == tag) refl
  where
    u : State
    u = data_heard s (task_of other s.tasks) more

    by : (b : Bool) → (other == tag) ≡ b → TrackedIn p tag (bytes ++ (if b then more else [])) u
    by false e =
        quiet (stays s u (λ task k. (data_leaves (task_of other s.tasks) more refl).others tag task e k) grows h)
    by true e =
        let m = is_mended s.translation.work.mending in
        let same : other ≡ tag = eq_told other tag e in
        let at : task_of other s.tasks ≡ Some h.task = ap (λ (n : ℕ). task_of n s.tasks) same ∙ h.there in
        let own : h.task.tag ≡ tag = eq_told h.task.tag tag (found_is (is_task_of tag) s.tasks h.task h.there) in
        let here : task_of h.task.tag s.tasks ≡ Some h.task = ap (λ (n : ℕ). task_of n s.tasks) own ∙ h.there in
        let fits = (found_fits (numbers_of s) (length s.accepted) m tag s.tasks h.task v.tasks.deeds h.there).0 in
        let is = subst (λ (x : Option Task). is_asked_of x lun offset (length more) ≡ true) at
        (no_offence (is_asked_of (task_of other s.tasks) lun offset (length more)) fault) in
        subst (λ (x : Option Task). TrackedIn p tag (bytes ++ more) (data_heard s x more)) (sym at)
        (subst (λ (n : ℕ). TrackedIn p n (bytes ++ more) (data_heard s (Some h.task) more)) own
        (data_tracked p s h.task.deed lun offset bytes more here h.keeps h.later fits is))

heard_tracks : (p : Promise) (tag : ℕ) (bytes : List ℕ) {s : State} (m : Message) (c : Option Cdb) → IsTied s →
    message_fault s m ≡ None → Grows s (heard s m c) → has_task tag (heard s m c) ≡ true → TrackedIn p tag bytes s →
    TrackedIn p tag (bytes ++ data_in tag m) (heard s m c)
heard_tracks p tag bytes {s} (message.NopOut other) c v fault grows still h =
    added s _ (adds_short (short_reply other (message.NopIn other))) grows h
heard_tracks p tag bytes {s} (message.Command flags lun other expected taken) c v fault grows still h =
    let r : Request = record { flags = flags; lun = lun; tag = other; expected = expected; bytes = taken; cdb = c } in
    added s _ (command_adds r) grows h
heard_tracks p tag bytes {s} (message.DataOut lun other offset «data») c v fault grows still h =
    data_comes p tag bytes lun other offset «data».items v fault grows h
heard_tracks p tag bytes {s} (message.TaskRequest lun other function meant) c v fault grows still h =
    let reply : Short = short_reply (number_of true other) (message.TaskResponse lun other (service s lun function meant)) in
    quiet (stays s (with_short (managed s lun function meant) reply)
    (λ task e. managed_same s lun function meant tag v.tasks.tasks_differ still e) grows h)
heard_tracks p tag bytes {s} (message.QueryRequest other function asked size value «data») c v fault grows still h =
    added s _ (query_adds other (record { function = function; asked = asked; length = size; value = value })) grows h
heard_tracks p tag bytes (message.LinkEvent kind) c v fault grows still h = absurd (false≢true still)
heard_tracks p tag bytes other c v fault grows still h = quiet h

-- The ends of jobs

ends_tracks : (p : Promise) (tag : ℕ) (bytes : List ℕ) (s : State) (die : ℕ) (flight : Option Flight) (ending : Ending)
    (left : Array) → TrackedIn p tag bytes s → TrackedIn p tag bytes (ends_with s die flight ending left)
ends_tracks p tag bytes s die flight ending left h =
    ends_by (TrackedIn p tag bytes) s die flight ending left read (over flight)
  where
    over : (o : Option Flight) → TrackedIn p tag bytes (job_over s die o ending left)
    over None = h
    over (Some x) = h

    read : (other index : ℕ) (state : ReadState) →
        TrackedIn p tag bytes (happened (job_over s die flight ending left) (BlockRead other index state))
    read other index state =
        let u : State = job_over s die flight ending left in
        map_tracked p tag bytes (task_read other index state) u.tasks u.accepted
        (λ task. (reads other index state task).tag) (task_read_keeps p u.accepted bytes other index state)
        (over flight)

given_tracks : (p : Promise) (tag : ℕ) (bytes : List ℕ) (s : State) (die : ℕ) (flight : Option Flight) →
    TrackedIn p tag bytes s → TrackedIn p tag bytes (given s die flight)
given_tracks p tag bytes s die None h = h
given_tracks p tag bytes s die (Some flight) h = h

-- Replies

own_reply : (p : Promise) {tag : ℕ} (bytes : List ℕ) (s u : State) (task : Task) (deed : Deed) → u.tasks ≡ s.tasks →
    u.accepted ≡ s.accepted → task.tag ≡ tag →
    KeepsTo p s.accepted bytes deed → has_task tag (task_goes_on u task (deed_after task deed)) ≡ true →
    TrackedIn p tag bytes s → TrackedIn p tag bytes (task_goes_on u task (deed_after task deed))
own_reply p {tag} bytes s u task (Gathering purpose gathered asked) e f own keeps still h = subst
    (λ (cs : List Command). Tracked p tag bytes (map (with_deed task.tag (Gathering purpose gathered true)) u.tasks) cs)
    (sym f)
    (subst (λ (ts : List Task). Tracked p tag bytes (map (with_deed task.tag
    (Gathering purpose gathered true)) ts) s.accepted) (sym e)
    (subst (λ (n : ℕ). Tracked p tag bytes (map (with_deed n (Gathering purpose gathered true)) s.tasks) s.accepted)
    (sym own) (set_tracked p tag bytes (Gathering purpose gathered true) s.tasks s.accepted h.there keeps h.later)))
own_reply p bytes s u task (Sending blocks sent) e f own keeps still h = absurd keeps
own_reply p bytes s u task (SendingBytes told) e f own keeps still h = absurd keeps
own_reply p {tag} bytes s u task (Awaiting n) e f own keeps still h = closed tag (without_task task.tag u.tasks)
    (ap (λ (n : ℕ). task_of tag (without_task n u.tasks)) own ∙ found_gone (is_task_of tag) u.tasks) still
own_reply p bytes s u task (ReadingArea pages) e f own keeps still h = absurd keeps
own_reply p bytes s u task (Comparing blocks compared asked) e f own keeps still h = absurd keeps
own_reply p {tag} bytes s u task (Answering status n) e f own keeps still h = closed tag (without_task task.tag u.tasks)
    (ap (λ (n : ℕ). task_of tag (without_task n u.tasks)) own ∙ found_gone (is_task_of tag) u.tasks) still

task_reply : (p : Promise) (tag : ℕ) (bytes : List ℕ) (s : State) {task : Task} →
    task_of task.tag s.tasks ≡ Some task → Grows s (task_replied s task) →
    has_task tag (task_replied s task) ≡ true → TrackedIn p tag bytes s → TrackedIn p tag bytes (task_replied s task)
task_reply p tag bytes s {task} found grows still h = by (task.tag == tag) refl
  where
    by : (b : Bool) → (task.tag == tag) ≡ b → TrackedIn p tag bytes (task_replied s task)
    by false e = stays s (task_replied s task) (λ x k. (replied_leaves task).others tag x e k) grows h
    by true e =
        let own : task.tag ≡ tag = eq_told task.tag tag e in
        let same : h.task ≡ task =
        same_Some h.task task (sym h.there ∙ (ap (λ (n : ℕ). task_of n s.tasks) (sym own) ∙ found)) in
        own_reply p bytes s (with_moves s (moves_after task task.deed)) task task.deed refl refl own
        (subst (λ (x : Task). KeepsTo p s.accepted bytes x.deed) same h.keeps) still h

replied_tracks : (p : Promise) (tag : ℕ) (bytes : List ℕ) (s : State) (other : ℕ) (x : Option Task) →
    task_of other s.tasks ≡ x → Grows s (replied_by s other x) → has_task tag (replied_by s other x) ≡ true →
    TrackedIn p tag bytes s → TrackedIn p tag bytes (replied_by s other x)
replied_tracks p tag bytes s other (Some task) e grows still h =
    let own : task.tag ≡ other = eq_told task.tag other (found_is (is_task_of other) s.tasks task e) in
    task_reply p tag bytes s (ap (λ (n : ℕ). task_of n s.tasks) own ∙ e) grows still h
replied_tracks p tag bytes s other None e grows still h = by (find (is_short_of other) s.shorts)
  where
    by : (x : Option Short) → TrackedIn p tag bytes (short_replied s x)
    by None = h
    by (Some short) = h

-- Calls

behind_tracks : (p : Promise) (tag : ℕ) (bytes : List ℕ) {s : State} (call : Call) (answer : Answer) → IsTied s →
    Allowed s call answer → Grows s (behind s call answer) → has_task tag (behind s call answer) ≡ true →
    TrackedIn p tag bytes s → TrackedIn p tag (bytes ++ data_of tag call answer) (behind s call answer)
behind_tracks p tag bytes {s} (Host (Spelled m c)) (OfHost (Ok done)) v right grows still h =
    heard_tracks p tag bytes m c v (no_fault (message_fault s m) right) grows still h
behind_tracks p tag bytes (Host (Faulty fault)) (OfHost (Ok done)) v right grows still h = quiet h
behind_tracks p tag bytes (Host NoEvent) (OfHost (Ok done)) v right grows still h = quiet h
behind_tracks p tag bytes {s} (Take die) (OfTake flight) v right grows still h =
    quiet (given_tracks p tag bytes s die flight h)
behind_tracks p tag bytes {s} (Done die ending left) (OfDone true) v right grows still h =
    quiet (ends_tracks p tag bytes s die (s.translation.disk.flights die) ending left h)
behind_tracks p tag bytes Turn (OfTurn due) v right grows still h = quiet h
behind_tracks p tag bytes {s} Reply (OfReply (Some m)) v right grows still h =
    quiet (replied_tracks p tag bytes s (tag_in m) (task_of (tag_in m) s.tasks) refl grows still h)
behind_tracks p tag bytes call answer v right grows still h = quiet h

lock_tracks : (p : Promise) (tag : ℕ) (bytes : List ℕ) (s : State) → TrackedIn p tag bytes s →
    TrackedIn p tag bytes (lock_applied s)
lock_tracks p tag bytes s h = if_both (TrackedIn p tag bytes) (locked s)
    (map_tracked p tag bytes (task_locked s) s.tasks s.accepted (λ task. refl)
    (λ task k. lock_keeps p s.accepted bytes s task task.deed k) h) h

fills_tracks : (p : Promise) (tag : ℕ) (bytes : List ℕ) (s : State) → TrackedIn p tag bytes s →
    TrackedIn p tag bytes (fills s)
fills_tracks p tag bytes s h =
    map_tracked p tag bytes (task_filled s) s.tasks s.accepted (λ task. (fills_task s task).tag)
    (λ task k. filled_keeps (λ (x : Task). KeepsTo p s.accepted bytes x.deed) s task k k) h

pub settled_tracks : (p : Promise) (tag : ℕ) (bytes : List ℕ) (s : State) → TrackedIn p tag bytes s →
    TrackedIn p tag bytes (lock_applied (fills s))
settled_tracks p tag bytes s h = lock_tracks p tag bytes (fills s) (fills_tracks p tag bytes s h)

-- a task that is open at the end of a call was open before the registers were filled and the lock was told
pub settled_open : (tag : ℕ) (s : State) → has_task tag (lock_applied (fills s)) ≡ true → has_task tag s ≡ true
settled_open tag s h =
    sym (some_map (is_task_of tag) (task_filled s) (λ task. ap (λ (n : ℕ). n == tag) (fills_task s task).tag) s.tasks)
    ∙ unlocked (fills s) h
  where
    unlocked : (u : State) → has_task tag (lock_applied u) ≡ true → has_task tag u ≡ true
    unlocked u = if_both (λ (x : State). has_task tag x ≡ true → has_task tag u ≡ true) (locked u)
        {x = record u { tasks = map (task_locked u) u.tasks; shorts = map (short_locked u) u.shorts }} {y = u}
        (λ e. sym (some_map (is_task_of tag) (task_locked u) (λ task. refl) u.tasks) ∙ e) (λ e. e)

call_tracks : (p : Promise) (tag : ℕ) (bytes : List ℕ) {s : State} (call : Call) (answer : Answer) → IsTied s →
    Allowed s call answer → has_task tag (observe s call answer) ≡ true →
    TrackedIn p tag bytes s → TrackedIn p tag (bytes ++ data_of tag call answer) (observe s call answer)
call_tracks p tag bytes {s} call answer v right still h = settled_tracks p tag _ (behind s call answer)
    (behind_tracks p tag bytes call answer v right (behind_grows s call answer) (settled_open tag
    (behind s call answer) still) h)

-- Lives

pub carries_open : (tag : ℕ) (s t : State) (es : List Event) (os : List Output) (bytes : List ℕ) →
    Carries tag s es os t bytes → has_task tag s ≡ true
carries_open tag s t [] [] bytes h = h.0
carries_open tag s t (e ∷ es) (o ∷ os) bytes h = h.0
carries_open tag s t [] (o ∷ os) bytes h = absurd h
carries_open tag s t (e ∷ es) [] bytes h = absurd h

-- all the way, with the data that came
pub carried_tracks : (p : Promise) (tag : ℕ) (before bytes : List ℕ) (s t : State) (es : List Event)
    (os : List Output) → ValidState s → Carries tag s es os t bytes →
    TrackedIn p tag before s → ValidState t × TrackedIn p tag (before ++ bytes) t
carried_tracks p tag before bytes s t [] [] v h k = (
  subst ValidState (sym h.1) v,
  subst (TrackedIn p tag (before ++ bytes)) (sym h.1)
      (subst (λ (xs : List ℕ). TrackedIn p tag (before ++ xs) s) (sym h.2) (quiet k)),
)
carried_tracks p tag before bytes s t (e ∷ es) (o ∷ os) v h k =
    let next = h.1.0 in
    let l = h.1.1 in
    let rest = h.1.2 in
    let is = h.1.3 in
    let more = h.1.4 in
    let came = data_of tag l.call l.answer in
    let still = subst (λ (x : State). has_task tag x ≡ true) l.next (carries_open tag next t es os rest more) in
    let one : TrackedIn p tag (before ++ came) next = subst (TrackedIn p tag (before ++ came)) (sym l.next)
    (call_tracks p tag before l.call l.answer v.tied l.right still k) in
    let all = carried_tracks p tag (before ++ came) rest next t es os (one_event s next e o v l) more one in (
      all.0,
      subst (λ (xs : List ℕ). TrackedIn p tag xs t) (append_assoc before came rest ∙ ap
          (λ (xs : List ℕ). before ++ xs) (sym is)) all.1,
    )
carried_tracks p tag before bytes s t [] (o ∷ os) v h k = absurd h
carried_tracks p tag before bytes s t (e ∷ es) [] v h k = absurd h
