-- What holds of each open task: a law of tasks is a case for each way in which a task is opened and goes on, and each
-- call keeps it.
use Rattle.ufs_spec.specs.Exchanges.{to_gather}
use Rattle.ufs_laws.proofs.Common.{Allowed, Answer, Answering, Array, Awaiting, Bool, Call, Cdb, Deed, Done, Ending}
use Rattle.ufs_laws.proofs.Common.{Every, Faulty, Flight, ForFrames, Gathering, Good, Host, IsRequest, IsSpoken, List}
use Rattle.ufs_laws.proofs.Common.{Message, None, OfDone, OfHost, OfReply, OfTake, OfTurn, Option, Purpose, ReadBlock}
use Rattle.ufs_laws.proofs.Common.{ReadState, ReadingArea, Reply, Request, RpmbRequest, Sending, SendingBytes, Some}
use Rattle.ufs_laws.proofs.Common.{Spelled, State, Status, Take, Task, Turn, [], ap, begun, behind, count_at}
use Rattle.ufs_laws.proofs.Common.{deed_after, false, fills, filter, find, if_both, in_use, inl, is_task_of, length}
use Rattle.ufs_laws.proofs.Common.{locked, map, nat_lt, none-some, not, observe, refl, refusal, same_Some, service}
use Rattle.ufs_laws.proofs.Common.{subst, sym, task_filled, task_locked, task_of, task_read, true, unit_of_request}
use Rattle.ufs_laws.proofs.Common.{unit_or_first, with_deed, with_request, ℕ, ◌++◌, ◌∙◌, ◌∷◌, ◌≡◌}
use Rattle.std.specs.Prelude.{Ok}
use Rattle.ufs_laws.specs.Exchange.{Asks, IsAskedIn}
use Rattle.ufs_spec.specs.declared.messages.Message.TheVariants as message
use Rattle.ufs_laws.proofs.walk.Happenings.{Aborts, Begins, BlockRead, Gathers, GoesOn, Happening, IsCommand, IsOver}
use Rattle.ufs_spec.specs.Machine.{NoEvent}
use Rattle.ufs_spec.specs.DataOuts.{deed_after_same}
use Rattle.ufs_spec.specs.Exchanges.{miscompare}
use Rattle.ufs_laws.proofs.Common.{Comparing, slice_get, ◌*◌, ◌+◌}
use Rattle.ufs_laws.proofs.walk.Happenings.{Compares, Differs, IsSame}
use Rattle.ufs_laws.proofs.walk.Happenings.{Refuses, Resets, Why, behind_by, ends_by, happened, job_over, Completes}
use Rattle.ufs_laws.proofs.walk.WaysOfCommands.{begins_by, beginning_opens}
use Rattle.ufs_laws.proofs.walk.WaysOfData.{Accepted, AcceptsFrames, HasResult, IsAcceptedDeed, IsAnswerTo, ReadsArea}
use Rattle.ufs_laws.proofs.walk.WaysOfData.{Told, accepted_deed}

-- the task of a request
abbrev pub task_for : Request → Option Cdb → ℕ → Deed → Task
task_for r command n deed = record {
  lun = r.lun;
  tag = r.tag;
  expected = r.expected;
  command = command;
  length = n;
  deed = deed;
  request = None;
}

-- one task more
abbrev pub OneMore : (Task → Type 0) → List Task → List Task → Type 0
OneMore P before after = (task : Task) × (after ≡ before ++ task ∷ []) × P task

-- of any request nothing
abbrev pub Any : Request → Type 0
Any r = Unit {0}

any_in : (m : Message) (c : Option Cdb) → IsAskedIn Any m c
any_in (message.Command flags lun tag expected bytes) c = tt
any_in (message.NopOut tag) c = tt
any_in (message.DataOut lun tag offset «data») c = tt
any_in (message.TaskRequest lun tag function meant) c = tt
any_in (message.QueryRequest tag function asked size value «data») c = tt
any_in (message.LinkEvent kind) c = tt
any_in (message.NopIn tag) c = tt
any_in (message.Response flags lun tag response status residual sense) c = tt
any_in (message.DataIn lun tag offset «data») c = tt
any_in (message.TaskResponse lun tag service) c = tt
any_in (message.ReadyToTransfer lun tag offset count) c = tt
any_in (message.QueryResponse tag function response asked size value «data») c = tt

pub any_asks : (call : Call) → Asks Any call
any_asks (Host (Spelled m c)) = any_in m c
any_asks (Host (Faulty fault)) = tt
any_asks (Host NoEvent) = tt
any_asks (Take die) = tt
any_asks (Done die ending left) = tt
any_asks Turn = tt
any_asks Reply = tt

pub record IsTaskLaw (P : Task → Type 0) (May : Task → Deed → Type 0) (Asked : Request → Type 0)
    (s : State) : Type 0 where
  -- a task that does something else keeps the law, and so do all
  pub set : (task : Task) (deed : Deed) → task_of task.tag s.tasks ≡ Some task → Every P s.tasks → May task deed →
      Every P (map (with_deed task.tag deed) s.tasks)
  pub set_request : (task : Task) (request : RpmbRequest) (deed : Deed) → task_of task.tag s.tasks ≡ Some task →
      Every P s.tasks → May task deed → Every P (map (with_request task.tag request deed) s.tasks)
  -- tasks that are opened
  pub refused : (r : Request) (status : Status) → IsRequest r → Asked r → in_use s false r.tag ≡ false →
      refusal s r ≡ Some status → P (task_for r None 0 (Answering status 0))
  pub begins : (r : Request) (c : Cdb) → IsRequest r → Asked r → in_use s false r.tag ≡ false → r.cdb ≡ Some c →
      refusal s r ≡ None →
      OneMore P s.tasks (begun s r (unit_or_first (unit_of_request s r)) c).tasks
  -- tasks that get the data that they asked for: they gather, are answered, wait for their command, or read the area
  pub gathers : (task : Task) (purpose : Purpose) (gathered bytes : List ℕ) (asked : Bool) →
      task.deed ≡ Gathering purpose gathered asked → P task →
      length bytes ≡ count_at (to_gather purpose task.length) (length gathered) →
      nat_lt (length (gathered ++ bytes)) (to_gather purpose task.length) ≡ true → May task (Gathering purpose (gathered ++ bytes) false)
  pub answers : (task : Task) (purpose : Purpose) (gathered : List ℕ) (asked : Bool) (status : Status) →
      task.deed ≡ Gathering purpose gathered asked → P task → IsAnswerTo purpose status →
      May task (Answering status task.length)
  pub waits : (task : Task) (purpose : Purpose) (gathered : List ℕ) (asked : Bool) (position : ℕ) →
      task.deed ≡ Gathering purpose gathered asked → P task → May task (Awaiting position)
  pub reads_area : (task : Task) (purpose : Purpose) (gathered : List ℕ) (asked : Bool) (pages : List ReadBlock) →
      task.deed ≡ Gathering purpose gathered asked → P task → May task (ReadingArea pages)
  -- tasks that compare their next block: it is the same, or another one
  pub same : (task : Task) (blocks : List ReadBlock) (compared : ℕ) (asked : Bool) →
      task.deed ≡ Comparing blocks compared asked → P task → May task (deed_after_same task blocks compared)
  pub differs : (task : Task) (blocks : List ReadBlock) (compared : ℕ) (asked : Bool) (block : ReadBlock) →
      task.deed ≡ Comparing blocks compared asked → slice_get blocks compared ≡ Some block → P task →
      May task (Answering miscompare (4096 * (compared + 1)))
  -- that replied, whose request fills its register, that a lock meets, and of which a block was read
  pub goes : (task : Task) (deed : Deed) → deed_after task task.deed ≡ Some deed → P task → May task deed
  pub fills : (u : State) (task : Task) → P task → P (task_filled u task)
  pub locks : (u : State) (task : Task) → P task → P (task_locked u task)
  pub reads : (tag index : ℕ) (state : ReadState) (task : Task) → P task → P (task_read tag index state task)

-- ## Lists of tasks

pub every_more : (P : Task → Type 0) (tasks : List Task) (task : Task) → Every P tasks → P task →
    Every P (tasks ++ task ∷ [])
every_more P [] task h p = (p, tt)
every_more P (t ∷ ts) task h p = (h.0, every_more P ts task h.1 p)

pub every_mapped : (P : Task → Type 0) (f : Task → Task) → ((task : Task) → P task → P (f task)) → (tasks : List Task) →
    Every P tasks → Every P (map f tasks)
every_mapped P f each [] h = tt
every_mapped P f each (t ∷ ts) h = (each t h.0, every_mapped P f each ts h.1)

pub every_filtered : (P : Task → Type 0) (is : Task → Bool) (tasks : List Task) → Every P tasks →
    Every P (filter is tasks)
every_filtered P is [] h = tt
every_filtered P is (t ∷ ts) h =
    if_both (Every P) (is t) (h.0, every_filtered P is ts h.1) (every_filtered P is ts h.1)

pub every_found : (P : Task → Type 0) (is : Task → Bool) (tasks : List Task) (task : Task) → find is tasks ≡ Some task →
    Every P tasks → P task
every_found P is [] task e h = absurd (none-some task e)
every_found P is (t ∷ ts) task e h =
    if_both (λ (x : Option Task). x ≡ Some task → P task) (is t) (λ k. subst P (same_Some t task k) h.0)
    (λ k. every_found P is ts task k h.1) e

pub every_one_more : (P : Task → Type 0) (before after : List Task) → Every P before → OneMore P before after →
    Every P after
every_one_more P before after h more = subst (Every P) (sym more.1) (every_more P before more.0 h more.2)

-- ## What begins

-- a command that begins opens one task, of its tag
abbrev pub OpensOne : State → State → ℕ → Type 0
OpensOne s t tag = (task : Task) × (t.tasks ≡ s.tasks ++ task ∷ []) × (task.tag ≡ tag)

pub begun_task : (s : State) (r : Request) (unit : ℕ) (c : Cdb) → OpensOne s (begun s r unit c) r.tag
begun_task s r unit c = begins_by (λ t. OpensOne s t r.tag) s r unit c (λ b why. beginning_opens s r c b)

-- ## The walk

spoken : (call : Call) (r : Request) → IsCommand call r → IsSpoken call → IsRequest r
spoken (Host (Spelled (message.Command flags lun tag expected bytes) c)) r e is = subst IsRequest (sym e) is
spoken call r e is = absurd e

asked_of : (Asked : Request → Type 0) (call : Call) (r : Request) → IsCommand call r → Asks Asked call → Asked r
asked_of Asked (Host (Spelled (message.Command flags lun tag expected bytes) c)) r e asks = subst Asked (sym e) asks
asked_of Asked call r e asks = absurd e

module _ (P : Task → Type 0) (May : Task → Deed → Type 0) (Asked : Request → Type 0) (s : State)
    (k : IsTaskLaw P May Asked s) (all : Every P s.tasks) where
  found_kept : (task : Task) → task_of task.tag s.tasks ≡ Some task → P task
  found_kept task found = every_found P (is_task_of task.tag) s.tasks task found all

  for_frames : (deed : Deed) (purpose : Purpose) (region : ℕ) (gathered : List ℕ) (asked : Bool) →
      purpose ≡ ForFrames region → deed ≡ Gathering purpose gathered asked →
      deed ≡ Gathering (ForFrames region) gathered asked
  for_frames deed purpose region gathered asked is e = e ∙ ap (λ (p : Purpose). Gathering p gathered asked) is

  accepted_may : (task : Task) (purpose : Purpose) (gathered : List ℕ) (asked : Bool) (deed : Deed) →
      task.deed ≡ Gathering purpose gathered asked → P task → IsAcceptedDeed purpose task deed → May task deed
  accepted_may task purpose gathered asked (Answering status carried) e p is =
      subst (λ (n : ℕ). May task (Answering status n)) (sym is.1)
      (k.answers task purpose gathered asked status e p is.0)
  accepted_may task purpose gathered asked (Awaiting position) e p is = k.waits task purpose gathered asked position e p
  accepted_may task purpose gathered asked (Gathering other bytes was) e p is = absurd is
  accepted_may task purpose gathered asked (Sending blocks sent) e p is = absurd is
  accepted_may task purpose gathered asked (SendingBytes bytes) e p is = absurd is
  accepted_may task purpose gathered asked (ReadingArea pages) e p is = absurd is
  accepted_may task purpose gathered asked (Comparing blocks compared was) e p is = absurd is

  happens_kept : (call : Call) (answer : Answer) → IsSpoken call → Asks Asked call → Allowed s call answer →
      (h : Happening) → Why s call answer h → Every P (happened s h).tasks
  happens_kept call answer is asks may (Refuses r status) (a, e) =
      every_more P s.tasks (task_for r None 0 (Answering status 0)) all
      (k.refused r status (spoken call r a.is is) (asked_of Asked call r a.is asks) (a.free may) e)
  happens_kept call answer is asks may (Begins r c) (a, e, passed) =
      every_one_more P s.tasks (begun s r (unit_or_first (unit_of_request s r)) c).tasks all
      (k.begins r c (spoken call r a.is is) (asked_of Asked call r a.is asks) (a.free may) e passed)
  happens_kept call answer is asks may (Gathers task purpose bytes) (d, e, few) =
      k.set task (Gathering purpose bytes false) d.found all
      (subst (λ (xs : List ℕ). May task (Gathering purpose xs false)) (sym e)
      (k.gathers task purpose d.gathered d.more d.asked d.deed (found_kept task d.found) (d.next may)
      (subst (λ (xs : List ℕ). nat_lt (length xs) (to_gather purpose task.length) ≡ true) e few)))
  happens_kept call answer is asks may (Completes task (Told status released)) (purpose, d, told) =
      k.set task (Answering status task.length) d.found all
      (k.answers task purpose d.gathered d.asked status d.deed (found_kept task d.found) told.0)
  happens_kept call answer is asks may (Completes task (Accepted command claimed deed)) (purpose, d, told) =
      k.set task deed d.found all
      (accepted_may task purpose d.gathered d.asked deed d.deed (found_kept task d.found)
      (accepted_deed s task purpose (d.gathered ++ d.more) command claimed deed told.1))
  happens_kept call answer is asks may (Completes task (HasResult region frames result)) (purpose, d, told) =
      k.set_request task _ (Answering Good task.length) d.found all
      (k.answers task (ForFrames region) d.gathered d.asked Good
      (for_frames task.deed purpose region d.gathered d.asked told.purpose_is d.deed)
      (found_kept task d.found) (inl refl))
  happens_kept call answer is asks may (Completes task (ReadsArea region f fs result)) (purpose, d, told) =
      k.set_request task _ (ReadingArea _) d.found all
      (k.reads_area task purpose d.gathered d.asked _ d.deed (found_kept task d.found))
  happens_kept call answer is asks may (Completes task (AcceptsFrames region frames result c)) (purpose, d, told) =
      k.set_request task _ (Awaiting _) d.found all
      (k.waits task purpose d.gathered d.asked _ d.deed (found_kept task d.found))
  happens_kept call answer is asks may (IsSame task blocks compared) d =
      k.set task (deed_after_same task blocks compared) d.found all
      (k.same task blocks compared d.asked d.deed (found_kept task d.found))
  happens_kept call answer is asks may (Differs task compared) (blocks, d) =
      k.set task (Answering miscompare (4096 * (compared + 1))) d.found all
      (k.differs task blocks compared d.asked d.block d.deed d.there (found_kept task d.found))
  happens_kept call answer is asks may (Aborts volatile those short) why =
      every_filtered P (λ task. not (those task)) s.tasks all
  happens_kept call answer is asks may (Resets kind) why = tt
  happens_kept call answer is asks may (GoesOn task deed) (found, e) =
      k.set task deed found all (k.goes task deed e (found_kept task found))
  happens_kept call answer is asks may (IsOver task) found =
      every_filtered P (λ t. not (is_task_of task.tag t)) s.tasks all
  happens_kept call answer is asks may (BlockRead tag index state) why =
      every_mapped P (task_read tag index state) (k.reads tag index state) s.tasks all
  happens_kept call answer is asks may h why = all

  over_kept : (die : ℕ) (flight : Option Flight) (ending : Ending) (left : Array) →
      Every P (job_over s die flight ending left).tasks
  over_kept die None ending left = all
  over_kept die (Some flight) ending left = all

  call_kept : (call : Call) (answer : Answer) → IsSpoken call → Asks Asked call → Allowed s call answer →
      Every P (behind s call answer).tasks
  call_kept (Host h) (OfHost (Ok done)) is asks may =
      behind_by (λ u. Every P u.tasks) s (Host h) (OfHost (Ok done))
      (happens_kept (Host h) (OfHost (Ok done)) is asks may)
  call_kept (Take die) (OfTake None) is asks may = all
  call_kept (Take die) (OfTake (Some flight)) is asks may = all
  call_kept (Done die ending left) (OfDone true) is asks may =
      let over = over_kept die (s.translation.disk.flights die) ending left in
      ends_by (λ u. Every P u.tasks) s die (s.translation.disk.flights die) ending left
      (λ tag index state. every_mapped P (task_read tag index state) (k.reads tag index state) _ over) over
  call_kept Turn (OfTurn due) is asks may = all
  call_kept Reply (OfReply (Some m)) is asks may =
      behind_by (λ u. Every P u.tasks) s Reply (OfReply (Some m)) (happens_kept Reply (OfReply (Some m)) is asks may)
  call_kept call answer is asks may = all

  pub tasks_kept : (call : Call) (answer : Answer) → IsSpoken call → Asks Asked call → Allowed s call answer →
      Every P (observe s call answer).tasks
  tasks_kept call answer is asks may =
      let before = behind s call answer in
      let u = fills before in
      let here =
      every_mapped P (task_filled before) (k.fills before) before.tasks (call_kept call answer is asks may) in
      if_both (λ (t : State). Every P t.tasks) (locked u) (every_mapped P (task_locked u) (k.locks u) u.tasks here) here
