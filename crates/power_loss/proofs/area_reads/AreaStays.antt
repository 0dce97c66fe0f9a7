-- Each call keeps that no more than one task brings frames, and that what a request for data reads shows the area as it
-- is: the area changes by an accepted write of the one task that brings frames, which then reads nothing.
use Rattle.ufs_spec.specs.Exchanges.{Comparing}
use Rattle.ufs_spec.specs.Exchanges.{miscompare}
use Rattle.ufs_spec.specs.DataOuts.{deed_after_same}
use Rattle.ufs_laws.proofs.walk.Happenings.{Differs, IsSame}
use Rattle.std.specs.Prelude.{nat_lt, ◌*◌}
use Rattle.ufs_laws.proofs.walk.WaysOfCommands.{Checking, Verifying}
use Rattle.ufs_spec.specs.CdbFields.{kind_of}
use Rattle.ufs_spec.specs.declared.operations.Kind.TheVariants as kind
use Rattle.ufs_spec.specs.Refusals.{brought}
use Rattle.power_loss.proofs.Common.{◌≡◌, ℕ, Array, Bool, true, false, not, List, [], ◌∷◌, Option, Some, None, map}
use Rattle.power_loss.proofs.Common.{Ok, refl, sym, ap, ◌∙◌, subst, AllByRecursion, Ending, Flight, Numbers, Plain}
use Rattle.power_loss.proofs.Common.{Spot, below, if_both, list_any, or_parts, ◌&&◌, filter, length, ◌==◌, ◌++◌, ◌+◌}
use Rattle.power_loss.proofs.Common.{false≢true, if◌then◌else◌, content}
use Rattle.power_loss.proofs.MachineWords.{Answer, Answering, Awaiting, Call, Cdb, Command, Deed, Done, Event}
use Rattle.power_loss.proofs.MachineWords.{ForFrames, ForUnmap, ForWrite, Gathering, Good, Host, IsOpened, IsTied, Life}
use Rattle.power_loss.proofs.MachineWords.{OfDone, OfHost, OfReply, OfTake, OfTurn, Output, Purpose, ReadBlock}
use Rattle.power_loss.proofs.MachineWords.{ReadState, ReadingArea, Reply, Request, RpmbRequest, Sending, SendingBytes}
use Rattle.power_loss.proofs.MachineWords.{State, Take, Task, TasksDiffer, Turn, Unread, ValidState, accepts, begun}
use Rattle.power_loss.proofs.MachineWords.{behind, fills, is_task_of, is_to_fill, lock_applied, locked, numbers_of}
use Rattle.power_loss.proofs.MachineWords.{observe, plain_now, refusal, sending, task_filled, task_locked, task_of}
use Rattle.power_loss.proofs.MachineWords.{task_read, unit_of_request, unit_or_first, with_deed, with_request}
use Rattle.power_loss.proofs.area_reads.AreaKept.{NamesNone, accepted_none, accepted_shows, accepts_same, each_same}
use Rattle.power_loss.proofs.area_reads.AreaKept.{filled_shows, goes_on, locked_shows, read_shows, setting_none}
use Rattle.power_loss.proofs.area_reads.OneAtATime.{OfTagIfBrings, no_other_brings, one_filtered, one_mapped}
use Rattle.power_loss.proofs.area_reads.OneAtATime.{one_pushed}
use Rattle.power_loss.proofs.host_commands.PassedCommands.{passed}
use Rattle.power_loss.proofs.lives.EachEventKeeps.{one_event}
use Rattle.power_loss.proofs.open_tasks.TaggedLists.{each_filter, each_found, each_map, each_push}
use Rattle.power_loss.proofs.open_tasks.TaskLists.{each_at_tag, each_set}
use Rattle.power_loss.specs.AreaReads.{AreaReads, AreaReadsOf, DeedShows, GathersRightly, OneBrings, ShowsArea}
use Rattle.power_loss.specs.AreaReads.{area_bodies, brings_frames}
use Rattle.ufs_laws.proofs.walk.Happenings.{Aborts, Begins, BlockRead, Completes, Gathers, GetsData, GoesOn, Happening}
use Rattle.ufs_laws.proofs.walk.SmallChanges.{none_left}
use Rattle.ufs_laws.proofs.walk.Happenings.{IsOver, Refuses, Resets, Sets, Why, behind_by, ends_by, happened, job_over}
use Rattle.ufs_laws.proofs.walk.WaysOfCommands.{Answered, Beginning, Gathered, Handing, IsGathered, Reading, Telling}
use Rattle.ufs_laws.proofs.walk.WaysOfCommands.{Waiting, WhyBegun, begins_by, begun_as}
use Rattle.ufs_laws.proofs.walk.WaysOfData.{Accepted, AcceptsFrames, Completion, HasResult, ReadsArea, Told}
use Rattle.ufs_laws.proofs.walk.WaysOfData.{WhyCompleted, accepted_deed, claim_of_task, completed}
use Rattle.ufs_spec.proofs.Lists.{map_twice}
use Rattle.ufs_spec.specs.Begins.{sending_bytes}
use Rattle.ufs_spec.specs.Cdbs.{carried}
use Rattle.ufs_spec.specs.FrameRequests.{area_read, first_page, pages_named}
use Rattle.ufs_spec.specs.Frames.{Frame}
use Rattle.ufs_spec.specs.Keys.{area_key}
use Rattle.ufs_spec.specs.Refusals.{is_security_out, sends_frames}
use Rattle.ufs_spec.specs.declared.scsi.Cdb.TheVariants as cdb

-- ## Lists of tasks

-- each task goes on, with its command
all_go : (p : Plain) (tasks : List Task) (f : Task → Task) → ((task : Task) → (f task).command ≡ task.command) →
    ((task : Task) → ShowsArea p task → ShowsArea p (f task)) → AreaReadsOf p tasks → AreaReadsOf p (map f tasks)
all_go p tasks f same keeps h =
    record { one = one_mapped f same tasks h.one; shows = each_map (ShowsArea p) f keeps tasks h.shows }

-- some go
some_go : (p : Plain) (tasks : List Task) (q : Task → Bool) → AreaReadsOf p tasks → AreaReadsOf p (filter q tasks)
some_go p tasks q h =
    record { one = one_filtered q tasks h.one; shows = each_filter (ShowsArea p) q tasks h.shows }

-- one is opened
opened : (p : Plain) (tasks : List Task) (x : Task) → (brings_frames x ≡ true → list_any brings_frames tasks ≡ false) →
    ShowsArea p x → AreaReadsOf p tasks → AreaReadsOf p (tasks ++ x ∷ [])
opened p tasks x alone shows h =
    record { one = one_pushed tasks x alone h.one; shows = each_push (ShowsArea p) tasks x h.shows shows }

-- one does something else
sets : (p : Plain) (tasks : List Task) (task : Task) (deed : Deed) → TasksDiffer tasks →
    task_of task.tag tasks ≡ Some task → DeedShows p task.command task.length task.request deed → AreaReadsOf p tasks →
    AreaReadsOf p (map (with_deed task.tag deed) tasks)
sets p tasks task deed differ found shows h = record {
  one = one_mapped (with_deed task.tag deed) (λ t. if_both (λ (x : Task). x.command ≡ t.command)
      (is_task_of task.tag t) refl refl) tasks h.one;
  shows = each_set (ShowsArea p) task.tag deed tasks differ found shows h.shows;
}

-- and has a request
one_asks : (task : Task) (request : RpmbRequest) (deed : Deed) (tasks : List Task) → OneBrings tasks →
    OneBrings (map (with_request task.tag request deed) tasks)
one_asks task request deed tasks h =
    one_mapped (with_request task.tag request deed) (λ t. if_both (λ (x : Task). x.command ≡ t.command)
    (is_task_of task.tag t) refl refl) tasks h

asks : (p : Plain) (tasks : List Task) (task : Task) (request : RpmbRequest) (deed : Deed) → TasksDiffer tasks →
    task_of task.tag tasks ≡ Some task → DeedShows p task.command task.length (Some request) deed →
    AreaReadsOf p tasks →
    AreaReadsOf p (map (with_request task.tag request deed) tasks)
asks p tasks task request deed differ found shows h = record {
  one = one_asks task request deed tasks h.one;
  shows = each_at_tag (ShowsArea p) task.tag (λ x. record x { deed = deed; request = Some request }) tasks differ found
      shows h.shows;
}

-- a command is accepted that names no region
accepted : (s : State) (c : Command) (claimed : ℕ) → NamesNone c → AreaReads s →
    AreaReadsOf (plain_now (accepts s c claimed)) s.tasks
accepted s c claimed none h = record {
  one = h.one;
  shows = each_same (plain_now s) (plain_now (accepts s c claimed)) s.tasks (accepts_same s c claimed none) h.shows;
}

-- what is found shows the area
found_shows : (p : Plain) (tasks : List Task) (task : Task) → task_of task.tag tasks ≡ Some task → AreaReadsOf p tasks →
    ShowsArea p task
found_shows p tasks task found h = each_found (ShowsArea p) (is_task_of task.tag) tasks task h.shows found

-- ## Commands

-- a command that brings frames begins while no other is open
alone : (s : State) (r : Request) (c : Cdb) → r.cdb ≡ Some c → refusal s r ≡ None →
    is_security_out (brought r.expected c) ≡ true → list_any brings_frames s.tasks ≡ false
alone s r c e none brings =
    sym (ap (λ b. b && list_any brings_frames s.tasks) brings)
    ∙ (or_parts (is_security_out (brought r.expected c) && list_any brings_frames s.tasks) _ (passed s r c e none).room).0

sending_shows : (p : Plain) (c : Cdb) (total : ℕ) (blocks : List ReadBlock) (n : ℕ) →
    DeedShows p (Some c) total None (sending blocks n)
sending_shows p c total [] n = tt
sending_shows p c total (b ∷ bs) n = tt

bytes_show : (p : Plain) (c : Cdb) (total : ℕ) (r : Request) (bytes : List ℕ) →
    DeedShows p (Some c) total None (sending_bytes r bytes)
bytes_show p c total r bytes = if_both (DeedShows p (Some c) total None) (carried r.expected (length bytes) == 0) tt tt

gathers_rightly : (n : Numbers) (unit : ℕ) (r : Request) (c : Cdb) (count : ℕ) (purpose : Purpose) (total : ℕ) →
    IsGathered n unit r c count purpose total → GathersRightly purpose total (Some (brought r.expected c))
gathers_rightly n unit r c count (ForWrite u address blocks forced) total w =
    (brought r.expected c, refl, w.same_address ∙ sym w.address_is, w.those ∙ sym w.blocks_are, w.still_writes)
gathers_rightly n unit r c count (ForUnmap u) total is = ap (λ (x : Cdb). Some (brought r.expected x)) is.1
gathers_rightly n unit r c count (ForFrames region) total is = ap (λ (x : Cdb). Some (brought r.expected x)) is

-- a VERIFY brings no frames
verify_sends : (expected : ℕ) (c : Cdb) → kind_of c ≡ kind.Verify → sends_frames (Some (brought expected c)) ≡ false
verify_sends expected (cdb.SecurityOut region n) e = absurd (other e)
  where
    other : kind.SecurityOut ≡ kind.Verify → ⊥
    other k = cc
verify_sends expected c e = refl

begun_reads : (s : State) (r : Request) (unit : ℕ) (c : Cdb) →
    (is_security_out (brought r.expected c) ≡ true → list_any brings_frames s.tasks ≡ false) → AreaReads s →
    AreaReads (begun s r unit c)
begun_reads s r unit c free h = begins_by AreaReads s r unit c one
  where
    p : Plain
    p = plain_now s

    one : (b : Beginning) → WhyBegun s r unit c b → AreaReads (begun_as s r c b)
    one (Answered expected n) why = opened p s.tasks _ free tt h
    one Waiting why = opened p s.tasks _ free tt h
    one (Telling volatile bytes) why = opened p s.tasks _ free (bytes_show p (brought r.expected c) _ r bytes) h
    one (Handing region n) why =
        opened p s.tasks _ (λ e. absurd (false≢true e)) (bytes_show p (cdb.SecurityIn region n) _ r _) h
    one (Reading u address n) why = opened p s.tasks _ free (sending_shows p (brought r.expected c) _ _ n) h
    one (Verifying u address n) why = opened p s.tasks _ free (verify_sends r.expected c why.3) h
    one (Checking u address n) why = opened p s.tasks _ free tt h
    one (Gathered expected count purpose n) why =
        opened p s.tasks _ free (gathers_rightly (numbers_of s) unit r c count purpose n why.4) h

-- ## All data

-- what gathers frames brings them
brings : {purpose : Purpose} {region : ℕ} (total : ℕ) (command : Option Cdb) → purpose ≡ ForFrames region →
    GathersRightly purpose total command → sends_frames command ≡ true
brings total command is h = ap sends_frames (subst (λ (x : Purpose). GathersRightly x total command) is h)

-- what is kept of the pages has their content of this moment
read_now : (s : State) (region : ℕ) (f : Frame) →
    map (λ (page : ReadBlock). page.body) (area_read s region f) ≡ area_bodies (plain_now s) region f
read_now s region f =
    map_twice (λ (page : ReadBlock). page.body)
    (λ i. record { body = content (plain_now s) (area_key region (first_page f + i)); state = Unread })
    (below (pages_named f))

-- what brings no frames reads nothing of the area
other_shows : (p q : Plain) (command : Option Cdb) (total : ℕ) (request : Option RpmbRequest) (deed : Deed) →
    (sends_frames command ≡ true → ⊥) → DeedShows p command total request deed → DeedShows q command total request deed
other_shows p q command total None (ReadingArea pages) none h = h
other_shows p q command total (Some request) (ReadingArea pages) none h = absurd (none h.0)
other_shows p q command total request (Gathering purpose gathered asked) none h = h
other_shows p q command total request (Sending blocks sent) none h = h
other_shows p q command total request (SendingBytes bytes) none h = h
other_shows p q command total request (Awaiting commands) none h = h
other_shows p q command total request (Comparing blocks compared asked) none h = h
other_shows p q command total request (Answering status carried) none h = h

-- the one task that brings frames waits for its command, and no other reads the area, whatever it is then
others_show : (p q : Plain) (tag : ℕ) (request : RpmbRequest) (commands : ℕ) (tasks : List Task) →
    AllByRecursion (OfTagIfBrings tag) tasks → AllByRecursion (ShowsArea p) tasks →
    AllByRecursion (ShowsArea q) (map (with_request tag request (Awaiting commands)) tasks)
others_show p q tag request commands [] only h = tt
others_show p q tag request commands (t ∷ ts) only h =
    (by (is_task_of tag t) refl, others_show p q tag request commands ts only.1 h.1)
  where
    by : (b : Bool) → is_task_of tag t ≡ b →
        ShowsArea q (if b then record t { deed = Awaiting commands; request = Some request } else t)
    by true e = tt
    by false e =
        other_shows p q t.command t.length t.request t.deed (λ is. absurd (false≢true (sym e ∙ only.0 is))) h.0

accepts_frames : (s : State) (task : Task) (request : RpmbRequest) (c : Command) (claimed commands : ℕ) →
    task_of task.tag s.tasks ≡ Some task → sends_frames task.command ≡ true → AreaReads s →
    AreaReadsOf (plain_now (accepts s c claimed)) (map (with_request task.tag request (Awaiting commands)) s.tasks)
accepts_frames s task request c claimed commands found is h = record {
  one = one_asks task request (Awaiting commands) s.tasks h.one;
  shows = others_show (plain_now s) (plain_now (accepts s c claimed)) task.tag request commands s.tasks
      (no_other_brings task.tag s.tasks task h.one found is) h.shows;
}

completed_reads : (s : State) (task : Task) (purpose : Purpose) (all : List ℕ) (k : Completion) → TasksDiffer s.tasks →
    task_of task.tag s.tasks ≡ Some task → GathersRightly purpose task.length task.command →
    WhyCompleted s task purpose all k →
    AreaReads s → AreaReads (completed s task k)
completed_reads s task purpose all (Told status released) differ found gathers why h =
    sets (plain_now s) s.tasks task (Answering status task.length) differ found tt h
completed_reads s task purpose all (Accepted c claimed deed) differ found gathers (free, is) h =
    let p = plain_now (accepts s c claimed) in
    sets p s.tasks task deed differ found
    (accepted_shows p task.command task.length task.request purpose task deed
    (accepted_deed s task purpose all c claimed deed is))
    (accepted s c claimed (accepted_none s task purpose all c claimed deed is) h)
completed_reads s task purpose all (HasResult region frames result) differ found gathers why h =
    asks (plain_now s) s.tasks task _ (Answering Good task.length) differ found tt h
completed_reads s task purpose all (ReadsArea region f fs result) differ found gathers (d, reads) h =
    asks (plain_now s) s.tasks task
    (record { region = region; frames = f ∷ fs; result = result; filled = false }) (ReadingArea (area_read s region f))
    differ found (brings task.length task.command d.purpose_is gathers, read_now s region f) h
completed_reads s task purpose all (AcceptsFrames region frames result c) differ found gathers d h =
    accepts_frames s task _ c (claim_of_task s task) (length s.accepted + 1) found
    (brings task.length task.command d.purpose_is gathers) h

-- ## What happens in a call

-- a block is read
blocks_read : (s : State) (tag index : ℕ) (state : ReadState) → AreaReads s →
    AreaReads (happened s (BlockRead tag index state))
blocks_read s tag index state h =
    all_go (plain_now s) s.tasks (task_read tag index state)
    (λ t. if_both (λ (x : Task). x.command ≡ t.command) (is_task_of tag t) refl refl)
    (read_shows (plain_now s) tag index state) h

-- a task that gets data gathers for its purpose
gathers_for : {s : State} {call : Call} {answer : Answer} (task : Task) (purpose : Purpose) →
    GetsData s call answer task purpose → AreaReads s → GathersRightly purpose task.length task.command
gathers_for {s} task purpose d h =
    subst (DeedShows (plain_now s) task.command task.length task.request) d.deed
    (found_shows (plain_now s) s.tasks task d.found h)

-- a block that was compared leaves nothing of the area
same_reads : (p : Plain) (task : Task) (blocks : List ReadBlock) (compared : ℕ) →
    DeedShows p task.command task.length task.request (deed_after_same task blocks compared)
same_reads p task blocks compared =
    if_both (DeedShows p task.command task.length task.request) (nat_lt (compared + 1) (length blocks)) tt tt

happens_reads : (s : State) (call : Call) (answer : Answer) (happening : Happening) → TasksDiffer s.tasks →
    Why s call answer happening → AreaReads s → AreaReads (happened s happening)
happens_reads s call answer (Refuses r status) differ why h =
    opened (plain_now s) s.tasks _ (λ e. absurd (false≢true e)) tt h
happens_reads s call answer (Begins r c) differ (asked, e, none) h =
    begun_reads s r (unit_or_first (unit_of_request s r)) c (alone s r c e none) h
happens_reads s call answer (Gathers task purpose all) differ (d, e, few) h =
    sets (plain_now s) s.tasks task (Gathering purpose all false) differ d.found (gathers_for task purpose d h) h
happens_reads s call answer (Completes task k) differ (purpose, d, why) h =
    completed_reads s task purpose (d.gathered ++ d.more) k differ d.found (gathers_for task purpose d h) why h
happens_reads s call answer (IsSame task blocks compared) differ d h =
    sets (plain_now s) s.tasks task (deed_after_same task blocks compared) differ d.found
    (same_reads (plain_now s) task blocks compared) h
happens_reads s call answer (Differs task compared) differ (blocks, d) h =
    sets (plain_now s) s.tasks task (Answering miscompare (4096 * (compared + 1))) differ d.found tt h
happens_reads s call answer (Sets c short) differ (tag, q, ok, e, same) h = accepted s c 1 (setting_none q c e) h
happens_reads s call answer (Aborts volatile those short) differ why h =
    some_go (plain_now s) s.tasks (λ task. not (those task)) h
happens_reads s call answer (Resets kind) differ why h =
    subst (AreaReadsOf (plain_now s)) (none_left s.tasks) (some_go (plain_now s) s.tasks (λ task. not true) h)
happens_reads s call answer (GoesOn task deed) differ (found, e) h =
    sets (plain_now s) s.tasks task deed differ found
    (goes_on (plain_now s) task deed e (found_shows (plain_now s) s.tasks task found h)) h
happens_reads s call answer (IsOver task) differ why h =
    some_go (plain_now s) s.tasks (λ t. not (is_task_of task.tag t)) h
happens_reads s call answer (BlockRead tag index state) differ why h = blocks_read s tag index state h
happens_reads s call answer happening differ why h = h

-- ## Calls

over_reads : (s : State) (die : ℕ) (flight : Option Flight) (ending : Ending) (left : Array) → AreaReads s →
    AreaReads (job_over s die flight ending left)
over_reads s die None ending left h = h
over_reads s die (Some flight) ending left h = h

-- before what became due fills its register
pub behind_reads : {s : State} (call : Call) (answer : Answer) → IsTied s → AreaReads s →
    AreaReads (behind s call answer)
behind_reads {s} (Host x) (OfHost (Ok done)) v h =
    behind_by AreaReads s (Host x) (OfHost (Ok done))
    (λ happening why. happens_reads s (Host x) (OfHost (Ok done)) happening v.tasks.tasks_differ why h)
behind_reads (Take die) (OfTake None) v h = h
behind_reads (Take die) (OfTake (Some flight)) v h = h
behind_reads {s} (Done die ending left) (OfDone true) v h =
    let o = s.translation.disk.flights die in
    let over = over_reads s die o ending left h in
    ends_by AreaReads s die o ending left
    (λ tag index state. blocks_read (job_over s die o ending left) tag index state over) over
behind_reads Turn (OfTurn due) v h = h
behind_reads {s} Reply (OfReply (Some m)) v h =
    behind_by AreaReads s Reply (OfReply (Some m))
    (λ happening why. happens_reads s Reply (OfReply (Some m)) happening v.tasks.tasks_differ why h)
behind_reads call answer v h = h

fills_read : (s : State) → AreaReads s → AreaReads (fills s)
fills_read s h = all_go (plain_now s) s.tasks (task_filled s)
    (λ t. if_both (λ (x : Task). x.command ≡ t.command) (is_to_fill s t) refl refl) (filled_shows (plain_now s) s) h

lock_reads : (s : State) → AreaReads s → AreaReads (lock_applied s)
lock_reads s h = if_both AreaReads (locked s) {y = s}
    (all_go (plain_now s) s.tasks (task_locked s) (λ t. refl) (locked_shows (plain_now s) s) h) h

-- behind the whole call
pub call_reads : {s : State} (call : Call) (answer : Answer) → IsTied s → AreaReads s →
    AreaReads (observe s call answer)
call_reads {s} call answer v h =
    lock_reads (fills (behind s call answer)) (fills_read (behind s call answer) (behind_reads call answer v h))

-- as a life begins no task is open
pub opened_reads : (n : Numbers) (array : Array) (bad : Spot → Bool) (s : State) → IsOpened n array bad s → AreaReads s
opened_reads n array bad s h =
    subst (AreaReadsOf (plain_now s)) (sym h.no_tasks) (record { one = tt; shows = tt })

-- and so does a whole life
pub life_reads : (s t : State) (es : List Event) (os : List Output) → ValidState s → AreaReads s → Life s es os t →
    AreaReads t
life_reads s t [] [] v h life = subst AreaReads (sym life) h
life_reads s t (e ∷ es) (o ∷ os) v h life =
    let l = life.1 in
    life_reads life.0 t es os (one_event s life.0 e o v l)
    (subst AreaReads (sym l.next) (call_reads l.call l.answer v.tied h)) life.2
life_reads s t es os v h life = absurd life
