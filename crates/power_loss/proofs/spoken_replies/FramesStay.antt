-- What waits in the registers of the RPMB is always frames of 512 bytes: each call keeps what tasks and registers need.
use Rattle.ufs_laws.proofs.walk.Happenings.{Differs, IsSame}
use Rattle.power_loss.proofs.host_commands.GatheringTasks.{GathersIn, HasMore, gathers_in, room_for}
use Rattle.power_loss.proofs.host_commands.ListsAndFrames.{FramesCame, frames_came}
use Rattle.power_loss.proofs.Common.{All-head, Array, Bool, Ending, Flight, List, None, Numbers, Ok, Option, Plain}
use Rattle.power_loss.proofs.Common.{Shape, Some, Spot, [], ap, false, filter, fold, if_both, length, list_any, map}
use Rattle.power_loss.proofs.Common.{not, refl, subst, sym, true, ℕ, ◌++◌, ◌==◌, ◌∙◌, ◌∷◌, ◌≡◌}
use Rattle.power_loss.proofs.MachineWords.{Allowed, Answer, Answering, AreBytes, Awaiting, Call, Cdb, Command, Deed}
use Rattle.power_loss.proofs.MachineWords.{Done, Every, Gathering, Host, IsOpened, IsSpoken, IsTied, MayCome, OfDone}
use Rattle.power_loss.proofs.MachineWords.{OfHost, OfReply, OfTake, OfTurn, Purpose, ReadingArea, Registers, Reply}
use Rattle.power_loss.proofs.MachineWords.{Request, RpmbRequest, State, Take, Task, Turn, begun, behind, ends_with}
use Rattle.power_loss.proofs.MachineWords.{fills, is_task_of, is_to_fill, lock_applied, locked, numbers_of, observe}
use Rattle.power_loss.proofs.MachineWords.{plain_now, task_filled, task_locked, task_read, unit_of_request}
use Rattle.power_loss.proofs.MachineWords.{unit_or_first, with_deed, with_request}
use Rattle.ufs_spec.specs.Exchanges.{at_region, filled}
use Rattle.ufs_spec.specs.FrameRequests.{filled_by, filled_registers, requested, result_now}
use Rattle.ufs_spec.specs.Frames.{Frame, IsFrame}
use Rattle.ufs_spec.specs.Machine.{registers_after}
use Rattle.ufs_spec.specs.Plain.{shape_of, shape_of_numbers}
use Rattle.ufs_spec.proofs.RegionPages.{area_there}
use Rattle.ufs_laws.proofs.plain_contents.CommandsKeepPlain.{region_right}
use Rattle.std.specs.Prelude.{slice_index_or}
use Rattle.ufs_spec.specs.Refusals.{sends_frames_to, accepts_nothing}
use Rattle.ufs_spec.specs.Rpmb.{Results, region_of, rpmb_outcome}
use Rattle.ufs_spec.specs.RpmbResponses.{emptied_by}
use Rattle.ufs_laws.proofs.walk.Happenings.{Aborts, Begins, BlockRead, Completes, GoesOn, Happening}
use Rattle.ufs_laws.proofs.walk.Happenings.{IsOver, Gathers, Refuses, Resets, Why, behind_by, ends_by, happened, job_over}
use Rattle.ufs_laws.proofs.pages.ByteLists.{bytes-append}
use Rattle.ufs_laws.proofs.walk.TaskLaws.{every_filtered, every_mapped, every_more}
use Rattle.ufs_laws.proofs.walk.WaysOfCommands.{Beginning, Handing, WhyBegun, begins_by, begun_as}
use Rattle.ufs_laws.proofs.walk.WaysOfData.{Accepted, AcceptsFrames, Completion, HasResult, ReadsArea, Told}
use Rattle.ufs_laws.proofs.walk.WaysOfData.{WhyCompleted, completed}
use Rattle.power_loss.specs.WaitingFrames.{AsksInside, FramesAsk, FramesWait, FramesWaitOf, RegistersHold, RequestAsks}
use Rattle.power_loss.proofs.calls.CallsKeepTied.{behind_keeps}
use Rattle.power_loss.proofs.calls.CallsLeaveTheDevice.{behind_kept, call_kept}
use Rattle.power_loss.proofs.commands.RequestedCommands.{asks_inside}
use Rattle.power_loss.proofs.host_commands.AcceptedCommands.{plain_tied, shape_tied}
use Rattle.power_loss.proofs.spoken_replies.ResponseFrames.{empty_hold, emptied_hold, filled_hold, no_response}
use Rattle.power_loss.proofs.spoken_replies.ResponseFrames.{now_success}

-- The request of a task, in areas of so many bytes
abbrev Asks : List ℕ → Task → Type 0
Asks areas task = RequestAsks areas task.request

abbrev Waits : List ℕ → State → Type 0
Waits areas s = FramesWaitOf areas s.tasks s.registers

-- ## Changes

-- the tasks go on with their requests
tasks_go : {areas : List ℕ} (tasks : List Task) (registers : ℕ → Registers) (f : Task → Task) →
    ((task : Task) → Asks areas task → Asks areas (f task)) → FramesWaitOf areas tasks registers →
    FramesWaitOf areas (map f tasks) registers
tasks_go {areas} tasks registers f keeps h =
    record { requests = every_mapped (Asks areas) f keeps tasks h.requests; registers_hold = h.registers_hold }

deed_asks : (areas : List ℕ) (tag : ℕ) (deed : Deed) (task : Task) → Asks areas task →
    Asks areas (with_deed tag deed task)
deed_asks areas tag deed task h = if_both (Asks areas) (is_task_of tag task) h h

-- a task is opened
opened_waits : {areas : List ℕ} (tasks : List Task) (registers : ℕ → Registers) (task : Task) → Asks areas task →
    FramesWaitOf areas tasks registers → FramesWaitOf areas (tasks ++ task ∷ []) registers
opened_waits {areas} tasks registers task asks h =
    record { requests = every_more (Asks areas) tasks task h.requests asks; registers_hold = h.registers_hold }

-- the registers of a region change
region_hold : (registers : ℕ → Registers) (region : ℕ) (r : Registers) → ((n : ℕ) → RegistersHold (registers n)) →
    RegistersHold r → (n : ℕ) → RegistersHold (at_region registers region r n)
region_hold registers region r h one n = if_both RegistersHold (n == region) one (h n)

-- a request comes
requested_waits : {areas : List ℕ} (s : State) (task : Task) (region : ℕ) (frames : List Frame) (result : ℕ)
    (deed : Deed) →
    FramesAsk (slice_index_or areas region 0) frames result → Waits areas s →
    Waits areas (requested s task region frames result deed)
requested_waits {areas} s task region frames result deed asks h = record {
  requests = every_mapped (Asks areas) (with_request task.tag request deed)
      (λ x p. if_both (Asks areas) (is_task_of task.tag x) asks p) s.tasks h.requests;
  registers_hold = region_hold s.registers region (emptied_by frames (s.registers region)) h.registers_hold
      (emptied_hold frames (s.registers region) (h.registers_hold region));
}
  where
    request : RpmbRequest
    request = record { region = region; frames = frames; result = result; filled = false }

-- ## Commands

begun_waits : {areas : List ℕ} (s : State) (r : Request) (unit : ℕ) (c : Cdb) → Waits areas s →
    Waits areas (begun s r unit c)
begun_waits {areas} s r unit c h = begins_by (Waits areas) s r unit c one
  where
    one : (b : Beginning) → WhyBegun s r unit c b → Waits areas (begun_as s r c b)
    one (Handing region n) why = record {
      requests = every_more (Asks areas) s.tasks _ h.requests tt;
      registers_hold = region_hold s.registers region _ h.registers_hold
          (no_response (s.registers region) (h.registers_hold region));
    }
    one b why = opened_waits s.tasks s.registers _ tt h

-- ## All data

-- the area of a region has its bytes
area_of_region : {areas : List ℕ} (p : Plain) (region : ℕ) → (shape_of p).areas ≡ areas →
    length (region_of p region).area ≡ slice_index_or areas region 0
area_of_region p region same =
    sym (area_there p region) ∙ ap (λ (sizes : List ℕ). slice_index_or sizes region 0) same

-- the frames that came ask rightly
frames_ask : (s : State) {task : Task} {region : ℕ} {areas : List ℕ} (frames : List Frame) (result : ℕ)
    (c : Option Command) →
    (shape_of (plain_now s)).areas ≡ areas → FramesCame s task region frames →
    rpmb_outcome region (region_of (plain_now s) region) (s.registers region) (accepts_nothing s) frames ≡ Results result c →
    FramesAsk (slice_index_or areas region 0) frames result
frames_ask s [] result c same came decided = tt
frames_ask s {region = region} {areas} (f ∷ fs) result c same came decided =
    let is = All-head IsFrame f fs came.each in
    record {
      nonce = is.nonce.0;
      nonce_bytes = is.nonce.1;
      inside = λ kind good. subst (λ (n : ℕ). AsksInside n f) (area_of_region (plain_now s) region same)
          (asks_inside (plain_now s) region (s.registers region) (accepts_nothing s) f fs result c decided kind good);
    }

completed_waits : {areas : List ℕ} {s : State} {task : Task} {purpose : Purpose} {gathered all : List ℕ} {asked : Bool}
    (k : Completion) → (shape_of (plain_now s)).areas ≡ areas → GathersIn s task purpose gathered asked →
    HasMore task purpose gathered all → WhyCompleted s task purpose all k → Waits areas s → Waits areas (completed s task k)
completed_waits {s = s} {task} (Told status released) same g more why h =
    tasks_go s.tasks s.registers (with_deed task.tag (Answering status task.length)) (deed_asks _ task.tag _) h
completed_waits {s = s} {task} (Accepted c claimed deed) same g more why h =
    tasks_go s.tasks s.registers (with_deed task.tag deed) (deed_asks _ task.tag deed) h
completed_waits {s = s} {task} (HasResult region frames result) same g more d h =
    requested_waits s task region frames result (Answering _ task.length)
    (frames_ask s frames result None same (frames_came g more d) d.decided) h
completed_waits {s = s} {task} (ReadsArea region f fs result) same g more (d, reads) h =
    requested_waits s task region (f ∷ fs) result (ReadingArea _)
    (frames_ask s (f ∷ fs) result None same (frames_came g more d) d.decided) h
completed_waits {s = s} {task} (AcceptsFrames region frames result c) same g more d h =
    requested_waits s task region frames result (Awaiting _)
    (frames_ask s frames result (Some c) same (frames_came g more d) d.decided) h

-- ## What happens in a call

-- the registers when tasks were aborted
registers_left : {areas : List ℕ} (s : State) (tasks : List Task) → Waits areas s →
    (region : ℕ) → RegistersHold (registers_after tasks s.registers region)
registers_left s tasks h region =
    if_both RegistersHold (list_any (λ (task : Task). sends_frames_to region task.command) tasks) empty_hold
    (h.registers_hold region)

happens_waits : {areas : List ℕ} {s : State} (call : Call) (answer : Answer) (happening : Happening) → IsTied s →
    IsSpoken call → Allowed s call answer → (shape_of (plain_now s)).areas ≡ areas → Why s call answer happening →
    Waits areas s → Waits areas (happened s happening)
happens_waits {s = s} call answer (Refuses r status) v is may same why h = opened_waits s.tasks s.registers _ tt h
happens_waits {s = s} call answer (Begins r c) v is may same why h =
    begun_waits s r (unit_or_first (unit_of_request s r)) c h
happens_waits {s = s} call answer (Gathers task purpose all) v is may same why h =
    tasks_go s.tasks s.registers (with_deed task.tag (Gathering purpose all false)) (deed_asks _ task.tag _) h
happens_waits {s = s} call answer (Completes task k) v is may same (purpose, d, why) h =
    completed_waits k same (gathers_in task.tag v d.found d.deed)
    (room_for task _ d.gathered d.more (d.next may) (λ b. bytes-append d.gathered d.more b (d.are_bytes is))) why h
happens_waits {s = s} call answer (IsSame task blocks compared) v is may same why h =
    tasks_go s.tasks s.registers (with_deed task.tag _) (deed_asks _ task.tag _) h
happens_waits {s = s} call answer (Differs task compared) v is may same why h =
    tasks_go s.tasks s.registers (with_deed task.tag _) (deed_asks _ task.tag _) h
happens_waits {areas} {s} call answer (Aborts volatile those short) v is may same why h = record {
  requests = every_filtered (Asks areas) (λ task. not (those task)) s.tasks h.requests;
  registers_hold = registers_left s (filter those s.tasks) h;
}
happens_waits call answer (Resets kind) v is may same why h = record {
  requests = tt;
  registers_hold = λ region. empty_hold;
}
happens_waits {s = s} call answer (GoesOn task deed) v is may same why h =
    tasks_go s.tasks s.registers (with_deed task.tag deed) (deed_asks _ task.tag deed) h
happens_waits {areas} {s} call answer (IsOver task) v is may same why h = record {
  requests = every_filtered (Asks areas) (λ t. not (is_task_of task.tag t)) s.tasks h.requests;
  registers_hold = h.registers_hold;
}
happens_waits {areas} {s} call answer (BlockRead tag index state) v is may same why h =
    tasks_go s.tasks s.registers (task_read tag index state) (λ t p. if_both (Asks areas) (is_task_of tag t) p p) h
happens_waits call answer happening v is may same why h = h

-- ## Registers that are filled

-- the areas of the regions have so many bytes
abbrev AreaIs : List ℕ → Plain → Type 0
AreaIs areas p = ((shape_of p).areas ≡ areas) × ((region : ℕ) → AreBytes (region_of p region).area)

filled_waits : {areas : List ℕ} (p : Plain) (task : Task) (registers : ℕ → Registers) → AreaIs areas p →
    Asks areas task →
    ((region : ℕ) → RegistersHold (registers region)) → (region : ℕ) →
    RegistersHold (filled_by p task.deed task.request registers region)
filled_waits {areas} p task registers (same, are) asks h = by task.request asks
  where
    by : (o : Option RpmbRequest) → RequestAsks areas o → (region : ℕ) →
        RegistersHold (filled_by p task.deed o registers region)
    by None k region = h region
    by (Some request) k region =
        region_hold registers request.region _ h
        (filled_hold (region_of p request.region) request.frames (result_now task.deed request.result)
        (registers request.region) (are request.region)
        (now request.frames request.result
        (subst (λ (n : ℕ). FramesAsk n request.frames request.result)
        (sym (area_of_region p request.region same)) k))
        (h request.region)) region
      where
        now : (frames : List Frame) (result : ℕ) → FramesAsk (length (region_of p request.region).area) frames result →
            FramesAsk (length (region_of p request.region).area) frames (result_now task.deed result)
        now [] result a = tt
        now (f ∷ fs) result a = record {
          nonce = a.nonce;
          nonce_bytes = a.nonce_bytes;
          inside = λ kind good. a.inside kind (now_success task.deed result good);
        }

filled_all : {areas : List ℕ} (s : State) (tasks : List Task) (registers : ℕ → Registers) → AreaIs areas (plain_now s) →
    Every (Asks areas) tasks → ((region : ℕ) → RegistersHold (registers region)) →
    (region : ℕ) → RegistersHold (fold (λ (rs : ℕ → Registers) (task : Task). filled_registers s task rs) registers
    tasks
    region)
filled_all s [] registers is asks h region = h region
filled_all s (task ∷ tasks) registers is asks h region =
    filled_all s tasks (filled_registers s task registers) is asks.1
    (filled_waits (plain_now s) task registers is asks.0 h) region

task_asks : (areas : List ℕ) (s : State) (task : Task) → Asks areas task → Asks areas (task_filled s task)
task_asks areas s task h = if_both (Asks areas) (is_to_fill s task) (by task.request h) h
  where
    by : (o : Option RpmbRequest) → RequestAsks areas o → RequestAsks areas (filled o)
    by None k = k
    by (Some request) k = k

fills_wait : {areas : List ℕ} (s : State) → AreaIs areas (plain_now s) → Waits areas s → Waits areas (fills s)
fills_wait {areas} s is h = record {
  requests = every_mapped (Asks areas) (task_filled s) (task_asks areas s) s.tasks h.requests;
  registers_hold = filled_all s (filter (is_to_fill s) s.tasks) s.registers is
      (every_filtered (Asks areas) (is_to_fill s) s.tasks h.requests) h.registers_hold;
}

lock_waits : {areas : List ℕ} (s : State) → Waits areas s → Waits areas (lock_applied s)
lock_waits {areas} s h = if_both (Waits areas) (locked s) {y = s}
    (tasks_go s.tasks s.registers (task_locked s) (λ task p. p) h) h

-- ## Calls

area_tied : {s : State} → IsTied s → (shape_of (plain_now s)).areas ≡ (shape_of_numbers (numbers_of s)).areas
area_tied v = ap (λ (x : Shape). x.areas) (shape_tied v)

over_waits : {areas : List ℕ} (s : State) (die : ℕ) (flight : Option Flight) (ending : Ending) (left : Array) →
    Waits areas s →
    Waits areas (job_over s die flight ending left)
over_waits s die None ending left h = h
over_waits s die (Some flight) ending left h = h

behind_waits : {s : State} (call : Call) (answer : Answer) → IsTied s → IsSpoken call → Allowed s call answer →
    FramesWait s → Waits (shape_of_numbers (numbers_of s)).areas (behind s call answer)
behind_waits {s} (Host x) (OfHost (Ok done)) v is may h =
    behind_by (Waits (shape_of_numbers (numbers_of s)).areas) s (Host x) (OfHost (Ok done))
    (λ happening why. happens_waits (Host x) (OfHost (Ok done)) happening v is may (area_tied v) why h)
behind_waits (Take die) (OfTake None) v is may h = h
behind_waits (Take die) (OfTake (Some flight)) v is may h = h
behind_waits {s} (Done die ending left) (OfDone true) v is may h =
    let over = over_waits s die (s.translation.disk.flights die) ending left h in
    ends_by (Waits (shape_of_numbers (numbers_of s)).areas) s die (s.translation.disk.flights die) ending left
    (λ tag index state. tasks_go (job_over s die (s.translation.disk.flights die) ending left).tasks
    (job_over s die (s.translation.disk.flights die) ending left).registers (task_read tag index state)
    (λ t p. if_both (Asks (shape_of_numbers (numbers_of s)).areas) (is_task_of tag t) p p) over) over
behind_waits Turn (OfTurn due) v is may h = h
behind_waits {s} Reply (OfReply (Some m)) v is may h =
    behind_by (Waits (shape_of_numbers (numbers_of s)).areas) s Reply (OfReply (Some m))
    (λ happening why. happens_waits Reply (OfReply (Some m)) happening v is may (area_tied v) why h)
behind_waits call answer v is may h = h

-- a job that ends changes no content
over_plain : (s : State) (die : ℕ) (flight : Option Flight) (ending : Ending) (left : Array) →
    plain_now (job_over s die flight ending left) ≡ plain_now s
over_plain s die None ending left = refl
over_plain s die (Some flight) ending left = refl

ends_plain : (s : State) (die : ℕ) (flight : Option Flight) (ending : Ending) (left : Array) →
    plain_now (ends_with s die flight ending left) ≡ plain_now s
ends_plain s die flight ending left =
    ends_by (λ u. plain_now u ≡ plain_now s) s die flight ending left
    (λ tag index state. over_plain s die flight ending left) (over_plain s die flight ending left)

area_is : {s : State} → IsTied s → AreaIs (shape_of_numbers (numbers_of s)).areas (plain_now s)
area_is {s} v = (area_tied v, λ region. (region_right (plain_now s) (plain_tied v) region).area_bytes)

-- so behind each call the areas has its bytes
area_left : {s : State} (call : Call) (answer : Answer) → IsTied s → MayCome s call → Allowed s call answer →
    AreaIs (shape_of_numbers (numbers_of s)).areas (plain_now (behind s call answer))
area_left {s} call answer v comes may =
    subst (λ (n : Numbers). AreaIs (shape_of_numbers n).areas (plain_now (behind s call answer)))
    (behind_kept s call answer).0 (area_is (behind_keeps call answer v comes may))

area_behind : {s : State} (call : Call) (answer : Answer) → IsTied s → IsSpoken call → Allowed s call answer →
    AreaIs (shape_of_numbers (numbers_of s)).areas (plain_now (behind s call answer))
area_behind {s} (Done die ending left) (OfDone true) v is may =
    subst (AreaIs (shape_of_numbers (numbers_of s)).areas) (sym
    (ends_plain s die (s.translation.disk.flights die) ending left))
    (area_is v)
area_behind (Done die ending left) answer v is may = area_is v
area_behind (Host x) answer v is may = area_left (Host x) answer v is may
area_behind (Take die) answer v is may = area_left (Take die) answer v tt may
area_behind Turn answer v is may = area_left Turn answer v tt may
area_behind Reply answer v is may = area_left Reply answer v tt may

-- behind each call, before registers are filled
pub behind_frames : {s : State} (call : Call) (answer : Answer) → IsTied s → IsSpoken call → Allowed s call answer →
    FramesWait s → FramesWait (behind s call answer)
behind_frames {s} call answer v is may h =
    subst (λ (n : Numbers). FramesWaitOf (shape_of_numbers n).areas (behind s call answer).tasks
    (behind s call answer).registers)
    (sym (behind_kept s call answer).0) (behind_waits call answer v is may h)

pub call_waits : {s : State} (call : Call) (answer : Answer) → IsTied s → IsSpoken call → Allowed s call answer →
    FramesWait s → FramesWait (observe s call answer)
call_waits {s} call answer v is may h =
    subst (λ (n : Numbers). FramesWaitOf (shape_of_numbers n).areas (observe s call answer).tasks
    (observe s call answer).registers)
    (sym (call_kept s call answer).0)
    (lock_waits (fills (behind s call answer))
    (fills_wait (behind s call answer) (area_behind call answer v is may) (behind_waits call answer v is may h)))

pub opened_frames : (n : Numbers) (array : Array) (bad : Spot → Bool) (s : State) → IsOpened n array bad s →
    FramesWait s
opened_frames n array bad s h = record {
  requests = subst (Every (Asks (shape_of_numbers (numbers_of s)).areas)) (sym h.no_tasks) tt;
  registers_hold = λ region. subst (λ (f : ℕ → Registers). RegistersHold (f region)) (sym h.no_registers) empty_hold;
}
