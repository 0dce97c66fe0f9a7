-- The task that fills its register: what it keeps then is kept of the specified task, whose request has filled its
-- register and which keeps no page any more; all other tasks stay.
use Rattle.device.specs.Describes.{BringsFor}
use Rattle.device.proofs.Common.{Answering, AreClaimed, AreFramesKept, AreaReads, Awaiting, Bool, Deed, DeviceCore}
use Rattle.device.proofs.Common.{Frames, FramesFit, FramesWait, Gathering, HasResponded, IsAsked, IsDoing, IsFor}
use Rattle.device.proofs.Common.{IsKept, IsRead, IsTied, Keeps, LetGoAll, List, Machine, None, Numbers, OneSends}
use Rattle.device.proofs.Common.{OpenTask, Option, Phase, Pin, ReadingArea, ReadsAsked, Region, RegionState}
use Rattle.device.proofs.Common.{RpmbRequest, Sending, SendingBytes, ShowsReads, Some, State, TaskKept, TasksKept}
use Rattle.device.proofs.Common.{Translation, [], and_parts, ap, at_region, before_accepted, brings_frames, claimed_by}
use Rattle.device.proofs.Common.{claimed_in, claims_of, cond, eq_self, eqb-true, false, false≢true, filled, filled_with}
use Rattle.device.proofs.Common.{fills, filter, found_in, found_is, frames_after, frames_of, if_false, if_true}
use Rattle.device.proofs.Common.{is_due_in, is_good_due, is_task_of, is_to_fill, is_unfilled, length, length-map}
use Rattle.device.proofs.Common.{machine_at, map, most_tasks, moved, not, numbers_of, option_map, phase_after}
use Rattle.device.proofs.Common.{plain_now, refl, region_of, regions, same_Some, slice_get, subst, sym, take}
use Rattle.device.proofs.Common.{task_after, task_filled, task_happened, task_of, true, wanted_by, wanted_in}
use Rattle.device.proofs.Common.{wanted_kept, with_machine, with_reads, ℕ, ◌&&◌, ◌<◌, ◌==◌, ◌∙◌, ◌∷◌, ◌≡◌, ◌≤◌}
use Rattle.ufs_spec.specs.Exchanges as exchange
use Rattle.ufs_spec.specs.Exchanges.{Comparing}
use Rattle.ufs_spec.specs.FrameRequests.{filled_by, filled_registers}
use Rattle.power_loss.proofs.ordered_lists.ElementsAndOrders.{has_at}
use Rattle.ftl_core.specs.Public as layer_kept
use Rattle.task_set.specs.declared.frames.Frames.TheVariants as frames
use Rattle.task_set.specs.declared.tasks.Phase.TheVariants as phase
use Rattle.task_set.specs.declared.tasks.TaskEvent.TheVariants as event
use Rattle.device.specs.Describes.{HasFilledIts, asks_of, keeps_pages}
use Rattle.device.specs.Frames.{HasFilledAt, data_for, first_held, frame_held}
use Rattle.device.proofs.described.AreaRead.{filled_by_first, read_right, reads_of, result_is}
use Rattle.device.proofs.described.Machines.{as_many, regions_same, registers_put}
use Rattle.device.proofs.described.OneChanges.{changed_at, only_one}
use Rattle.device.proofs.described.OneSender.{one_set}
use Rattle.device.proofs.described.Settled.{fills_by}
use Rattle.device.proofs.due_replies.PinsLetGo.{gone_pins, other_pins}
use Rattle.device.proofs.open_tasks.KeptByTag.{WantedForAll}
use Rattle.device.proofs.open_tasks.OpenTasks.{IsOpen}
use Rattle.device.proofs.open_tasks.VerifyEnds.{filled_keeps_none}
use Rattle.device.proofs.open_tasks.ReadProgress.{KeepsTag, by_tag, each_goes_on, one_goes_on, tag_kept}

-- What a task keeps that fills its register

-- it is still of its region
asked_still : (region : ℕ) (o : Option RpmbRequest) → IsFor region (asks_of o) → IsFor region (asks_of (filled o))
asked_still region None h = h
asked_still region (Some request) h = h

-- it keeps its tag, and what it has claimed
filled_tag : (v : State) → KeepsTag (task_filled v)
filled_tag v x = by (is_to_fill v x)
  where
    by : (b : Bool) → (cond b (record x { request = filled x.request }) x).tag ≡ x.tag
    by true = refl
    by false = refl

filled_claims : (m : Numbers) (v : State) (x : exchange.Task) →
    claimed_in m (task_filled v x).length (task_filled v x).deed ≡ claimed_in m x.length x.deed
filled_claims m v x = by (is_to_fill v x)
  where
    by : (b : Bool) →
        claimed_in m (cond b (record x { request = filled x.request }) x).length
        (cond b (record x { request = filled x.request }) x).deed
        ≡ claimed_in m x.length x.deed
    by true = refl
    by false = refl

-- its request has filled its register
asked_filled : (o : Option RpmbRequest) → is_unfilled o ≡ true → HasFilledIts (filled o)
asked_filled None asks = absurd (false≢true asks)
asked_filled (Some request) asks = refl

-- and it keeps no page any more
filled_wants : (v : State) (b : exchange.Task) (deed : Deed) (index : ℕ) → is_unfilled b.request ≡ true →
    is_good_due v b deed ≡ true → wanted_in index (filled b.request) deed ≡ None
filled_wants v b (Gathering purpose gathered asked) index asks good = refl
filled_wants v b (Sending blocks sent) index asks good = absurd (false≢true good)
filled_wants v b (SendingBytes bytes) index asks good = refl
filled_wants v b (Awaiting commands) index asks good = refl
filled_wants v b (ReadingArea pages) index asks good =
    if_false (keeps_pages (filled b.request)) _ None
    (filled_keeps_none (filled b.request) (asked_filled b.request asks))
filled_wants v b (Comparing blocks compared asked) index asks good = absurd (false≢true good)
filled_wants v b (Answering status carried) index asks good = refl

-- what happens to the frames of a task whose register is filled
abbrev task_frames : Frames → Frames
task_frames f = frames_after f event.RegisterFilled

-- its phase stays
phase_stays : (p : Phase) → phase_after p event.RegisterFilled ≡ p
phase_stays (phase.AwaitFrontier n size) = refl
phase_stays (phase.Answer told n) = refl
phase_stays (phase.Ask w) = refl
phase_stays (phase.Await w) = refl
phase_stays (phase.ReadArea r) = refl
phase_stays (phase.Verify x) = refl
phase_stays (phase.AskBlock x) = refl
phase_stays (phase.AwaitBlock x) = refl
phase_stays (phase.SendBlocks x) = refl
phase_stays (phase.SendHeld x) = refl

frames_fit : (t : Translation) (tag : ℕ) (p : Phase) (code : ℕ) (held : Option (List ℕ)) (deed : Deed) →
    is_due_in t tag p ≡ true → FramesFit p (frames.Decided code) held deed → FramesFit p frames.Answered held deed
frames_fit t tag (phase.AwaitFrontier n size) code held deed due h = tt
frames_fit t tag (phase.Answer told n) code held deed due h = tt
frames_fit t tag (phase.ReadArea r) code held deed due h = (tt, h.1)
frames_fit t tag (phase.Verify x) code held deed due h = absurd (false≢true due)
frames_fit t tag (phase.AskBlock x) code held deed due h = absurd (false≢true due)
frames_fit t tag (phase.AwaitBlock x) code held deed due h = absurd (false≢true due)
frames_fit t tag (phase.Ask w) code held deed due h = absurd (false≢true due)
frames_fit t tag (phase.Await w) code held deed due h = absurd (false≢true due)
frames_fit t tag (phase.SendBlocks x) code held deed due h = absurd (false≢true due)
frames_fit t tag (phase.SendHeld x) code held deed due h = absurd (false≢true due)

-- One fills

-- the task at this position fills its register, on both sides, and no other task has a request that is yet to do so
pub record FillsOne (e : DeviceCore) (v : State) (n : ℕ) (a : OpenTask) (b : exchange.Task) : Type 0 where
  pub opened : IsOpen (before_accepted v.translation.ledger) n e.tasks v.tasks a b
  pub due : is_due_in v.translation a.tag a.phase ≡ true
  pub fill : is_to_fill v b ≡ true
  pub others : (j : ℕ) (x : exchange.Task) → slice_get v.tasks j ≡ Some x → (j ≡ n → ⊥) → is_unfilled x.request ≡ false
  pub found : task_of b.tag v.tasks ≡ Some b

-- what holds of the state
pub record Knows (v : State) : Type 0 where
  pub tied : IsTied v
  pub shows : ShowsReads v
  pub waits : FramesWait v
  pub reads : AreaReads v

module _ (e : DeviceCore) (v : State) (k : Keeps e v) (n : ℕ) (a : OpenTask) (b : exchange.Task)
    (one : FillsOne e v n a b) where
  abbrev o : IsOpen (before_accepted v.translation.ledger) n e.tasks v.tasks a b
  o = one.opened

  good : is_good_due v b b.deed ≡ true
  good = (and_parts (is_unfilled b.request) (is_good_due v b b.deed) one.fill).1

  asking : is_unfilled b.request ≡ true
  asking = (and_parts (is_unfilled b.request) (is_good_due v b b.deed) one.fill).0

  -- any other task stays
  none_filled : (j : ℕ) (x : exchange.Task) → slice_get v.tasks j ≡ Some x → (j ≡ n → ⊥) → is_to_fill v x ≡ false
  none_filled j x at differ = ap (λ (c : Bool). c && is_good_due v x x.deed) (one.others j x at differ)

  stays : (j : ℕ) (x : exchange.Task) → slice_get v.tasks j ≡ Some x → (j ≡ n → ⊥) → task_filled v x ≡ x
  stays j x at differ =
      if_false (is_to_fill v x) (record x { request = filled x.request }) x (none_filled j x at differ)

  abbrev filled_task : exchange.Task
  filled_task = record b { request = filled b.request }

  is_filled : task_filled v b ≡ filled_task
  is_filled = if_true (is_to_fill v b) filled_task b one.fill

  abbrev then_filled : State
  then_filled = fills_by v (b ∷ []) (map (task_filled v) v.tasks)

  pub state_is : fills v ≡ then_filled
  state_is = ap (λ (due : List exchange.Task). fills_by v due (map (task_filled v) v.tasks))
      (only_one (is_to_fill v) v.tasks n b o.theirs one.fill none_filled)

  -- Its task

  module _ (code : ℕ) (decided : a.frames ≡ frames.Decided code) where
    its_task : TaskKept (before_accepted v.translation.ledger) (task_after event.RegisterFilled a) filled_task
    its_task = record {
      lun = o.kept.lun;
      tag = o.kept.tag;
      expected = o.kept.expected;
      brings =
          subst (λ (x : Bool). BringsFor a.region x b.command)
          (ap brings_frames decided ∙ sym (ap brings_frames (ap task_frames decided))) o.kept.brings;
      gathers = o.kept.gathers;
      asked_of = asked_still a.region b.request o.kept.asked_of;
      request = subst (λ (f : Frames). AreFramesKept f a.held (filled b.request)) (sym (ap task_frames decided))
          (asked_filled b.request asking);
      asks = subst (λ (f : Frames). ReadsAsked (phase_after a.phase event.RegisterFilled) f a.held)
          (sym (ap task_frames decided)) tt;
      fits = subst (λ (p : Phase). FramesFit p (task_frames a.frames) a.held b.deed) (sym (phase_stays a.phase))
          (subst (λ (f : Frames). FramesFit a.phase f a.held b.deed) (sym (ap task_frames decided))
          (frames_fit v.translation a.tag a.phase code a.held b.deed one.due
          (subst (λ (f : Frames). FramesFit a.phase f a.held b.deed) decided o.kept.fits)));
      doing = subst (λ (p : Phase). IsDoing (before_accepted v.translation.ledger) a.expected b.length p b.deed)
          (sym (phase_stays a.phase)) o.kept.doing;
      read = o.kept.read;
    }

    all_tasks : TasksKept (before_accepted v.translation.ledger)
        (task_happened e.tasks n event.RegisterFilled (slice_get e.tasks n)) (map (task_filled v) v.tasks)
    all_tasks =
        subst (λ x. TasksKept (before_accepted v.translation.ledger) (task_happened e.tasks n event.RegisterFilled x)
        (map (task_filled v) v.tasks)) (sym o.ours)
        (changed_at (before_accepted v.translation.ledger) n e.tasks v.tasks (task_after event.RegisterFilled a) b
        (task_filled v) k.tasks o.theirs
        (subst (TaskKept (before_accepted v.translation.ledger) (task_after event.RegisterFilled a)) (sym is_filled)
        its_task)
        stays)

    sends_once : OneSends (task_happened e.tasks n event.RegisterFilled (slice_get e.tasks n))
    sends_once =
        subst (λ x. OneSends (task_happened e.tasks n event.RegisterFilled x)) (sym o.ours)
        (one_set n e.tasks a (task_after event.RegisterFilled a) o.ours
        (ap brings_frames (ap task_frames decided) ∙ sym (ap brings_frames decided)) k.one_sends)

    its_asked : IsAsked code a.held b.request
    its_asked = subst (λ (f : Frames). AreFramesKept f a.held b.request) decided o.kept.request

  -- Its register

  abbrev region_now : Region
  region_now = region_of (plain_now v) a.region

  module _ (knows : Knows v) (code : ℕ) (decided : a.frames ≡ frames.Decided code) (machines : List Machine)
      (responded : HasResponded e.rpmb machines a code (data_for v.translation a a.phase)) where
    abbrev x : IsAsked code a.held b.request
    x = its_asked code decided

    abbrev result : ℕ
    result = with_reads (reads_of b.deed) code

    abbrev machine : Machine
    machine = machine_at e.rpmb a.region

    there : a.region < regions
    there = o.kept.brings.in_regions (o.kept.brings.sends ∙ ap brings_frames decided)

    region_is : x.asked.region ≡ a.region
    region_is = subst (λ (request : Option RpmbRequest). IsFor a.region (asks_of request)) x.is o.kept.asked_of

    -- the machine that has responded
    abbrev filled_machine : Machine
    filled_machine = record machine {
      registers = filled_with region_now (frames_of (take 512 x.bytes)) result machine.registers;
    }

    machines_are : machines ≡ with_machine e.rpmb a.region filled_machine
    machines_are =
        subst (λ (xs : List ℕ). machines ≡ with_machine e.rpmb a.region (record machine {
          registers = filled_with region_now (frames_of xs) result machine.registers;
        })) frame
        (responded region_now (reads_of b.deed) there (k.region a.region)
        (subst (λ (xs : List ℕ).
        IsRead region_now (frames_of xs) code (reads_of b.deed) (data_for v.translation a a.phase)) (sym frame)
        (read_right v knows.tied knows.shows knows.waits knows.reads k.wanted a b o.kept one.found code decided x
        one.due)))
      where
        frame : frame_held a ≡ take 512 x.bytes
        frame = ap first_held x.is_held

    -- what its register is filled with
    filled_is : filled_with region_now x.asked.frames (with_reads (reads_of b.deed) x.asked.result) (v.registers a.region)
        ≡ filled_machine.registers
    filled_is =
        (λ i. filled_with region_now x.asked.frames (with_reads (reads_of b.deed) (x.result i)) (k.registers a.region i))
        ∙ filled_by_first region_now x.bytes result x.asked.frames machine.registers x.long x.first

    -- the registers of each region
    its_registers : (number : ℕ) → filled_registers v b v.registers number ≡ (machine_at machines number).registers
    its_registers number =
        ap (λ (r : Option RpmbRequest). filled_by (plain_now v) b.deed r v.registers number) x.is
        ∙ ((λ i. at_region v.registers (region_is i)
        (filled_with (region_of (plain_now v) (region_is i)) x.asked.frames (result_is b.deed x.asked.result i)
        (v.registers (region_is i))) number)
        ∙ (registers_put v.registers e.rpmb a.region
        (filled_with region_now x.asked.frames (with_reads (reads_of b.deed) x.asked.result) (v.registers a.region))
        filled_machine (subst (λ (m : ℕ). a.region < m) (sym k.each) there) k.registers filled_is number
        ∙ sym (ap (λ (ms : List Machine). (machine_at ms number).registers) machines_are)))

    its_regions : (number : ℕ) → IsKept (machine_at machines number).region (region_of (plain_now v) number)
    its_regions number =
        subst (λ (r : RegionState). IsKept r (region_of (plain_now v) number))
        (sym (ap (λ (ms : List Machine). (machine_at ms number).region) machines_are
        ∙ regions_same e.rpmb a.region number filled_machine refl)) (k.region number)

    its_count : length machines ≡ regions
    its_count = ap length machines_are ∙ as_many e.rpmb a.region filled_machine ∙ k.each

  -- What is kept for each tag

  -- a task of another tag stays
  others_stay : (tag : ℕ) → (tag == b.tag) ≡ false →
      task_of tag (map (task_filled v) v.tasks) ≡ task_of tag v.tasks
  others_stay tag other = tag_kept (task_filled v) tag v.tasks (filled_tag v) ∙ by (task_of tag v.tasks) refl
    where
      by : (o : Option exchange.Task) → task_of tag v.tasks ≡ o → option_map (task_filled v) o ≡ o
      by None e = refl
      by (Some y) e =
          let place = has_at v.tasks y (found_in (is_task_of tag) v.tasks y e).0 in
          ap (λ (z : exchange.Task). Some z)
          (stays place.0 y place.1
          (λ same. false≢true
          (sym other
          ∙ (ap (λ (z : exchange.Task). tag == z.tag)
          (same_Some b y (sym o.theirs ∙ (ap (slice_get v.tasks) (sym same) ∙ place.1)))
          ∙ (ap (λ (m : ℕ). tag == m) (eqb-true y.tag tag (found_is (is_task_of tag) v.tasks y e)) ∙ eq_self tag)))))

  abbrev pins_then : List Pin
  pins_then = filter (λ pin. not (pin.tag == b.tag)) v.translation.pins

  wants : WantedForAll pins_then (map (task_filled v) v.tasks)
  wants tag index =
      by_tag (λ (m : ℕ). wanted_kept pins_then m index ≡ wanted_by index (task_of m (map (task_filled v) v.tasks)))
      b.tag
      (gone_pins b.tag index v.translation.pins
      ∙ sym
      (ap (wanted_by index) (one_goes_on (task_filled v) v.tasks b.tag b (filled_tag v) one.found)
      ∙ (ap (λ (y : exchange.Task). wanted_by index (Some y)) is_filled ∙ filled_wants v b b.deed index asking good)))
      (λ other differ. other_pins b.tag other index v.translation.pins differ
      ∙ (k.wanted other index ∙ sym (ap (wanted_by index) (others_stay other differ))))
      tag

  same_claims : claims_of (numbers_of v) (map (task_filled v) v.tasks) ≡ claims_of (numbers_of v) v.tasks
  same_claims = λ i tag. each_goes_on (claimed_by (numbers_of v)) (task_filled v) v.tasks tag (filled_tag v) (filled_claims (numbers_of v) v) i

  -- All of it

  pub keeps_one : Knows v → (f : DeviceCore) → (h : HasFilledAt e f v.translation (claims_of (numbers_of v) v.tasks) n) → h.task ≡ a →
      Keeps f then_filled
  keeps_one knows f h same =
      subst (λ (d : DeviceCore). Keeps d then_filled) (sym h.after_is)
      (record {
        boot = k.boot;
        permanent = k.permanent;
        each = its_count knows h.code decided h.rpmb responded;
        region = its_regions knows h.code decided h.rpmb responded;
        registers = its_registers knows h.code decided h.rpmb responded;
        layer_kept =
            subst (λ (m : ℕ). layer_kept.Describes h.layer (moved v.translation (LetGoAll m)))
            (ap (λ (y : OpenTask). y.tag) same ∙ sym o.kept.tag) h.layer_is.0;
        few = subst (λ m. m ≤ most_tasks) (sym (length-map v.tasks (task_filled v))) k.few;
        tasks = all_tasks h.code decided;
        one_sends = sends_once h.code decided;
        wanted = wants;
        claims = subst (AreClaimed h.layer) (sym same_claims) h.layer_is.1;
        shorts = k.shorts;
        volatile = k.volatile;
      })
    where
      decided : a.frames ≡ frames.Decided h.code
      decided = ap (λ (y : OpenTask). y.frames) (sym same) ∙ h.decided

      responded : HasResponded e.rpmb h.rpmb a h.code (data_for v.translation a a.phase)
      responded =
          subst (λ (y : OpenTask). HasResponded e.rpmb h.rpmb y h.code (data_for v.translation y y.phase)) same
          h.responded
