-- A COMMAND begins a task that answers at once, sends data that are known, or waits for all that was accepted.
use Rattle.device.proofs.Common.{Answering, Awaiting, Bool, Cdb, Core, Describes, DeviceCore, Err, Good, IsLayerWith}
use Rattle.device.proofs.Common.{None, Numbers, Ok, Option, Phase, Plan, Request, Result, Some, State, Status}
use Rattle.device.proofs.Common.{Translation, Volatile, ap, arith, before_accepted, claims_of, durable}
use Rattle.device.proofs.Common.{false, false≢true, if◌then◌else◌, is_mended, is_sender, length, list_any, locked}
use Rattle.device.proofs.Common.{most_tasks, nat_le, newly_open, not, numbers_of, refl, sends_frames, subst}
use Rattle.device.proofs.Common.{sym, task_of, true, ℕ, ◌+◌, ◌<◌, ◌∙◌, ◌≡◌}
use Rattle.ufs_spec.specs.Machine.{flush_begun, with_task}
use Rattle.ufs_spec.specs.Machine as machine
use Rattle.ftl_core.specs.Public as layer_kept
use Rattle.task_set.specs.declared.tasks.Phase.TheVariants as phase
use Rattle.ufs_spec.specs.declared.exchanges.Status.TheVariants as status
use Rattle.task_set.specs.declared.frames.Frames.TheVariants as frames
use Rattle.device.specs.declared.plans.Plan.TheVariants as plan
use Rattle.device.specs.declared.plans.Source.TheVariants as source
use Rattle.device.specs.Attentions.{attention_set, tells_attention, volatile_left}
use Rattle.device.specs.Calls.{HasBegun, last_number}
use Rattle.device.specs.Plans.{expected_for}
use Rattle.device.specs.Frames.{frames_brought, region_brought, sent_kept}
use Rattle.device.proofs.described.Answered.{IsBehind}
use Rattle.device.proofs.host_messages.NumbersAwaited.{number_awaited}
use Rattle.device.proofs.host_messages.ReadOpened.{core_opened, core_with}
use Rattle.device.proofs.open_tasks.TaskOpened.{brings_none, opens_still}

-- what was planned begins, over the layer as it is then
abbrev pub HasBegunFor : State → Request → Core → Result Plan Status → Phase → Type 0
HasBegunFor s r after todo p = HasBegun after s.translation (claims_of (numbers_of s) s.tasks) r.tag todo p

-- the request, of which counts as expected what does for this plan
abbrev pub counted : Request → Result Plan Status → Request
counted r todo = record r { expected = expected_for r.expected todo }

-- the device once this was planned and its task is so far, which keeps what it sends
abbrev pub opened_for : DeviceCore → Request → Core → Result Plan Status → Phase → DeviceCore
opened_for d r after todo p =
    sent_kept d.ftl.numbers (core_with d (counted r todo) after p (frames_brought todo) (region_brought todo)) todo

-- the same once the attention of the LUN ended, if it was told
abbrev pub left_for : DeviceCore → Request → Core → Result Plan Status → Phase → DeviceCore
left_for d r after todo p =
    record (opened_for d r after todo p) { volatile = volatile_left d.ftl.numbers r.lun todo d.volatile }

-- what a task keeps to send is the same, whatever is volatile
sent_still : (n : Numbers) (d : DeviceCore) (v : Volatile) (todo : Result Plan Status) →
    sent_kept n (record d { volatile = v }) todo ≡ record (sent_kept n d todo) { volatile = v }
sent_still n d v (Ok (plan.Send (source.Identity told) size taken)) = refl
sent_still n d v (Ok (plan.Send (source.Response region) size taken)) = refl
sent_still n d v (Ok (plan.Nothing size)) = refl
sent_still n d v (Ok (plan.Drop size)) = refl
sent_still n d v (Ok (plan.Read key blocks size)) = refl
sent_still n d v (Ok (plan.Verify key blocks)) = refl
sent_still n d v (Ok (plan.Compare key blocks)) = refl
sent_still n d v (Ok (plan.Gather w slots)) = refl
sent_still n d v (Ok plan.Flush) = refl
sent_still n d v (Err told) = refl

-- what was planned tells no attention, so none ends
pub none_ends : (d : DeviceCore) (r : Request) (after : Core) (todo : Result Plan Status) (p : Phase) →
    tells_attention todo ≡ false → opened_for d r after todo p ≡ left_for d r after todo p
none_ends d r after todo p quiet =
    sent_still d.ftl.numbers (core_with d (counted r todo) after p (frames_brought todo) (region_brought todo)) d.volatile todo
    ∙ ap (λ (b : Bool). record (opened_for d r after todo p) {
      volatile = if b then attention_set d.ftl.numbers r.lun false d.volatile else d.volatile;
    }) (sym quiet)

-- the device that was opened is that one: the layer has the configuration of which a task tells, before and after
pub opened_as : (d : DeviceCore) (s : State) (r : Request) → Describes d s → (e : DeviceCore) (after : Core)
    (todo : Result Plan Status) (p : Phase) (u : Translation) → HasBegunFor s r after todo p →
    layer_kept.Describes (left_for d r after todo p).ftl u →
    ((t : Translation) → layer_kept.Describes after t →
    e ≡ sent_kept t.numbers (record (core_with d (counted r todo) after p (frames_brought todo) (region_brought todo)) {
      volatile = volatile_left t.numbers r.lun todo d.volatile;
    }) todo) →
    e ≡ left_for d r after todo p
opened_as d s r h e after (Ok (plan.Send from size taken)) p u begun layer more =
    more s.translation begun.1.0
    ∙ ap (λ (n : Numbers). sent_kept n (record (core_with d r after p frames.NotBrought 0) {
      volatile = volatile_left n r.lun (Ok (plan.Send from size taken)) d.volatile;
    }) (Ok (plan.Send from size taken))) (sym h.kept.layer_kept.kept.numbers)
    ∙ sent_still d.ftl.numbers (core_with d r after p frames.NotBrought 0)
    (volatile_left d.ftl.numbers r.lun (Ok (plan.Send from size taken)) d.volatile) (Ok (plan.Send from size taken))
opened_as d s r h e after (Err told) p u begun layer more =
    more s.translation begun.1.0
    ∙ ap (λ (n : Numbers). record (core_with d r after p frames.NotBrought 0) {
      volatile = volatile_left n r.lun (Err told) d.volatile;
    }) (sym h.kept.layer_kept.kept.numbers)
opened_as d s r h e after (Ok (plan.Nothing n)) p u begun layer more = more u layer
opened_as d s r h e after (Ok (plan.Drop n)) p u begun layer more = more u layer
opened_as d s r h e after (Ok (plan.Read key blocks size)) p u begun layer more = more u layer
opened_as d s r h e after (Ok (plan.Verify key blocks)) p u begun layer more = more u layer
opened_as d s r h e after (Ok (plan.Compare key blocks)) p u begun layer more = more u layer
opened_as d s r h e after (Ok (plan.Gather w slots)) p u begun layer more = more u layer
opened_as d s r h e after (Ok plan.Flush) p u begun layer more = more u layer

pub same_phase : (d : DeviceCore) (r : Request) (after : Core) (p q : Phase) (v : State) → p ≡ q →
    IsBehind (core_opened d r after q) v → IsBehind (core_opened d r after p) v
same_phase d r after p q v same = subst (λ (x : Phase). IsBehind (core_opened d r after x) v) (sym same)

-- a task that brings no frames
pub quiet_task : (d : DeviceCore) (r : Request) (p : Phase) → is_sender (newly_open (record {
  tag = r.tag;
  lun = r.lun;
  expected = r.expected;
  phase = p;
  frames = frames.NotBrought;
  region = 0;
})) ≡ true → list_any is_sender d.tasks ≡ false
quiet_task d r p e = absurd (false≢true e)

module _ (d : DeviceCore) (s : State) (r : Request) (h : Describes d s) (free : task_of r.tag s.tasks ≡ None)
    (few : length s.tasks < most_tasks) (after : Core) where
  abbrev Begins : Result Plan Status → Phase → Type 0
  Begins todo p = HasBegunFor s r after todo p

  abbrev Opens : Result Plan Status → Phase → State → Type 0
  Opens todo p v = IsBehind (opened_for d r after todo p) v

  -- a task that answers at once
  pub answer_opened : (command : Option Cdb) (n carried : ℕ) (answer : Status) (told : Status) (m : ℕ) →
      sends_frames command ≡ false → IsLayerWith after s.translation (claims_of (numbers_of s) s.tasks) →
      answer ≡ told → carried ≡ m →
      IsBehind (core_opened d r after (phase.Answer told m))
      (machine.with_task s r command n (Answering answer carried))
  answer_opened command n carried answer told m quiet layer same count =
      opens_still d s r h free few after command n (Answering answer carried) _ layer
      (record { wanted = λ i. refl; claimed = λ m total. refl }) (λ l. tt)
      (record {
        lun = refl;
        tag = refl;
        expected = refl;
        brings = brings_none 0 command quiet;
        gathers = tt;
        asked_of = tt;
        request = refl;
        asks = tt;
        fits = tt;
        doing = (same, count);
        read = refl;
      }) (quiet_task d r (phase.Answer told m))

  -- so it answers GOOD where nothing is to be done
  pub nothing_begins : (command : Cdb) (n : ℕ) (p : Phase) → sends_frames (Some command) ≡ false →
      Begins (Ok (plan.Nothing n)) p →
      Opens (Ok (plan.Nothing n)) p (machine.with_task s r (Some command) n (Answering Good n))
  nothing_begins command n p quiet begun =
      same_phase d r after p (phase.Answer status.Good n) _ begun.0
      (answer_opened (Some command) n n Good status.Good n quiet begun.1 refl refl)

  -- a flush

  pub flush_begins : (command : Cdb) (immediate : Bool) (p : Phase) → sends_frames (Some command) ≡ false →
      (locked s ≡ true → nat_le (length s.accepted) (durable s) ≡ true) →
      Begins (Ok (if immediate then plan.Nothing 0 else plan.Flush)) p →
      Opens (Ok (if immediate then plan.Nothing 0 else plan.Flush)) p (flush_begun s r command immediate)
  flush_begins command true p quiet told begun = nothing_begins command 0 p quiet begun
  flush_begins command false p quiet told begun = by (is_mended s.translation.work.mending) refl
    where
      last : last_number s.translation.ledger ≡ before_accepted s.translation.ledger + length s.accepted
      last = let next = number_awaited s h.tied in omega arith

      -- what a flush does that waits, or does not
      at : Bool → State
      at b = with_task s r (Some command) 0 (if not b then Answering Good 0 else Awaiting (length s.accepted))

      by : (b : Bool) → is_mended s.translation.work.mending ≡ b → Opens (Ok plan.Flush) p (at b)
      by true e =
          same_phase d r after p (phase.AwaitFrontier (last_number s.translation.ledger) 0) _
          (begun.0 ∙ ap (λ (b : Bool). if b then phase.AwaitFrontier (last_number s.translation.ledger) 0
          else phase.Answer status.Good 0) e)
          (opens_still d s r h free few after (Some command) 0 (Awaiting (length s.accepted)) _ begun.1
          (record { wanted = λ i. refl; claimed = λ m total. refl }) told
          (record {
            lun = refl;
            tag = refl;
            expected = refl;
            brings = brings_none 0 (Some command) quiet;
            gathers = tt;
            asked_of = tt;
            request = refl;
            asks = tt;
            fits = tt;
            doing = (last, refl);
            read = refl;
          }) (quiet_task d r (phase.AwaitFrontier (last_number s.translation.ledger) 0)))
      by false e =
          nothing_begins command 0 p quiet (
            begun.0 ∙ ap (λ (b : Bool). if b then phase.AwaitFrontier (last_number s.translation.ledger) 0
                else phase.Answer status.Good 0) e,
            begun.1,
          )
