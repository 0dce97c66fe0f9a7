-- What is kept of all tasks once one of them has handed out a reply: it does something else from now on, or it goes.
use Rattle.device.specs.Describes.{BringsFor}
use Rattle.device.proofs.Common.{All, All-filter, All-weaker, AreClaimed, AreFramesKept, Bool, Core, Deed, Describes}
use Rattle.device.proofs.Common.{DeviceCore, Frames, FramesFit, HaveAnswered, IsDoing, IsFor, IsTold, IsToldIn, Keeps}
use Rattle.device.proofs.Common.{LetGo, LetGoAll, List, None, Numbers, OneSends, OpenTask, Option, Phase, Pin}
use Rattle.device.proofs.Common.{ReadsAsked, RpmbRequest, Some, State, TaskEvent, TaskKept, TasksKept, Translation}
use Rattle.device.proofs.Common.{WantPage, [], ap, arith, before_accepted, block_after, brings_frames, claimed_by}
use Rattle.device.proofs.Common.{claimed_in, claims_of, durable, eqb-true, false, false≢true, filter, found_task}
use Rattle.device.proofs.Common.{frames_after, gathers_for, if◌then◌else◌, is_at_hand, is_pin_of, is_unfilled, length}
use Rattle.device.proofs.Common.{length-filter_both, length-map, locked, map, most_tasks, moved, not, numbers_of}
use Rattle.device.proofs.Common.{phase_after, read_in, refl, same_Some, set_deed, slice_get, slice_set, subst, sym}
use Rattle.device.proofs.Common.{task_after, task_happened, task_of, true, wanted_by, wanted_in, wanted_kept, with_deed}
use Rattle.device.proofs.Common.{with_event, ℕ, ◌+◌, ◌==◌, ◌∙◌, ◌≡◌, ◌≤◌}
use Rattle.std.proofs.lemmas.List.Elements.{All-map}
use Rattle.ufs_spec.specs.Exchanges as exchange
use Rattle.ufs_spec.specs.Machine.{task_goes_on}
use Rattle.ftl_core.specs.Public as layer_kept
use Rattle.task_set.specs.declared.tasks.Phase.TheVariants as phase
use Rattle.task_set.specs.declared.tasks.Sending.{Sending}
use Rattle.task_set.specs.declared.tasks.TaskEvent.TheVariants as event
use Rattle.task_set.specs.Tasks.{next_sending, sent_next}
use Rattle.task_set.specs.declared.frames.Frames.TheVariants as frames
use Rattle.device.specs.Replies.{without_task}
use Rattle.device.proofs.described.Answered.{IsBehind}
use Rattle.device.proofs.described.OneSender.{one_removed, one_set}
use Rattle.device.proofs.described.Settled.{SameAtHand, left_answered, others_stay, set_answered, still_answered}
use Rattle.device.proofs.open_tasks.OpenTasks.{IsOpen, one_changed, one_gone}
use Rattle.device.proofs.open_tasks.KeptByTag.{WantedFor, WantedForAll, claimed_same, claims_left, claims_set}
use Rattle.device.proofs.open_tasks.KeptByTag.{deed_changed, one_goes}
use Rattle.device.proofs.open_tasks.ReadProgress.{gone_finds_others, sent_finds_others, want_finds_others}
use Rattle.device.proofs.due_replies.PinsLetGo.{gone_pins, next_of_others, other_pins, with_next}

-- What stays

pub set_told : (n tag : ℕ) (deed : Deed) (us : List exchange.Task) → IsToldIn n deed → All (IsTold n) us →
    All (IsTold n) (map (with_deed tag deed) us)
set_told n tag deed us new h =
    All-map (IsTold n) (with_deed tag deed) us (All-weaker (IsTold n) (λ x. IsTold n (with_deed tag deed x))
    (λ x k. by x k (exchange.is_task_of tag x)) us h)
  where
    by : (x : exchange.Task) → IsTold n x → (b : Bool) → IsTold n (if b then record x { deed = deed } else x)
    by x k true = new
    by x k false = k

-- a task whose request filled its register, if it has one, reads nothing for it
asks_nothing : (p : Phase) (f : Frames) (held : Option (List ℕ)) (request : Option RpmbRequest) →
    AreFramesKept f held request → is_unfilled request ≡ false → ReadsAsked p f held
asks_nothing p frames.NotBrought held request its none = tt
asks_nothing p frames.Undecided held request its none = tt
asks_nothing p (frames.Decided code) held request its none =
    absurd (false≢true (sym none ∙ (ap is_unfilled its.is ∙ ap not its.unfilled)))
asks_nothing p frames.Answered held request its none = tt

-- a deed that says as much of blocks as another, with this request
pub record SaysAsMuch (request : Option RpmbRequest) (old new : Deed) : Type 0 where
  pub wanted : (index : ℕ) → wanted_in index request old ≡ wanted_in index request new
  pub read : read_in old ≡ read_in new
  pub claimed : (m : Numbers) (total : ℕ) → claimed_in m total old ≡ claimed_in m total new

abbrev pub with_held : Translation → ℕ → Translation
with_held t held = record t { ledger = record t.ledger { held = held } }

-- what the device keeps, over the layer as it is then
abbrev pub with_layer : Core → DeviceCore → DeviceCore
with_layer after e = record e { ftl = after }

-- the layer once a block of a task was handed out
abbrev pub sent_layer : Translation → ℕ → ℕ → Translation
sent_layer t tag n = moved (moved t (LetGo tag n)) (WantPage tag (n + 1))

-- One task hands out a reply

module _ (d : DeviceCore) (s : State) (k : ℕ) (a : OpenTask) (b : exchange.Task) (h : Describes d s)
    (o : IsOpen (before_accepted s.translation.ledger) k d.tasks s.tasks a b) where
  found : task_of b.tag s.tasks ≡ Some b
  found = found_task s.tasks k b h.tied.tasks.tasks_differ o.theirs

  -- it is the specified one once this happened to it in the phase in which it is
  happened : (e : TaskEvent) (p : Phase) (deed : Deed) → a.phase ≡ p →
      IsDoing (before_accepted s.translation.ledger) a.expected b.length (phase_after p e) deed →
      frames_after a.frames e ≡ a.frames → FramesFit (phase_after p e) a.frames a.held deed →
      IsFor a.region (gathers_for deed) → is_unfilled b.request ≡ false → block_after e p a.block ≡ read_in deed →
      TaskKept (before_accepted s.translation.ledger) (task_after e a) (record b { deed = deed })
  happened e p deed is doing still fits gathers none read = record {
    lun = o.kept.lun;
    tag = o.kept.tag;
    expected = o.kept.expected;
    brings = subst (λ (x : Bool). BringsFor a.region x b.command) (sym (ap brings_frames still)) o.kept.brings;
    gathers = gathers;
    asked_of = o.kept.asked_of;
    request = subst (λ (f : Frames). AreFramesKept f a.held b.request) (sym still) o.kept.request;
    asks =
        subst (λ (f : Frames). ReadsAsked (phase_after a.phase e) f a.held) (sym still)
        (asks_nothing (phase_after a.phase e) a.frames a.held b.request o.kept.request none);
    fits =
        subst (λ (f : Frames). FramesFit (phase_after a.phase e) f a.held deed) (sym still)
        (subst (λ q. FramesFit (phase_after q e) a.frames a.held deed) (sym is) fits);
    doing =
        subst (λ q. IsDoing (before_accepted s.translation.ledger) a.expected b.length (phase_after q e) deed)
        (sym is) doing;
    read = ap (λ q. block_after e q a.block) is ∙ read;
  }

  -- so are all tasks then
  pub happened_to : (e : TaskEvent) (p : Phase) (deed : Deed) → a.phase ≡ p →
      IsDoing (before_accepted s.translation.ledger) a.expected b.length (phase_after p e) deed →
      frames_after a.frames e ≡ a.frames → FramesFit (phase_after p e) a.frames a.held deed →
      IsFor a.region (gathers_for deed) → is_unfilled b.request ≡ false → block_after e p a.block ≡ read_in deed →
      TasksKept (before_accepted s.translation.ledger) (task_happened d.tasks k e (slice_get d.tasks k))
      (map (with_deed b.tag deed) s.tasks)
  happened_to e p deed is doing still fits gathers none read =
      subst (λ x. TasksKept (before_accepted s.translation.ledger) (task_happened d.tasks k e x)
      (map (with_deed b.tag deed) s.tasks)) (sym o.ours)
      (one_changed (before_accepted s.translation.ledger) k d.tasks s.tasks (task_after e a) b deed h.kept.tasks
      h.tied.tasks.tasks_differ o.theirs (happened e p deed is doing still fits gathers none read))

  -- it brings frames still, or still brings none
  pub happened_sends : (e : TaskEvent) → frames_after a.frames e ≡ a.frames →
      OneSends (task_happened d.tasks k e (slice_get d.tasks k))
  happened_sends e still =
      subst (λ x. OneSends (task_happened d.tasks k e x)) (sym o.ours)
      (one_set k d.tasks a (task_after e a) o.ours (ap brings_frames still) h.kept.one_sends)

  -- what the tags have claimed stays
  pub same_claims : (deed : Deed) → claimed_in (numbers_of s) b.length b.deed ≡ claimed_in (numbers_of s) b.length deed →
      claims_of (numbers_of s) (map (with_deed b.tag deed) s.tasks) ≡ claims_of (numbers_of s) s.tasks
  same_claims deed same =
      claims_set (numbers_of s) s.tasks b.tag b deed found
      ∙ claimed_same (claims_of (numbers_of s) s.tasks) b.tag (claimed_in (numbers_of s) b.length deed)
      (ap (claimed_by (numbers_of s)) found ∙ same)

  -- what is wanted for each tag, where only that of this one changes
  pub set_wanted : (pins : List Pin) (deed : Deed) → WantedFor pins b.tag (Some (record b { deed = deed })) →
      ((n index : ℕ) → (n == b.tag) ≡ false →
      wanted_kept pins n index ≡ wanted_kept s.translation.pins n index) →
      WantedForAll pins (map (with_deed b.tag deed) s.tasks)
  set_wanted pins deed this wanted =
      deed_changed s.translation.pins pins s.tasks b.tag b deed h.kept.wanted found this
      (λ n other index. wanted n index other)

  pub few_set : (deed : Deed) → length (map (with_deed b.tag deed) s.tasks) ≤ most_tasks
  few_set deed = subst (λ n. n ≤ most_tasks) (sym (length-map s.tasks (with_deed b.tag deed))) h.kept.few

  few_gone : length (exchange.without_task b.tag s.tasks) ≤ most_tasks
  few_gone =
      let few = h.kept.few in
      let both = length-filter_both (λ x. not (exchange.is_task_of b.tag x)) (exchange.is_task_of b.tag)
      (λ x. twice (exchange.is_task_of b.tag x)) s.tasks in
      omega arith
    where
      twice : (x : Bool) → x ≡ not (not x)
      twice true = refl
      twice false = refl

  -- it goes, and keeps nothing
  pub goes : (after : Core) (held : ℕ) → AreClaimed after (claims_of (numbers_of s) s.tasks) →
      claimed_in (numbers_of s) b.length b.deed ≡ [] →
      layer_kept.Describes after (moved (with_held s.translation held) (LetGoAll a.tag)) →
      Keeps (with_layer after (without_task d k))
      (task_goes_on (record s { translation = with_held s.translation held }) b None)
  goes after held claims none layer =
      subst
      (λ n. layer_kept.Describes after (moved u (LetGoAll n)) →
      Keeps (with_layer after (without_task d k)) (task_goes_on (record s { translation = u }) b None))
      o.kept.tag
      (λ its. record {
        boot = h.kept.boot;
        permanent = h.kept.permanent;
        each = h.kept.each;
        region = h.kept.region;
        registers = h.kept.registers;
        layer_kept = its;
        few = few_gone;
        one_sends = one_removed k d.tasks h.kept.one_sends;
        tasks = one_gone (before_accepted s.translation.ledger) k d.tasks s.tasks b h.kept.tasks
            h.tied.tasks.tasks_differ o.theirs;
        wanted =
            one_goes s.translation.pins pins s.tasks b.tag h.kept.wanted
            (λ index. gone_pins b.tag index s.translation.pins)
            (λ n other index. other_pins b.tag n index s.translation.pins other);
        claims =
            subst (AreClaimed after)
            (sym (claims_left (numbers_of s) s.tasks b.tag
            ∙ claimed_same (claims_of (numbers_of s) s.tasks) b.tag []
            (ap (claimed_by (numbers_of s)) found ∙ none))) claims;
        shorts = h.kept.shorts;
        volatile = h.kept.volatile;
      })
      layer
    where
      u : Translation
      u = with_held s.translation held

      pins : List Pin
      pins = filter (λ pin. not (pin.tag == b.tag)) s.translation.pins

  -- and those that are left have answered
  pub answered_gone : (held : ℕ) →
      HaveAnswered (task_goes_on (record s { translation = with_held s.translation held }) b None)
  answered_gone held =
      left_answered s (task_goes_on (record s { translation = with_held s.translation held }) b None) b.tag s.tasks
      (λ tag other index. ap (is_at_hand s.translation.work.rests)
      (gone_finds_others b.tag tag index s.translation.pins other)) refl h.answered

  -- the task has no request that is to fill its register
  pub none_asked : a.frames ≡ frames.NotBrought → is_unfilled b.request ≡ false
  none_asked none =
      ap is_unfilled (subst (λ (f : Frames). AreFramesKept f a.held b.request) none o.kept.request)

  -- nothing became due where such a task does something else
  pub answered_set : (u : Translation) (deed : Deed) → is_unfilled b.request ≡ false →
      ((tag : ℕ) → (tag == b.tag) ≡ false → SameAtHand s.translation u tag) →
      durable (record s { translation = u }) ≡ durable s →
      HaveAnswered (set_deed (record s { translation = u }) b.tag deed)
  answered_set u deed none others same =
      set_answered v b.tag deed s.tasks its_none
      (still_answered s v s.tasks (others_stay s.translation u b.tag s.tasks its_none others) same h.answered)
    where
      v : State
      v = set_deed (record s { translation = u }) b.tag deed

      its_none : (j : ℕ) (x : exchange.Task) → slice_get s.tasks j ≡ Some x → exchange.is_task_of b.tag x ≡ true →
          is_unfilled x.request ≡ false
      its_none j x at is =
          ap (λ (y : exchange.Task). is_unfilled y.request)
          (same_Some x b (sym (found_task s.tasks j x h.tied.tasks.tasks_differ at)
          ∙ (ap (λ (n : ℕ). task_of n s.tasks) (eqb-true x.tag b.tag is) ∙ found)))
          ∙ none

  pub told_gone : locked s ≡ true → All (IsTold (durable s)) (exchange.without_task b.tag s.tasks)
  told_gone lock = All-filter (λ x. not (exchange.is_task_of b.tag x)) (IsTold (durable s)) s.tasks (h.told lock)

  -- it is another task from now on, of which as much is wanted and claimed, over the layer as it is
  pub becomes : (after : Core) (new : OpenTask) (deed : Deed) →
      TaskKept (before_accepted s.translation.ledger) new (record b { deed = deed }) →
      brings_frames new.frames ≡ brings_frames a.frames → is_unfilled b.request ≡ false →
      ((index : ℕ) → wanted_in index b.request b.deed ≡ wanted_in index b.request deed) →
      claimed_in (numbers_of s) b.length b.deed ≡ claimed_in (numbers_of s) b.length deed →
      IsToldIn (durable s) deed → layer_kept.Describes after s.translation →
      AreClaimed after (claims_of (numbers_of s) s.tasks) →
      IsBehind (with_layer after (record d { tasks = slice_set d.tasks k new })) (set_deed s b.tag deed)
  becomes after new deed is sends none wanted claimed told layer claims = record {
    keeps = record {
      boot = h.kept.boot;
      permanent = h.kept.permanent;
      each = h.kept.each;
      region = h.kept.region;
      registers = h.kept.registers;
      layer_kept = layer;
      few = few_set deed;
      tasks =
          one_changed (before_accepted s.translation.ledger) k d.tasks s.tasks new b deed h.kept.tasks
          h.tied.tasks.tasks_differ o.theirs is;
      one_sends = one_set k d.tasks a new o.ours sends h.kept.one_sends;
      wanted =
          set_wanted s.translation.pins deed
          (λ index. h.kept.wanted b.tag index ∙ (ap (wanted_by index) found ∙ wanted index))
          (λ n index other. refl);
      claims = subst (AreClaimed after) (sym (same_claims deed claimed)) claims;
      shorts = h.kept.shorts;
      volatile = h.kept.volatile;
    };
    answered = answered_set s.translation deed none (λ tag other index. refl) refl;
    told = λ lock. set_told (durable s) b.tag deed s.tasks told (h.told lock);
    shorts_told = h.shorts_told;
  }

  -- what happened changes no block of it, and tells as much of blocks, over the layer as it is
  pub does_now : (after : Core) (e : TaskEvent) (p : Phase) (deed : Deed) → a.phase ≡ p →
      IsDoing (before_accepted s.translation.ledger) a.expected b.length (phase_after p e) deed →
      frames_after a.frames e ≡ a.frames → FramesFit (phase_after p e) a.frames a.held deed →
      IsFor a.region (gathers_for deed) → is_unfilled b.request ≡ false →
      block_after e p a.block ≡ a.block → SaysAsMuch b.request b.deed deed →
      IsToldIn (durable s) deed → layer_kept.Describes after s.translation →
      AreClaimed after (claims_of (numbers_of s) s.tasks) →
      IsBehind (with_layer after (with_event d k e)) (set_deed s b.tag deed)
  does_now after e p deed is doing still fits gathers none stays same told layer claims =
      subst
      (λ (x : Option OpenTask). IsBehind (with_layer after (record d { tasks = task_happened d.tasks k e x }))
      (set_deed s b.tag deed))
      (sym o.ours)
      (becomes after (task_after e a) deed
      (happened e p deed is doing still fits gathers none (stays ∙ (o.kept.read ∙ same.read)))
      (ap brings_frames still) none same.wanted (same.claimed (numbers_of s) b.length) told layer claims)

  -- its next block was handed out
  pub sends : (after : Core) (n : ℕ) (x : Sending) (deed : Deed) → a.phase ≡ phase.SendBlocks x →
      IsDoing (before_accepted s.translation.ledger) a.expected b.length (sent_next x (next_sending x)) deed →
      FramesFit (sent_next x (next_sending x)) a.frames a.held deed →
      IsFor a.region (gathers_for deed) → IsToldIn (durable s) deed →
      ((index : ℕ) →
      wanted_kept (with_next b.tag n s.translation.pins) b.tag index ≡ wanted_in index b.request deed) →
      read_in deed ≡ None → claimed_in (numbers_of s) b.length b.deed ≡ claimed_in (numbers_of s) b.length deed →
      AreClaimed after (claims_of (numbers_of s) s.tasks) →
      layer_kept.Describes after (sent_layer s.translation a.tag n) →
      IsBehind (with_layer after (with_event d k event.BlockSent))
      (set_deed (record s { translation = sent_layer s.translation b.tag n }) b.tag deed)
  sends after n x deed is doing fits gathers told wanted read same claims layer =
      subst
      (λ tag. layer_kept.Describes after (sent_layer s.translation tag n) →
      IsBehind (with_layer after (with_event d k event.BlockSent))
      (set_deed (record s { translation = sent_layer s.translation b.tag n }) b.tag deed))
      o.kept.tag
      (λ its. record {
        keeps = record {
          boot = h.kept.boot;
          permanent = h.kept.permanent;
          each = h.kept.each;
          region = h.kept.region;
          registers = h.kept.registers;
          layer_kept = its;
          few = few_set deed;
          tasks = happened_to event.BlockSent (phase.SendBlocks x) deed is doing refl fits gathers none (sym read);
          one_sends = happened_sends event.BlockSent refl;
          wanted =
              set_wanted (with_next b.tag n s.translation.pins) deed wanted
              (λ tag index other. next_of_others b.tag n tag index s.translation.pins other);
          claims = subst (AreClaimed after) (sym (same_claims deed same)) claims;
          shorts = h.kept.shorts;
          volatile = h.kept.volatile;
        };
        answered = answered_set (sent_layer s.translation b.tag n) deed none
            (λ tag other index. ap (is_at_hand s.translation.work.rests)
            (want_finds_others b.tag (n + 1) true tag index
            (filter (λ pin. not (is_pin_of b.tag n pin)) s.translation.pins) other
            ∙ sent_finds_others b.tag n tag index s.translation.pins other)) refl;
        told = λ lock. set_told (durable s) b.tag deed s.tasks told (h.told lock);
        shorts_told = h.shorts_told;
      })
      layer
    where
      none : is_unfilled b.request ≡ false
      none = none_asked (subst (λ q. FramesFit q a.frames a.held b.deed) is o.kept.fits)
