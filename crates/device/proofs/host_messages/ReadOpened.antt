-- A READ opens a task: the device keeps each of the blocks that are sent, and wants the page of the first. So it does
-- for a VERIFY that compares its blocks.
use Rattle.device.proofs.Common.{All, AreClaimed, Cdb, Core, Deed, Describes, DeviceCore, Frames, HaveAnswered}
use Rattle.device.proofs.Common.{IsShortTold, IsTold, IsToldIn, List, None, OpenTask, Option, Phase, Pin, ReadBlock}
use Rattle.device.proofs.Common.{Request, Sending, Sends, Some, State, TaskKept, Translation, Unread, [], ap}
use Rattle.device.proofs.Common.{before_accepted, below, claimed_in, claims_of, data_key, div_ceil, durable, false}
use Rattle.device.proofs.Common.{false≢true, fold, greatest_command, is_at_hand, is_lost, length, length-made, locked}
use Rattle.device.proofs.Common.{map, min, most_tasks, moved, newly_open, numbers_of, plain_now, read_by, read_of, refl}
use Rattle.device.proofs.Common.{sends_frames, slice_get, subst, sym, task_of, true, wanted_in, wanted_kept, with_moves}
use Rattle.device.proofs.Common.{with_task, ℕ, ◌++◌, ◌+◌, ◌<◌, ◌==◌, ◌∙◌, ◌≡◌, ◌≤◌}
use Rattle.ufs_spec.specs.Machine.{keeps, kept_at, read_blocks}
use Rattle.ufs_spec.specs.Machine as machine
use Rattle.ufs_spec.specs.Plain.{block_at}
use Rattle.ftl_core.specs.Public as layer_kept
use Rattle.task_set.specs.declared.tasks.Phase.TheVariants as phase
use Rattle.task_set.specs.declared.frames.Frames.TheVariants as frames
use Rattle.device.proofs.described.Answered.{IsBehind}
use Rattle.device.proofs.host_messages.BlocksKept.{kept_are, made_is, others_found, others_wanted, own_wanted}
use Rattle.device.proofs.open_tasks.TaskOpened.{brings_none, none_wanted, open_answered, open_keeps, open_told}
use Rattle.device.proofs.open_tasks.TaskOpened.{opened, still_claimed}

-- the new task, which has this to do with frames of this region
abbrev pub task_with : Request → Phase → Frames → ℕ → OpenTask
task_with r p f region =
    newly_open (record {
      tag = r.tag;
      lun = r.lun;
      expected = r.expected;
      phase = p;
      frames = f;
      region = region;
    })

-- the device with it, over the layer as it is then
abbrev pub core_with : DeviceCore → Request → Core → Phase → Frames → ℕ → DeviceCore
core_with d r after p f region = record (with_task d (task_with r p f region)) { ftl = after }

-- the same of a task that brings none
abbrev pub core_opened : DeviceCore → Request → Core → Phase → DeviceCore
core_opened d r after p = core_with d r after p frames.NotBrought 0

abbrev pub block_now : State → (unit address i : ℕ) → ReadBlock
block_now s unit address i = record { body = block_at unit (address + i) (plain_now s); state = Unread }

abbrev pub sending_now : ℕ → ℕ → ℕ → Sends
sending_now blocks sent n = record { blocks = blocks; sent = sent; length = n }

-- the state with the task of a READ of n bytes of this unit, of which m blocks are sent
abbrev pub reading_at : State → Request → Cdb → (n unit address m : ℕ) → State
reading_at s r command n unit address m =
    machine.with_task (with_moves s (keeps s r.tag unit address m)) r (Some command) n
    (Sending (read_blocks s unit address m) 0)

-- none of the blocks was read
pub all_unread : (s : State) (unit address m i : ℕ) (block : ReadBlock) →
    slice_get (read_blocks s unit address m) i ≡ Some block → block.state ≡ Unread
all_unread s unit address m i block there =
    ap (λ (x : ReadBlock). x.state) (made_is (block_now s unit address) m i block there)

-- not the first either
pub none_read : (s : State) (unit address m : ℕ) → read_of (slice_get (read_blocks s unit address m) 0) ≡ None
none_read s unit address m =
    by (slice_get (read_blocks s unit address m) 0) (λ block there. all_unread s unit address m 0 block there)
  where
    by : (o : Option ReadBlock) → ((block : ReadBlock) → o ≡ Some block → block.state ≡ Unread) → read_of o ≡ None
    by None unread = refl
    by (Some block) unread = ap (read_by block.body) (unread block refl)

-- it wants of the blocks what a READ does that begins, and claims nothing
pub record WantsFirst (s : State) (n : ℕ) (blocks : List ReadBlock) (deed : Deed) : Type 0 where
  pub wanted : (i : ℕ) → wanted_in i None deed ≡ wanted_in i None (Sending blocks 0)
  pub claimed : claimed_in (numbers_of s) n deed ≡ []
  pub told : IsToldIn (durable s) deed

module _ (d : DeviceCore) (s : State) (r : Request) (h : Describes d s) (free : task_of r.tag s.tasks ≡ None)
    (few : length s.tasks < most_tasks) (after : Core) where
  -- a task that keeps its blocks
  pub blocks_opened : (command : Cdb) (n unit address m : ℕ) (p : Phase) (deed : Deed) →
      WantsFirst s n (read_blocks s unit address m) deed →
      TaskKept (before_accepted s.translation.ledger) (task_with r p frames.NotBrought 0)
      (opened r (Some command) n deed) →
      layer_kept.Describes after (fold moved s.translation (keeps s r.tag unit address m)) →
      AreClaimed after (claims_of (numbers_of s) s.tasks) →
      IsBehind (core_opened d r after p)
      (machine.with_task (with_moves s (keeps s r.tag unit address m)) r (Some command) n deed)
  blocks_opened command n unit address m p deed wants task layer claims = record {
    keeps =
        open_keeps d s r h free few after (fold moved s.translation (keeps s r.tag unit address m)) (Some command) n
        deed (task_with r p frames.NotBrought 0) layer
        (ap (λ (t : Translation). t.numbers) are) (ap (λ (t : Translation). before_accepted t.ledger) are)
        (record {
          wanted =
              subst (λ (t : Translation). (i : ℕ) → wanted_kept t.pins r.tag i ≡ wanted_in i None deed) (sym are)
              (λ i. own_wanted s.translation.pins r.tag m keeps_at (λ j. refl) (λ j. refl) none
              (block_now s unit address) (λ j. refl) (λ j. refl) i ∙ sym (wants.wanted i));
          others_want =
              subst (λ (t : Translation). (n i : ℕ) → (n == r.tag) ≡ false → wanted_kept t.pins n i
              ≡ wanted_kept s.translation.pins n i) (sym are)
              (others_wanted s.translation.pins r.tag m keeps_at (λ j. refl) (λ j. refl) none);
        })
        (still_claimed d s r h free few after n deed wants.claimed claims) task (λ e. absurd (false≢true e));
    answered =
        subst
        (λ (t : Translation). HaveAnswered (machine.with_task (record s { translation = t }) r (Some command) n deed))
        (sym are)
        (open_answered d s r h free few
        (record s.translation { pins = s.translation.pins ++ map keeps_at (below m) }) (Some command) n deed
        (λ tag other index. ap (is_at_hand s.translation.work.rests)
        (others_found s.translation.pins r.tag m keeps_at (λ j. refl) (λ j. refl) none tag index other)) refl);
    told =
        subst
        (λ (t : Translation). locked (record s { translation = t }) ≡ true →
        All (IsTold (durable (record s { translation = t }))) opened_at.tasks) (sym are)
        (open_told d s r h free few (Some command) n deed (λ l. wants.told));
    shorts_told =
        subst
        (λ (t : Translation). locked (record s { translation = t }) ≡ true →
        All (IsShortTold (durable (record s { translation = t }))) s.shorts) (sym are) h.shorts_told;
  }
    where
      opened_at : State
      opened_at = machine.with_task (with_moves s (keeps s r.tag unit address m)) r (Some command) n deed

      keeps_at : ℕ → Pin
      keeps_at = kept_at s r.tag unit address

      none : (i : ℕ) → wanted_kept s.translation.pins r.tag i ≡ None
      none = none_wanted d s r h free few

      are : fold moved s.translation (keeps s r.tag unit address m)
          ≡ record s.translation { pins = s.translation.pins ++ map keeps_at (below m) }
      are = kept_are (λ i. data_key unit (address + i)) keeps_at (below m) s.translation

  pub read_opened : (command : Cdb) (n unit address m : ℕ) → sends_frames (Some command) ≡ false → 1 ≤ m →
      m ≤ greatest_command → m ≡ div_ceil (min r.expected n) 4096 →
      layer_kept.Describes after (fold moved s.translation (keeps s r.tag unit address m)) →
      AreClaimed after (claims_of (numbers_of s) s.tasks) →
      IsBehind (core_opened d r after (phase.SendBlocks (sending_now m 0 n))) (reading_at s r command n unit address m)
  read_opened command n unit address m sends some most all layer claims =
      blocks_opened command n unit address m (phase.SendBlocks (sending_now m 0 n))
      (Sending (read_blocks s unit address m) 0) (record { wanted = λ i. refl; claimed = refl; told = tt })
      (record {
        lun = refl;
        tag = refl;
        expected = refl;
        brings = brings_none 0 (Some command) sends;
        gathers = tt;
        asked_of = tt;
        request = refl;
        asks = tt;
        fits = refl;
        doing = record {
          count = length-made (block_now s unit address) m;
          sent_is = refl;
          more = some;
          total_is = refl;
          all = all;
          few = most;
          readable = λ block there. ap is_lost (all_unread s unit address m 0 block there);
          behind = λ i block later there. all_unread s unit address m i block there;
        };
        read = sym (none_read s unit address m);
      })
      layer claims
