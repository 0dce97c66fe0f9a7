-- What the end of a read leaves of a task that compares blocks with those of its host. Before its host was asked for
-- the next one, that was read, or it could not be read and that is what the task tells. Once its host was asked, the
-- task has its own block, so that a late read tells it nothing.
use Rattle.device.specs.Describes.{BringsFor, IsComparing, IsLost, IsReadable}
use Rattle.device.proofs.Common.{AreFramesKept, Bool, Frames, FramesFit, IsDoing, List, None, NotRead, OpenTask, Option}
use Rattle.device.proofs.Common.{Phase, ReadBlock, ReadState, Some, TaskKept, Unread, WasRead, ap, arith, block_after}
use Rattle.device.proofs.Common.{brings_frames, deed_read, false, inl, inr, is_lost, option_map, phase_after, read_by}
use Rattle.device.proofs.Common.{read_for, read_in, read_of, refl, same_Some, set_state, set_there, subst, sym}
use Rattle.device.proofs.Common.{task_after, true, ℕ, ◌*◌, ◌∙◌, ◌≡◌, ◌⊎◌}
use Rattle.std.proofs.Common.{slice_get}
use Rattle.ufs_spec.proofs.Lists.{set_length}
use Rattle.ufs_spec.specs.Exchanges as exchange
use Rattle.ufs_spec.specs.Exchanges.{Comparing}
use Rattle.ufs_spec.specs.Machine.{with_block}
use Rattle.task_set.specs.Tasks.{read_error}
use Rattle.task_set.specs.declared.frames.Frames.TheVariants as frames
use Rattle.task_set.specs.declared.tasks.Comparing.{Comparing as Compares}
use Rattle.task_set.specs.declared.tasks.Phase.TheVariants as phase
use Rattle.task_set.specs.declared.tasks.TaskEvent.TheVariants as event
use Rattle.ufs_spec.specs.declared.exchanges.Status.TheVariants as status
use Rattle.device.proofs.open_tasks.BlockEnds.{behind_unread, blocks_ended, set_read}

-- The blocks of the task

comparing_ended : (x : Compares) (total : ℕ) (blocks : List ReadBlock) (index : ℕ) (block : ReadBlock)
    (how : ReadState) → IsComparing x total blocks index →
    IsComparing x total (blocks_ended blocks index how block) index
comparing_ended x total blocks index block how h = record {
  count = set_length blocks index (set_state how block) ∙ h.count;
  compared_is = h.compared_is;
  more = h.more;
  total_is = h.total_is;
  few = h.few;
  behind = behind_unread blocks index (set_state how block) h.behind;
}

now_readable : (blocks : List ReadBlock) (index : ℕ) (block : ReadBlock) → slice_get blocks index ≡ Some block →
    IsReadable (blocks_ended blocks index WasRead block) index
now_readable blocks index block there other at =
    ap (λ (o : ReadBlock). is_lost o.state) (same_Some other (set_state WasRead block)
    (sym at ∙ set_there blocks index block (set_state WasRead block) there))

comparing_lost : (x : Compares) (total : ℕ) (blocks : List ReadBlock) (index : ℕ) (block : ReadBlock) →
    slice_get blocks index ≡ Some block → IsComparing x total blocks index →
    IsLost (blocks_ended blocks index NotRead block) index (status.CheckCondition read_error) (4096 * x.compared)
comparing_lost x total blocks index block there h = record {
  block = set_state NotRead block;
  there = set_there blocks index block (set_state NotRead block) there;
  lost = refl;
  told_is = refl;
  carried = ap (λ n. 4096 * n) (sym h.compared_is);
  few = (let long = set_length blocks index (set_state NotRead block) in let count = h.count in let few = h.few in
      omega arith);
  behind = behind_unread blocks index (set_state NotRead block) h.behind;
}

-- How far the task is

-- its host is still to be asked for the block
record AsksIn (total : ℕ) (p : Phase) (blocks : List ReadBlock) (index : ℕ) (asked : Bool) : Type 0 where
  x : Compares
  is : p ≡ phase.AskBlock x
  comparing : IsComparing x total blocks index
  not_asked : asked ≡ false

-- or the block is to come
record AwaitsIn (total : ℕ) (p : Phase) (blocks : List ReadBlock) (index : ℕ) (asked : Bool) : Type 0 where
  x : Compares
  is : p ≡ phase.AwaitBlock x
  comparing : IsComparing x total blocks index
  was_asked : asked ≡ true

compares_in : (before expected total : ℕ) (p : Phase) (blocks : List ReadBlock) (index : ℕ) (asked : Bool)
    (block : ReadBlock) → slice_get blocks index ≡ Some block → block.state ≡ Unread →
    IsDoing before expected total p (Comparing blocks index asked) →
    AsksIn total p blocks index asked ⊎ AwaitsIn total p blocks index asked
compares_in before expected total (phase.AskBlock x) blocks index asked block there unread h =
    inl (record { x = x; is = refl; comparing = h.0; not_asked = h.1 })
compares_in before expected total (phase.AwaitBlock x) blocks index asked block there unread h =
    inr (record { x = x; is = refl; comparing = h.0; was_asked = h.1 })
compares_in before expected total (phase.Answer told n) blocks index asked block there unread h =
    absurd (no (sym unread ∙ (ap (λ (b : ReadBlock). b.state) (same_Some block h.0.block (sym there ∙ h.0.there))
    ∙ h.0.lost)))
  where
    no : Unread ≡ NotRead → ⊥
    no e = cc
compares_in before expected total p blocks index asked block there unread h = absurd h

-- The task

module _ (before index : ℕ) (a : OpenTask) (b : exchange.Task) (blocks : List ReadBlock) (block : ReadBlock)
    (h : TaskKept before a b) (there : slice_get blocks index ≡ Some block) where
  theirs : (state : ReadState) (asked : Bool) → b.deed ≡ Comparing blocks index asked →
      record b { deed = Comparing (blocks_ended blocks index state block) index asked } ≡ set_read index state b
  theirs state asked deed =
      ap (λ x. record b { deed = x })
      (ap (λ o. Comparing (with_block blocks index state o) index asked) (sym there)
      ∙ ap (deed_read index state) (sym deed))

  -- Its host is still to be asked

  module _ (unread : block.state ≡ Unread) (its : AsksIn b.length a.phase blocks index false)
      (deed : b.deed ≡ Comparing blocks index false) where
    -- it brings no frames
    quiet : a.frames ≡ frames.NotBrought
    quiet = subst (λ (p : Phase). FramesFit p a.frames a.held b.deed) its.is h.fits

    none_asked : b.request ≡ None
    none_asked = subst (λ (f : Frames). AreFramesKept f a.held b.request) quiet h.request

    -- what was read for it then
    now_read : (state : ReadState) →
        read_in (Comparing (blocks_ended blocks index state block) index false) ≡ read_by block.body state
    now_read state = ap read_of (set_there blocks index block (set_state state block) there)

    -- and before
    none_read : a.block ≡ None
    none_read = h.read ∙ (ap read_in deed ∙ (ap read_of there ∙ ap (read_by block.body) unread))

    asks_read : (body : List ℕ) → body ≡ block.body →
        TaskKept before (read_for index body a a.phase) (set_read index WasRead b)
    asks_read body content =
        subst (TaskKept before (read_for index body a a.phase)) (theirs WasRead false deed)
        (subst
        (λ (x : OpenTask). TaskKept before x
        (record b { deed = Comparing (blocks_ended blocks index WasRead block) index false }))
        ours
        (record {
          lun = h.lun;
          tag = h.tag;
          expected = h.expected;
          brings = subst (λ (x : Bool). BringsFor a.region x b.command) (ap brings_frames quiet) h.brings;
          gathers = tt;
          asked_of = h.asked_of;
          request = none_asked;
          asks = tt;
          fits = refl;
          doing = (
            comparing_ended its.x b.length blocks index block WasRead its.comparing,
            refl,
            now_readable blocks index block there,
          );
          read = ap (λ z. Some z) content ∙ sym (now_read WasRead);
        }))
      where
        ours : record a { phase = phase.AskBlock its.x; frames = frames.NotBrought; block = Some body; held = None }
            ≡ read_for index body a a.phase
        ours =
            (λ i. record a { phase = sym its.is i; frames = sym quiet i; block = Some body; held = None })
            ∙ ap (read_for index body a) (sym its.is)

    asks_lost : TaskKept before (task_after (event.BlockLost index) a) (set_read index NotRead b)
    asks_lost =
        subst (TaskKept before (task_after (event.BlockLost index) a)) (theirs NotRead false deed)
        (subst
        (λ (x : OpenTask). TaskKept before x
        (record b { deed = Comparing (blocks_ended blocks index NotRead block) index false }))
        ours
        (record {
          lun = h.lun;
          tag = h.tag;
          expected = h.expected;
          brings = subst (λ (x : Bool). BringsFor a.region x b.command) (ap brings_frames quiet) h.brings;
          gathers = tt;
          asked_of = h.asked_of;
          request = none_asked;
          asks = tt;
          fits = tt;
          doing = (comparing_lost its.x b.length blocks index block there its.comparing, refl);
          read = none_read ∙ sym (now_read NotRead);
        }))
      where
        ours : record a {
          phase = phase.Answer (status.CheckCondition read_error) (4096 * its.x.compared);
          frames = frames.NotBrought;
        } ≡ task_after (event.BlockLost index) a
        ours = λ i. record a {
          phase = phase_after (sym its.is i) (event.BlockLost index);
          frames = sym quiet i;
          block = block_after (event.BlockLost index) (sym its.is i) a.block;
        }

  -- The block of its host is to come

  module _ (its : AwaitsIn b.length a.phase blocks index true) (deed : b.deed ≡ Comparing blocks index true) where
    silent : a.frames ≡ frames.NotBrought
    silent = subst (λ (p : Phase). FramesFit p a.frames a.held b.deed) its.is h.fits

    abbrev own : Option ReadBlock → Option (List ℕ)
    own = option_map (λ (o : ReadBlock). o.body)

    -- it has its own block, before and then
    own_block : (state : ReadState) →
        a.block ≡ read_in (Comparing (blocks_ended blocks index state block) index true)
    own_block state =
        h.read ∙ (ap read_in deed
        ∙ (ap own there ∙ sym (ap own (set_there blocks index block (set_state state block) there))))

    then_kept : (state : ReadState) →
        TaskKept before (record a { phase = phase.AwaitBlock its.x; frames = frames.NotBrought })
        (record b { deed = Comparing (blocks_ended blocks index state block) index true })
    then_kept state = record {
      lun = h.lun;
      tag = h.tag;
      expected = h.expected;
      brings = subst (λ (x : Bool). BringsFor a.region x b.command) (ap brings_frames silent) h.brings;
      gathers = tt;
      asked_of = h.asked_of;
      request = subst (λ (f : Frames). AreFramesKept f a.held b.request) silent h.request;
      asks = tt;
      fits = refl;
      doing = (comparing_ended its.x b.length blocks index block state its.comparing, refl);
      read = own_block state;
    }

    awaits_read : (body : List ℕ) → TaskKept before (read_for index body a a.phase) (set_read index WasRead b)
    awaits_read body =
        subst (TaskKept before (read_for index body a a.phase)) (theirs WasRead true deed)
        (subst
        (λ (x : OpenTask). TaskKept before x
        (record b { deed = Comparing (blocks_ended blocks index WasRead block) index true }))
        ours (then_kept WasRead))
      where
        ours : record a { phase = phase.AwaitBlock its.x; frames = frames.NotBrought } ≡ read_for index body a a.phase
        ours =
            (λ i. record a { phase = sym its.is i; frames = sym silent i })
            ∙ ap (read_for index body a) (sym its.is)

    awaits_lost : TaskKept before (task_after (event.BlockLost index) a) (set_read index NotRead b)
    awaits_lost =
        subst (TaskKept before (task_after (event.BlockLost index) a)) (theirs NotRead true deed)
        (subst
        (λ (x : OpenTask). TaskKept before x
        (record b { deed = Comparing (blocks_ended blocks index NotRead block) index true }))
        ours (then_kept NotRead))
      where
        ours : record a { phase = phase.AwaitBlock its.x; frames = frames.NotBrought }
            ≡ task_after (event.BlockLost index) a
        ours = λ i. record a {
          phase = phase_after (sym its.is i) (event.BlockLost index);
          frames = sym silent i;
          block = block_after (event.BlockLost index) (sym its.is i) a.block;
        }

-- Both

module _ (before index : ℕ) (a : OpenTask) (b : exchange.Task) (blocks : List ReadBlock) (block : ReadBlock)
    (asked : Bool) (h : TaskKept before a b) (deed : b.deed ≡ Comparing blocks index asked)
    (there : slice_get blocks index ≡ Some block) (unread : block.state ≡ Unread) where
  far : AsksIn b.length a.phase blocks index asked ⊎ AwaitsIn b.length a.phase blocks index asked
  far =
      compares_in before a.expected b.length a.phase blocks index asked block there unread
      (subst (IsDoing before a.expected b.length a.phase) deed h.doing)

  -- whether its host was asked
  deed_is : (c : Bool) → asked ≡ c → b.deed ≡ Comparing blocks index c
  deed_is c same = deed ∙ ap (Comparing blocks index) same

  pub compared_read : (body : List ℕ) → body ≡ block.body →
      TaskKept before (read_for index body a a.phase) (set_read index WasRead b)
  compared_read body content = by far
    where
      by : AsksIn b.length a.phase blocks index asked ⊎ AwaitsIn b.length a.phase blocks index asked →
          TaskKept before (read_for index body a a.phase) (set_read index WasRead b)
      by (inl its) =
          asks_read before index a b blocks block h there unread
          (subst (AsksIn b.length a.phase blocks index) its.not_asked its) (deed_is false its.not_asked) body content
      by (inr its) =
          awaits_read before index a b blocks block h there
          (subst (AwaitsIn b.length a.phase blocks index) its.was_asked its) (deed_is true its.was_asked) body

  pub compared_lost : TaskKept before (task_after (event.BlockLost index) a) (set_read index NotRead b)
  compared_lost = by far
    where
      by : AsksIn b.length a.phase blocks index asked ⊎ AwaitsIn b.length a.phase blocks index asked →
          TaskKept before (task_after (event.BlockLost index) a) (set_read index NotRead b)
      by (inl its) =
          asks_lost before index a b blocks block h there unread
          (subst (AsksIn b.length a.phase blocks index) its.not_asked its) (deed_is false its.not_asked)
      by (inr its) =
          awaits_lost before index a b blocks block h there
          (subst (AwaitsIn b.length a.phase blocks index) its.was_asked its) (deed_is true its.was_asked)
