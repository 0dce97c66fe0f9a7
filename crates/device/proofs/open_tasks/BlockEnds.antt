-- What the end of a read leaves of a task that sends blocks: the next one was read, or it could not be read and that is
-- what the task tells.
use Rattle.device.specs.Describes.{BringsFor}
use Rattle.device.proofs.Common.{AreFramesKept, Bool, Frames, FramesFit, IsDoing, IsSending, List, None, NotRead}
use Rattle.device.proofs.Common.{OpenTask, Phase, ReadBlock, ReadState, Sending, Sends, Some, TaskKept, Unread, WasRead}
use Rattle.device.proofs.Common.{ap, arith, block_after, brings_frames, deed_read, is_lost, phase_after, read_by}
use Rattle.device.proofs.Common.{read_for, read_in, read_of, refl, same_Some, set_other, set_state, set_there, subst}
use Rattle.device.proofs.Common.{sym, task_after, ℕ, ◌*◌, ◌<◌, ◌∙◌, ◌≡◌}
use Rattle.std.proofs.Common.{slice_get, slice_set}
use Rattle.ufs_spec.proofs.Lists.{set_length}
use Rattle.ufs_spec.specs.Exchanges as exchange
use Rattle.ufs_spec.specs.Machine.{with_block}
use Rattle.task_set.specs.Tasks.{read_error}
use Rattle.task_set.specs.declared.frames.Frames.TheVariants as frames
use Rattle.task_set.specs.declared.tasks.Phase.TheVariants as phase
use Rattle.ufs_spec.specs.declared.exchanges.Status.TheVariants as status
use Rattle.task_set.specs.declared.tasks.TaskEvent.TheVariants as event
use Rattle.device.specs.Describes.{IsLost}

-- once the state of a block is set
abbrev pub blocks_ended : List ReadBlock → ℕ → ReadState → ReadBlock → List ReadBlock
blocks_ended blocks index state block = slice_set blocks index (set_state state block)

abbrev pub set_read : ℕ → ReadState → exchange.Task → exchange.Task
set_read index state b = record b { deed = deed_read index state b.deed }

-- The blocks of the task

-- those behind the next one are still unread
pub behind_unread : (blocks : List ReadBlock) (index : ℕ) (new : ReadBlock) →
    ((i : ℕ) (block : ReadBlock) → index < i → slice_get blocks i ≡ Some block → block.state ≡ Unread) →
    (i : ℕ) (block : ReadBlock) → index < i → slice_get (slice_set blocks index new) i ≡ Some block →
    block.state ≡ Unread
behind_unread blocks index new behind i block less at =
    behind i block less (sym (set_other blocks index i new (λ same. omega arith)) ∙ at)

sending_read : (x : Sends) (expected total : ℕ) (blocks : List ReadBlock) (index : ℕ) (block : ReadBlock) →
    slice_get blocks index ≡ Some block → IsSending x expected total blocks index →
    IsSending x expected total (blocks_ended blocks index WasRead block) index
sending_read x expected total blocks index block there h = record {
  count = set_length blocks index (set_state WasRead block) ∙ h.count;
  sent_is = h.sent_is;
  more = h.more;
  total_is = h.total_is;
  all = h.all;
  few = h.few;
  readable = λ other at. ap (λ (o : ReadBlock). is_lost o.state) (same_Some other (set_state WasRead block)
      (sym at ∙ set_there blocks index block (set_state WasRead block) there));
  behind = behind_unread blocks index (set_state WasRead block) h.behind;
}

sending_lost : (x : Sends) (expected total : ℕ) (blocks : List ReadBlock) (index : ℕ) (block : ReadBlock) →
    slice_get blocks index ≡ Some block → IsSending x expected total blocks index →
    IsLost (blocks_ended blocks index NotRead block) index (status.CheckCondition read_error) (4096 * x.sent)
sending_lost x expected total blocks index block there h = record {
  block = set_state NotRead block;
  there = set_there blocks index block (set_state NotRead block) there;
  lost = refl;
  told_is = refl;
  carried = ap (λ n. 4096 * n) (sym h.sent_is);
  few = (let long = set_length blocks index (set_state NotRead block) in let count = h.count in let few = h.few in
      omega arith);
  behind = behind_unread blocks index (set_state NotRead block) h.behind;
}

-- a task whose next block was not read yet sends blocks
record IsSendingIn (before expected total : ℕ) (p : Phase) (blocks : List ReadBlock) (index : ℕ) : Type 0 where
  sends : Sends
  is : p ≡ phase.SendBlocks sends
  sending : IsSending sends expected total blocks index

sends_in : (before expected total : ℕ) (p : Phase) (blocks : List ReadBlock) (index : ℕ) (block : ReadBlock) →
    slice_get blocks index ≡ Some block → block.state ≡ Unread →
    IsDoing before expected total p (Sending blocks index) → IsSendingIn before expected total p blocks index
sends_in before expected total (phase.SendBlocks x) blocks index block there unread h =
    record { sends = x; is = refl; sending = h }
sends_in before expected total (phase.Answer told n) blocks index block there unread h =
    absurd (no (sym unread ∙ (ap (λ (b : ReadBlock). b.state) (same_Some block h.block (sym there ∙ h.there))
    ∙ h.lost)))
  where
    no : Unread ≡ NotRead → ⊥
    no e = cc
sends_in before expected total p blocks index block there unread h = absurd h

-- The task

module _ (before index : ℕ) (a : OpenTask) (b : exchange.Task) (blocks : List ReadBlock) (block : ReadBlock)
    (h : TaskKept before a b) (deed : b.deed ≡ Sending blocks index)
    (there : slice_get blocks index ≡ Some block) (unread : block.state ≡ Unread) where
  its : IsSendingIn before a.expected b.length a.phase blocks index
  its =
      sends_in before a.expected b.length a.phase blocks index block there unread
      (subst (IsDoing before a.expected b.length a.phase) deed h.doing)

  -- it brings no frames
  quiet : a.frames ≡ frames.NotBrought
  quiet = subst (λ (p : Phase). FramesFit p a.frames a.held b.deed) its.is h.fits

  none_asked : b.request ≡ None
  none_asked = subst (λ (f : Frames). AreFramesKept f a.held b.request) quiet h.request

  theirs : (state : ReadState) →
      record b { deed = Sending (blocks_ended blocks index state block) index } ≡ set_read index state b
  theirs state =
      ap (λ x. record b { deed = x })
      (ap (λ o. Sending (with_block blocks index state o) index) (sym there)
      ∙ ap (deed_read index state) (sym deed))

  -- what was read for it then
  now_read : (state : ReadState) →
      read_in (Sending (blocks_ended blocks index state block) index) ≡ read_by block.body state
  now_read state = ap read_of (set_there blocks index block (set_state state block) there)

  -- and before
  none_read : a.block ≡ None
  none_read =
      h.read ∙ (ap read_in deed ∙ (ap read_of there ∙ ap (read_by block.body) unread))

  pub block_read : (body : List ℕ) → body ≡ block.body →
      TaskKept before (read_for index body a a.phase) (set_read index WasRead b)
  block_read body content =
      subst (TaskKept before (read_for index body a a.phase)) (theirs WasRead)
      (subst (λ (x : OpenTask). TaskKept before x (record b { deed = sent })) ours
      (record {
        lun = h.lun;
        tag = h.tag;
        expected = h.expected;
        brings = subst (λ (x : Bool). BringsFor a.region x b.command) (ap brings_frames quiet) h.brings;
        gathers = tt;
        asked_of = h.asked_of;
        request = none_asked;
        asks = tt;
        fits = refl;
        doing = sending_read its.sends a.expected b.length blocks index block there its.sending;
        read = ap (λ z. Some z) content ∙ sym (now_read WasRead);
      }))
    where
      sent : exchange.Deed
      sent = Sending (blocks_ended blocks index WasRead block) index

      ours_then : OpenTask
      ours_then = record a {
        phase = phase.SendBlocks its.sends;
        frames = frames.NotBrought;
        block = Some body;
        held = None;
      }

      ours : ours_then ≡ read_for index body a a.phase
      ours =
          (λ i. record a { phase = sym its.is i; frames = sym quiet i; block = Some body; held = None })
          ∙ ap (read_for index body a) (sym its.is)

  pub block_lost : TaskKept before (task_after (event.BlockLost index) a) (set_read index NotRead b)
  block_lost =
      subst (TaskKept before (task_after (event.BlockLost index) a)) (theirs NotRead)
      (subst (λ (x : OpenTask). TaskKept before x (record b { deed = lost })) ours
      (record {
        lun = h.lun;
        tag = h.tag;
        expected = h.expected;
        brings = subst (λ (x : Bool). BringsFor a.region x b.command) (ap brings_frames quiet) h.brings;
        gathers = tt;
        asked_of = h.asked_of;
        request = none_asked;
        asks = tt;
        fits = tt;
        doing = sending_lost its.sends a.expected b.length blocks index block there its.sending;
        read = none_read ∙ sym (now_read NotRead);
      }))
    where
      lost : exchange.Deed
      lost = Sending (blocks_ended blocks index NotRead block) index

      ours_then : OpenTask
      ours_then = record a {
        phase = phase.Answer (status.CheckCondition read_error) (4096 * its.sends.sent);
        frames = frames.NotBrought;
      }

      ours : ours_then ≡ task_after (event.BlockLost index) a
      ours = λ i. record a {
        phase = phase_after (sym its.is i) (event.BlockLost index);
        frames = sym quiet i;
        block = block_after (event.BlockLost index) (sym its.is i) a.block;
      }
