-- What a reply makes of a task is what the definitions make of it.
use Rattle.device.proofs.Common.{Acknowledge, Answering, AreClaimed, AreFramesKept, Awaiting, Bool, Core, Deed}
use Rattle.device.proofs.Common.{Describes, DeviceCore, ForFrames, ForUnmap, ForWrite, Frames, FramesFit, Gathering}
use Rattle.device.proofs.Common.{Good, HasMoved, IsDoing, IsFor, IsGathered, IsSending, LetGo, LetGoAll, List, Message}
use Rattle.device.proofs.Common.{None, NotRead, OpenTask, Option, Phase, Purpose, ReadBlock, ReadState, ReadingArea}
use Rattle.device.proofs.Common.{ReadsAsked, RpmbRequest, Sending, SendingBytes, Sends, Some, State, TaskKept}
use Rattle.device.proofs.Common.{Translation, Unread, WantPage, Wanted, WasRead, [], ap, arith, before_accepted}
use Rattle.device.proofs.Common.{block_for, claimed_in, claims_of, false, false≢true, find, found_task, frames_for}
use Rattle.device.proofs.Common.{gathers_for, if◌then◌else◌, is_at_hand, is_lost, is_pin_of, is_read, is_unfilled}
use Rattle.device.proofs.Common.{leb-true, length, ltb-false, ltb-true, moved, nat_le, nat_lt, none-some, numbers_of}
use Rattle.device.proofs.Common.{option_map, owed_by, owed_in, phase_after, read_in, refl, set_deed, slice_get}
use Rattle.device.proofs.Common.{slice_set, subst, sym, task_after, task_happened, task_in, task_of, true, wanted_by}
use Rattle.device.proofs.Common.{wanted_in, wanted_kept, with_event, with_moves, ℕ, ◌+◌, ◌<◌, ◌∙◌, ◌∷◌, ◌≡◌}
use Rattle.std.specs.Prelude.{max}
use Rattle.ufs_spec.proofs.Lists.{get_there}
use Rattle.ufs_spec.specs.Exchanges as exchange
use Rattle.ufs_spec.specs.Exchanges.{Comparing}
use Rattle.ufs_spec.specs.Machine.{deed_after, deed_after_asked, deed_after_block, deed_after_compare, deed_after_state}
use Rattle.ufs_spec.specs.Machine.{moves_after, task_goes_on}
use Rattle.ufs_spec.specs.Replies.{pin_of}
use Rattle.ftl_core.specs.Public as layer_kept
use Rattle.task_set.specs.declared.tasks.Phase.TheVariants as phase
use Rattle.task_set.specs.declared.tasks.TaskEvent.TheVariants as event
use Rattle.device.specs.Describes.{IsComparing, IsReadable, own_of}
use Rattle.device.specs.Replies.{block_wanted_message, moved_on, with_own_block, without_task}
use Rattle.task_set.specs.Lists.{task_keeps_block}
use Rattle.task_set.specs.Tasks.{block_kept, next_sending, sent_next}
use Rattle.task_set.specs.declared.frames.Frames.TheVariants as frames
use Rattle.task_set.specs.declared.tasks.Comparing.{Comparing as Compares}
use Rattle.device.proofs.described.Answered.{IsBehind}
use Rattle.device.proofs.open_tasks.OpenTasks.{IsOpen, set_again, set_stands}
use Rattle.device.proofs.due_replies.BlocksBehind.{more_kept, none_kept, none_read_behind}
use Rattle.device.proofs.due_replies.BlocksOwed.{IsOwn, own_of_pin}
use Rattle.device.proofs.due_replies.ReplyMoves.{answered_gone, becomes, does_now, goes, none_asked, sends, sent_layer}
use Rattle.device.proofs.due_replies.ReplyMoves.{told_gone, with_layer}
use Rattle.device.proofs.due_replies.ReplySame.{NextCompared, block_if, next_compared}
use Rattle.device.proofs.due_replies.PinsLetGo.{gone_again}

-- what the definitions make of a task
abbrev pub task_does : State → exchange.Task → Deed → State
task_does s b deed = task_goes_on (with_moves s (moves_after b deed)) b (deed_after b deed)

-- a READ of which one block more was handed out, and more follow
abbrev behind : Sends → Sends
behind x = record x { sent = x.sent + 1 }

abbrev next_if : Sends → Bool → Option Sends
next_if x more = if more then Some (behind x) else None

abbrev deed_next : exchange.Task → List ReadBlock → ℕ → Bool → Deed
deed_next b blocks n more = if more then Sending blocks (n + 1) else Answering Good b.length

sends_more : (x : Sends) (expected total : ℕ) (blocks : List ReadBlock) (n : ℕ) →
    IsSending x expected total blocks n → x.sent + 1 < x.blocks →
    IsSending (behind x) expected total blocks (n + 1)
sends_more x expected total blocks n is more = record {
  count = is.count;
  sent_is = ap (λ (m : ℕ). m + 1) is.sent_is;
  more = more;
  total_is = is.total_is;
  all = is.all;
  few = is.few;
  readable = λ block there. ap is_lost (is.behind (n + 1) block (omega arith) there);
  behind = λ i block above. is.behind i block (omega arith);
}

-- One task hands out a reply

-- frames are gathered for one region whether they were asked for or not
same_for : (purpose : Purpose) (gathered : List ℕ) (asked : Bool) →
    gathers_for (Gathering purpose gathered asked) ≡ gathers_for (Gathering purpose gathered true)
same_for (ForFrames region) gathered asked = refl
same_for (ForWrite unit address blocks forced) gathered asked = refl
same_for (ForUnmap unit) gathered asked = refl

-- a task that gathers data has no request yet
none_decided : (purpose : Purpose) (held : Option (List ℕ)) (request : Option RpmbRequest) →
    AreFramesKept (frames_for purpose) held request → is_unfilled request ≡ false
none_decided (ForFrames region) held request none = ap is_unfilled none
none_decided (ForWrite unit address blocks forced) held request none = ap is_unfilled none
none_decided (ForUnmap unit) held request none = ap is_unfilled none

module _ (d : DeviceCore) (s : State) (k : ℕ) (a : OpenTask) (b : exchange.Task) (h : Describes d s)
    (o : IsOpen (before_accepted s.translation.ledger) k d.tasks s.tasks a b) where
  -- what its phase has to do with frames
  its_frames : (p : Phase) → a.phase ≡ p → FramesFit p a.frames a.held b.deed
  its_frames p is = subst (λ q. FramesFit q a.frames a.held b.deed) is o.kept.fits

  -- it gathers for the same region as before
  still_for : (purpose : Purpose) (gathered : List ℕ) (asked : Bool) → b.deed ≡ Gathering purpose gathered asked →
      IsFor a.region (gathers_for (Gathering purpose gathered true))
  still_for purpose gathered asked deed =
      subst (IsFor a.region) (ap gathers_for deed ∙ same_for purpose gathered asked) o.kept.gathers

  asks : (after : Core) (w : Wanted) (purpose : Purpose) (gathered : List ℕ) (asked : Bool) → a.phase ≡ phase.Ask w →
      b.deed ≡ Gathering purpose gathered asked → IsGathered w b.length purpose gathered →
      layer_kept.Describes after s.translation → AreClaimed after (claims_of (numbers_of s) s.tasks) →
      IsBehind (with_layer after (with_event d k event.DataAskedFor))
      (set_deed s b.tag (Gathering purpose gathered true))
  asks after w purpose gathered asked is deed its layer claims =
      does_now d s k a b h o after event.DataAskedFor (phase.Ask w) (Gathering purpose gathered true) is
      (its, refl) refl (its_frames (phase.Ask w) is) (still_for purpose gathered asked deed)
      (none_decided w.purpose a.held b.request
      (subst (λ f. AreFramesKept f a.held b.request) (its_frames (phase.Ask w) is) o.kept.request)) refl
      (record {
        wanted = λ index. ap (wanted_in index b.request) deed;
        read = ap read_in deed;
        claimed = λ m total. ap (claimed_in m total) deed;
      })
      tt layer claims

  -- its frames were handed out
  sends_frames : (after : Core) (size : ℕ) (bytes : List ℕ) → a.phase ≡ phase.SendHeld size →
      b.deed ≡ SendingBytes bytes → b.length ≡ size → layer_kept.Describes after s.translation →
      AreClaimed after (claims_of (numbers_of s) s.tasks) →
      IsBehind (with_layer after (with_event d k event.DataSent)) (set_deed s b.tag (Answering Good b.length))
  sends_frames after size bytes here deed is layer claims =
      does_now d s k a b h o after event.DataSent (phase.SendHeld size) (Answering Good b.length) here (refl, is)
      refl tt tt (none_asked d s k a b h o (its_frames (phase.SendHeld size) here).0) refl
      (record {
        wanted = λ index. ap (wanted_in index b.request) deed;
        read = ap read_in deed;
        claimed = λ m total. ap (claimed_in m total) deed;
      })
      tt layer claims

  ends : (after : Core) → AreClaimed after (claims_of (numbers_of s) s.tasks) →
      claimed_in (numbers_of s) b.length b.deed ≡ [] →
      layer_kept.Describes after (moved s.translation (LetGoAll a.tag)) →
      IsBehind (with_layer after (without_task d k)) (task_goes_on s b None)
  ends after claims none layer = record {
    keeps = goes d s k a b h o after s.translation.ledger.held claims none layer;
    answered = answered_gone d s k a b h o s.translation.ledger.held;
    told = told_gone d s k a b h o;
    shorts_told = h.shorts_told;
  }

  awaits : (after : Core) (commands : ℕ) → AreClaimed after (claims_of (numbers_of s) s.tasks) →
      claimed_in (numbers_of s) b.length b.deed ≡ [] →
      layer_kept.Describes after (moved (moved s.translation (Acknowledge commands)) (LetGoAll a.tag)) →
      IsBehind (with_layer after (without_task d k))
      (task_goes_on (with_moves s (Acknowledge commands ∷ [])) b None)
  awaits after commands claims none layer = record {
    keeps = goes d s k a b h o after (max s.translation.ledger.held commands) claims none layer;
    answered = answered_gone d s k a b h o (max s.translation.ledger.held commands);
    told = told_gone d s k a b h o;
    shorts_told = h.shorts_told;
  }

  -- it could not send the block, and has answered so
  abbrev sent_state : ℕ → State
  sent_state n = with_moves s (LetGo b.tag n ∷ WantPage b.tag (n + 1) ∷ [])

  loses : (after : Core) (blocks : List ReadBlock) (n : ℕ) → b.deed ≡ Sending blocks n →
      AreClaimed after (claims_of (numbers_of s) s.tasks) →
      layer_kept.Describes after (moved s.translation (LetGoAll a.tag)) →
      IsBehind (with_layer after (without_task d k)) (task_goes_on (sent_state n) b None)
  loses after blocks n deed claims layer =
      subst (IsBehind (with_layer after (without_task d k))) (sym same)
      (ends after claims (ap (claimed_in (numbers_of s) b.length) deed) layer)
    where
      same : task_goes_on (sent_state n) b None ≡ task_goes_on s b None
      same =
          ap (λ (u : Translation). record s { tasks = exchange.without_task b.tag s.tasks; translation = u })
          (gone_again s.translation b.tag n)

  -- what its deed is behind its next block
  sending_path : (blocks : List ReadBlock) (n : ℕ) (block : ReadBlock) (x : Option Deed) →
      slice_get blocks n ≡ Some block → deed_after_state b blocks n block.state ≡ x →
      task_does s b (Sending blocks n) ≡ task_goes_on (sent_state n) b x
  sending_path blocks n block x there e =
      ap (task_goes_on (sent_state n) b) (ap (deed_after_block b blocks n) there ∙ e)

  sent_deed : (blocks : List ReadBlock) (n : ℕ) (state : ReadState) (more : Bool) → is_lost state ≡ false →
      nat_lt (n + 1) (length blocks) ≡ more →
      deed_after_state b blocks n state
      ≡ Some (deed_next b blocks n more)
  sent_deed blocks n Unread more fine e =
      ap (λ z. Some (deed_next b blocks n z)) e
  sent_deed blocks n WasRead more fine e =
      ap (λ z. Some (deed_next b blocks n z)) e
  sent_deed blocks n NotRead more fine e = absurd (false≢true (sym fine))

  sends_next : (after : Core) (x : Sends) (blocks : List ReadBlock) (n : ℕ) → a.phase ≡ phase.SendBlocks x →
      b.deed ≡ Sending blocks n →
      IsSending x a.expected b.length blocks n → AreClaimed after (claims_of (numbers_of s) s.tasks) →
      layer_kept.Describes after (sent_layer s.translation a.tag x.sent) →
      IsBehind (with_layer after (moved_on s.translation d k a.tag (phase.SendBlocks x)))
      (task_does s b (Sending blocks n))
  sends_next after x blocks n here deed is claims layer = by (nat_lt (x.sent + 1) x.blocks) refl
    where
      found : task_of b.tag s.tasks ≡ Some b
      found = found_task s.tasks k b h.tied.tasks.tasks_differ o.theirs

      next : (block : ReadBlock) × (slice_get blocks n ≡ Some block)
      next = let count = is.count in let at = is.sent_is in let more = is.more in get_there blocks n (omega arith)

      its : layer_kept.Describes after (sent_layer s.translation a.tag n)
      its = subst (λ m. layer_kept.Describes after (sent_layer s.translation a.tag m)) (sym is.sent_is) layer

      kept : (index : ℕ) → wanted_kept s.translation.pins b.tag index ≡ wanted_in index None (Sending blocks n)
      kept index = h.kept.wanted b.tag index ∙ (ap (wanted_by index) found ∙ ap (wanted_in index b.request) deed)

      same_test : nat_lt (n + 1) (length blocks) ≡ nat_lt (x.sent + 1) x.blocks
      same_test i = nat_lt (is.sent_is i + 1) (is.count i)

      -- the phase and the deed behind it
      path : (more : Bool) → nat_lt (x.sent + 1) x.blocks ≡ more →
          IsBehind (with_layer after (with_event d k event.BlockSent))
          (task_goes_on (sent_state n) b (Some (deed_next b blocks n more))) →
          IsBehind (with_layer after (moved_on s.translation d k a.tag (phase.SendBlocks x)))
          (task_does s b (Sending blocks n))
      path more e it =
          subst (IsBehind (with_layer after (moved_on s.translation d k a.tag (phase.SendBlocks x))))
          (sym (sending_path blocks n next.0 (Some (deed_next b blocks n more))
          next.1 (sent_deed blocks n next.0.state more (is.readable next.0 next.1) (same_test ∙ e))))
          it

      -- what the task does behind its next block
      does : (deed : Deed) (more : Bool) → nat_lt (x.sent + 1) x.blocks ≡ more →
          IsDoing (before_accepted s.translation.ledger) a.expected b.length (sent_next x (next_if x more)) deed →
          IsDoing (before_accepted s.translation.ledger) a.expected b.length (sent_next x (next_sending x)) deed
      does deed more e =
          subst
          (λ z. IsDoing (before_accepted s.translation.ledger) a.expected b.length (sent_next x (next_if x z)) deed)
          (sym e)

      fits_then : (deed : Deed) (more : Bool) → nat_lt (x.sent + 1) x.blocks ≡ more →
          FramesFit (sent_next x (next_if x more)) a.frames a.held deed →
          FramesFit (sent_next x (next_sending x)) a.frames a.held deed
      fits_then deed more e =
          subst (λ z. FramesFit (sent_next x (next_if x z)) a.frames a.held deed) (sym e)

      by : (more : Bool) → nat_lt (x.sent + 1) x.blocks ≡ more →
          IsBehind (with_layer after (moved_on s.translation d k a.tag (phase.SendBlocks x)))
          (task_does s b (Sending blocks n))
      by true e =
          path true e
          (sends d s k a b h o after n x (Sending blocks (n + 1)) here
          (does (Sending blocks (n + 1)) true e
          (sends_more x a.expected b.length blocks n is (ltb-true (x.sent + 1) x.blocks e)))
          (fits_then (Sending blocks (n + 1)) true e (its_frames (phase.SendBlocks x) here)) tt tt
          (more_kept b.tag n s.translation.pins blocks kept is.behind) (none_read_behind blocks n is.behind)
          (ap (claimed_in (numbers_of s) b.length) deed) claims its)
      by false e =
          let count = is.count in
          let at = is.sent_is in
          let last = ltb-false (x.sent + 1) x.blocks e in
          path false e
          (sends d s k a b h o after n x (Answering Good b.length) here
          (does (Answering Good b.length) false e (refl, is.total_is))
          (fits_then (Answering Good b.length) false e tt) tt tt
          (none_kept b.tag n s.translation.pins blocks kept (omega arith)) refl
          (ap (claimed_in (numbers_of s) b.length) deed) claims its)

  -- its host is asked for the block with which it compares its own one
  module _ (after : Core) (x : Compares) (blocks : List ReadBlock) (n : ℕ) (asked : Bool) (m : Message)
      (here : a.phase ≡ phase.AskBlock x) (deed : b.deed ≡ Comparing blocks n asked)
      (is : IsComparing x b.length blocks n) (not_asked : asked ≡ false) (readable : IsReadable blocks n) where
    next : NextCompared s a b x blocks n
    next =
        next_compared d s a b h o.kept (found_task s.tasks k b h.tied.tasks.tasks_differ o.theirs) x blocks n asked deed
        is not_asked readable

    -- its own block is there
    is_there : owed_in s.translation a.block a.held (task_in a) (phase.AskBlock x) ≡ Some m →
        block_for s.translation a.block a.tag x.compared ≡ Some next.block.body
    is_there due = by (is_read next.block.state (is_at_hand s.translation.work.rests (pin_of s b n))) next.found
      where
        by : (there : Bool) → block_for s.translation a.block a.tag x.compared ≡ block_if next.block.body there →
            block_for s.translation a.block a.tag x.compared ≡ Some next.block.body
        by true e = e
        by false e =
            absurd (none-some m
            (sym (ap (option_map (λ (own : List ℕ). block_wanted_message (task_in a) x)) e) ∙ due))

    quiet : a.frames ≡ frames.NotBrought
    quiet = its_frames (phase.AskBlock x) here

    -- the task then, which keeps it
    task_then : (own held : Option (List ℕ)) → own ≡ Some next.block.body →
        TaskKept (before_accepted s.translation.ledger)
        (task_after event.BlockAskedFor (record a { block = own; held = held }))
        (record b { deed = Comparing blocks n true })
    task_then own held its = record {
      lun = o.kept.lun;
      tag = o.kept.tag;
      expected = o.kept.expected;
      brings = o.kept.brings;
      gathers = tt;
      asked_of = o.kept.asked_of;
      request =
          subst (λ (f : Frames). AreFramesKept f held b.request) (sym quiet)
          (subst (λ (f : Frames). AreFramesKept f a.held b.request) quiet o.kept.request);
      asks = subst (λ (f : Frames). ReadsAsked (phase_after a.phase event.BlockAskedFor) f held) (sym quiet) tt;
      fits =
          subst (λ (p : Phase). FramesFit (phase_after p event.BlockAskedFor) a.frames held (Comparing blocks n true))
          (sym here) quiet;
      doing =
          subst
          (λ (p : Phase). IsDoing (before_accepted s.translation.ledger) a.expected b.length
          (phase_after p event.BlockAskedFor) (Comparing blocks n true))
          (sym here) (is, refl);
      read = its ∙ sym (ap (own_of true) next.there);
    }

    abbrev state_then : State
    state_then = set_deed s b.tag (Comparing blocks n true)

    becomes_so : (own held : Option (List ℕ)) → own ≡ Some next.block.body →
        layer_kept.Describes after s.translation → AreClaimed after (claims_of (numbers_of s) s.tasks) →
        IsBehind
        (with_layer after
        (record d {
          tasks = slice_set d.tasks k (task_after event.BlockAskedFor (record a { block = own; held = held }));
        }))
        state_then
    becomes_so own held its layer claims =
        becomes d s k a b h o after (task_after event.BlockAskedFor (record a { block = own; held = held }))
        (Comparing blocks n true) (task_then own held its) refl (none_asked d s k a b h o quiet)
        (λ index. ap (wanted_in index b.request) deed) (ap (claimed_in (numbers_of s) b.length) deed) tt layer claims

    -- its own block is kept from now on, if the layer has it
    keeps_own : (own : Option (List ℕ)) → IsOwn a.block next.block.body own →
        layer_kept.Describes after s.translation → AreClaimed after (claims_of (numbers_of s) s.tasks) →
        IsBehind (with_layer after (with_event (with_own_block d k own) k event.BlockAskedFor)) state_then
    keeps_own None its layer claims =
        subst
        (λ (y : Option OpenTask).
        IsBehind (with_layer after (record d { tasks = task_happened d.tasks k event.BlockAskedFor y })) state_then)
        (sym o.ours) (becomes_so a.block a.held its layer claims)
    keeps_own (Some own) its layer claims =
        subst (λ (ts : List OpenTask). IsBehind (with_layer after (record d { tasks = ts })) state_then)
        (sym tasks_then)
        (becomes_so (Some own) None (ap (λ (z : List ℕ). Some z) its) layer claims)
      where
        tasks_then : (with_event (with_own_block d k (Some own)) k event.BlockAskedFor).tasks
            ≡ slice_set d.tasks k (task_after event.BlockAskedFor (block_kept own a))
        tasks_then =
            (λ i. task_happened (task_keeps_block d.tasks k own (o.ours i)) k event.BlockAskedFor
            (slice_get (task_keeps_block d.tasks k own (o.ours i)) k))
            ∙ (ap (task_happened (slice_set d.tasks k (block_kept own a)) k event.BlockAskedFor)
            (set_stands d.tasks k a (block_kept own a) o.ours)
            ∙ set_again d.tasks k (block_kept own a) (task_after event.BlockAskedFor (block_kept own a)))

    asked_deed : (state : ReadState) → is_lost state ≡ false →
        deed_after_asked blocks n state ≡ Some (Comparing blocks n true)
    asked_deed Unread fine = refl
    asked_deed WasRead fine = refl
    asked_deed NotRead fine = absurd (false≢true (sym fine))

    asks_block : owed_in s.translation a.block a.held (task_in a) (phase.AskBlock x) ≡ Some m →
        layer_kept.Describes after s.translation → AreClaimed after (claims_of (numbers_of s) s.tasks) →
        IsBehind (with_layer after (moved_on s.translation d k a.tag (phase.AskBlock x)))
        (task_does s b (Comparing blocks n asked))
    asks_block due layer claims =
        subst (IsBehind (with_layer after (moved_on s.translation d k a.tag (phase.AskBlock x))))
        (sym (ap (task_goes_on s b)
        (ap (deed_after_compare blocks n) next.there ∙ asked_deed next.block.state next.fine)))
        (keeps_own (block_for s.translation None a.tag x.compared)
        (own_of_pin s.translation.work.rests s.translation.ledger a.block next.block.body
        (find (is_pin_of a.tag x.compared) s.translation.pins) (is_there due))
        layer claims)

  -- a block that is durable is told so
  durable_told : (x : Bool) (m n : Message) → (if x then Some m else None) ≡ Some n → x ≡ true
  durable_told true m n e = refl
  durable_told false m n e = absurd (none-some n e)

  moves_in : (after : Core) (p : Phase) (deed : Deed) (m : Message) → a.phase ≡ p → b.deed ≡ deed →
      IsDoing (before_accepted s.translation.ledger) a.expected b.length p deed →
      owed_in s.translation a.block a.held (task_in a) p ≡ Some m →
      HasMoved after s.translation (claims_of (numbers_of s) s.tasks) a.tag p →
      IsBehind (with_layer after (moved_on s.translation d k a.tag p)) (task_does s b deed)
  moves_in after (phase.Ask w) (Gathering purpose gathered asked) m here e doing due new =
      asks after w purpose gathered asked here e doing.0 new.0 new.1
  moves_in after (phase.Await w) deed m here e doing due new = absurd (none-some m due)
  moves_in after (phase.SendHeld size) (SendingBytes bytes) m here e doing due new =
      sends_frames after size bytes here e doing.1 new.0 new.1
  moves_in after (phase.AwaitFrontier n size) (Awaiting commands) m here e doing due new =
      let frontier = s.translation.ledger.frontier in
      let low = leb-true n frontier (durable_told (nat_le n frontier) _ m due) in
      let is = doing.0 in
      let its = new commands (omega arith) in
      awaits after commands its.1 (ap (claimed_in (numbers_of s) b.length) e) its.0
  moves_in after (phase.SendBlocks x) (Sending blocks sent) m here e doing due new =
      sends_next after x blocks sent here e doing new.1 new.0
  moves_in after (phase.ReadArea r) (ReadingArea pages) m here e doing due new =
      ends after new.1 (ap (claimed_in (numbers_of s) b.length) e) new.0
  moves_in after (phase.Verify x) (ReadingArea pages) m here e doing due new =
      ends after new.1 (ap (claimed_in (numbers_of s) b.length) e) new.0
  moves_in after (phase.AskBlock x) (Comparing blocks compared asked) m here e doing due new =
      asks_block after x blocks compared asked m here e doing.0 doing.1 doing.2 due new.0 new.1
  moves_in after (phase.AwaitBlock x) deed m here e doing due new = absurd (none-some m due)
  moves_in after (phase.Answer told n) (Comparing blocks compared asked) m here e doing due new =
      subst (IsBehind (with_layer after (moved_on s.translation d k a.tag (phase.Answer told n))))
      (sym (ap (task_goes_on s b)
      (ap (deed_after_compare blocks compared) doing.0.there
      ∙ ap (deed_after_asked blocks compared) doing.0.lost)))
      (ends after new.1 (ap (claimed_in (numbers_of s) b.length) e) new.0)
  moves_in after (phase.Answer told n) (Answering x carried) m here e doing due new =
      ends after new.1 (ap (claimed_in (numbers_of s) b.length) e) new.0
  moves_in after (phase.Answer told n) (Sending blocks sent) m here e doing due new =
      subst (IsBehind (with_layer after (moved_on s.translation d k a.tag (phase.Answer told n))))
      (sym (sending_path blocks sent doing.block None doing.there (ap (deed_after_state b blocks sent) doing.lost)))
      (loses after blocks sent e new.1 new.0)
  moves_in after p deed m here e doing due new = absurd doing

  -- what a reply makes of the task
  pub moves_on : (after : Core) (m : Message) → owed_by s.translation a ≡ Some m →
      HasMoved after s.translation (claims_of (numbers_of s) s.tasks) a.tag a.phase →
      IsBehind (with_layer after (moved_on s.translation d k a.tag a.phase)) (task_does s b b.deed)
  moves_on after m due new = moves_in after a.phase b.deed m refl refl o.kept.doing due new
