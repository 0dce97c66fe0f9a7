-- A reply that is handed out is due, and none is due where none is handed out.
use Rattle.device.proofs.Common.{Acknowledge, Bool, Describes, DeviceCore, HasMoved, IsAnswered, List, Message, None}
use Rattle.device.proofs.Common.{OfReply, OpenTask, Option, Phase, Reply, Short, Some, State, Task, Translation, ap}
use Rattle.device.proofs.Common.{arith, before_accepted, block_for, claims_of, durable, false, found_task, held_at}
use Rattle.device.proofs.Common.{if◌then◌else◌, inl, inr, is_mended, is_short_due, leb-true, length, moved, nat_le}
use Rattle.device.proofs.Common.{none-some, numbers_of, option_map, owed_by, owed_in, position, read_at, refl, replied}
use Rattle.device.proofs.Common.{slice_get, spelling, subst, sym, task_at, task_in, task_of, true, true≢false}
use Rattle.device.proofs.Common.{with_moves, ℕ, ◌+◌, ◌∙◌, ◌≡◌, ◌≤◌, ◌⊎◌}
use Rattle.std.specs.Prelude.{max}
use Rattle.ufs_spec.proofs.Lists.{position_cases}
use Rattle.ufs_spec.specs.Exchanges.{without_short}
use Rattle.ufs_spec.specs.Machine.{Due, acknowledges, deed_reply, is_durable, replied_by, short_replied, tag_in}
use Rattle.power_loss.specs.Exchange.{ShortAwaits, ShortFits}
use Rattle.power_loss.proofs.open_tasks.TaskLists.{found_short, no_task_found, short_fits_at}
use Rattle.ftl_core.specs.Public as layer_kept
use Rattle.device.specs.Describes.{IsReplied}
use Rattle.device.specs.Replies.{IsShortReplied, answer_of, block_message, block_wanted_message, moved_on}
use Rattle.device.specs.Replies.{are_verified, frames_message, has_filled, verify_reply}
use Rattle.device.specs.Replies.{without_short as without_short_at}
use Rattle.task_set.specs.Tasks.{read_error}
use Rattle.task_set.specs.declared.tasks.Phase.TheVariants as phase
use Rattle.task_set.specs.declared.tasks.Short as kept
use Rattle.ufs_spec.specs.declared.exchanges.Status.TheVariants as status
use Rattle.device.proofs.described.Answered.{IsBehind, answered, answered_as, stays}
use Rattle.device.proofs.described.Settled.{kept_stays, still_answered}
use Rattle.device.proofs.described.ShortExchanges.{IsOpenShort, due_same, one_gone_told, one_short_gone, our_short}
use Rattle.device.proofs.described.ShortExchanges.{their_short}
use Rattle.device.proofs.open_tasks.OpenTasks.{one_there, our_task, stands_there, their_task}
use Rattle.device.proofs.due_replies.DeedsBehind.{moves_on, task_does}
use Rattle.device.proofs.due_replies.ReplyMoves.{with_held}
use Rattle.device.proofs.due_replies.ReplySame.{same_reply}
use Rattle.power_loss.proofs.host_commands.HandedOutReplies.{one_tag as same_tag}

-- Tags

-- a reply has its task's tag
reply_tag : (t : Translation) (read held : Option (List ℕ)) (a : Task) (p : Phase) (m : Message) →
    owed_in t read held a p ≡ Some m →
    tag_in m ≡ a.tag
reply_tag t read held a (phase.Ask w) m h = same_tag _ m a.tag h refl
reply_tag t read held a (phase.Await w) m h = absurd (none-some m h)
reply_tag t read held a (phase.ReadArea r) m h = by (has_filled a.frames) h
  where
    by : (x : Bool) → (if x then Some (answer_of a status.Good r.length) else None) ≡ Some m → tag_in m ≡ a.tag
    by true e = same_tag (answer_of a status.Good r.length) m a.tag e refl
    by false e = absurd (none-some m e)
reply_tag t read held a (phase.Verify x) m h = by x.failed (are_verified t a.tag x.blocks) h
  where
    by : (failed verified : Bool) → verify_reply a failed verified ≡ Some m → tag_in m ≡ a.tag
    by true verified e = same_tag (answer_of a (status.CheckCondition read_error) 0) m a.tag e refl
    by false true e = same_tag (answer_of a status.Good 0) m a.tag e refl
    by false false e = absurd (none-some m e)
reply_tag t read held a (phase.SendHeld size) m h = by held h
  where
    by : (o : Option (List ℕ)) → option_map (frames_message a size) o ≡ Some m → tag_in m ≡ a.tag
    by None e = absurd (none-some m e)
    by (Some bytes) e = same_tag (frames_message a size bytes) m a.tag e refl
reply_tag t read held a (phase.AwaitFrontier n size) m h = by (nat_le n t.ledger.frontier) h
  where
    by : (x : Bool) → (if x then Some (answer_of a status.Good size) else None) ≡ Some m → tag_in m ≡ a.tag
    by true e = same_tag (answer_of a status.Good size) m a.tag e refl
    by false e = absurd (none-some m e)
reply_tag t read held a (phase.SendBlocks x) m h = by (block_for t read a.tag x.sent) h
  where
    by : (o : Option (List ℕ)) → option_map (block_message a x) o ≡ Some m → tag_in m ≡ a.tag
    by None e = absurd (none-some m e)
    by (Some body) e = same_tag (block_message a x body) m a.tag e refl
reply_tag t read held a (phase.AskBlock x) m h = by (block_for t read a.tag x.compared) h
  where
    by : (o : Option (List ℕ)) → option_map (λ (block : List ℕ). block_wanted_message a x) o ≡ Some m → tag_in m ≡ a.tag
    by None e = absurd (none-some m e)
    by (Some body) e = same_tag (block_wanted_message a x) m a.tag e refl
reply_tag t read held a (phase.AwaitBlock x) m h = absurd (none-some m h)
reply_tag t read held a (phase.Answer told n) m h = same_tag (answer_of a told n) m a.tag h refl

-- Replies of tasks

open_right : (d e : DeviceCore) (s : State) (k : ℕ) (a : OpenTask) (m : Message) → Describes d s →
    slice_get d.tasks k ≡ Some a → owed_by s.translation a ≡ Some m →
    e ≡ record (moved_on s.translation d k a.tag a.phase) { ftl = e.ftl } →
    HasMoved e.ftl s.translation (claims_of (numbers_of s) s.tasks) a.tag a.phase →
    IsAnswered s Reply (OfReply (Some m)) e
open_right d e s k a m h there due left layer =
    let r = their_task (before_accepted s.translation.ledger) k d.tasks s.tasks a h.kept.tasks there in
    let found : task_of r.0.tag s.tasks ≡ Some r.0 = found_task s.tasks k r.0 h.tied.tasks.tasks_differ r.1.theirs in
    let tag : tag_in m ≡ r.0.tag =
    reply_tag s.translation a.block a.held (task_in a) a.phase m due ∙ sym r.1.kept.tag in
    let path : replied s m ≡ task_does s r.0 r.0.deed =
    ap (replied_by s (tag_in m)) (ap (λ n. task_of n s.tasks) tag ∙ found) in
    subst (λ (x : DeviceCore). IsAnswered s Reply (OfReply (Some m)) x) (sym left)
    (answered_as d (record (moved_on s.translation d k a.tag a.phase) { ftl = e.ftl }) s
    (task_does s r.0 r.0.deed) Reply (OfReply (Some m)) h tt
    (inl (k, r.0, r.1.theirs, same_reply d s a r.0 h r.1.kept found ∙ due)) path
    (moves_on d s k a r.0 h r.1 e.ftl m due layer))

-- the same by what is told of the task at a position
pub replies_right : (d e : DeviceCore) (s : State) (k : ℕ) (task : Task) (m : Message) → Describes d s →
    task_at d.tasks k ≡ Some task →
    owed_in s.translation (read_at d.tasks k) (held_at d.tasks k) task task.phase ≡ Some m →
    e ≡ record (moved_on s.translation d k task.tag task.phase) { ftl = e.ftl } →
    HasMoved e.ftl s.translation (claims_of (numbers_of s) s.tasks) task.tag task.phase →
    IsAnswered s Reply (OfReply (Some m)) e
replies_right d e s k task m h there due left layer =
    let one = one_there d.tasks k task there in
    let its = stands_there d.tasks k task one.0 there one.1 in
    open_right d e s k one.0 m h one.1
    (sym (λ i. owed_in s.translation (its.1 i) (its.2 i) (its.0 i) (its.0 i).phase) ∙ due)
    (left ∙ (λ i. record (moved_on s.translation d k (its.0 i).tag (its.0 i).phase) { ftl = e.ftl }))
    (subst (λ (x : Task). HasMoved e.ftl s.translation (claims_of (numbers_of s) s.tasks) x.tag x.phase) its.0 layer)

-- Replies of short exchanges

module _ (d : DeviceCore) (s : State) (k : ℕ) (a : kept.Short) (b : Short) (h : Describes d s)
    (o : IsOpenShort (numbers_of s) (before_accepted s.translation.ledger) k d.shorts s.shorts a b) where
  -- it fits the device
  its_fit : ShortFits (length s.accepted) (is_mended s.translation.work.mending) b
  its_fit = short_fits_at s.shorts k b h.tied.tasks.waits o.theirs

  -- its reply is due on both sides, or on none
  pub short_due : is_short_due s.translation.ledger.frontier a ≡ is_durable s b.awaits
  short_due =
      due_same s (numbers_of s) (length s.accepted) (is_mended s.translation.work.mending) a b h.tied.repaired
      its_fit.awaits o.kept

  -- the state without it, once so many commands are held
  abbrev state_without : ℕ → State
  state_without held =
      record s { translation = with_held s.translation held; shorts = without_short b.tag s.shorts }

  short_gone : (held : ℕ) → layer_kept.Describes d.ftl (with_held s.translation held) →
      IsBehind (without_short_at d k) (state_without held)
  short_gone held layer = record {
    keeps = record {
      boot = h.kept.boot;
      permanent = h.kept.permanent;
      each = h.kept.each;
      region = h.kept.region;
      registers = h.kept.registers;
      layer_kept = layer;
      few = h.kept.few;
      tasks = h.kept.tasks;
      one_sends = h.kept.one_sends;
      wanted = h.kept.wanted;
      claims = h.kept.claims;
      shorts =
          one_short_gone (numbers_of s) (before_accepted s.translation.ledger) k d.shorts s.shorts b h.kept.shorts
          h.tied.tasks.shorts_differ o.theirs;
      volatile = h.kept.volatile;
    };
    answered =
        still_answered s (state_without held) s.tasks
        (kept_stays s.translation (with_held s.translation held) s.tasks refl refl) refl h.answered;
    told = h.told;
    shorts_told = λ lock. one_gone_told (durable s) b.tag s.shorts (h.shorts_told lock);
  }

  -- what it waited for is durable, each repair being so
  low_told : (commands : ℕ) → ShortAwaits (length s.accepted) (is_mended s.translation.work.mending) (Some commands) →
      nat_le commands (durable s) ≡ true →
      before_accepted s.translation.ledger + commands ≤ s.translation.ledger.frontier
  low_told commands fits e =
      let few = leb-true commands (durable s) e in
      let low = h.tied.repaired fits.1 in
      omega arith

  -- and is acknowledged
  abbrev state_after : Option ℕ → State
  state_after y = with_moves (record s { shorts = without_short b.tag s.shorts }) (acknowledges y)

  waited_gone : (y : Option ℕ) → ShortAwaits (length s.accepted) (is_mended s.translation.work.mending) y →
      is_durable s y ≡ true →
      ((count : ℕ) → before_accepted s.translation.ledger + count ≤ s.translation.ledger.frontier →
      layer_kept.Describes d.ftl (moved s.translation (Acknowledge count))) →
      IsBehind (without_short_at d k) (state_after y)
  waited_gone None fits e told = short_gone s.translation.ledger.held h.kept.layer_kept
  waited_gone (Some commands) fits e told =
      short_gone (max s.translation.ledger.held commands) (told commands (low_told commands fits e))

  -- this becomes of the state
  goes_out : replied s b.reply ≡ state_after b.awaits
  goes_out =
      ap (λ (n : ℕ). replied_by s n (task_of n s.tasks)) its_fit.reply
      ∙ (ap (replied_by s b.tag) (no_task_found s.shorts s.tasks k b h.tied.tasks.apart o.theirs)
      ∙ ap (short_replied s) (found_short s.shorts k b h.tied.tasks.shorts_differ o.theirs))

  pub short_right : is_short_due s.translation.ledger.frontier a ≡ true →
      ((count : ℕ) → before_accepted s.translation.ledger + count ≤ s.translation.ledger.frontier →
      layer_kept.Describes d.ftl (moved s.translation (Acknowledge count))) →
      IsAnswered s Reply (OfReply (Some b.reply)) (without_short_at d k)
  short_right due told =
      let durable_now = sym short_due ∙ due in
      answered_as d (without_short_at d k) s (state_after b.awaits) Reply (OfReply (Some b.reply)) h tt
      (inr (k, b, o.theirs, durable_now, refl)) goes_out
      (waited_gone b.awaits its_fit.awaits durable_now told)

pub shorts_right : (d e : DeviceCore) (s : State) (bytes : List ℕ) → Describes d s → IsShortReplied d e bytes →
    IsReplied s bytes e
shorts_right d e s bytes h r =
    by
    (their_short (numbers_of s) (before_accepted s.translation.ledger) r.index d.shorts s.shorts r.short
    h.kept.shorts r.there)
  where
    by : (b : Short)
        × IsOpenShort (numbers_of s) (before_accepted s.translation.ledger) r.index d.shorts s.shorts r.short b →
        IsReplied s bytes e
    by (b, o) = record {
      reply = b.reply;
      shown = r.said s.translation h.kept.layer_kept ∙ ap spelling (sym o.kept.reply);
      answered =
          subst (λ (x : DeviceCore). IsAnswered s Reply (OfReply (Some b.reply)) x) (sym r.after_is)
          (short_right d s r.index r.short b h o (r.due s.translation h.kept.layer_kept)
          (λ count low. subst (λ (x : DeviceCore). layer_kept.Describes x.ftl (moved s.translation (Acknowledge count)))
          r.after_is (r.told s.translation count h.kept.layer_kept low)));
    }

-- No reply

abbrev pub OwesNone : DeviceCore → Translation → Type 0
OwesNone d t = (k : ℕ) (task : OpenTask) → slice_get d.tasks k ≡ Some task → owed_by t task ≡ None

-- no short exchange is due
abbrev pub NoneDue : DeviceCore → Translation → Type 0
NoneDue d t = position (is_short_due t.ledger.frontier) d.shorts ≡ None

no_message : (x y : Option Message) (m : Message) → x ≡ Some m → x ≡ y → y ≡ None → ⊥
no_message x y m e f g = cc

not_due : (frontier k : ℕ) (rs : List kept.Short) (a : kept.Short) → position (is_short_due frontier) rs ≡ None →
    slice_get rs k ≡ Some a → is_short_due frontier a ≡ false
not_due frontier k rs a none at = by (position_cases (is_short_due frontier) rs)
  where
    by : ((j : ℕ) × (x : kept.Short) × (position (is_short_due frontier) rs ≡ Some j) × (slice_get rs j ≡ Some x)
        × (is_short_due frontier x ≡ true)) ⊎ ((position (is_short_due frontier) rs ≡ None)
        × ((j : ℕ) (y : kept.Short) → slice_get rs j ≡ Some y → is_short_due frontier y ≡ false)) →
        is_short_due frontier a ≡ false
    by (inl found) = absurd (none-some found.0 (sym none ∙ found.2))
    by (inr each) = each.1 k a at

none_due : (d : DeviceCore) (s : State) → Describes d s → OwesNone d s.translation → NoneDue d s.translation →
    (m : Message) → Due s m → ⊥
none_due d s h none none_short m (inl due) =
    let r = our_task (before_accepted s.translation.ledger) due.0 d.tasks s.tasks due.1 h.kept.tasks due.2 in
    no_message (deed_reply s due.1 due.1.deed) (owed_by s.translation r.0) m due.3
    (same_reply d s r.0 due.1 h r.1.kept (found_task s.tasks due.0 due.1 h.tied.tasks.tasks_differ due.2))
    (none due.0 r.0 r.1.ours)
none_due d s h none none_short m (inr due) =
    let r = our_short (numbers_of s) (before_accepted s.translation.ledger) due.0 d.shorts s.shorts due.1 h.kept.shorts
    due.2 in
    true≢false
    (sym due.3
    ∙ (sym (short_due d s due.0 r.0 due.1 h r.1)
    ∙ not_due s.translation.ledger.frontier due.0 d.shorts r.0 none_short r.1.ours))

pub silence_right : (d : DeviceCore) (s : State) → Describes d s → OwesNone d s.translation →
    NoneDue d s.translation → IsAnswered s Reply (OfReply None) d
silence_right d s h none none_short =
    answered d d s Reply (OfReply None) h tt (none_due d s h none none_short) (stays d s h)
