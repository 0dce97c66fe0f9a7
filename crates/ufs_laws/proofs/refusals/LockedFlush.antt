-- A flush with nothing to wait for is answered GOOD, on a locked device too.
use Rattle.ufs_laws.proofs.Common.{first_line}
use Rattle.ufs_spec.specs.Refusals.{lines_for}
use Rattle.ufs_laws.proofs.Common.{Answering, Awaiting, Bool, Busy, Deed, Gets, Good, Host, IsIdle, None, OfReply, Ok}
use Rattle.ufs_laws.proofs.Common.{Option, Reply, Request, Some, State, Status, Task, [], ap, asks, cond-true}
use Rattle.ufs_laws.proofs.Common.{deed_reply, durable, false, fills, flush, free_slots, heard, if◌then◌else◌, length}
use Rattle.ufs_laws.proofs.Common.{lock_applied, locked, map, mended, nat_le, nat_lt, not, not_ready, observe, refl}
use Rattle.ufs_laws.proofs.Common.{refusal, refused_or_begun, response, short_locked, subst, sym, task_locked, true}
use Rattle.ufs_laws.proofs.Common.{with_task, write_error, write_protected, ℕ, ◌&&◌, ◌||◌, ◌∙◌, ◌∷◌, ◌≡◌, ◌≤◌}
use Rattle.std.proofs.lemmas.Bool.{and_right}
use Rattle.ufs_laws.proofs.answers.OnlyAnswers.{host_gets, reply_gets}
use Rattle.ufs_laws.proofs.refusals.RefusedCommands.{idle_is, idle_state}
use Rattle.ufs_laws.proofs.refusals.TableLines.{locked_idle, once_locked, once_mended}
use Rattle.ufs_laws.proofs.refusals.TakenRequests.{needs_none, skips}
use Rattle.ufs_laws.specs.Runs.{IsAnswered}
use Rattle.ufs_laws.specs.Table.{heard_as}
use Rattle.ufs_spec.proofs.Facts.{le-leb}
use Rattle.ufs_spec.specs.Translation.{has_pending}
use Rattle.ufs_spec.specs.declared.messages.Message.TheVariants as message

-- ## The lock on one task

-- the state with what a lock makes of it, if it is there
abbrev under : State → Bool → State
under s b = if b then record s { tasks = map (task_locked s) s.tasks; shorts = map (short_locked s) s.shorts } else s

one_task : (s : State) (task : Task) → s.tasks ≡ task ∷ [] → task_locked s task ≡ task → (b : Bool) →
    (under s b).tasks ≡ task ∷ []
one_task s task one same false = one
one_task s task one same true = ap (map (task_locked s)) one ∙ ap (λ (t : Task). t ∷ []) same

no_shorts : (s : State) → s.shorts ≡ [] → (b : Bool) → (under s b).shorts ≡ []
no_shorts s none false = none
no_shorts s none true = ap (map (short_locked s)) none

-- ## The flush

abbrev flushes : ℕ → Bool → Request
flushes tag immediate = asks 0x00 0 tag (flush immediate)

abbrev waits : State → Bool → Deed
waits s immediate = if immediate || not (mended s) then Answering Good 0 else Awaiting (length s.accepted)

abbrev flush_task : ℕ → Bool → Deed → Task
flush_task tag immediate deed =
    record {
      lun = 0;
      tag = tag;
      expected = 4096;
      command = Some (flush immediate);
      length = 0;
      deed = deed;
      request = None;
    }

-- the flush is a task that does this
abbrev begun_with : State → ℕ → Bool → Deed → State
begun_with s tag immediate deed =
    with_task (idle_state s) (flushes tag immediate) (Some (flush immediate)) 0 deed

abbrev begun : State → ℕ → Bool → State
begun s tag immediate = begun_with s tag immediate (waits (idle_state s) immediate)

not_refused : (s : State) (tag : ℕ) (immediate : Bool) →
    not (mended (idle_state s) || locked (idle_state s)) ≡ false →
    has_pending (idle_state s).translation ≡ false → refusal (idle_state s) (flushes tag immediate) ≡ None
not_refused s tag immediate e none = in_row immediate
    (skips (not (mended (idle_state s) || locked (idle_state s))) not_ready _ e
    (skips (locked (idle_state s) && has_pending (idle_state s).translation) write_protected _
    (and_right (locked (idle_state s)) (has_pending (idle_state s).translation) none)
    (skips (nat_lt (free_slots (idle_state s).translation) 0) Busy _ (needs_none (idle_state s)) refl)))
  where
    -- no bit of a flush goes beyond profile 0
    in_row : (now : Bool) → first_line (lines_for (idle_state s) (flushes tag now) (flush now)) ≡ None →
        refusal (idle_state s) (flushes tag now) ≡ None
    in_row true lines = lines
    in_row false lines = lines

is_begun : (s : State) (tag : ℕ) (immediate : Bool) →
    refusal (idle_state s) (flushes tag immediate) ≡ None →
    observe (idle_state s) (Host (heard_as (flushes tag immediate))) heard ≡ lock_applied (fills (begun s tag immediate))
is_begun s tag immediate e =
    ap (λ (o : Option Status). lock_applied (fills (refused_or_begun (idle_state s) (flushes tag immediate) o))) e

-- with IMMED, or before the device is mended, it says GOOD at once, whatever the lock
says_now : (s : State) (tag : ℕ) (immediate : Bool) →
    Gets (lock_applied (fills (begun_with s tag immediate (Answering Good 0)))) Reply
    (OfReply (Some (response 0 tag 4096 0 Good)))
says_now s tag immediate =
    let t = with_task (idle_state s) (flushes tag immediate) (Some (flush immediate)) 0 (Answering Good 0) in
    let task = flush_task tag immediate (Answering Good 0) in
    reply_gets (lock_applied t) task (response 0 tag 4096 0 Good) (one_task t task refl refl (locked t))
    (no_shorts t refl (locked t)) refl

-- and else if all is durable
says_later : (s : State) (tag : ℕ) (immediate : Bool) → length s.accepted ≤ durable s →
    Gets (lock_applied (fills (begun_with s tag immediate (Awaiting (length s.accepted))))) Reply
    (OfReply (Some (response 0 tag 4096 0 Good)))
says_later s tag immediate all =
    let n = length s.accepted in
    let t = with_task (idle_state s) (flushes tag immediate) (Some (flush immediate)) 0 (Awaiting n) in
    let task = flush_task tag immediate (Awaiting n) in
    reply_gets (lock_applied t) task (response 0 tag 4096 0 Good)
    (one_task t task refl (stays t task n (due s)) (locked t)) (no_shorts t refl (locked t))
    (told t task n (due s) (locked t))
  where
    due : (u : State) → nat_le (length s.accepted) (durable s) ≡ true
    due u = le-leb (length s.accepted) (durable s) all

    stays : (t : State) (task : Task) (n : ℕ) → nat_le n (durable t) ≡ true →
        task_locked t (record task { deed = Awaiting n }) ≡ record task { deed = Awaiting n }
    stays t task n e =
        ap (λ (d : Deed). record task { deed = d })
        (cond-true (nat_le n (durable t)) (Awaiting n) (Answering write_error task.length) e)

    told : (t : State) (task : Task) (n : ℕ) → nat_le n (durable t) ≡ true → (b : Bool) →
        deed_reply (under t b) task (Awaiting n) ≡ Some (response task.lun task.tag task.expected task.length Good)
    told t task n e true = cond-true (nat_le n (durable t)) _ None e
    told t task n e false = cond-true (nat_le n (durable t)) _ None e

says_good : (s : State) (tag : ℕ) (immediate : Bool) → length s.accepted ≤ durable s →
    Gets (lock_applied (fills (begun s tag immediate))) Reply (OfReply (Some (response 0 tag 4096 0 Good)))
says_good s tag immediate all = by (immediate || not (mended s))
  where
    by : (b : Bool) →
        Gets
        (lock_applied
        (fills (begun_with s tag immediate (if b then Answering Good 0 else Awaiting (length s.accepted))))) Reply
        (OfReply (Some (response 0 tag 4096 0 Good)))
    by true = says_now s tag immediate
    by false = says_later s tag immediate all

idle_answered : (s : State) (tag : ℕ) (immediate : Bool) →
    not (mended (idle_state s) || locked (idle_state s)) ≡ false →
    has_pending (idle_state s).translation ≡ false → length s.accepted ≤ durable s →
    IsAnswered (idle_state s) (heard_as (flushes tag immediate)) (response 0 tag 4096 0 Good)
idle_answered s tag immediate e none all = record {
  taken =
      host_gets (idle_state s)
      (message.Command 0x00 0 tag 4096 (flushes tag immediate).bytes) (Some (flush immediate)) (Ok tt) refl;
  reply =
      subst (λ (t : State). Gets t Reply (OfReply (Some (response 0 tag 4096 0 Good))))
      (sym (is_begun s tag immediate (not_refused s tag immediate e none))) (says_good s tag immediate all);
}

goes_on : (s : State) (tag : ℕ) (immediate : Bool) → IsIdle s →
    not (mended (idle_state s) || locked (idle_state s)) ≡ false →
    has_pending s.translation ≡ false → length s.accepted ≤ durable s →
    IsAnswered s (heard_as (flushes tag immediate)) (response 0 tag 4096 0 Good)
goes_on s tag immediate h e none all =
    subst (λ (t : State). IsAnswered t (heard_as (flushes tag immediate)) (response 0 tag 4096 0 Good))
    (sym (idle_is s h))
    (idle_answered s tag immediate e
    (subst (λ (t : State). has_pending t.translation ≡ false) (idle_is s h) none) all)

pub answered : (s : State) (tag : ℕ) (immediate : Bool) → IsIdle s → mended s ≡ true →
    has_pending s.translation ≡ false → length s.accepted ≤ durable s →
    IsAnswered s (heard_as (flushes tag immediate)) (response 0 tag 4096 0 Good)
answered s tag immediate h e = goes_on s tag immediate h (once_mended _ _ e)

-- so it is before the device is mended, if it is locked
pub locked_answered : (s : State) (tag : ℕ) (immediate : Bool) → IsIdle s → mended s ≡ false → locked s ≡ true →
    has_pending s.translation ≡ false → length s.accepted ≤ durable s →
    IsAnswered s (heard_as (flushes tag immediate)) (response 0 tag 4096 0 Good)
locked_answered s tag immediate h e k = goes_on s tag immediate h (once_locked _ _ (locked_idle s true h k))
