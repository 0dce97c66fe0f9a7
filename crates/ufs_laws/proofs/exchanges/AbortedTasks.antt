-- What is left of aborted tasks: nothing but what they had accepted.
use Rattle.ufs_laws.proofs.Common.{Comparing}
use Rattle.ufs_spec.specs.Replies.{compare_reply, is_ended, next_compare_reply, reads_reply}
use Rattle.ufs_laws.proofs.Common.{Allowed, Answer, Awaiting, Bool, Call, Deed, Every, Gathering, Good, IsSpoken, List}
use Rattle.ufs_laws.proofs.Common.{Message, None, Numbers, Option, Pin, ReadBlock, ReadState, ReadingArea, Sending}
use Rattle.ufs_laws.proofs.Common.{Some, State, Task, Translation, Unread, [], abort_moves, ap, arith, block_reply}
use Rattle.ufs_laws.proofs.Common.{claimed_by, cond, deed_reply, durable, false, filter, flat_map, is_at_hand, list_any}
use Rattle.ufs_laws.proofs.Common.{moved, next_block_reply, not, numbers_of, observe, or_parts, pin_of, refl, response}
use Rattle.ufs_laws.proofs.Common.{same_Some, slice_get, subst, suc, sym, tag_in, true, true≢false, unit_of_request}
use Rattle.ufs_laws.proofs.Common.{unit_or_first, without_tasks, zero, ℕ, ◌+◌, ◌-◌, ◌==◌, ◌∙◌, ◌∷◌, ◌≡◌, ◌≢◌}
use Rattle.std.proofs.Common.{fold}
use Rattle.std.specs.Prelude.{if◌then◌else◌, nat_le, sum_by}
use Rattle.std.proofs.lemmas.Bool.{or_from}
use Rattle.std.proofs.lemmas.List.Sums.{sum_by-cons}
use Rattle.ufs_laws.proofs.walk.TaskLaws.{IsTaskLaw, begun_task, tasks_kept}
use Rattle.ufs_laws.specs.Exchange.{Asks, HasOtherTag, NoTask, Pinned}
use Rattle.ufs_spec.specs.Replies.{is_area_read}
use Rattle.ufs_laws.proofs.exchanges.DeedLaws.{filled_keeps, read_keeps, set_keeps, set_request_keeps}

-- ## At once

none_left : (is : Task → Bool) (tasks : List Task) (k : ℕ) (task : Task) →
    slice_get (filter (λ t. not (is t)) tasks) k ≡ Some task → is task ≡ false
none_left is [] k task e = let none : None ≡ Some task = e in cc
none_left is (t ∷ ts) k task e = by (is t) refl e (λ j. none_left is ts j task)
  where
    by : (b : Bool) → is t ≡ b →
        slice_get (cond (not b) (t ∷ filter (λ t. not (is t)) ts) (filter (λ t. not (is t)) ts)) k ≡ Some task →
        ((j : ℕ) → slice_get (filter (λ t. not (is t)) ts) j ≡ Some task → is task ≡ false) → is task ≡ false
    by true here e rest = rest k e
    by false here e rest = at k e
      where
        at : (j : ℕ) → slice_get (t ∷ filter (λ t. not (is t)) ts) j ≡ Some task → is task ≡ false
        at zero g = subst (λ (x : Task). is x ≡ false) (same_Some t task g) here
        at (suc j) g = rest j g

pub gone : (s : State) (is : Task → Bool) (k : ℕ) (task : Task) → slice_get (without_tasks s is).tasks k ≡ Some task →
    is task ≡ false
gone s is k task e = none_left is s.tasks k task e

abbrev claim : Numbers → Task → ℕ
claim n task = claimed_by n task.deed task.command

pub released : (n : Numbers) (t : Translation) (tasks : List Task) →
    (fold moved t (flat_map (abort_moves n) tasks)).claims ≡ t.claims - sum_by (claim n) tasks
released n t [] = omega arith
released n t (task ∷ tasks) =
    let sum : sum_by (claim n) (task ∷ tasks) ≡ claim n task + sum_by (claim n) tasks = sum_by-cons (claim n) task
    tasks in
    let rest : (fold moved t (flat_map (abort_moves n) (task ∷ tasks))).claims ≡ t.claims - claim n task - sum_by
    (claim n) tasks = released n (fold moved t (abort_moves n task)) tasks in
    omega arith

pub claims : (s : State) (is : Task → Bool) →
    (without_tasks s is).translation.claims ≡ s.translation.claims - sum_by (claim (numbers_of s)) (filter is s.tasks)
claims s is = released (numbers_of s) s.translation (filter is s.tasks)

-- what is not there is not there when less is
fewer : (p q : Pin → Bool) (pins : List Pin) → list_any p pins ≡ false → list_any p (filter q pins) ≡ false
fewer p q [] none = refl
fewer p q (x ∷ xs) none = let both = or_parts (p x) (list_any p xs) none in by (q x) both.0 (fewer p q xs both.1)
  where
    by : (b : Bool) → p x ≡ false → list_any p (filter q xs) ≡ false →
        list_any p (cond b (x ∷ filter q xs) (filter q xs)) ≡ false
    by true first rest = or_from (p x) (list_any p (filter q xs)) first rest
    by false first rest = rest

without : (p : Pin → Bool) (pins : List Pin) → list_any p (filter (λ pin. not (p pin)) pins) ≡ false
without p [] = refl
without p (x ∷ xs) = by (p x) refl (without p xs)
  where
    by : (b : Bool) → p x ≡ b → list_any p (filter (λ pin. not (p pin)) xs) ≡ false →
        list_any p (cond (not b) (x ∷ filter (λ pin. not (p pin)) xs) (filter (λ pin. not (p pin)) xs)) ≡ false
    by true e rest = rest
    by false e rest = or_from (p x) (list_any p (filter (λ pin. not (p pin)) xs)) e rest

still_unpinned : (n : Numbers) (tag : ℕ) (t : Translation) (tasks : List Task) → Pinned tag t.pins ≡ false →
    Pinned tag (fold moved t (flat_map (abort_moves n) tasks)).pins ≡ false
still_unpinned n tag t [] none = none
still_unpinned n tag t (task ∷ tasks) none =
    still_unpinned n tag (fold moved t (abort_moves n task)) tasks
    (fewer (λ pin. pin.tag == tag) (λ pin. not (pin.tag == task.tag)) t.pins none)

pub unpinned : (n : Numbers) (t : Translation) (tasks : List Task) (k : ℕ) (task : Task) → slice_get tasks k ≡ Some task →
    Pinned task.tag (fold moved t (flat_map (abort_moves n) tasks)).pins ≡ false
unpinned n t [] k task e = let none : None ≡ Some task = e in cc
unpinned n t (x ∷ xs) zero task e =
    let same : x ≡ task = same_Some x task e in
    still_unpinned n task.tag (fold moved t (abort_moves n x)) xs
    (ap (λ (y : Task). Pinned y.tag (fold moved t (abort_moves n x)).pins) (sym same)
    ∙ without (λ pin. pin.tag == x.tag) t.pins)
unpinned n t (x ∷ xs) (suc k) task e = unpinned n (fold moved t (abort_moves n x)) xs k task e

pub pins : (s : State) (is : Task → Bool) (k : ℕ) (task : Task) → slice_get (filter is s.tasks) k ≡ Some task →
    Pinned task.tag (without_tasks s is).translation.pins ≡ false
pins s is k task e = unpinned (numbers_of s) s.translation (filter is s.tasks) k task e

-- ## Later

-- the tasks have other tags
module _ (tag : ℕ) where
  abbrev Other : Task → Type 0
  Other task = HasOtherTag tag task

  other_law : (s : State) → IsTaskLaw Other (λ task deed. Unit {0}) (λ r. r.tag ≢ tag) s
  other_law s = record {
    set = λ task deed found all may. set_keeps Other task.tag deed s.tasks (λ t is h. h) all;
    set_request = λ task request deed found all may.
        set_request_keeps Other task.tag request deed s.tasks (λ t is h. h) all;
    refused = λ r status is asks free e. asks;
    begins =
        λ r c is asks free e passed.
        (let b = begun_task s r (unit_or_first (unit_of_request s r)) c in (b.0, b.1, λ same. asks (sym b.2 ∙ same)));
    gathers = λ task purpose gathered bytes asked e h next more. tt;
    answers = λ task purpose gathered asked status e h is. tt;
    waits = λ task purpose gathered asked position e h. tt;
    reads_area = λ task purpose gathered asked pages e h. tt;
    same = λ task blocks compared asked e h. tt;
    differs = λ task blocks compared asked block e there h. tt;
    goes = λ task deed e h. tt;
    fills = λ u task h. filled_keeps Other u task h h;
    locks = λ u task h. h;
    reads = λ of index state task h. read_keeps Other of index state task h h;
  }

pub stays_gone : (s : State) (call : Call) (answer : Answer) (tag : ℕ) → IsSpoken call → Asks (λ r. r.tag ≢ tag) call →
    Allowed s call answer → NoTask tag s → NoTask tag (observe s call answer)
stays_gone s call answer tag is asks may all =
    tasks_kept (HasOtherTag tag) (λ task deed. Unit {0}) (λ r. r.tag ≢ tag) s (other_law tag s) all call answer is asks
    may

-- where each task of the tag is aborted none has it
filtered_tag : (tag : ℕ) (is : Task → Bool) → ((task : Task) → task.tag ≡ tag → is task ≡ true) → (tasks : List Task) →
    Every (HasOtherTag tag) (filter (λ t. not (is t)) tasks)
filtered_tag tag is all [] = tt
filtered_tag tag is all (t ∷ ts) = by (is t) refl (filtered_tag tag is all ts)
  where
    by : (b : Bool) → is t ≡ b → Every (HasOtherTag tag) (filter (λ t. not (is t)) ts) →
        Every (HasOtherTag tag) (cond (not b) (t ∷ filter (λ t. not (is t)) ts) (filter (λ t. not (is t)) ts))
    by true e rest = rest
    by false e rest = ((λ same. true≢false (sym (all t same) ∙ e)), rest)

pub no_tag : (s : State) (is : Task → Bool) (tag : ℕ) → ((task : Task) → task.tag ≡ tag → is task ≡ true) →
    NoTask tag (without_tasks s is)
no_tag s is tag all = filtered_tag tag is all s.tasks

pub every_at : (P : Task → Type 0) (tasks : List Task) (k : ℕ) (task : Task) → Every P tasks →
    slice_get tasks k ≡ Some task → P task
every_at P [] k task h e = let none : None ≡ Some task = e in cc
every_at P (t ∷ ts) zero task h e = subst P (same_Some t task e) h.0
every_at P (t ∷ ts) (suc k) task h e = every_at P ts k task h.1 e

pub no_reply : (s : State) (tag k : ℕ) (task : Task) → NoTask tag s → slice_get s.tasks k ≡ Some task → task.tag ≢ tag
no_reply s tag k task none e = every_at (HasOtherTag tag) s.tasks k task none e

-- each reply of a task has its tag
pub block_tag : (task : Task) (sent : ℕ) (body : List ℕ) (state : ReadState) (at_hand : Bool) (m : Message) →
    block_reply task sent body state at_hand ≡ Some m → tag_in m ≡ task.tag
block_tag task sent body Unread true m e = ap tag_in (sym (same_Some _ m e))
block_tag task sent body Unread false m e = let none : None ≡ Some m = e in cc
block_tag task sent body state at_hand m e = ap tag_in (sym (same_Some _ m e))

pub next_tag : (s : State) (task : Task) (sent : ℕ) (block : Option ReadBlock) (m : Message) →
    next_block_reply s task sent block ≡ Some m → tag_in m ≡ task.tag
next_tag s task sent None m e = let none : None ≡ Some m = e in cc
next_tag s task sent (Some block) m e =
    block_tag task sent block.body block.state (is_at_hand s.translation.work.rests (pin_of s task sent)) m e

compared_tag : (task : Task) (compared : ℕ) (state : ReadState) (at_hand : Bool) (m : Message) →
    compare_reply task compared state at_hand ≡ Some m → tag_in m ≡ task.tag
compared_tag task compared Unread true m e = ap tag_in (sym (same_Some _ m e))
compared_tag task compared Unread false m e = let none : None ≡ Some m = e in cc
compared_tag task compared state at_hand m e = ap tag_in (sym (same_Some _ m e))

next_compared_tag : (s : State) (task : Task) (compared : ℕ) (block : Option ReadBlock) (m : Message) →
    next_compare_reply s task compared block ≡ Some m → tag_in m ≡ task.tag
next_compared_tag s task compared None m e = let none : None ≡ Some m = e in cc
next_compared_tag s task compared (Some block) m e =
    compared_tag task compared block.state (is_at_hand s.translation.work.rests (pin_of s task compared)) m e

pub reply_tag : (s : State) (task : Task) (deed : Deed) (m : Message) → deed_reply s task deed ≡ Some m →
    tag_in m ≡ task.tag
reply_tag s task (Gathering purpose gathered true) m e = let none : None ≡ Some m = e in cc
reply_tag s task (Sending blocks sent) m e = next_tag s task sent (slice_get blocks sent) m e
reply_tag s task (Awaiting commands) m e = by (nat_le commands (durable s)) e
  where
    by : (b : Bool) → (if b then Some (response task.lun task.tag task.expected task.length Good) else None) ≡ Some m →
        tag_in m ≡ task.tag
    by true k = ap tag_in (sym (same_Some _ m k))
    by false k = let none : None ≡ Some m = k in cc
reply_tag s task (ReadingArea pages) m e = by (is_ended task.request pages) (is_area_read s task pages) e
  where
    by : (ended read : Bool) → reads_reply task ended read ≡ Some m → tag_in m ≡ task.tag
    by true read k = ap tag_in (sym (same_Some _ m k))
    by false true k = ap tag_in (sym (same_Some _ m k))
    by false false k = let none : None ≡ Some m = k in cc
reply_tag s task (Comparing blocks compared true) m e = let none : None ≡ Some m = e in cc
reply_tag s task (Comparing blocks compared false) m e =
    next_compared_tag s task compared (slice_get blocks compared) m e
reply_tag s task deed m e = ap tag_in (sym (same_Some _ m e))

pub task_reply_tag : (s : State) (task : Task) (m : Message) → deed_reply s task task.deed ≡ Some m →
    tag_in m ≡ task.tag
task_reply_tag s task m e = reply_tag s task task.deed m e
