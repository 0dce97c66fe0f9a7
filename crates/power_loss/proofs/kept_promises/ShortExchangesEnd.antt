-- A short exchange that waits, from any moment to its reply: its reply comes only once what it waits for is held; at a
-- lock another one comes.
use Rattle.power_loss.proofs.Common.{◌≡◌, ◌⊎◌, ℕ, ◌≤◌, ◌==◌, Bool, true, false, cond, not, List, [], ◌∷◌, ◌++◌, Option}
use Rattle.power_loss.proofs.Common.{Some, None, inl, inr, map, refl, sym, ap, ◌∙◌, subst, ⊎_elim, arith, find}
use Rattle.power_loss.proofs.Common.{list_any, if_both, false≢true, none-some, same_Some, Array, Flight, Ending}
use Rattle.power_loss.proofs.MachineWords.{Short, Task, is_short_of, is_task_of, task_of, without_short, Leads, Life}
use Rattle.power_loss.proofs.MachineWords.{held, Answer, Call, Due, behind, ends_with, given, is_durable, lock_applied}
use Rattle.power_loss.proofs.MachineWords.{managed, observe, service, short_locked, tag_in, fills, begun, is_aborted}
use Rattle.power_loss.proofs.MachineWords.{without_tasks, State, locked, Request, Event, Output, Message, Cdb, AreApart}
use Rattle.power_loss.proofs.MachineWords.{IsTied, ValidState, IsReplied}
use Rattle.std.specs.Prelude.{is_some}
use Rattle.ufs_spec.proofs.Facts.{if_cases}
use Rattle.ufs_spec.specs.Management.{volatile_managed}
use Rattle.ufs_laws.proofs.walk.WaysOfCommands.{Beginning, Handing, WhyBegun, begins_by, begun_as}
use Rattle.ufs_laws.proofs.walk.WaysOfData.{Completion, Told, completed}
use Rattle.ufs_laws.proofs.walk.SmallChanges.{first_kept, lock_short}
use Rattle.ufs_laws.proofs.walk.Happenings.{Aborts, Begins, Completes, Happening, Replies, Resets, Sets, ShortOver}
use Rattle.ufs_laws.proofs.walk.Happenings.{Tells}
use Rattle.ufs_laws.proofs.walk.Happenings.{behind_by, ends_by, first, happened, job_over}
use Rattle.ufs_laws.proofs.lives.HeldAlongLives.{life_held, short_held}
use Rattle.ufs_laws.proofs.lives.LivesJoined.{join}
use Rattle.power_loss.specs.Promises.{LeadsTo, StaysOpen, WasLocked, short_of}
use Rattle.power_loss.proofs.lives.EachEventKeeps.{one_event}
use Rattle.power_loss.proofs.open_tasks.FoundInLists.{found_gone, found_left, found_map, found_more, none_found}
use Rattle.power_loss.proofs.open_tasks.FoundInLists.{some_map}
use Rattle.power_loss.proofs.books.SmallFacts.{eq_told}
use Rattle.power_loss.proofs.open_tasks.TaskLists.{found_short, found_task, no_task_found, short_fits_at}
use Rattle.ufs_laws.proofs.exchanges.AbortedTasks.{reply_tag}

-- a short exchange as a lock leaves it
abbrev ended : Short → Short
ended short = record short { awaits = None; reply = short.locked_reply }

-- it waits still, or a lock has ended it
abbrev Tracked : ℕ → Short → Type 0 → List Short → Type 0
Tracked tag short was_locked shorts =
    (find (is_short_of tag) shorts ≡ Some short) ⊎ ((find (is_short_of tag) shorts ≡ Some (ended short)) × was_locked)

-- what leaves it as it is
record Leaves (tag : ℕ) (shorts others : List Short) : Type 0 where
  same : (x : Short) → find (is_short_of tag) shorts ≡ Some x → find (is_short_of tag) others ≡ Some x

same_leaves : (tag : ℕ) {shorts others : List Short} → others ≡ shorts → Leaves tag shorts others
same_leaves tag e = record { same = λ x h. ap (find (is_short_of tag)) e ∙ h }

-- What happens in a call

pub managed_shorts : (s : State) (lun function meant : ℕ) → (managed s lun function meant).shorts ≡ s.shorts
managed_shorts s lun function meant =
    let t : State = record s { volatile = volatile_managed s lun function } in
    if_both (λ (u : State). u.shorts ≡ s.shorts) (service s lun function meant == 0x00)
    {x = without_tasks t (is_aborted lun function meant)} {y = t} refl refl

pub ends_shorts : (s : State) (die : ℕ) (flight : Option Flight) (ending : Ending) (left : Array) →
    (ends_with s die flight ending left).shorts ≡ s.shorts
ends_shorts s die flight ending left =
    ends_by (λ u. u.shorts ≡ s.shorts) s die flight ending left (λ tag index state. over flight) (over flight)
  where
    over : (o : Option Flight) → (job_over s die o ending left).shorts ≡ s.shorts
    over None = refl
    over (Some x) = refl

pub given_shorts : (s : State) (die : ℕ) (flight : Option Flight) → (given s die flight).shorts ≡ s.shorts
given_shorts s die None = refl
given_shorts s die (Some flight) = refl

-- a reply of another tag, and one of its own, behind which it is no longer open
closed : {A : Type 0} (tag : ℕ) (shorts : List Short) → find (is_short_of tag) shorts ≡ None →
    is_some (find (is_short_of tag) shorts) ≡ true → A
closed tag shorts none still = absurd (false≢true (sym (ap is_some none) ∙ still))

other_tag : (x : Short) (other tag : ℕ) → (other == tag) ≡ false → is_short_of tag x ≡ true →
    not (is_short_of other x) ≡ true
other_tag x other tag apart is = by (is_short_of other x) refl
  where
    by : (b : Bool) → is_short_of other x ≡ b → not b ≡ true
    by true e = absurd (false≢true (sym apart ∙ ap (λ (n : ℕ). n == tag) (sym (eq_told x.tag other e)) ∙ is))
    by false e = refl

gone_leaves : (tag other : ℕ) (shorts : List Short) →
    is_some (find (is_short_of tag) (without_short other shorts)) ≡ true →
    Leaves tag shorts (without_short other shorts)
gone_leaves tag other shorts still = by (other == tag) refl
  where
    by : (b : Bool) → (other == tag) ≡ b → Leaves tag shorts (without_short other shorts)
    by true e =
        closed tag (without_short other shorts) (ap (λ (n : ℕ). find (is_short_of tag) (without_short n shorts))
        (eq_told other tag e) ∙ found_gone (is_short_of tag) shorts) still
    by false e =
        record {
          same = λ x h. found_left (is_short_of tag) (λ y. not (is_short_of other y))
              (λ y is. other_tag y other tag e is) shorts x h;
        }

more_leaves : (tag : ℕ) (shorts : List Short) (short : Short) → Leaves tag shorts (shorts ++ short ∷ [])
more_leaves tag shorts short = record { same = λ x h. found_more (is_short_of tag) shorts (short ∷ []) h }

begun_shorts : (s : State) (r : Request) (unit : ℕ) (c : Cdb) → (begun s r unit c).shorts ≡ s.shorts
begun_shorts s r unit c = begins_by (λ t. t.shorts ≡ s.shorts) s r unit c one
  where
    one : (b : Beginning) → WhyBegun s r unit c b → (begun_as s r c b).shorts ≡ s.shorts
    one (Handing region n) why = refl
    one b why = refl

completed_shorts : (s : State) (task : Task) (k : Completion) → (completed s task k).shorts ≡ s.shorts
completed_shorts s task (Told status released) = refl
completed_shorts s task k = refl

-- a short exchange that is still open is left as it is
happens_leave : (tag : ℕ) (s : State) (h : Happening) → is_some (short_of tag (happened s h)) ≡ true →
    Leaves tag s.shorts (happened s h).shorts
happens_leave tag s (Replies short) still = more_leaves tag s.shorts short
happens_leave tag s (Aborts on is short) still = more_leaves tag s.shorts short
happens_leave tag s (Resets kind) still = absurd (false≢true still)
happens_leave tag s (ShortOver short) still = gone_leaves tag short.tag s.shorts still
happens_leave tag s (Begins r c) still = same_leaves tag (begun_shorts s r _ c)
happens_leave tag s (Tells on short) still = more_leaves tag s.shorts short
happens_leave tag s (Sets command short) still = more_leaves tag s.shorts short
happens_leave tag s (Completes task k) still = same_leaves tag (completed_shorts s task k)
happens_leave tag s h still = same_leaves tag refl

behind_leaves : (tag : ℕ) (s : State) (call : Call) (answer : Answer) →
    is_some (short_of tag (behind s call answer)) ≡ true → Leaves tag s.shorts (behind s call answer).shorts
behind_leaves tag s call answer =
    behind_by (λ u. is_some (short_of tag u) ≡ true → Leaves tag s.shorts u.shorts) s call answer
    (λ h why still. subst (λ (xs : List Short). Leaves tag xs (happened (first s call answer) h).shorts)
    (first_kept (λ s t. t.shorts ≡ s.shorts) (λ s. refl) (λ s move array. refl) s call answer)
    (happens_leave tag (first s call answer) h still))

-- The lock

-- it leaves a short exchange or ends it
lock_either : (s : State) {x : Short} → (short_locked s x ≡ x) ⊎ (short_locked s x ≡ ended x)
lock_either s {x} = if_both (λ (y : Short). (y ≡ x) ⊎ (y ≡ ended x)) (is_durable s x.awaits) (inl refl) (inr refl)

lock_found : (s : State) (tag : ℕ) {x : Short} → find (is_short_of tag) s.shorts ≡ Some x →
    find (is_short_of tag) (map (short_locked s) s.shorts) ≡ Some (short_locked s x)
lock_found s tag {x} h =
    found_map (is_short_of tag) (short_locked s) (λ y. ap (λ (n : ℕ). n == tag) (lock_short s y)) s.shorts x h

lock_tracks : {P : Type 0} (s : State) (tag : ℕ) (short : Short) → (locked s ≡ true → P) →
    Tracked tag short P s.shorts → Tracked tag short P (lock_applied s).shorts
lock_tracks {P} s tag short now h =
    if_cases (λ (u : State). Tracked tag short P u.shorts) (locked s) (λ e. maps (now e)) (λ e. h)
  where
    maps : P → Tracked tag short P (map (short_locked s) s.shorts)
    maps p = ⊎_elim
        (λ e. ⊎_elim (λ k. inl (lock_found s tag e ∙ ap Some k)) (λ k. inr (
          lock_found s tag e ∙ ap Some k,
          p,
        )) (lock_either s)) (λ e. inr (lock_found s tag e.0, e.1)) h

lock_same : (s : State) → locked (lock_applied s) ≡ locked s
lock_same s = if_both (λ (u : State). locked u ≡ locked s) (locked s) refl refl

unlocked_open : (tag : ℕ) (s : State) → is_some (short_of tag (lock_applied s)) ≡ true → is_some (short_of tag s) ≡ true
unlocked_open tag s =
    if_both (λ (u : State). is_some (short_of tag u) ≡ true → is_some (short_of tag s) ≡ true) (locked s)
    (λ k. sym (some_map (is_short_of tag) (short_locked s) (λ x. ap (λ (n : ℕ). n == tag) (lock_short s x)) s.shorts)
    ∙ k) (λ k. k)

leaves_tracked : {P Q : Type 0} (tag : ℕ) (short : Short) (shorts others : List Short) → (P → Q) →
    Leaves tag shorts others → Tracked tag short P shorts → Tracked tag short Q others
leaves_tracked {P} {Q} tag short shorts others on l h = ⊎_elim
    (λ (e : find (is_short_of tag) shorts ≡ Some short). inl (l.same short e))
    (λ (e : (find (is_short_of tag) shorts ≡ Some (ended short)) × P). inr (l.same (ended short) e.0, on e.1)) h

call_tracks : {P Q : Type 0} (tag : ℕ) (short : Short) (s : State) (call : Call) (answer : Answer) → (P → Q) →
    (locked (observe s call answer) ≡ true → Q) → is_some (short_of tag (observe s call answer)) ≡ true →
    Tracked tag short P s.shorts → Tracked tag short Q (observe s call answer).shorts
call_tracks tag short s call answer on now still h =
    let u = behind s call answer in
    lock_tracks (fills u) tag short (λ e. now (lock_same (fills u) ∙ e))
    (leaves_tracked tag short s.shorts u.shorts on (behind_leaves tag s call answer (unlocked_open tag
    (fills u) still)) h)

-- Lives

stays_open : (tag : ℕ) (s t : State) (es : List Event) (os : List Output) → StaysOpen tag s es os t →
    is_some (short_of tag s) ≡ true
stays_open tag s t [] [] h = h.0
stays_open tag s t (e ∷ es) (o ∷ os) h = h.0
stays_open tag s t [] (o ∷ os) h = absurd h
stays_open tag s t (e ∷ es) [] h = absurd h

-- one event more
leads_more : (s : State) {t u : State} {e : Event} {o : Output} → LeadsTo s t → Leads t e o u → LeadsTo s u
leads_more s {t} {u} {e} {o} h l = (h.0 ++ e ∷ [], h.1 ++ o ∷ [], join s h.0 (e ∷ []) h.1 (o ∷ []) t u h.2 (u, l, refl))

life_tracks : (tag : ℕ) (short : Short) (first s t : State) (es : List Event) (os : List Output) → ValidState s →
    LeadsTo first s → StaysOpen tag s es os t →
    Tracked tag short (WasLocked first s) s.shorts → ValidState t × Tracked tag short (WasLocked first t) t.shorts
life_tracks tag short first s t [] [] v before h k =
    (subst ValidState (sym h.1) v, subst (λ (x : State). Tracked tag short (WasLocked first x) x.shorts) (sym h.1) k)
life_tracks tag short first s t (e ∷ es) (o ∷ os) v before h k =
    let next = h.1.0 in
    let l = h.1.1 in
    let rest = h.1.2 in
    let still = subst (λ (x : State). is_some (short_of tag x) ≡ true) l.next (stays_open tag next t es os rest) in
    let reached = leads_more first before l in
    let on : WasLocked first s → WasLocked first next =
    λ w. record { state = w.state; is_locked = w.is_locked; before = w.before; after = leads_more w.state w.after l } in
    let now : locked (observe s l.call l.answer) ≡ true → WasLocked first next =
    λ is. record { state = next; is_locked = ap locked l.next ∙ is; before = reached; after = ([], [], refl) } in
    life_tracks tag short first next t es os (one_event s next e o v l) reached rest
    (subst (λ (x : State). Tracked tag short (WasLocked first next) x.shorts) (sym l.next)
    (call_tracks tag short s l.call l.answer on now still k))
life_tracks tag short first s t [] (o ∷ os) v before h k = absurd h
life_tracks tag short first s t (e ∷ es) [] v before h k = absurd h

-- Its reply

no_short : (tag : ℕ) (shorts : List Short) (tasks : List Task) (task : Task) → AreApart shorts tasks →
    task_of tag tasks ≡ Some task → find (is_short_of tag) shorts ≡ None
no_short tag shorts [] task apart h = absurd (none-some task h)
no_short tag shorts (x ∷ xs) task apart h = by (is_task_of tag x) refl h (no_short tag shorts xs task apart.1)
  where
    by : (b : Bool) → is_task_of tag x ≡ b → cond b (Some x) (task_of tag xs) ≡ Some task →
        (task_of tag xs ≡ Some task → find (is_short_of tag) shorts ≡ None) → find (is_short_of tag) shorts ≡ None
    by true e k rest = none_found (is_short_of tag) shorts
        (ap (λ (n : ℕ). list_any (is_short_of n) shorts) (sym (eq_told x.tag tag e)) ∙ apart.0)
    by false e k rest = rest k

-- who replies is the short exchange of the tag
record Replier (s : State) (m : Message) (x : Short) : Type 0 where
  none : task_of (tag_in m) s.tasks ≡ None
  there : find (is_short_of (tag_in m)) s.shorts ≡ Some x
  reply_is : m ≡ x.reply

replier : {s : State} {m : Message} {x : Short} → IsTied s → find (is_short_of (tag_in m)) s.shorts ≡ Some x →
    Due s m → Replier s m x
replier {s} {m} {x} v there (inl due) =
    let task : Task = due.1 in
    let found = found_task s.tasks due.0 task v.tasks.tasks_differ due.2 in
    let at : task_of (tag_in m) s.tasks ≡ Some task =
    ap (λ (n : ℕ). task_of n s.tasks) (reply_tag s task task.deed m due.3) ∙ found in
    absurd (none-some x (sym (no_short (tag_in m) s.shorts s.tasks task v.tasks.apart at) ∙ there))
replier {s} {m} {x} v there (inr due) =
    let short : Short = due.1 in
    let fits = short_fits_at s.shorts due.0 short v.tasks.waits due.2 in
    let tag : tag_in m ≡ short.tag = ap tag_in due.4 ∙ fits.reply in
    let found = found_short s.shorts due.0 short v.tasks.shorts_differ due.2 in
    let same : short ≡ x =
    same_Some short x (sym found ∙ (ap (λ (n : ℕ). find (is_short_of n) s.shorts) (sym tag) ∙ there)) in
    record {
      none = ap (λ (n : ℕ). task_of n s.tasks) tag ∙ no_task_found s.shorts s.tasks due.0 short v.tasks.apart due.2;
      there = there;
      reply_is = due.4 ∙ ap (λ (y : Short). y.reply) same;
    }

pub setting_held : (s t u v : State) (short : Short) (n : ℕ) (m : Message) (es fs : List Event) (os ps : List Output) →
    ValidState s → short_of short.tag s ≡ Some short →
    short.awaits ≡ Some n → StaysOpen short.tag s es os t → IsReplied t short.tag m u → Life u fs ps v →
    ((m ≡ short.reply) × (n ≤ held v)) ⊎ ((m ≡ short.locked_reply) × WasLocked s t)
setting_held s t u v short n m es fs os ps valid there waits stays replied life =
    let all = life_tracks short.tag short s s t es os valid ([], [], refl) stays (inl there) in
    let tied = all.0.tied in
    ⊎_elim
    (λ (e : find (is_short_of short.tag) t.shorts ≡ Some short).
    let r = replier tied (ap (λ (k : ℕ). find (is_short_of k) t.shorts) replied.tag_is ∙ e) replied.right in
    let first = short_held t m short n r.none r.there waits in
    let same = ap held replied.next in
    let on = life_held u v fs ps life in
    inl (r.reply_is, omega arith))
    (λ (e : (find (is_short_of short.tag) t.shorts ≡ Some (ended short)) × WasLocked s t).
    let r = replier tied (ap (λ (k : ℕ). find (is_short_of k) t.shorts) replied.tag_is ∙ e.0) replied.right in
    inr (r.reply_is, e.1)) all.1
