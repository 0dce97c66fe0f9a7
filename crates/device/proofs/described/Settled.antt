-- Requests whose GOOD is due have filled their registers: a call behind which none becomes due fills none.
use Rattle.device.proofs.Common.{All, All-cons, All-head, All-nil, All-tail, Answering, Awaiting, Bool, Deed, DeedFits}
use Rattle.device.proofs.Common.{DeedsFit, Gathering, HaveAnswered, List, None, Numbers, Option, ReadBlock, ReadingArea}
use Rattle.device.proofs.Common.{Registers, Sending, SendingBytes, Some, State, Translation, [], ap, below, claim_of}
use Rattle.device.proofs.Common.{cond, durable, false, false≢true, filled, fills, filter, find, fold, if◌then◌else◌}
use Rattle.device.proofs.Common.{is_area_read, is_good_due, is_pin_of, is_read, is_task_of, is_to_fill, is_unfilled}
use Rattle.device.proofs.Common.{length, map, nat_le, none-some, not, refl, same_Some, short_locked, slice_get, sym}
use Rattle.device.proofs.Common.{task_filled, task_of, true, with_deed, with_moves, ℕ, ◌&&◌, ◌==◌, ◌∙◌, ◌∷◌, ◌≡◌}
use Rattle.std.specs.Prelude.{suc, zero}
use Rattle.std.specs.List.{list_all}
use Rattle.ufs_spec.specs.Exchanges as exchange
use Rattle.ufs_spec.specs.Exchanges.{Comparing}
use Rattle.ufs_spec.specs.FrameRequests.{filled_registers}
use Rattle.ufs_spec.specs.Machine.{deed_locked, fill_moves, task_locked}
use Rattle.ufs_spec.specs.Replies.{is_at_hand, is_page_read}

-- none of these tasks has a request to fill its register in this state
abbrev pub AreAnswered : State → List exchange.Task → Type 0
AreAnswered s us = All (λ task. is_to_fill s task ≡ false) us

-- Nothing is filled

none_to_fill : (s : State) (us : List exchange.Task) → AreAnswered s us → filter (is_to_fill s) us ≡ []
none_to_fill s [] h = refl
none_to_fill s (y ∷ us) h =
    ap (λ (b : Bool). cond b (y ∷ filter (is_to_fill s) us) (filter (is_to_fill s) us))
    (All-head (λ task. is_to_fill s task ≡ false) y us h)
    ∙ none_to_fill s us (All-tail (λ task. is_to_fill s task ≡ false) y us h)

same_tasks : (s : State) (us : List exchange.Task) → AreAnswered s us → map (task_filled s) us ≡ us
same_tasks s [] h = refl
same_tasks s (y ∷ us) h = λ i.
    cond (All-head (λ task. is_to_fill s task ≡ false) y us h i) (record y { request = filled y.request }) y
    ∷ same_tasks s us (All-tail (λ task. is_to_fill s task ≡ false) y us h) i

abbrev pub fills_by : State → List exchange.Task → List exchange.Task → State
fills_by s due tasks =
    record (with_moves s (fill_moves due)) {
      tasks = tasks;
      registers =
          fold (λ (registers : ℕ → Registers) (task : exchange.Task). filled_registers s task registers) s.registers
          due;
    }

pub fills_nothing : (s : State) → HaveAnswered s → fills s ≡ s
fills_nothing s h = λ i. fills_by s (none_to_fill s s.tasks h i) (same_tasks s s.tasks h i)

-- Once the lock is told

abbrev locked_state : State → State
locked_state s = record s { tasks = map (task_locked s) s.tasks; shorts = map (short_locked s) s.shorts }

same_due : (s : State) (task : exchange.Task) (deed : Deed) →
    is_good_due (locked_state s) (task_locked s task) (deed_locked s task deed) ≡ is_good_due s task deed
same_due s task (Awaiting commands) = by (nat_le commands (durable s)) refl
  where
    by : (b : Bool) → nat_le commands (durable s) ≡ b →
        is_good_due (locked_state s) (task_locked s task)
        (if b then Awaiting commands else Answering exchange.write_error task.length)
        ≡ nat_le commands (durable s)
    by true e = refl
    by false e = sym e
same_due s task deed = refl

pub told_answered : (s : State) (us : List exchange.Task) → AreAnswered s us →
    AreAnswered (locked_state s) (map (task_locked s) us)
told_answered s [] h = All-nil (λ task. is_to_fill (locked_state s) task ≡ false)
told_answered s (y ∷ us) h =
    All-cons (λ task. is_to_fill (locked_state s) task ≡ false) (task_locked s y) (map (task_locked s) us)
    (ap (λ (b : Bool). is_unfilled y.request && b) (same_due s y y.deed)
    ∙ All-head (λ task. is_to_fill s task ≡ false) y us h)
    (told_answered s us (All-tail (λ task. is_to_fill s task ≡ false) y us h))

-- Where other states count as many commands as durable

-- of what is kept for a tag the same is at hand
abbrev pub SameAtHand : Translation → Translation → ℕ → Type 0
SameAtHand t u tag =
    (index : ℕ) → is_at_hand u.work.rests (find (is_pin_of tag index) u.pins)
    ≡ is_at_hand t.work.rests (find (is_pin_of tag index) t.pins)

-- so it is for each of these tasks whose request is yet to fill its register: it may read pages of the RPMB area
abbrev pub ReadsStay : Translation → Translation → List exchange.Task → Type 0
ReadsStay t u us = (k : ℕ) (x : exchange.Task) → slice_get us k ≡ Some x → is_unfilled x.request ≡ true →
    SameAtHand t u x.tag

-- where the same is kept, and the same pages wait for their rests
pub kept_stays : (t u : Translation) (us : List exchange.Task) → u.pins ≡ t.pins → u.work.rests ≡ t.work.rests →
    ReadsStay t u us
kept_stays t u us pins rests k x at asks index = λ i. is_at_hand (rests i) (find (is_pin_of x.tag index) (pins i))

-- where what is kept changes for one tag, whose task has no request to answer
pub others_stay : (t u : Translation) (one : ℕ) (us : List exchange.Task) →
    ((k : ℕ) (x : exchange.Task) → slice_get us k ≡ Some x → is_task_of one x ≡ true →
    is_unfilled x.request ≡ false) →
    ((tag : ℕ) → (tag == one) ≡ false → SameAtHand t u tag) → ReadsStay t u us
others_stay t u one us none same k x at asks = by (is_task_of one x) refl
  where
    by : (b : Bool) → is_task_of one x ≡ b → SameAtHand t u x.tag
    by true e = absurd (false≢true (sym (none k x at e) ∙ asks))
    by false e = same x.tag e

-- no task of a tag that is not found has a request
none_asks : (one : ℕ) (us : List exchange.Task) → task_of one us ≡ None → (k : ℕ) (x : exchange.Task) →
    slice_get us k ≡ Some x → is_task_of one x ≡ true → is_unfilled x.request ≡ false
none_asks one [] none k x at is = absurd (none-some x at)
none_asks one (y ∷ us) none zero x at is =
    absurd (none-some y (sym none ∙ ap (λ (b : Bool). cond b (Some y) (task_of one us))
    (ap (is_task_of one) (same_Some y x at) ∙ is)))
none_asks one (y ∷ us) none (suc k) x at is = by (is_task_of one y) none (λ e. none_asks one us e k x at is)
  where
    by : (b : Bool) → cond b (Some y) (task_of one us) ≡ None →
        (task_of one us ≡ None → is_unfilled x.request ≡ false) → is_unfilled x.request ≡ false
    by true e rest = absurd (none-some y (sym e))
    by false e rest = rest e

-- where it changes for a tag that none has
pub none_stay : (t u : Translation) (one : ℕ) (us : List exchange.Task) → task_of one us ≡ None →
    ((tag : ℕ) → (tag == one) ≡ false → SameAtHand t u tag) → ReadsStay t u us
none_stay t u one us free = others_stay t u one us (none_asks one us free)

page_same : (s u : State) (task : exchange.Task) → SameAtHand s.translation u.translation task.tag → (index : ℕ)
    (page : Option ReadBlock) → is_page_read u task index page ≡ is_page_read s task index page
page_same s u task stays index None = refl
page_same s u task stays index (Some page) = ap (is_read page.state) (stays index)

area_same : (s u : State) (task : exchange.Task) → SameAtHand s.translation u.translation task.tag →
    (pages : List ReadBlock) → is_area_read u task pages ≡ is_area_read s task pages
area_same s u task stays pages =
    λ i. list_all (λ index. page_same s u task stays index (slice_get pages index) i) (below (length pages))

good_same : (s u : State) (task : exchange.Task) (deed : Deed) → SameAtHand s.translation u.translation task.tag →
    durable u ≡ durable s → is_good_due u task deed ≡ is_good_due s task deed
good_same s u task (Awaiting commands) stays same = ap (nat_le commands) same
good_same s u task (ReadingArea pages) stays same = area_same s u task stays pages
good_same s u task deed stays same = refl

-- what a task without a request fills is nothing, in each state
pub same_asked : (asks b c : Bool) → (asks ≡ true → b ≡ c) → (asks && b) ≡ (asks && c)
same_asked true b c same = same refl
same_asked false b c same = refl

pub due_same : (s u : State) (task : exchange.Task) →
    (is_unfilled task.request ≡ true → SameAtHand s.translation u.translation task.tag) → durable u ≡ durable s →
    is_to_fill u task ≡ is_to_fill s task
due_same s u task stays same =
    same_asked (is_unfilled task.request) (is_good_due u task task.deed) (is_good_due s task task.deed)
    (λ asks. good_same s u task task.deed (stays asks) same)

-- the same tasks have still answered
pub still_answered : (s u : State) (us : List exchange.Task) → ReadsStay s.translation u.translation us →
    durable u ≡ durable s → AreAnswered s us → AreAnswered u us
still_answered s u [] stay same h = All-nil (λ task. is_to_fill u task ≡ false)
still_answered s u (y ∷ us) stay same h =
    All-cons (λ task. is_to_fill u task ≡ false) y us
    (due_same s u y (stay zero y refl) same ∙ All-head (λ task. is_to_fill s task ≡ false) y us h)
    (still_answered s u us (λ k. stay (suc k)) same (All-tail (λ task. is_to_fill s task ≡ false) y us h))

-- so have those that are left where the task of one tag goes
pub left_answered : (s u : State) (one : ℕ) (us : List exchange.Task) →
    ((tag : ℕ) → (tag == one) ≡ false → SameAtHand s.translation u.translation tag) → durable u ≡ durable s →
    AreAnswered s us → AreAnswered u (exchange.without_task one us)
left_answered s u one [] stay same h = All-nil (λ task. is_to_fill u task ≡ false)
left_answered s u one (y ∷ us) stay same h =
    by (is_task_of one y) refl
    (left_answered s u one us stay same (All-tail (λ task. is_to_fill s task ≡ false) y us h))
  where
    by : (b : Bool) → is_task_of one y ≡ b → AreAnswered u (exchange.without_task one us) →
        AreAnswered u (cond (not b) (y ∷ exchange.without_task one us) (exchange.without_task one us))
    by true e rest = rest
    by false e rest =
        All-cons (λ task. is_to_fill u task ≡ false) y (exchange.without_task one us)
        (due_same s u y (λ asks. stay y.tag e) same ∙ All-head (λ task. is_to_fill s task ≡ false) y us h) rest

-- before the device is mended nothing waits for commands, so that it does not matter how many are durable
good_unmended : (n : Numbers) (accepted claimed total : ℕ) (s u : State) (task : exchange.Task) (deed : Deed) →
    SameAtHand s.translation u.translation task.tag → DeedFits n accepted false claimed total deed →
    is_good_due u task deed ≡ is_good_due s task deed
good_unmended n accepted claimed total s u task (Awaiting commands) stays fits = absurd (false≢true fits.1)
good_unmended n accepted claimed total s u task (ReadingArea pages) stays fits = area_same s u task stays pages
good_unmended n accepted claimed total s u task (Gathering purpose gathered asked) stays fits = refl
good_unmended n accepted claimed total s u task (Sending blocks sent) stays fits = refl
good_unmended n accepted claimed total s u task (SendingBytes bytes) stays fits = refl
good_unmended n accepted claimed total s u task (Comparing blocks compared asked) stays fits = refl
good_unmended n accepted claimed total s u task (Answering status carried) stays fits = refl

pub unmended_answered : (n : Numbers) (accepted : ℕ) (s u : State) (us : List exchange.Task) →
    ReadsStay s.translation u.translation us → DeedsFit n accepted false us → AreAnswered s us → AreAnswered u us
unmended_answered n accepted s u [] stay fits h = All-nil (λ task. is_to_fill u task ≡ false)
unmended_answered n accepted s u (y ∷ us) stay fits h =
    All-cons (λ task. is_to_fill u task ≡ false) y us
    (same_asked (is_unfilled y.request) (is_good_due u y y.deed) (is_good_due s y y.deed)
    (λ asks. good_unmended n accepted (claim_of n y) y.length s u y y.deed (stay zero y refl asks) fits.0)
    ∙ All-head (λ task. is_to_fill s task ≡ false) y us h)
    (unmended_answered n accepted s u us (λ k. stay (suc k)) fits.1
    (All-tail (λ task. is_to_fill s task ≡ false) y us h))

-- a task whose deed is set has answered still, if it has no request to answer
pub set_answered : (s : State) (tag : ℕ) (deed : Deed) (us : List exchange.Task) →
    ((k : ℕ) (x : exchange.Task) → slice_get us k ≡ Some x → is_task_of tag x ≡ true →
    is_unfilled x.request ≡ false) → AreAnswered s us → AreAnswered s (map (with_deed tag deed) us)
set_answered s tag deed [] none h = All-nil (λ task. is_to_fill s task ≡ false)
set_answered s tag deed (y ∷ us) none h =
    All-cons (λ task. is_to_fill s task ≡ false) (with_deed tag deed y) (map (with_deed tag deed) us)
    (by (is_task_of tag y) refl)
    (set_answered s tag deed us (λ k x at. none (suc k) x at) (All-tail (λ task. is_to_fill s task ≡ false) y us h))
  where
    by : (b : Bool) → is_task_of tag y ≡ b → is_to_fill s (cond b (record y { deed = deed }) y) ≡ false
    by true e = ap (λ (b : Bool). b && is_good_due s (record y { deed = deed }) deed) (none zero y refl e)
    by false e = All-head (λ task. is_to_fill s task ≡ false) y us h
