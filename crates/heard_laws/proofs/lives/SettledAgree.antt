-- What each call does at last leaves the agreement: registers are filled, and a lock ends what waits. So does the read
-- of a block.
use Rattle.ufs_spec.specs.Exchanges.{Comparing}
use Rattle.heard_laws.proofs.Common.{Answering, AreRegionsOf, Awaited, Awaiting, Blocks, Bool, Deed, Frames, Gathering}
use Rattle.heard_laws.proofs.Common.{List, None, Numbers, OpenTask, Option, Plain, ReadingArea, Sending, SendingBytes}
use Rattle.heard_laws.proofs.Common.{Some, State, Task, UnmapList, Verdict, after, ap, false, false≢true, find, has_tag}
use Rattle.heard_laws.proofs.Common.{if_both, if_cases, if◌then◌else◌, is_short_of, is_task_of, locked, map, mended}
use Rattle.heard_laws.proofs.Common.{numbers_of, option_map, refl, same_task, subst, sym, task_of, true, true≢false, ℕ}
use Rattle.heard_laws.proofs.Common.{◌==◌, ◌∙◌, ◌≡◌, ◌≤◌}
use Rattle.std.proofs.Common.{nat_le, ◌||◌}
use Rattle.ufs_spec.specs.Exchanges.{Short}
use Rattle.ufs_spec.specs.Machine.{deed_locked, deed_read, durable, fills, is_durable, is_to_fill, lock_applied}
use Rattle.ufs_spec.specs.Machine.{short_locked, task_filled, task_locked, task_read}
use Rattle.ufs_spec.specs.declared.exchanges.ReadState.{ReadState}
use Rattle.ufs_laws.proofs.walk.SmallChanges.{SameTask, fills_task, lock_short, reads}
use Rattle.journal.specs.Heard.{Heard}
use Rattle.journal.specs.declared.tasks.Awaited.TheVariants.{Nothing}
use Rattle.heard_laws.specs.Listening.{with_lock}
use Rattle.heard_laws.proofs.agreement.Agreement.{Agree, AgreeIn, AgreesAt, DeedAgrees, Ends, Fails, OpenAgrees, Pairs}
use Rattle.heard_laws.proofs.agreement.Agreement.{Settles, ShortAgrees, Succeeds, TaskAgrees}
use Rattle.heard_laws.proofs.agreement.PairsKept.{agrees_same, short_up, task_ready}
use Rattle.heard_laws.proofs.open_under_tags.TaggedFinds.{find_map}
use Rattle.heard_laws.proofs.open_under_tags.TaskFinds.{mapped}
use Rattle.heard_laws.proofs.rolls.BooksKept.{held_more}
use Rattle.heard_laws.proofs.rolls.Rolls.{Roll}

-- ## Tasks that change

-- a task that is the same one, and does what agrees
task_still : (n : Numbers) (ready : Bool) (roll : Roll) (task other : Task) (x : Option OpenTask) → SameTask task
    other →
    (DeedAgrees n ready roll task.lun task.deed x → DeedAgrees n ready roll task.lun other.deed x) →
    TaskAgrees n ready roll task x → TaskAgrees n ready roll other x
task_still n ready roll task other x same does h = record {
  named = λ t e.
      let named = h.named t e in
      record {
        lun_is = named.lun_is ∙ sym same.lun;
        tag_is = named.tag_is ∙ sym same.tag;
        is_task = named.is_task;
        inside = named.inside;
      };
  deed = subst (λ (lun : ℕ). DeedAgrees n ready roll lun other.deed x) (sym same.lun) (does h.deed);
}

pub tasks_still : {n : Numbers} {is_locked ready : Bool} {roll : Roll} {tasks : List Task} {shorts : List Short}
    {opens : List OpenTask} (f : Task → Task) → ((task : Task) → SameTask task (f task)) →
    ((task : Task) (x : Option OpenTask) → DeedAgrees n ready roll task.lun task.deed x →
    DeedAgrees n ready roll task.lun (f task).deed x) →
    Pairs n is_locked ready roll tasks shorts opens → Pairs n is_locked ready roll (map f tasks) shorts opens
tasks_still {n} {is_locked} {ready} {roll} {tasks} {shorts} {opens} f same does p =
    record { differ = p.differ; at = λ tag. at tag }
  where
    by : (o : Option Task) (b : Option Short) (x : Option OpenTask) → AgreesAt n is_locked ready roll o b x →
        AgreesAt n is_locked ready roll (option_map f o) b x
    by (Some task) b x h = task_still n ready roll task (f task) x (same task) (does task x) h
    by None b x h = h

    at : (tag : ℕ) → AgreesAt n is_locked ready roll (task_of tag (map f tasks)) (find (is_short_of tag) shorts)
        (find (has_tag tag) opens)
    at tag =
        agrees_same n is_locked ready roll (mapped tag f (λ t. (same t).tag) tasks) refl refl
        (by (task_of tag tasks) (find (is_short_of tag) shorts) (find (has_tag tag) opens) (p.at tag))

-- a request fills its register
filled_does : (s : State) (n : Numbers) (ready : Bool) (roll : Roll) (task : Task) (x : Option OpenTask) →
    DeedAgrees n ready roll task.lun task.deed x → DeedAgrees n ready roll task.lun (task_filled s task).deed x
filled_does s n ready roll task x h =
    if_both (λ (t : Task). DeedAgrees n ready roll task.lun t.deed x) (is_to_fill s task) h h

-- a lock ends what waits, and does not answer GOOD
locked_does : (s : State) (n : Numbers) (ready : Bool) (roll : Roll) (task : Task) (lun : ℕ) (deed : Deed)
    (x : Option OpenTask) → DeedAgrees n ready roll lun deed x → DeedAgrees n ready roll lun (deed_locked s task deed) x
locked_does s n ready roll task lun (Awaiting commands) x h =
    if_both (λ (d : Deed). DeedAgrees n ready roll lun d x) (nat_le commands (durable s)) h
    (λ good. absurd (false≢true good))
locked_does s n ready roll task lun (Gathering purpose gathered asked) x h = h
locked_does s n ready roll task lun (Sending blocks sent) x h = h
locked_does s n ready roll task lun (SendingBytes bytes) x h = h
locked_does s n ready roll task lun (ReadingArea pages) x h = h
locked_does s n ready roll task lun (Comparing blocks compared asked) x h = h
locked_does s n ready roll task lun (Answering status carried) x h = h

-- a block was read
deed_reads : (n : Numbers) (ready : Bool) (roll : Roll) (lun index : ℕ) (state : ReadState) (deed : Deed)
    (x : Option OpenTask) → DeedAgrees n ready roll lun deed x → DeedAgrees n ready roll lun
    (deed_read index state deed) x
deed_reads n ready roll lun index state (Awaiting commands) x h = h
deed_reads n ready roll lun index state (Gathering purpose gathered asked) x h = h
deed_reads n ready roll lun index state (Sending blocks sent) x h = h
deed_reads n ready roll lun index state (SendingBytes bytes) x h = h
deed_reads n ready roll lun index state (ReadingArea pages) x h = h
deed_reads n ready roll lun index state (Comparing blocks compared asked) x h = h
deed_reads n ready roll lun index state (Answering status carried) x h = h

pub block_read : (s u : State) (held : ℕ) (j : Heard) (tag index : ℕ) (state : ReadState) → AgreeIn s held u j →
    AgreeIn s held (record u { tasks = map (task_read tag index state) u.tasks }) j
block_read s u held j tag index state a = record {
  numbers = a.numbers;
  lock = a.lock;
  roll = a.roll;
  books = a.books;
  pairs = tasks_still (task_read tag index state) (reads tag index state) (λ task x h.
      if_both (λ (t : Task). DeedAgrees (numbers_of s) (locked s || mended s) a.roll task.lun t.deed x)
      (is_task_of tag task)
      (deed_reads (numbers_of s) (locked s || mended s) a.roll task.lun index state task.deed x h) h) a.pairs;
  regions = a.regions;
  unmended = a.unmended;
}

-- ## Short exchanges that a lock ends

abbrev ended : Short → Short
ended short = record short { awaits = None; reply = short.locked_reply }

-- one that waits
not_waiting : (s : State) (short : Short) {A : Type 0} → is_durable s short.awaits ≡ false → short.awaits ≡ None → A
not_waiting s short off none = absurd (true≢false (sym (ap (is_durable s) none) ∙ off))

settles_ended : (s : State) (was : Bool) (roll : Roll) (place : ℕ) (short : Short) →
    is_durable s short.awaits ≡ false → Settles was roll place short → Settles true roll place (ended short)
settles_ended s was roll place short off (Succeeds c n at awaits few reply ends) = Ends c at refl ends refl
settles_ended s was roll place short off (Fails at awaits reply) = not_waiting s short off awaits
settles_ended s was roll place short off (Ends c at awaits reply is_locked) = not_waiting s short off awaits

open_ended : (s : State) (was : Bool) (roll : Roll) (short : Short) (awaited : Awaited) →
    is_durable s short.awaits ≡ false → OpenAgrees was roll short awaited → OpenAgrees true roll (ended short) awaited
open_ended s was roll short (Verdict place) off h = settles_ended s was roll place short off h
open_ended s was roll short (Blocks w) off h = not_waiting s short off h.1
open_ended s was roll short Nothing off h = not_waiting s short off h.1
open_ended s was roll short UnmapList off h = not_waiting s short off h.1
open_ended s was roll short (Frames number) off h = not_waiting s short off h.1

short_ended : (s : State) (was : Bool) (roll : Roll) (short : Short) (x : Option OpenTask) →
    ShortAgrees was roll short x → ShortAgrees true roll (short_locked s short) x
short_ended s was roll short x h =
    if_cases (λ (y : Short). ShortAgrees true roll y x) (is_durable s short.awaits)
    (λ on. short_up was true roll short x (λ k. refl) h)
    (λ off t e. let both = h t e in (both.0, open_ended s was roll short t.awaited off both.1))

-- ## A lock

module _ (s : State) (n : Numbers) (was is_locked was_ready ready : Bool) (roll : Roll) (tasks : List Task)
    (shorts : List Short) (opens : List OpenTask) (p : Pairs n was was_ready roll tasks shorts opens)
    (up : was ≡ true → is_locked ≡ true) (up_ready : was_ready ≡ true → ready ≡ true) where
  weaker : (o : Option Task) (b : Option Short) (x : Option OpenTask) → AgreesAt n was was_ready roll o b x →
      AgreesAt n is_locked ready roll o b x
  weaker (Some task) b x h = task_ready n was_ready ready roll task x up_ready h
  weaker None (Some short) x h = short_up was is_locked roll short x up h
  weaker None None x h = h

  -- the device was locked before, or is not
  pub not_ended : Pairs n is_locked ready roll tasks shorts opens
  not_ended = record {
    differ = p.differ;
    at = λ tag. weaker (task_of tag tasks) (find (is_short_of tag) shorts) (find (has_tag tag) opens) (p.at tag);
  }

  by_lock : is_locked ≡ true → (o : Option Task) (b : Option Short) (x : Option OpenTask) →
      AgreesAt n was was_ready roll o b x →
      AgreesAt n is_locked ready roll (option_map (task_locked s) o) (option_map (short_locked s) b) x
  by_lock on (Some task) b x h =
      task_still n ready roll task (task_locked s task) x (same_task task _ _)
      (locked_does s n ready roll task task.lun task.deed x) (task_ready n was_ready ready roll task x up_ready h)
  by_lock on None (Some short) x h =
      subst (λ (k : Bool). ShortAgrees k roll (short_locked s short) x) (sym on) (short_ended s was roll short x h)
  by_lock on None None x h = h

  pub all_ended : is_locked ≡ true →
      Pairs n is_locked ready roll (map (task_locked s) tasks) (map (short_locked s) shorts) opens
  all_ended on = record {
    differ = p.differ;
    at = λ tag.
        agrees_same n is_locked ready roll (mapped tag (task_locked s) (λ t. refl) tasks)
        (find_map (is_short_of tag) (short_locked s) (λ x. ap (λ (k : ℕ). k == tag) (lock_short s x)) shorts) refl
        (by_lock on (task_of tag tasks) (find (is_short_of tag) shorts) (find (has_tag tag) opens) (p.at tag));
  }

-- ## The end of a call

-- what a call keeps of the device
pub record Keeps (s t : State) : Type 0 where
  pub numbers : numbers_of t ≡ numbers_of s
  pub base : t.base ≡ s.base
  pub lock : locked s ≡ true → locked t ≡ true
  pub mend : mended s ≡ true → mended t ≡ true

either_up : (a b c d : Bool) → (a ≡ true → c ≡ true) → (b ≡ true → d ≡ true) → (a || b) ≡ true → (c || d) ≡ true
either_up true b c d f g h = ap (λ (x : Bool). x || d) (f refl)
either_up false true true d f g h = refl
either_up false true false d f g h = g refl
either_up false false c d f g h = absurd (false≢true h)

-- a state with this lock and this mending
pub settled_agrees : (s u : State) (held more : ℕ) (j : Heard) (t : State) → t ≡ lock_applied (fills u) → Keeps s t →
    held ≤ more → AgreeIn s held u j → AgreeIn t more t (with_lock j (locked t))
settled_agrees s u held more j t is keeps l a =
    subst (λ (x : State). Agree (numbers_of t) (locked t) (mended t) t.base x.accepted more x.tasks x.shorts
    (with_lock j (locked t))) (sym is) (by (locked (fills u)) refl)
  where
    -- the lock is that of the state that is settled
    same_lock : locked t ≡ locked (fills u)
    same_lock =
        ap locked is ∙ if_both (λ (x : State). locked x ≡ locked (fills u)) (locked (fills u)) refl refl

    filled : Pairs (numbers_of s) (locked s) (locked s || mended s) a.roll (fills u).tasks u.shorts j.tasks
    filled = tasks_still (task_filled u) (fills_task u)
        (λ task x h. filled_does u (numbers_of s) (locked s || mended s) a.roll task x h) a.pairs

    of_numbers : {is_locked ready : Bool} {tasks : List Task} {shorts : List Short} →
        Pairs (numbers_of s) is_locked ready a.roll tasks shorts j.tasks →
        Pairs (numbers_of t) is_locked ready a.roll tasks shorts j.tasks
    of_numbers {is_locked} {ready} {tasks} {shorts} h =
        subst (λ (n : Numbers). Pairs n is_locked ready a.roll tasks shorts j.tasks) (sym keeps.numbers) h

    whole : {tasks : List Task} {shorts : List Short} →
        Pairs (numbers_of s) (locked t) (locked t || mended t) a.roll tasks shorts j.tasks →
        Agree (numbers_of t) (locked t) (mended t) t.base u.accepted more tasks shorts (with_lock j (locked t))
    whole h = record {
      numbers = a.numbers ∙ sym keeps.numbers;
      lock = refl;
      roll = a.roll;
      books = held_more l a.books;
      pairs = of_numbers h;
      regions = subst (λ (p : Plain). AreRegionsOf j.regions (after p u.accepted)) (sym keeps.base) a.regions;
      unmended = λ off. a.unmended (not_before off);
    }
      where
        not_before : mended t ≡ false → mended s ≡ false
        not_before off = by (mended s) refl
          where
            by : (b : Bool) → mended s ≡ b → b ≡ false
            by true e = absurd (true≢false (sym (keeps.mend e) ∙ off))
            by false e = refl

    ready : (locked s || mended s) ≡ true → (locked t || mended t) ≡ true
    ready = either_up (locked s) (mended s) (locked t) (mended t) keeps.lock keeps.mend

    by : (b : Bool) → locked (fills u) ≡ b →
        Agree (numbers_of t) (locked t) (mended t) t.base
        (if b then record (fills u) {
          tasks = map (task_locked (fills u)) (fills u).tasks;
          shorts = map (short_locked (fills u)) (fills u).shorts;
        } else fills u).accepted more
        (if b then record (fills u) {
          tasks = map (task_locked (fills u)) (fills u).tasks;
          shorts = map (short_locked (fills u)) (fills u).shorts;
        } else fills u).tasks
        (if b then record (fills u) {
          tasks = map (task_locked (fills u)) (fills u).tasks;
          shorts = map (short_locked (fills u)) (fills u).shorts;
        } else fills u).shorts (with_lock j (locked t))
    by true e =
        whole (all_ended (fills u) (numbers_of s) (locked s) (locked t) (locked s || mended s) (locked t || mended t)
        a.roll (fills u).tasks u.shorts j.tasks filled keeps.lock ready (same_lock ∙ e))
    by false e =
        whole (not_ended (fills u) (numbers_of s) (locked s) (locked t) (locked s || mended s) (locked t || mended t)
        a.roll (fills u).tasks u.shorts j.tasks filled keeps.lock ready)
