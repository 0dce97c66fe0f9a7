-- Behind a TASK MANAGEMENT REQUEST the device and the journal agree.
use Rattle.ufs_spec.specs.Exchanges.{Comparing}
use Rattle.heard_laws.proofs.Common.{Answering, Awaiting, Bool, Deed, ForFrames, ForUnmap, ForWrite, Gathering, IsFree}
use Rattle.heard_laws.proofs.Common.{IsTied, List, Message, None, Numbers, OpenTask, Option, ReadingArea, Sending}
use Rattle.heard_laws.proofs.Common.{SendingBytes, Some, State, Task, and_parts, ap, cond-false, cond-true, eqb-true}
use Rattle.heard_laws.proofs.Common.{false, false≢true, filter, find, has_tag, if◌then◌else◌, inl, inr, is_none}
use Rattle.heard_laws.proofs.Common.{is_short_of, is_task_of, list_any, locked, lun_of, mended, none-some, none_found}
use Rattle.heard_laws.proofs.Common.{not, numbers_of, refl, same_Some, short_reply, subst, sym, task_of, true}
use Rattle.heard_laws.proofs.Common.{true≢false, with_short, ℕ, ⊎_elim, ◌&&◌, ◌==◌, ◌∙◌, ◌≡◌, ◌⊎◌}
use Rattle.std.proofs.Common.{◌||◌}
use Rattle.ufs_spec.specs.Exchanges.{Short}
use Rattle.ufs_spec.specs.Machine.{is_aborted, managed, service, without_tasks}
use Rattle.ufs_spec.specs.Management.{aborts, volatile_managed}
use Rattle.power_loss.proofs.host_commands.AbortedTasks.{managed_free}
use Rattle.power_loss.proofs.open_tasks.TaggedLists.{differ_filter, each_found}
use Rattle.power_loss.specs.Exchange.{AreApart, TasksDiffer}
use Rattle.journal.specs.Heard.{Heard, managed as journal_managed}
use Rattle.journal.specs.Tasks.{is_aborted as is_aborted_open, left_open}
use Rattle.heard_laws.proofs.agreement.Agreement.{AgreeIn, AgreesAt, AtMost, DeedAgrees, IsNamed, Pairs, ShortAgrees}
use Rattle.heard_laws.proofs.agreement.Agreement.{TaskAgrees, tag_of}
use Rattle.heard_laws.proofs.agreement.PairsKept.{agrees_same}
use Rattle.heard_laws.proofs.agreement.PairsOpened.{none_at, short_opens}
use Rattle.heard_laws.proofs.open_under_tags.TaggedFinds.{find_dropped, find_kept, find_none}
use Rattle.power_loss.proofs.open_tasks.FoundInLists.{found_is}
use Rattle.heard_laws.proofs.rolls.Rolls.{Roll}

-- no short exchange has the tag of a task
pub no_short : (shorts : List Short) (tasks : List Task) (tag : ℕ) (task : Task) → AreApart shorts tasks →
    task_of tag tasks ≡ Some task → find (is_short_of tag) shorts ≡ None
no_short shorts tasks tag task apart e =
    let own = eqb-true task.tag tag (found_is (is_task_of tag) tasks task e) in
    none_found (is_short_of tag) shorts
    (ap (λ (n : ℕ). list_any (is_short_of n) shorts) (sym own)
    ∙ each_found (λ (t : Task). list_any (is_short_of t.tag) shorts ≡ false) (is_task_of tag) tasks task apart e)

-- ## What is still open

at_most_none : (most : ℕ) (roll : Roll) → AtMost most roll None
at_most_none most roll t e = absurd (none-some t e)

-- nothing is open any more for a task whose LUN is not there
deed_closed : (n : Numbers) (ready : Bool) (roll : Roll) (lun : ℕ) (deed : Deed) (x : Option OpenTask) →
    (x ≡ None ⊎ (is_none (lun_of n lun) ≡ true)) → DeedAgrees n ready roll lun deed x →
    DeedAgrees n ready roll lun deed None
deed_closed n ready roll lun deed x (inl e) h = subst (DeedAgrees n ready roll lun deed) e h
deed_closed n ready roll lun (Gathering (ForWrite unit address blocks forced) gathered asked) x (inr e) h =
    absurd (true≢false (sym e ∙ h.waits.there))
deed_closed n ready roll lun (Gathering (ForUnmap unit) gathered asked) x (inr e) h =
    absurd (true≢false (sym e ∙ h.0.there))
deed_closed n ready roll lun (Gathering (ForFrames region) gathered asked) x (inr e) h =
    absurd (true≢false (sym e ∙ h.0.there))
deed_closed n ready roll lun (Awaiting commands) x (inr e) h = at_most_none commands roll
deed_closed n ready roll lun (Answering status carried) x (inr e) h = λ good. at_most_none 0 roll
deed_closed n ready roll lun (Sending blocks sent) x (inr e) h = at_most_none 0 roll
deed_closed n ready roll lun (SendingBytes bytes) x (inr e) h = at_most_none 0 roll
deed_closed n ready roll lun (ReadingArea pages) x (inr e) h = at_most_none 0 roll
deed_closed n ready roll lun (Comparing blocks compared asked) x (inr e) h = absurd (true≢false (sym e ∙ h.there))

-- a command of a task is aborted where the task would be
same_aborted : (function lun meant : ℕ) (task : Task) (roll : Roll) (t : OpenTask) →
    IsNamed task.lun task.tag roll t → is_aborted_open function lun meant t ≡ is_aborted lun function meant task
same_aborted function lun meant task roll t named =
    (λ i. aborts function && named.is_task i && (named.lun_is i == lun)
    && (not (function == 0x01) || (named.tag_is i == meant)))
    ∙ ap (λ (b : Bool). b && (task.lun == lun) && (not (function == 0x01) || (task.tag == meant)))
    (with_true (aborts function))
  where
    with_true : (b : Bool) → (b && true) ≡ b
    with_true true = refl
    with_true false = refl

module _ (n : Numbers) (is_locked ready : Bool) (roll : Roll) (function lun meant : ℕ) (tasks : List Task)
    (shorts : List Short) (opens : List OpenTask) (p : Pairs n is_locked ready roll tasks shorts opens)
    (differ : TasksDiffer tasks) (apart : AreApart shorts tasks) where
  abbrev left : List OpenTask
  left = left_open function lun meant opens

  -- what is found under a tag is still open, or nothing is
  either : (tag : ℕ) →
      (find (has_tag tag) left ≡ find (has_tag tag) opens) ⊎
      ((find (has_tag tag) left ≡ None)
      × ((t : OpenTask) → find (has_tag tag) opens ≡ Some t → is_aborted_open function lun meant t ≡ true))
  either tag = by (find (has_tag tag) opens) refl
    where
      keep : OpenTask → Bool
      keep t = not (is_aborted_open function lun meant t)

      by : (x : Option OpenTask) → find (has_tag tag) opens ≡ x →
          (find (has_tag tag) left ≡ x) ⊎
          ((find (has_tag tag) left ≡ None)
          × ((t : OpenTask) → x ≡ Some t → is_aborted_open function lun meant t ≡ true))
      by None e = inl (find_none (has_tag tag) keep opens e)
      by (Some t) e = at (is_aborted_open function lun meant t) refl
        where
          at : (b : Bool) → is_aborted_open function lun meant t ≡ b →
              (find (has_tag tag) left ≡ Some t) ⊎
              ((find (has_tag tag) left ≡ None)
              × ((u : OpenTask) → Some t ≡ Some u → is_aborted_open function lun meant u ≡ true))
          at true k = inr (
            find_dropped tag_of tag keep opens t p.differ e (ap not k),
            λ u f. subst (λ (v : OpenTask). is_aborted_open function lun meant v ≡ true) (same_Some t u f) k,
          )
          at false k = inl (find_kept (has_tag tag) keep opens t e (ap not k))

  -- a short exchange does not mind
  short_left : (tag : ℕ) (short : Short) → ShortAgrees is_locked roll short (find (has_tag tag) opens) →
      ShortAgrees is_locked roll short (find (has_tag tag) left)
  short_left tag short h =
      ⊎_elim (λ e. subst (ShortAgrees is_locked roll short) (sym e) h)
      (λ e. subst (ShortAgrees is_locked roll short) (sym e.0) (λ t k. absurd (none-some t k))) (either tag)

  none_left : (tag : ℕ) (x : Option Short) → find (is_short_of tag) shorts ≡ x → task_of tag tasks ≡ None →
      AgreesAt n is_locked ready roll None x (find (has_tag tag) left)
  none_left tag x e none = by x (agrees_same n is_locked ready roll (sym none) (sym e) refl (p.at tag))
    where
      by : (x : Option Short) → AgreesAt n is_locked ready roll None x (find (has_tag tag) opens) →
          AgreesAt n is_locked ready roll None x (find (has_tag tag) left)
      by None h = find_none (has_tag tag) (λ t. not (is_aborted_open function lun meant t)) opens h
      by (Some short) h = short_left tag short h

  its : (tag : ℕ) (task : Task) → task_of tag tasks ≡ Some task →
      TaskAgrees n ready roll task (find (has_tag tag) opens)
  its tag task e = agrees_same n is_locked ready roll (sym e) (refl {a = find (is_short_of tag) shorts}) refl (p.at tag)

  -- the function is carried out
  task_kept : (tag : ℕ) (task : Task) → task_of tag tasks ≡ Some task → is_aborted lun function meant task ≡ false →
      TaskAgrees n ready roll task (find (has_tag tag) left)
  task_kept tag task e off =
      let h = its tag task e in
      ⊎_elim (λ k. subst (TaskAgrees n ready roll task) (sym k) h)
      (λ k. by (find (has_tag tag) opens) refl k.1 (subst (TaskAgrees n ready roll task) refl h)) (either tag)
    where
      by : (x : Option OpenTask) → find (has_tag tag) opens ≡ x →
          ((t : OpenTask) → x ≡ Some t → is_aborted_open function lun meant t ≡ true) →
          TaskAgrees n ready roll task x → TaskAgrees n ready roll task (find (has_tag tag) left)
      by None k all h =
          subst (TaskAgrees n ready roll task)
          (sym (find_none (has_tag tag) (λ t. not (is_aborted_open function lun meant t)) opens k)) h
      by (Some t) k all h =
          absurd (false≢true (sym off ∙ (sym (same_aborted function lun meant task roll t (h.named t refl)) ∙ all t
          refl)))

  -- one that is aborted leaves nothing
  gone : (tag : ℕ) (task : Task) → task_of tag tasks ≡ Some task → is_aborted lun function meant task ≡ true →
      find (has_tag tag) left ≡ None
  gone tag task e on = by (find (has_tag tag) opens) refl (its tag task e)
    where
      by : (x : Option OpenTask) → find (has_tag tag) opens ≡ x → TaskAgrees n ready roll task x →
          find (has_tag tag) left ≡ None
      by None k h = find_none (has_tag tag) (λ t. not (is_aborted_open function lun meant t)) opens k
      by (Some t) k h =
          find_dropped tag_of tag (λ t. not (is_aborted_open function lun meant t)) opens t p.differ k
          (ap not (same_aborted function lun meant task roll t (h.named t refl) ∙ on))

  abbrev kept : List Task
  kept = filter (λ task. not (is_aborted lun function meant task)) tasks

  carried : Pairs n is_locked ready roll kept shorts left
  carried = record {
    differ = differ_filter tag_of (λ t. not (is_aborted_open function lun meant t)) opens p.differ;
    at = λ tag. by tag (task_of tag tasks) refl;
  }
    where
      task_by : (tag : ℕ) (task : Task) → task_of tag tasks ≡ Some task → (b : Bool) →
          is_aborted lun function meant task ≡ b →
          AgreesAt n is_locked ready roll (task_of tag kept) (find (is_short_of tag) shorts) (find (has_tag tag) left)
      task_by tag task e true on =
          agrees_same n is_locked ready roll
          (find_dropped (λ (t : Task). t.tag) tag (λ task. not (is_aborted lun function meant task)) tasks task differ e
          (ap not on))
          (no_short shorts tasks tag task apart e) (gone tag task e on) refl
      task_by tag task e false off =
          agrees_same n is_locked ready roll {a = Some task}
          (find_kept (is_task_of tag) (λ task. not (is_aborted lun function meant task)) tasks task e (ap not off))
          (refl {a = find (is_short_of tag) shorts}) refl (task_kept tag task e off)

      by : (tag : ℕ) (o : Option Task) → task_of tag tasks ≡ o →
          AgreesAt n is_locked ready roll (task_of tag kept) (find (is_short_of tag) shorts) (find (has_tag tag) left)
      by tag None e =
          agrees_same n is_locked ready roll
          (find_none (is_task_of tag) (λ task. not (is_aborted lun function meant task)) tasks e)
          (refl {a = find (is_short_of tag) shorts}) refl
          (none_left tag (find (is_short_of tag) shorts) refl e)
      by tag (Some task) e = task_by tag task e (is_aborted lun function meant task) refl

  -- the function is not carried out: it aborts nothing, or there is no such LUN
  not_carried : (aborts function ≡ true → is_none (lun_of n lun) ≡ true) →
      Pairs n is_locked ready roll tasks shorts left
  not_carried none = record {
    differ = differ_filter tag_of (λ t. not (is_aborted_open function lun meant t)) opens p.differ;
    at = λ tag. by tag (task_of tag tasks) refl;
  }
    where
      no_lun : (task : Task) (x : Option OpenTask) →
          ((t : OpenTask) → x ≡ Some t → is_aborted_open function lun meant t ≡ true) →
          TaskAgrees n ready roll task x → x ≡ None ⊎ (is_none (lun_of n task.lun) ≡ true)
      no_lun task None all h = inl refl
      no_lun task (Some t) all h =
          let on = sym (same_aborted function lun meant task roll t (h.named t refl)) ∙ all t refl in
          let one = and_parts (aborts function && (task.lun == lun)) (not (function == 0x01) || (task.tag == meant)) on
          in
          let two = and_parts (aborts function) (task.lun == lun) one.0 in
          inr (ap (λ (k : ℕ). is_none (lun_of n k)) (eqb-true task.lun lun two.1) ∙ none two.0)

      task_left : (tag : ℕ) (task : Task) → task_of tag tasks ≡ Some task →
          TaskAgrees n ready roll task (find (has_tag tag) left)
      task_left tag task e =
          let h = its tag task e in
          ⊎_elim (λ k. subst (TaskAgrees n ready roll task) (sym k) h)
          (λ k. subst (TaskAgrees n ready roll task) (sym k.0) (record {
            named = λ t f. absurd (none-some t f);
            deed = deed_closed n ready roll task.lun task.deed (find (has_tag tag) opens)
                (no_lun task (find (has_tag tag) opens) k.1 h) h.deed;
          })) (either tag)

      by : (tag : ℕ) (o : Option Task) → task_of tag tasks ≡ o →
          AgreesAt n is_locked ready roll (task_of tag tasks) (find (is_short_of tag) shorts) (find (has_tag tag) left)
      by tag None e =
          agrees_same n is_locked ready roll e (refl {a = find (is_short_of tag) shorts}) refl
          (none_left tag (find (is_short_of tag) shorts) refl e)
      by tag (Some task) e =
          agrees_same n is_locked ready roll {a = Some task} e (refl {a = find (is_short_of tag) shorts}) refl
          (task_left tag task e)

-- The whole request

-- what is not carried out, though it aborts, is for a LUN that is not there
pub lun_gone : (s : State) (lun function meant : ℕ) → (service s lun function meant == 0x00) ≡ false →
    aborts function ≡ true → is_none (lun_of (numbers_of s) lun) ≡ true
lun_gone s lun function meant off on = by (is_none (lun_of (numbers_of s) lun)) refl
  where
    by : (b : Bool) → is_none (lun_of (numbers_of s) lun) ≡ b → b ≡ true
    by true e = refl
    by false e =
        absurd (true≢false (sym (ap (λ (x : ℕ). x == 0x00)
        (cond-false (is_none (lun_of (numbers_of s) lun)) 0x09 _ e ∙ cond-true (aborts function) 0x00 _ on)) ∙ off))

pub managed_agrees : (s : State) (held : ℕ) (j : Heard) (tag lun function meant : ℕ) (reply : Message) → IsTied s →
    AgreeIn s held s j → IsFree s tag →
    AgreeIn s held (with_short (managed s lun function meant) (short_reply tag reply))
    (journal_managed j function lun meant)
managed_agrees s held j tag lun function meant reply v a free =
    by (service s lun function meant == 0x00) refl (managed_free s lun function meant tag free)
  where
    t : State
    t = record s { volatile = volatile_managed s lun function }

    by : (b : Bool) → (service s lun function meant == 0x00) ≡ b →
        IsFree (if b then without_tasks t (is_aborted lun function meant) else t) tag →
        AgreeIn s held
        (with_short (if b then without_tasks t (is_aborted lun function meant) else t) (short_reply tag reply))
        (journal_managed j function lun meant)
    by true e f = record {
      numbers = a.numbers;
      lock = a.lock;
      roll = a.roll;
      books = a.books;
      pairs = short_opens (short_reply tag reply) (none_at f)
          (carried (numbers_of s) (locked s) (locked s || mended s) a.roll function lun meant s.tasks s.shorts j.tasks
          a.pairs v.tasks.tasks_differ v.tasks.apart);
      regions = a.regions;
      unmended = a.unmended;
    }
    by false e f = record {
      numbers = a.numbers;
      lock = a.lock;
      roll = a.roll;
      books = a.books;
      pairs = short_opens (short_reply tag reply) (none_at f)
          (not_carried (numbers_of s) (locked s) (locked s || mended s) a.roll function lun meant s.tasks s.shorts
          j.tasks a.pairs v.tasks.tasks_differ v.tasks.apart (lun_gone s lun function meant e));
      regions = a.regions;
      unmended = a.unmended;
    }
