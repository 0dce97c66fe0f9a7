-- Behind a COMMAND the device and the journal agree.
use Rattle.journal.specs.Heard.{brought_by}
use Rattle.heard_laws.proofs.Common.{Bool, IsFree, IsTied, List, Numbers, OpenTask, Request, Some, State, Task, []}
use Rattle.heard_laws.proofs.Common.{if_cases, length, locked, mended, numbers_of, refl, refusal, response, same_Some}
use Rattle.heard_laws.proofs.Common.{short_reply, spelled_cdb, subst, sym, with_short, ℕ, ◌++◌, ◌∙◌, ◌∷◌, ◌≡◌, ◌≤◌}
use Rattle.std.proofs.Common.{◌||◌}
use Rattle.std.specs.Prelude.{nat_le}
use Rattle.ufs_spec.specs.Commands.{Command}
use Rattle.ufs_spec.specs.Exchanges.{Short, most_tasks}
use Rattle.ufs_spec.specs.Machine.{command_taken, refused_or_begun}
use Rattle.ufs_spec.specs.declared.exchanges.Status.TheVariants.{TaskSetFull}
use Rattle.journal.specs.Heard.{Heard, begun}
use Rattle.heard_laws.proofs.agreement.Agreement.{Agree, AgreeIn, DeedAgrees, IsNamed, OpenAgrees, Pairs, ShortAgrees}
use Rattle.heard_laws.proofs.agreement.PairsOpened.{NoneAt, none_at, short_opens_too, task_opens}
use Rattle.heard_laws.proofs.messages.CommandsHeard.{Opened, bad_open, open_as, open_named, opens}
use Rattle.heard_laws.proofs.open_under_tags.OpenTasks.{reopened}
use Rattle.heard_laws.proofs.rolls.Rolls.{Roll}
use Rattle.heard_laws.proofs.rolls.StandingRolls.{as_long}

-- the task that is opened, with what the journal opened
opened_pairs : {n : Numbers} {is_locked ready : Bool} {roll : Roll} {tasks : List Task} {shorts : List Short}
    {opens : List OpenTask} (lun tag : ℕ) (task : Task) (t : OpenTask) → task.lun ≡ lun → task.tag ≡ tag →
    IsNamed lun tag roll t → NoneAt tag tasks shorts → DeedAgrees n ready roll lun task.deed (Some t) →
    Pairs n is_locked ready roll tasks shorts opens →
    Pairs n is_locked ready roll (tasks ++ task ∷ []) shorts (reopened tag t opens)
opened_pairs {n} {is_locked} {ready} {roll} {tasks} {shorts} {opens} lun tag task t lun_is tag_is named none deed p =
    subst (λ (k : ℕ). Pairs n is_locked ready roll (tasks ++ task ∷ []) shorts (reopened k t opens)) tag_is
    (task_opens task t (named.tag_is ∙ sym tag_is) (subst (λ (k : ℕ). NoneAt k tasks shorts) (sym tag_is) none)
    (record {
      named = λ x e.
          subst (IsNamed task.lun task.tag roll) (same_Some t x e)
          (subst (λ (k : ℕ). IsNamed k task.tag roll t) (sym lun_is)
          (subst (λ (k : ℕ). IsNamed lun k roll t) (sym tag_is) named));
      deed = subst (λ (k : ℕ). DeedAgrees n ready roll k task.deed (Some t)) (sym lun_is) deed;
    }) p)

module _ (s : State) (held : ℕ) (j : Heard) (r : Request) (a : AgreeIn s held s j) (free : IsFree s r.tag) where
  abbrev its : OpenTask
  its = open_as r (length j.entries) (brought_by r.expected r.cdb)

  long : length a.roll ≡ length j.entries
  long = as_long j.entries a.roll a.books.stand

  none : NoneAt r.tag s.tasks s.shorts
  none = none_at free

  same_lists : {accepted other : List Command} {tasks after : List Task} {shorts later : List Short} {k : Heard} →
      other ≡ accepted → after ≡ tasks → later ≡ shorts →
      Agree (numbers_of s) (locked s) (mended s) s.base accepted held tasks shorts k →
      Agree (numbers_of s) (locked s) (mended s) s.base other held after later k
  same_lists {accepted} {other} {tasks} {after} {shorts} {later} {k} e f g h =
      subst (λ (x : List Command). Agree (numbers_of s) (locked s) (mended s) s.base x held after later k) (sym e)
      (subst (λ (x : List Task). Agree (numbers_of s) (locked s) (mended s) s.base accepted held x later k) (sym f)
      (subst (λ (x : List Short). Agree (numbers_of s) (locked s) (mended s) s.base accepted held tasks x k) (sym g)
      h))

  task_agrees : (u : State) → Opened s r (locked s || mended s) a.roll (Some its) u →
      AgreeIn s held u (begun j (record { lun = r.lun; tag = r.tag }) (brought_by r.expected r.cdb))
  task_agrees u o =
      same_lists o.accepted_are o.tasks_are o.shorts_are (record {
        numbers = a.numbers;
        lock = a.lock;
        roll = a.roll;
        books = a.books;
        pairs = opened_pairs r.lun r.tag o.task its o.lun_is o.tag_is
            (open_named r (length j.entries) (brought_by r.expected r.cdb) a.roll long)
            none o.deed a.pairs;
        regions = a.regions;
        unmended = a.unmended;
      })

  abbrev full : Short
  full = short_reply r.tag (response r.lun r.tag r.expected 0 TaskSetFull)

  full_open : ShortAgrees (locked s) a.roll full (Some its)
  full_open t e =
      let named = open_named r (length j.entries) (brought_by r.expected r.cdb) a.roll long in
      subst (λ (x : OpenTask). (x.promised ≤ length a.roll) × OpenAgrees (locked s) a.roll full x.awaited)
      (same_Some its t e) (named.inside, bad_open (locked s) a.roll full its.awaited named.is_task refl refl)

  full_agrees : AgreeIn s held (with_short s full) (begun j (record { lun = r.lun; tag = r.tag }) (brought_by r.expected r.cdb))
  full_agrees = record {
    numbers = a.numbers;
    lock = a.lock;
    roll = a.roll;
    books = a.books;
    pairs = short_opens_too full its refl none (λ x y z h. h) full_open a.pairs;
    regions = a.regions;
    unmended = a.unmended;
  }

  pub command_agrees : IsTied s → r.cdb ≡ spelled_cdb r.bytes →
      AgreeIn s held (command_taken s r) (begun j (record { lun = r.lun; tag = r.tag }) (brought_by r.expected r.cdb))
  command_agrees v spells =
      if_cases (λ (u : State). AgreeIn s held u (begun j (record { lun = r.lun; tag = r.tag }) (brought_by r.expected r.cdb)))
      (nat_le most_tasks (length s.tasks)) (λ e. full_agrees)
      (λ e. task_agrees (refused_or_begun s r (refusal s r))
      (opens s r (length j.entries) a.roll a.books.accepted_are (refusal s r) refl v.config spells a.unmended))
