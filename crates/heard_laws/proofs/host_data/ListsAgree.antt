-- Behind the list of an UNMAP the device and the journal agree.
use Rattle.heard_laws.proofs.Common.{Answering, Bool, Deed, ForFrames, ForUnmap, Good, List, None, Numbers, OpenTask}
use Rattle.heard_laws.proofs.Common.{Option, Some, State, Status, Task, UnmapList, [], ap, arith, eqb-true, false, find}
use Rattle.heard_laws.proofs.Common.{has_tag, if◌then◌else◌, length, locked, map, mended, none-some, not, numbers_of}
use Rattle.heard_laws.proofs.Common.{plain_now, refl, same_Some, same_task, subst, sym, task_of, true, true≢false}
use Rattle.heard_laws.proofs.Common.{without, ℕ, ◌++◌, ◌<◌, ◌==◌, ◌∙◌, ◌∷◌, ◌≡◌, ◌⊎◌}
use Rattle.std.proofs.Common.{◌||◌}
use Rattle.std.proofs.lemmas.List.{append-nil}
use Rattle.std.specs.Option.{option_to_list}
use Rattle.ufs_bytes.specs.Fields.{field_at}
use Rattle.ufs_spec.proofs.Facts.{not-false}
use Rattle.ufs_spec.specs.Commands.{Command, Zero}
use Rattle.ufs_spec.specs.DataOuts.{has_list_header, is_wrong_descriptor, unmap_complete}
use Rattle.ufs_spec.specs.Exchanges.{Short, with_deed}
use Rattle.ufs_laws.proofs.walk.WaysOfData.{Accepted, AcceptsFrames, Completion, HasResult, ReadsArea, Told}
use Rattle.ufs_laws.proofs.walk.WaysOfData.{WhyCompleted, completed, completes_by}
use Rattle.journal.proofs.UnmapLists.{same_accepted}
use Rattle.journal.specs.Heard.{Heard, unmapped}
use Rattle.journal.specs.Unmaps.{names_no_blocks, zeros_accepted}
use Rattle.journal.specs.declared.tasks.Awaited.TheVariants.{Nothing}
use Rattle.heard_laws.proofs.agreement.Agreement.{Agree, AgreeIn, AtMost, Waits}
use Rattle.heard_laws.proofs.agreement.PairsOpened.{at_most_of}
use Rattle.heard_laws.proofs.host_data.DataLands.{again, lands, lands_accepted}
use Rattle.heard_laws.proofs.host_data.RegionsKept.{IsForNone, others_stay}
use Rattle.heard_laws.proofs.rolls.Rolls.{Roll, count, count_none}

-- ## What the device makes of a list

-- the task is answered, whatever was accepted
record IsAnswered (s : State) (task : Task) (t : State) : Type 0 where
  status : Status
  carried : ℕ
  tasks_are : t.tasks ≡ map (with_deed task.tag (Answering status carried)) s.tasks
  shorts_are : t.shorts ≡ s.shorts

no_frames : (unit region : ℕ) → ForUnmap unit ≡ ForFrames region → ⊥
no_frames unit region e = cc

answered : (s : State) (task : Task) (unit : ℕ) (list : List ℕ) → IsAnswered s task (unmap_complete s task unit list)
answered s task unit list = completes_by (IsAnswered s task) s task (ForUnmap unit) list one
  where
    one : (k : Completion) → WhyCompleted s task (ForUnmap unit) list k → IsAnswered s task (completed s task k)
    one (Told status released) why =
        record { status = status; carried = task.length; tasks_are = refl; shorts_are = refl }
    one (Accepted command claimed deed) why = record {
      status = Good;
      carried = task.length;
      tasks_are = ap (λ (d : Deed). map (with_deed task.tag d) s.tasks) why.1.2;
      shorts_are = refl;
    }
    one (HasResult region frames result) why = absurd (no_frames unit region why.purpose_is)
    one (ReadsArea region f fs result) why = absurd (no_frames unit region why.0.purpose_is)
    one (AcceptsFrames region frames result command) why = absurd (no_frames unit region why.purpose_is)

-- ## What the journal takes of it

-- it is a command for no region, and the list has a descriptor
record IsZero (list : List ℕ) (c : Command) : Type 0 where
  none : IsForNone c
  long : length list ≡ 24

first_false : (a b c d e : Bool) → (a || b || c || d || e) ≡ false → a ≡ false
first_false false b c d e h = refl
first_false true b c d e h = absurd (true≢false h)

zeros_told : (n : Numbers) (is_locked : Bool) (unit : ℕ) (list : List ℕ) (c : Command) →
    zeros_accepted n is_locked unit list ≡ Some c → IsZero list c
zeros_told n true unit list c e = absurd (none-some c e)
zeros_told n false unit list c e = by (names_no_blocks n unit list) refl e
  where
    by : (b : Bool) → names_no_blocks n unit list ≡ b →
        (if b then None else Some (Zero unit (field_at 8 8 list)
        (field_at 4 16 list))) ≡ Some c → IsZero list c
    by true k is = absurd (none-some c is)
    by false k is = record {
      none = subst IsForNone (same_Some _ c is) tt;
      long = eqb-true (length list) 24 (not-false (length list == 24)
          (first_false (not (length list == 24)) (not (has_list_header list)) (is_wrong_descriptor n list) _ _ k));
    }

module _ (s : State) (held : ℕ) (j : Heard) (task : Task) (a : AgreeIn s held s j)
    (found : task_of task.tag s.tasks ≡ Some task) (unit : ℕ)
    (h : Waits (numbers_of s) task.lun UnmapList (find (has_tag task.tag) j.tasks)) (list : List ℕ)
    (mends : length list ≡ 24 → mended s ≡ true) where
  abbrev t : OpenTask
  t = h.task

  abbrev k : Heard
  k = record j { tasks = without task.tag j.tasks }

  zero : (roll : Roll) → AtMost 0 roll (Some (again t t.promised Nothing))
  zero roll =
      let e = ap (λ (p : ℕ). count p roll) h.nothing in
      at_most_of roll (again t t.promised Nothing) (omega (arith, e, count_none roll))

  abbrev after : State
  after = unmap_complete s task unit list

  -- the lists of the state behind
  moved_to : {accepted : List Command} {tasks : List Task} {shorts : List Short} {u : Heard} →
      after.accepted ≡ accepted → after.tasks ≡ tasks → after.shorts ≡ shorts →
      Agree (numbers_of s) (locked s) (mended s) s.base accepted held tasks shorts u → AgreeIn s held after u
  moved_to {accepted} {tasks} {shorts} {u} e f g x =
      subst (λ (y : List Command). Agree (numbers_of s) (locked s) (mended s) s.base y held after.tasks after.shorts u)
      (sym e)
      (subst (λ (y : List Task). Agree (numbers_of s) (locked s) (mended s) s.base accepted held y after.shorts u)
      (sym f)
      (subst (λ (y : List Short). Agree (numbers_of s) (locked s) (mended s) s.base accepted held tasks y u) (sym g)
      x))

  by_command : (c : Option Command) → zeros_accepted (numbers_of s) (locked s) unit list ≡ c →
      after.accepted ≡ s.accepted ++ option_to_list c → AgreeIn s held after (unmapped k t.name t.promised c)
  by_command None e is =
      let done = answered s task unit list in
      moved_to (is ∙ append-nil s.accepted) done.tasks_are done.shorts_are
      (lands s held j task a found (λ x. record x { deed = Answering done.status done.carried })
      (λ x. same_task x _ x.request) t h.is Nothing refl (λ good. zero a.roll))
  by_command (Some c) e is =
      let done = answered s task unit list in
      let told = zeros_told (numbers_of s) (locked s) unit list c e in
      let nothing = h.nothing in
      moved_to is done.tasks_are done.shorts_are
      (lands_accepted s held j task a found (λ x. record x { deed = Answering done.status done.carried })
      (λ x. same_task x _ x.request) t h.is Nothing refl t.promised (omega (arith, nothing)) c j.regions
      (others_stay j.regions (plain_now s) c told.none a.regions) (mends told.long)
      (λ good. zero (a.roll ++ Some c ∷ [])))

  -- a list agrees
  pub list_agrees : unit < length (numbers_of s).units.items → (length list ≡ 8) ⊎ (length list ≡ 24) →
      AgreeIn s held after
      (unmapped k t.name t.promised (zeros_accepted (numbers_of s) (locked s) unit list))
  list_agrees there long =
      by_command (zeros_accepted (numbers_of s) (locked s) unit list) refl (same_accepted s task unit list there long)
