-- Data came for a task: what the device and the journal make of them agrees, if the task and what is open under its tag
-- do.
use Rattle.heard_laws.proofs.Common.{AreRegionsOf, Awaited, Bool, List, OpenTask, RegionState, Some, State, Task, []}
use Rattle.heard_laws.proofs.Common.{after, arith, at_tag, false, find, has_tag, is_command, length, length-append}
use Rattle.heard_laws.proofs.Common.{locked, map, mended, numbers_of, refl, same_Some, subst, sym, task_of, true}
use Rattle.heard_laws.proofs.Common.{true≢false, ℕ, ◌++◌, ◌+◌, ◌∙◌, ◌∷◌, ◌≡◌, ◌≤◌}
use Rattle.std.proofs.Common.{◌||◌}
use Rattle.ufs_spec.specs.Commands.{Command}
use Rattle.ufs_spec.specs.Plain.{apply}
use Rattle.ufs_laws.proofs.walk.SmallChanges.{SameTask}
use Rattle.journal.specs.Entries.{Accepted}
use Rattle.journal.specs.Heard.{Heard}
use Rattle.heard_laws.proofs.agreement.Agreement.{Agree, AgreeIn, DeedAgrees, IsNamed, TaskAgrees}
use Rattle.heard_laws.proofs.agreement.PairsChanged.{at_task, task_changes}
use Rattle.heard_laws.proofs.agreement.PairsKept.{agrees_more}
use Rattle.heard_laws.proofs.host_data.RegionsKept.{after_more}
use Rattle.heard_laws.proofs.open_under_tags.OpenTasks.{reopened}
use Rattle.heard_laws.proofs.rolls.BooksKept.{command_noted}
use Rattle.heard_laws.proofs.rolls.Rolls.{Roll}
use Rattle.heard_laws.proofs.rolls.StandingRolls.{as_long}

-- the command is open again, and waits for this
abbrev pub again : OpenTask → ℕ → Awaited → OpenTask
again t promised awaited = record { name = t.name; awaited = awaited; promised = promised }

module _ (s : State) (held : ℕ) (j : Heard) (task : Task) (a : AgreeIn s held s j)
    (found : task_of task.tag s.tasks ≡ Some task) where
  abbrev pub ready : Bool
  ready = locked s || mended s

  pub its : TaskAgrees (numbers_of s) (locked s || mended s) a.roll task (find (has_tag task.tag) j.tasks)
  its = at_task task.tag task found a.pairs

  named_again : (grown : Roll) (f : Task → Task) → SameTask task (f task) → (t : OpenTask) →
      IsNamed task.lun task.tag a.roll t → (promised : ℕ) (awaited : Awaited) → is_command awaited ≡ true →
      promised ≤ length grown → (x : OpenTask) → Some (again t promised awaited) ≡ Some x →
      IsNamed (f task).lun (f task).tag grown x
  named_again grown f same t named promised awaited is inside x e =
      subst (IsNamed (f task).lun (f task).tag grown) (same_Some (again t promised awaited) x e) (record {
        lun_is = named.lun_is ∙ sym same.lun;
        tag_is = named.tag_is ∙ sym same.tag;
        is_task = is;
        inside = inside;
      })

  -- nothing is accepted: the task does something else, and its command waits for something else
  pub lands : (f : Task → Task) → ((x : Task) → SameTask x (f x)) → (t : OpenTask) →
      find (has_tag task.tag) j.tasks ≡ Some t → (awaited : Awaited) → is_command awaited ≡ true →
      DeedAgrees (numbers_of s) (locked s || mended s) a.roll task.lun (f task).deed
      (Some (again t t.promised awaited)) →
      Agree (numbers_of s) (locked s) (mended s) s.base s.accepted held (map (at_tag task.tag f) s.tasks) s.shorts
      (record j { tasks = reopened task.tag (again t t.promised awaited) j.tasks })
  lands f same t e awaited is deed =
      let named = its.named t e in
      record {
        numbers = a.numbers;
        lock = a.lock;
        roll = a.roll;
        books = a.books;
        pairs = task_changes task.tag f task (again t t.promised awaited) (λ x. (same x).tag) named.tag_is found
            (λ x y z h. h) (record {
              named = named_again a.roll f (same task) t named t.promised awaited is named.inside;
              deed = subst (λ (lun : ℕ). DeedAgrees (numbers_of s) (locked s || mended s) a.roll lun (f task).deed
                  (Some (again t t.promised awaited))) (sym (same task).lun) deed;
            }) a.pairs;
        regions = a.regions;
        unmended = a.unmended;
      }

  -- a command is accepted with the data
  pub lands_accepted : (f : Task → Task) → ((x : Task) → SameTask x (f x)) → (t : OpenTask) →
      find (has_tag task.tag) j.tasks ≡ Some t → (awaited : Awaited) → is_command awaited ≡ true → (promised : ℕ) →
      promised ≤ length j.entries + 1 → (c : Command) (regions : List RegionState) →
      AreRegionsOf regions (apply (after s.base s.accepted) c) → mended s ≡ true →
      DeedAgrees (numbers_of s) (locked s || mended s) (a.roll ++ Some c ∷ []) task.lun (f task).deed
      (Some (again t promised awaited)) →
      Agree (numbers_of s) (locked s) (mended s) s.base (s.accepted ++ c ∷ []) held
      (map (at_tag task.tag f) s.tasks) s.shorts
      (record j {
        entries = j.entries ++ Accepted c ∷ [];
        tasks = reopened task.tag (again t promised awaited) j.tasks;
        regions = regions;
      })
  lands_accepted f same t e awaited is promised few c regions kept mends deed =
      let named = its.named t e in
      let grown : Roll = a.roll ++ Some c ∷ [] in
      let long = as_long j.entries a.roll a.books.stand in
      let one = length-append a.roll (Some c ∷ []) in
      record {
        numbers = a.numbers;
        lock = a.lock;
        roll = grown;
        books = command_noted (Accepted c) c refl a.books;
        pairs = task_changes task.tag f task (again t promised awaited) (λ x. (same x).tag) named.tag_is found
            (agrees_more (numbers_of s) (locked s) (locked s || mended s) a.roll (Some c)) (record {
              named = named_again grown f (same task) t named promised awaited is (omega (arith, few, long, one));
              deed = subst (λ (lun : ℕ). DeedAgrees (numbers_of s) (locked s || mended s) grown lun (f task).deed
                  (Some (again t promised awaited))) (sym (same task).lun) deed;
            }) a.pairs;
        regions = subst (AreRegionsOf regions) (sym (after_more s.base s.accepted c)) kept;
        unmended = λ un. absurd (other mends un);
      }
    where
      other : mended s ≡ true → mended s ≡ false → ⊥
      other e k = true≢false (sym e ∙ k)
