-- Behind a DATA OUT of a VERIFY the device and the journal agree: it brings nothing that a command waits for.
use Rattle.heard_laws.proofs.Common.{Answering, Bool, Deed, Good, List, None, OpenTask, Option, Some, State, Task, []}
use Rattle.heard_laws.proofs.Common.{ap, arith, at_tag, false, false≢true, find, has_tag, if_both, if_cases, is_task_of}
use Rattle.heard_laws.proofs.Common.{length, locked, map, mended, nat_lt, numbers_of, received, refl, same_task, subst}
use Rattle.heard_laws.proofs.Common.{sym, task_of, true, without, ℕ, ◌*◌, ◌+◌, ◌∙◌, ◌∷◌, ◌≡◌}
use Rattle.std.proofs.Common.{◌||◌}
use Rattle.ufs_spec.specs.DataOuts.{block_compared, block_differs, block_same, deed_after_same}
use Rattle.ufs_spec.specs.Exchanges.{Comparing, ReadBlock, miscompare}
use Rattle.ufs_spec.specs.Rpmb.{same_bytes}
use Rattle.journal.specs.Heard.{Heard, open_again}
use Rattle.journal.specs.declared.tasks.Awaited.TheVariants.{Nothing}
use Rattle.heard_laws.proofs.agreement.Agreement.{AgreeIn, AtMost, DeedAgrees, Waits}
use Rattle.heard_laws.proofs.agreement.PairsChanged.{received_is}
use Rattle.heard_laws.proofs.agreement.PairsOpened.{at_most_of}
use Rattle.heard_laws.proofs.host_data.DataLands.{again, lands}
use Rattle.heard_laws.proofs.rolls.Rolls.{count, count_none}

-- where each task stays as it is, all do
all_stay : (tag : ℕ) (tasks : List Task) → map (at_tag tag (λ (x : Task). x)) tasks ≡ tasks
all_stay tag [] = refl
all_stay tag (t ∷ ts) =
    (λ i. if_both (λ (x : Task). x ≡ t) (is_task_of tag t) refl refl i ∷ all_stay tag ts i)

module _ (s : State) (held : ℕ) (j : Heard) (task : Task) (a : AgreeIn s held s j)
    (found : task_of task.tag s.tasks ≡ Some task)
    (h : Waits (numbers_of s) task.lun Nothing (find (has_tag task.tag) j.tasks)) where
  abbrev t : OpenTask
  t = h.task

  -- the journal without what was open under the tag, and then with it again
  abbrev k : Heard
  k = open_again (record j { tasks = without task.tag j.tasks }) t.name t.promised Nothing

  abbrev Does : Deed → Type 0
  Does deed =
      DeedAgrees (numbers_of s) (locked s || mended s) a.roll task.lun deed (Some (again t t.promised Nothing))

  waits_again : Waits (numbers_of s) task.lun Nothing (Some (again t t.promised Nothing))
  waits_again = record {
    task = again t t.promised Nothing;
    is = refl;
    awaits = refl;
    nothing = h.nothing;
    there = h.there;
  }

  -- a GOOD acknowledges nothing
  good : AtMost 0 a.roll (Some (again t t.promised Nothing))
  good =
      let e = ap (λ (p : ℕ). count p a.roll) h.nothing in
      at_most_of a.roll (again t t.promised Nothing) (omega (arith, e, count_none a.roll))

  sets : (deed : Deed) → Does deed → AgreeIn s held (record s { tasks = map (at_tag task.tag (λ x. record x { deed = deed })) s.tasks }) k
  sets deed does =
      lands s held j task a found (λ x. record x { deed = deed }) (λ x. same_task x deed x.request) t h.is Nothing refl
      does

  same : (blocks : List ReadBlock) (compared : ℕ) → AgreeIn s held (block_same s task blocks compared) k
  same blocks compared =
      sets (deed_after_same task blocks compared)
      (if_both Does (nat_lt (compared + 1) (length blocks)) waits_again (λ is. good))

  differs : (compared : ℕ) → AgreeIn s held (block_differs s task compared) k
  differs compared = sets (Answering miscompare (4096 * (compared + 1))) (λ is. absurd (false≢true is))

  stays : (blocks : List ReadBlock) (compared : ℕ) (asked : Bool) → task.deed ≡ Comparing blocks compared asked →
      AgreeIn s held s k
  stays blocks compared asked e =
      subst (λ (ts : List Task). AgreeIn s held (record s { tasks = ts }) k) (all_stay task.tag s.tasks)
      (lands s held j task a found (λ x. x) (λ x. same_task x x.deed x.request) t h.is Nothing refl
      (subst Does (sym e) waits_again))

  pub compared_agrees : (blocks : List ReadBlock) (compared : ℕ) (asked : Bool) (o : Option ReadBlock)
      (bytes message : List ℕ) → task.deed ≡ Comparing blocks compared asked →
      AgreeIn s held (block_compared s task blocks compared o bytes) (received j task.tag message)
  compared_agrees blocks compared asked o bytes message e =
      subst (AgreeIn s held (block_compared s task blocks compared o bytes))
      (sym (received_is j task.tag t Nothing message h.is h.awaits)) (by o)
    where
      by : (x : Option ReadBlock) → AgreeIn s held (block_compared s task blocks compared x bytes) k
      by None = stays blocks compared asked e
      by (Some block) =
          if_cases (λ (u : State). AgreeIn s held u k) (same_bytes bytes block.body) (λ is. same blocks compared)
          (λ other. differs compared)
