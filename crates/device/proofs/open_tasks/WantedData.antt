-- How many bytes a task asks for: as many as the READY TO TRANSFER of the definitions.
use Rattle.ufs_spec.specs.Exchanges.{to_gather}
use Rattle.device.proofs.Common.{ComesSo, Deed, ForFrames, ForUnmap, ForWrite, Gathering, IsDoing, IsOfList, List}
use Rattle.device.proofs.Common.{Purpose, Wanted, [], arith, count_for, inl, inr, length, min, refl, subst, sym, true}
use Rattle.device.proofs.Common.{ℕ, ◌-◌, ◌∷◌, ◌≡◌, ◌≤◌}
use Rattle.task_set.specs.declared.tasks.Phase.TheVariants as phase

-- a list fits into one message
list_few : (size : ℕ) → IsOfList size → size ≤ 4096
list_few size (inl header) = omega arith
list_few size (inr whole) = omega arith

pub count_so : (purpose : Purpose) (came size : ℕ) → ComesSo purpose came size →
    min 4096 (to_gather purpose size - came) ≡ count_for purpose size
count_so (ForWrite unit address blocks forced) came size h =
    let whole = h.1 in let more = h.2 in omega arith
count_so (ForUnmap unit) came size h = let none = h.0 in let few = list_few size h.1 in omega arith
count_so (ForFrames region) came size h = let none = h.0 in let few = h.2 in omega arith

-- nothing came
pub none_came : (gathered : List ℕ) → length gathered ≡ 0 → gathered ≡ []
none_came [] none = refl
none_came (x ∷ xs) none = absurd (omega arith)

-- a task has gathered data for what it awaits
pub record Gathers (w : Wanted) (total : ℕ) (deed : Deed) : Type 0 where
  pub gathered : List ℕ
  pub deed_is : deed ≡ Gathering w.purpose gathered true
  pub came : length gathered ≡ w.came
  pub total_is : total ≡ w.length
  pub so : ComesSo w.purpose w.came w.length

pub gathers : (before expected total : ℕ) (w : Wanted) (deed : Deed) →
    IsDoing before expected total (phase.Await w) deed → Gathers w total deed
gathers before expected total w (Gathering purpose gathered asked) h = record {
  gathered = gathered;
  deed_is = λ i. Gathering (sym h.0.same i) gathered (h.1 i);
  came = h.0.came;
  total_is = h.0.total_is;
  so = subst (λ (p : Purpose). ComesSo p w.came w.length) (sym h.0.same) h.0.so;
}
gathers before expected total w deed h = absurd h
