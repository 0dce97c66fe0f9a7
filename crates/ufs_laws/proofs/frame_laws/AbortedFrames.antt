-- Which registers an abort empties.
use Rattle.ufs_laws.proofs.Common.{Bool, Cdb, List, None, Option, Registers, Some, State, Task, [], ap, cond, false}
use Rattle.ufs_laws.proofs.Common.{filter, if◌then◌else◌, list_any, ne_eqb, or_from, or_right, refl, same_Some}
use Rattle.ufs_laws.proofs.Common.{slice_get, suc, true, without_tasks, zero, ℕ, ◌||◌, ◌∙◌, ◌∷◌, ◌≡◌, ◌≢◌}
use Rattle.ufs_spec.proofs.Facts.{eqb-self}
use Rattle.ufs_spec.specs.Exchanges.{empty_registers}
use Rattle.ufs_spec.specs.Refusals.{sends_frames_to}
use Rattle.ufs_spec.specs.declared.scsi.Cdb.TheVariants as cdb

abbrev Sends : ℕ → Task → Bool
Sends region task = sends_frames_to region task.command

abbrev kept_or : State → ℕ → Bool → Registers
kept_or s region b = if b then empty_registers else s.registers region

one_sends : (region n : ℕ) (task : Task) → task.command ≡ Some (cdb.SecurityOut region n) → Sends region task ≡ true
one_sends region n task e = ap (sends_frames_to region) e ∙ eqb-self region

-- an aborted one is among the aborted
among : (region : ℕ) (is : Task → Bool) (tasks : List Task) (k : ℕ) (task : Task) → slice_get tasks k ≡ Some task →
    is task ≡ true → Sends region task ≡ true → list_any (Sends region) (filter is tasks) ≡ true
among region is [] k task e here sends = let none : None ≡ Some task = e in cc
among region is (t ∷ ts) zero task e here sends =
    let same = same_Some t task e in
    ap (λ (b : Bool). list_any (Sends region) (cond b (t ∷ filter is ts) (filter is ts))) (ap is same ∙ here)
    ∙ ap (λ (b : Bool). b || list_any (Sends region) (filter is ts)) (ap (Sends region) same ∙ sends)
among region is (t ∷ ts) (suc k) task e here sends = by (is t) (among region is ts k task e here sends)
  where
    by : (b : Bool) → list_any (Sends region) (filter is ts) ≡ true →
        list_any (Sends region) (cond b (t ∷ filter is ts) (filter is ts)) ≡ true
    by true rest = or_right (Sends region t) (list_any (Sends region) (filter is ts)) rest
    by false rest = rest

pub emptied : (s : State) (is : Task → Bool) (k : ℕ) (task : Task) (region n : ℕ) → slice_get s.tasks k ≡ Some task →
    is task ≡ true → task.command ≡ Some (cdb.SecurityOut region n) →
    (without_tasks s is).registers region ≡ empty_registers
emptied s is k task region n there here e =
    ap (kept_or s region) (among region is s.tasks k task there here (one_sends region n task e))

-- none of the aborted sends frames to the region
abbrev NoneSends : ℕ → (Task → Bool) → List Task → Type 0
NoneSends region is tasks = (k : ℕ) (task : Task) (n : ℕ) → slice_get tasks k ≡ Some task → is task ≡ true →
    task.command ≢ Some (cdb.SecurityOut region n)

one_silent : (region : ℕ) (o : Option Cdb) → ((n : ℕ) → o ≢ Some (cdb.SecurityOut region n)) →
    sends_frames_to region o ≡ false
one_silent region None none = refl
one_silent region (Some (cdb.SecurityOut other n)) none =
    ne_eqb other region (λ e. none n (ap (λ (x : ℕ). Some (cdb.SecurityOut x n)) e))
one_silent region (Some c) none = refl

silent : (region : ℕ) (is : Task → Bool) (tasks : List Task) → NoneSends region is tasks →
    list_any (Sends region) (filter is tasks) ≡ false
silent region is [] none = refl
silent region is (t ∷ ts) none = by (is t) refl (silent region is ts (λ k task n e here. none (suc k) task n e here))
  where
    by : (b : Bool) → is t ≡ b → list_any (Sends region) (filter is ts) ≡ false →
        list_any (Sends region) (cond b (t ∷ filter is ts) (filter is ts)) ≡ false
    by true e rest =
        or_from (Sends region t) (list_any (Sends region) (filter is ts))
        (one_silent region t.command (λ n. none zero t n refl e)) rest
    by false e rest = rest

pub others : (s : State) (is : Task → Bool) (region : ℕ) → NoneSends region is s.tasks →
    (without_tasks s is).registers region ≡ s.registers region
others s is region none = ap (kept_or s region) (silent region is s.tasks none)
