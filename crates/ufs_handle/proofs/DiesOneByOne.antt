-- Dies on which leftovers are put one die after another, as a stop of a handle does.
use Rattle.std.proofs.Common.{◌≡◌, ◌≢◌, ◌≤◌, ◌<◌, ◌∙◌, ◌++◌, ◌+◌, ◌∷◌, [], ℕ, zero, suc, List, Option, ap, arith, inl, inr, length, refl, sym, subst}
use Rattle.std.specs.Prelude.{slice_index_or, slice_set}
use Rattle.std.proofs.Math.ListN.{get_or-map}
use Rattle.std.proofs.Math.Nat.{le_refl}
use Rattle.std.proofs.lemmas.Bool.{cases_lt}
use Rattle.std.proofs.lemmas.List.{ext_get_or, get_or-set_other, get_or-set_same, length-map, length-set}
use Rattle.ufs_spec.specs.Dies.{DieState, new_die, power_cycle_ended}
use Rattle.ufs_spec.specs.Lives.{die_of}
use Rattle.ufs_spec.specs.declared.events.Leftover.{Leftover}
use Rattle.ufs_spec.specs.declared.flash.Job.{Job}
use Rattle.device.specs.Worlds.{die_left, dies_left, dies_left_by, dies_stopped}
use Rattle.ufs_handle.specs.Kept.{die_at, job_at}
use Rattle.ufs_handle.specs.Left.{left_by, stopped}
use Rattle.ufs_handle.specs.declared.left.Left.{Left}
use Rattle.ufs_handle.specs.declared.left.Left.TheVariants as left

pub left_append : (xs ys : List Leftover) (dies : List DieState) →
    dies_left dies (xs ++ ys) ≡ dies_left (dies_left dies xs) ys
left_append [] ys dies = refl
left_append (x ∷ xs) ys dies = left_append xs ys (dies_left_by dies x)

pub as_many_left : (ls : List Leftover) (dies : List DieState) → length (dies_left dies ls) ≡ length dies
as_many_left [] dies = refl
as_many_left (l ∷ ls) dies =
    as_many_left ls (dies_left_by dies l) ∙ length-set dies (die_of l) (die_left (die_at dies (die_of l)) l)

-- each die has leftovers of its own, and becomes so by them
module _ (leaves : ℕ → List Leftover) (becomes : ℕ → DieState → DieState) where
  -- the leftovers of so many dies, from this one on
  abbrev pub all_from : ℕ → ℕ → List Leftover
  all_from die zero = []
  all_from die (suc count) = leaves die ++ all_from (suc die) count

  -- those of this die change it alone, where it is this one
  abbrev pub LeavesOne : ℕ → DieState → Type 0
  LeavesOne die d =
      (dies : List DieState) → die < length dies → die_at dies die ≡ d →
      dies_left dies (leaves die) ≡ slice_set dies die (becomes die d)

  abbrev pub LeaveTheirs : ℕ → ℕ → List DieState → Type 0
  LeaveTheirs die count dies = (i : ℕ) → die ≤ i → i < die + count → LeavesOne i (die_at dies i)

  -- the dies once this one holds its leftovers
  abbrev next : ℕ → List DieState → List DieState
  next die dies = slice_set dies die (becomes die (die_at dies die))

  others_same : (die : ℕ) (dies : List DieState) (i : ℕ) → i ≢ die → die_at (next die dies) i ≡ die_at dies i
  others_same die dies i differ = get_or-set_other dies die i (becomes die (die_at dies die)) (new_die 0 0) differ

  apart : (i die : ℕ) → die < i → i ≢ die
  apart i die less same = omega (arith, same)

  apart_below : (i die : ℕ) → i < die → i ≢ die
  apart_below i die less same = omega (arith, same)

  rest_theirs : (die count : ℕ) (dies : List DieState) → LeaveTheirs die (suc count) dies →
      LeaveTheirs (suc die) count (next die dies)
  rest_theirs die count dies all i from to =
      subst (LeavesOne i) (sym (others_same die dies i (apart i die (omega arith)))) (all i (omega arith) (omega arith))

  one_then : (die count : ℕ) (dies : List DieState) → die < length dies → LeaveTheirs die (suc count) dies →
      dies_left dies (all_from die (suc count)) ≡ dies_left (next die dies) (all_from (suc die) count)
  one_then die count dies less all =
      left_append (leaves die) (all_from (suc die) count) dies
      ∙ ap (λ (ds : List DieState). dies_left ds (all_from (suc die) count))
      (all die (le_refl die) (omega arith) dies less refl)

  as_many_next : (die : ℕ) (dies : List DieState) → length (next die dies) ≡ length dies
  as_many_next die dies = length-set dies die (becomes die (die_at dies die))

  outside : (count die : ℕ) (dies : List DieState) → die + count ≤ length dies → LeaveTheirs die count dies →
      (i : ℕ) → i < die → die_at (dies_left dies (all_from die count)) i ≡ die_at dies i
  outside zero die dies long all i less = refl
  outside (suc count) die dies long all i less =
      let many = as_many_next die dies in
      ap (λ (ds : List DieState). die_at ds i) (one_then die count dies (omega arith) all)
      ∙ outside count (suc die) (next die dies) (omega arith) (rest_theirs die count dies all) i (omega arith)
      ∙ others_same die dies i (apart_below i die less)

  pub inside : (count die : ℕ) (dies : List DieState) → die + count ≤ length dies → LeaveTheirs die count dies →
      (i : ℕ) → die ≤ i → i < die + count →
      die_at (dies_left dies (all_from die count)) i ≡ becomes i (die_at dies i)
  inside zero die dies long all i from to = absurd (none from to)
    where
      none : die ≤ i → i < die + 0 → ⊥
      none a b = omega arith
  inside (suc count) die dies long all i from to =
      let many = as_many_next die dies in
      let theirs = rest_theirs die count dies all in
      ap (λ (ds : List DieState). die_at ds i) (one_then die count dies (omega arith) all)
      ∙ elim (cases_lt die i) [
        | inl less ↦
            inside count (suc die) (next die dies) (omega arith) theirs i (omega arith) (omega arith)
            ∙ ap (becomes i) (others_same die dies i (apart i die less))
        | inr past ↦
            let same : die ≡ i = omega arith in
            subst
            (λ (j : ℕ). die_at (dies_left (next die dies) (all_from (suc die) count)) j ≡ becomes j (die_at dies j))
            same
            (outside count (suc die) (next die dies) (omega arith) theirs die (omega arith)
            ∙ get_or-set_same dies die (becomes die (die_at dies die)) (new_die 0 0) (omega arith))
      ]

-- What a stop of a handle leaves, die by die

module _ (pages : ℕ) (lefts : List Left) (jobs : List (Option Job)) where
  -- what the job of this die leaves on it
  abbrev pub becomes_by : ℕ → DieState → DieState
  becomes_by die d = left_by pages (slice_index_or lefts die left.Old) (job_at jobs die) d

  abbrev after : ℕ → List DieState → List DieState
  after k dies = stopped pages lefts jobs k dies

  many : (k : ℕ) (dies : List DieState) → length (after k dies) ≡ length dies
  many zero dies = refl
  many (suc k) dies =
      length-set (after k dies) k (power_cycle_ended (becomes_by k (die_at (after k dies) k))) ∙ many k dies

  stopped_out : (k : ℕ) (dies : List DieState) (i : ℕ) → k ≤ i → die_at (after k dies) i ≡ die_at dies i
  stopped_out zero dies i past = refl
  stopped_out (suc k) dies i past =
      get_or-set_other (after k dies) k i (power_cycle_ended (becomes_by k (die_at (after k dies) k))) (new_die 0 0)
      (differ past)
      ∙ stopped_out k dies i (omega arith)
    where
      differ : suc k ≤ i → i ≢ k
      differ less same = omega (arith, same)

  pub stopped_in : (k : ℕ) (dies : List DieState) → k ≤ length dies → (i : ℕ) → i < k →
      die_at (after k dies) i ≡ power_cycle_ended (becomes_by i (die_at dies i))
  stopped_in zero dies long i less = absurd (none less)
    where
      none : i < 0 → ⊥
      none h = omega arith
  stopped_in (suc k) dies long i less =
      let all = many k dies in
      elim (cases_lt i k) [
        | inl below ↦
            get_or-set_other (after k dies) k i (power_cycle_ended (becomes_by k (die_at (after k dies) k)))
            (new_die 0 0) (differ below)
            ∙ stopped_in k dies (omega arith) i below
        | inr past ↦
            let same : k ≡ i = omega arith in
            subst (λ (j : ℕ). die_at (after (suc k) dies) j ≡ power_cycle_ended (becomes_by j (die_at dies j))) same
            (get_or-set_same (after k dies) k (power_cycle_ended (becomes_by k (die_at (after k dies) k))) (new_die 0 0)
            (omega arith)
            ∙ ap (λ (d : DieState). power_cycle_ended (becomes_by k d)) (stopped_out k dies k (le_refl k)))
      ]
    where
      differ : i < k → i ≢ k
      differ h same = omega (arith, same)

  -- they are the dies that these leftovers and the end of the power make, if each die becomes so by them
  pub stopped_same : (dies : List DieState) (ls : List Leftover) →
      ((i : ℕ) → i < length dies → die_at (dies_left dies ls) i ≡ becomes_by i (die_at dies i)) →
      after (length dies) dies ≡ dies_stopped dies ls
  stopped_same dies ls all =
      let as_many = many (length dies) dies in
      ext_get_or (new_die 0 0) (after (length dies) dies) (dies_stopped dies ls)
      (as_many ∙ sym (length-map (dies_left dies ls) power_cycle_ended ∙ as_many_left ls dies))
      (λ i less.
      let here : i < length dies = omega arith in
      stopped_in (length dies) dies (le_refl (length dies)) i here
      ∙ ap power_cycle_ended (sym (all i here))
      ∙ sym (get_or-map power_cycle_ended (dies_left dies ls) i (new_die 0 0)))
