-- How many of the first blocks are so, block by block.
use Rattle.std.proofs.Common.{◌≡◌, ◌∙◌, ◌++◌, ◌∷◌, [], ℕ, ◌+◌, ◌<◌, ◌≤◌, ◌^◌, Bool, true, false, List}
use Rattle.std.proofs.Common.{add-one, ap, arith, sym, refl, cond}
use Rattle.std.proofs.lemmas.List.{map-append}
use Rattle.std.proofs.lemmas.List.Sums.{sum_by-append, sum_by-cons}
use Rattle.std.specs.Prelude.{count_by, map, sum_by}
use Rattle.ufs_spec.specs.Dies.{DieState}
use Rattle.ufs_spec.specs.Keys.{below}
use Rattle.die_map.specs.States.{block_state_of, states_below}
use Rattle.die_map.specs.declared.survey.BlockState.{BlockState}

-- so many of the first k blocks are so, and no more than there are
pub record IsCount (test : BlockState → Bool) (d : DieState) (k count : ℕ) : Type 0 where
  pub counted : count ≡ count_by test (states_below d k)
  pub few : count ≤ k

one_more : (test : BlockState → Bool) (states : List BlockState) (s : BlockState) →
    count_by test (states ++ s ∷ []) ≡ count_by test states + cond (test s) 1 0
one_more test states s =
    let one : BlockState → ℕ = λ x. cond (test x) 1 0 in
    let joined = sum_by-append one states (s ∷ []) in
    let last = sum_by-cons one s [] in
    let none : sum_by one [] ≡ 0 = refl in
    omega (arith, joined, last, none)

below_more : (k : ℕ) → below (k + 1) ≡ below k ++ k ∷ []
below_more k = ap below (add-one k)

states_more : (d : DieState) (k : ℕ) → states_below d (k + 1) ≡ states_below d k ++ block_state_of d k ∷ []
states_more d k = ap (map (block_state_of d)) (below_more k) ∙ map-append (block_state_of d) (below k) (k ∷ [])

-- one block more
pub count_more : (test : BlockState → Bool) (d : DieState) (k old new : ℕ) (s : BlockState) → k + 1 < 2 ^ 16 →
    s ≡ block_state_of d k → IsCount test d k old →
    (old + 1 < 2 ^ 16 → new ≡ old + cond (test s) 1 0) → IsCount test d (k + 1) new
count_more test d k old new s room is before told =
    let few = before.few in
    let now = told (omega (arith, few, room)) in
    let one : cond (test s) 1 0 ≤ 1 =
    elim (test s) as (λ v. cond v 1 0 ≤ 1) [ true ↦ omega arith | false ↦ omega arith ] in
    record {
      counted =
          now ∙ ap (λ m. m + cond (test s) 1 0) before.counted
          ∙ ap (λ x. count_by test (states_below d k) + cond (test x) 1 0) is
          ∙ sym (ap (count_by test) (states_more d k) ∙ one_more test (states_below d k) (block_state_of d k));
      few = omega (arith, now, one, few);
    }
