use Rattle.recovery.proofs.Common.{List, Some, [], ap, arith, cases_lt, false, found_block, get_grows, get_last, get_or}
use Rattle.recovery.proofs.Common.{get_or_from_slice_get, length, length-append, slice_get, slice_get_within, sym, ℕ}
use Rattle.recovery.proofs.Common.{⊎_elim, ◌++◌, ◌+◌, ◌<◌, ◌∙◌, ◌∷◌, ◌≡◌, ◌≤◌}
use Rattle.recovery.specs.declared.keys.FoundBlock.{FoundBlock}
use Rattle.recovery.proofs.keys.block_states.Goals as goal

-- a list that has what is told of each of the first numbers, with one more
one_more : {X : Type 0} (told : ℕ → X) (xs : List X) (n : ℕ) (x : X) → length xs ≡ n → x ≡ told n →
    ((i : ℕ) → i < n → slice_get xs i ≡ Some (told i)) → (i : ℕ) → i < n + 1 →
    slice_get (xs ++ x ∷ []) i ≡ Some (told i)
one_more told xs n x long is before i l =
    ⊎_elim
    (λ (m : i < n). get_grows xs x i (told i) (before i m))
    (λ (m : n ≤ i).
    let same : i ≡ n = omega (arith, l, m) in
    ap (slice_get (xs ++ x ∷ [])) (same ∙ sym long) ∙ (get_last xs x ∙ ap Some (is ∙ ap told (sym same))))
    (cases_lt i n)

pub loop-index-preserved : goal.loop-index-preserved
loop-index-preserved c =
    let told : ℕ → FoundBlock =
    λ i. found_block (get_or c.args.free.now i false) (get_or c.args.opening.now i false)
    (get_or c.args.bad.now i false) in
    let states : List FoundBlock = c.loop-index.states.items in
    let items = c.in_ok-push.ensures.items in
    let more = ap length items ∙ length-append states (c.found_block.result ∷ []) in
    let long = c.loop-index.invariant.long in
    record {
      long = omega (arith, more, long);
      states = λ i l.
          ap (λ (xs : List FoundBlock). slice_get xs i) items
          ∙ one_more told states c.loop-index.index c.found_block.result long c.found_block.ensures
          c.loop-index.invariant.states i l;
    }

pub returns-clause-states : goal.returns-clause-states
returns-clause-states c = λ i is_free opens is_bad free opening bad.
    let within = slice_get_within c.args.bad.now i is_bad bad in
    let end = c.loop-index-test.false in
    let is = get_or_from_slice_get c.args.free.now i is_free false free in
    let has = get_or_from_slice_get c.args.opening.now i opens false opening in
    let fails = get_or_from_slice_get c.args.bad.now i is_bad false bad in
    c.loop-index.invariant.states i (omega (arith, within, end))
    ∙ (λ j. Some (found_block (is j) (has j) (fails j)))
