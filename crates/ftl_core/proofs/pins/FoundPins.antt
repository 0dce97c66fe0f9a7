-- The pin of a block of a reader, which is the only one of this block.
use Rattle.ftl_core.proofs.Common.{Bool, Entry, List, Name, None, Option, Pin, PinKept, PinsKept, Some, [], and_parts}
use Rattle.ftl_core.proofs.Common.{ap, eqb-true, false, false≢true, filter, find, find_behind, is_pin_of, none-some}
use Rattle.ftl_core.proofs.Common.{option_and_then, option_map, position, refl, same_Some, slice_get, subst, suc, sym}
use Rattle.ftl_core.proofs.Common.{true, ℕ, ⊎_elim, ◌&&◌, ◌∙◌, ◌∷◌, ◌≡◌}
use Rattle.std.proofs.Common.{◌==◌}
use Rattle.std.proofs.lemmas.List.Folds.{find_at}
use Rattle.std.specs.List.{position_or_len}
use Rattle.std.specs.Prelude.{cond, map}
use Rattle.ufs_spec.proofs.Lists.{find_here, position_behind, position_cases, position_here}
use Rattle.ufs_spec.specs.Moves as move
use Rattle.ufs_spec.specs.Translation as layer

-- Lists

module _ {X : Type 0} (test : X → Bool) where
  -- what is found passes
  pub found_passes : (xs : List X) (x : X) → find test xs ≡ Some x → test x ≡ true
  found_passes [] x e = absurd (none-some x e)
  found_passes (y ∷ ys) x e = by (test y) refl e (found_passes ys x)
    where
      by : (b : Bool) → test y ≡ b → cond b (Some y) (find test ys) ≡ Some x →
          (find test ys ≡ Some x → test x ≡ true) → test x ≡ true
      by true f h behind = ap test (sym (same_Some y x h)) ∙ f
      by false f h behind = behind h

  -- it stands at the position of the first that passes
  pub found_at : (xs : List X) → find test xs ≡ option_and_then (slice_get xs) (position test xs)
  found_at [] = refl
  found_at (x ∷ xs) = by (test x) refl (found_at xs)
    where
      behind : (k : Option ℕ) → option_and_then (slice_get (x ∷ xs)) (option_map suc k) ≡
          option_and_then (slice_get xs) k
      behind None = refl
      behind (Some k) = refl

      by : (b : Bool) → test x ≡ b → find test xs ≡ option_and_then (slice_get xs) (position test xs) →
          find test (x ∷ xs) ≡ option_and_then (slice_get (x ∷ xs)) (position test (x ∷ xs))
      by true e rest =
          find_here test x xs e ∙ sym (ap (option_and_then (slice_get (x ∷ xs))) (position_here test x xs e))
      by false e rest = find_behind test x xs e ∙ rest ∙ sym (behind (position test xs))
          ∙ sym (ap (option_and_then (slice_get (x ∷ xs))) (position_behind test x xs e))

  -- where none has a position, none passes
  pub position_missed : (xs : List X) → position test xs ≡ None → (j : ℕ) (y : X) → slice_get xs j ≡ Some y →
      test y ≡ false
  position_missed xs h = ⊎_elim
      (λ (r : (i : ℕ) × (x : X) × (position test xs ≡ Some i) × (slice_get xs i ≡ Some x) × (test x ≡ true)).
      absurd (none-some r.0 (sym h ∙ r.2)))
      (λ (r : (position test xs ≡ None) × ((j : ℕ) (y : X) → slice_get xs j ≡ Some y → test y ≡ false)). r.1)
      (position_cases test xs)

  -- all are changed, and pass as before
  pub found_mapped : (f : X → X) → ((x : X) → test (f x) ≡ test x) → (xs : List X) →
      find test (map f xs) ≡ option_map f (find test xs)
  found_mapped f same [] = refl
  found_mapped f same (x ∷ xs) =
      (λ i. cond (same x i) (Some (f x)) (found_mapped f same xs i)) ∙ by (test x)
    where
      by : (b : Bool) → cond b (Some (f x)) (option_map f (find test xs)) ≡
          option_map f (cond b (Some x) (find test xs))
      by true = refl
      by false = refl

  -- all that pass are kept
  pub found_kept : (kept : X → Bool) → ((x : X) → test x ≡ true → kept x ≡ true) → (xs : List X) →
      find test (filter kept xs) ≡ find test xs
  found_kept kept stays [] = refl
  found_kept kept stays (x ∷ xs) = by (kept x) (test x) refl refl (found_kept kept stays xs)
    where
      by : (a b : Bool) → kept x ≡ a → test x ≡ b → find test (filter kept xs) ≡ find test xs →
          find test (cond a (x ∷ filter kept xs) (filter kept xs)) ≡ cond b (Some x) (find test xs)
      by true b e f rest = λ i. cond (f i) (Some x) (rest i)
      by false true e f rest = absurd (false≢true (sym e ∙ stays x f))
      by false false e f rest = rest

-- Readers

-- one test passes on both sides
pub same_test : (frontier : ℕ) (entries : Name → Option Entry) (reader index : ℕ) (p : Pin) (q : layer.Pin) →
    PinKept frontier entries p q → move.is_pin_of reader index q ≡ is_pin_of reader index p
same_test frontier entries reader index p q h = λ i. (h.tag i == reader) && (h.index i == index)

-- a pin of a block is of its reader and its index
pub pin_told : (reader index : ℕ) (p : Pin) → is_pin_of reader index p ≡ true → (p.reader ≡ reader) × (p.index ≡ index)
pin_told reader index p h =
    let r = and_parts (p.reader == reader) (p.index == index) h in
    (eqb-true p.reader reader r.0, eqb-true p.index index r.1)

-- it stands for that of the task's block
abbrev pub FoundKept : ℕ → (Name → Option Entry) → Option Pin → Option layer.Pin → Type 0
FoundKept frontier entries None None = Unit {0}
FoundKept frontier entries (Some p) (Some q) = PinKept frontier entries p q
FoundKept frontier entries p q = ⊥

pub pins_found : (frontier : ℕ) (entries : Name → Option Entry) (reader index : ℕ) (ps : List Pin)
    (qs : List layer.Pin) → PinsKept frontier entries ps qs →
    FoundKept frontier entries (find (is_pin_of reader index) ps) (find (move.is_pin_of reader index) qs)
pins_found frontier entries reader index [] [] h = tt
pins_found frontier entries reader index [] (q ∷ qs) h = absurd h
pins_found frontier entries reader index (p ∷ ps) [] h = absurd h
pins_found frontier entries reader index (p ∷ ps) (q ∷ qs) h =
    by (is_pin_of reader index p) (move.is_pin_of reader index q) (same_test frontier entries reader index p q h.0)
    (pins_found frontier entries reader index ps qs h.1)
  where
    by : (a b : Bool) → b ≡ a →
        FoundKept frontier entries (find (is_pin_of reader index) ps) (find (move.is_pin_of reader index) qs) →
        FoundKept frontier entries (cond a (Some p) (find (is_pin_of reader index) ps))
        (cond b (Some q) (find (move.is_pin_of reader index) qs))
    by true true e rest = h.0
    by true false e rest = cc
    by false true e rest = cc
    by false false e rest = rest

-- where the reader keeps something, so does its task
pub pin_found : (frontier : ℕ) (entries : Name → Option Entry) (reader index : ℕ) (ps : List Pin) (qs : List layer.Pin)
    (p : Pin) → PinsKept frontier entries ps qs → find (is_pin_of reader index) ps ≡ Some p →
    (q : layer.Pin) × (find (move.is_pin_of reader index) qs ≡ Some q) × PinKept frontier entries p q
pin_found frontier entries reader index ps qs p h e =
    by (find (is_pin_of reader index) ps) (find (move.is_pin_of reader index) qs) e
    (pins_found frontier entries reader index ps qs h)
  where
    by : (o : Option Pin) (r : Option layer.Pin) → o ≡ Some p → FoundKept frontier entries o r →
        (q : layer.Pin) × (r ≡ Some q) × PinKept frontier entries p q
    by None r f k = absurd (none-some p f)
    by (Some x) None f k = absurd k
    by (Some x) (Some q) f k =
        (q, refl, subst (λ (z : Pin). PinKept frontier entries z q) (same_Some x p f) k)

-- where the reader's pin stands
pub found_there : {X : Type 0} (test : X → Bool) (xs : List X) (x : X) → find test xs ≡ Some x →
    (k : ℕ) × (slice_get xs k ≡ Some x)
found_there test xs x e = (position_or_len test xs, sym (find_at test xs) ∙ e)
