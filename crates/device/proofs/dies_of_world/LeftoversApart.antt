-- Leftovers on dies that differ, one more each time.
use Rattle.device.proofs.Common.{Bool, Leftover, List, ap, arith, die_of, false, get_or_default, inl, inr, length}
use Rattle.device.proofs.Common.{length-take-le, list_any, slice_index_or, subst, sym, take, true, true≢false, ℕ}
use Rattle.device.proofs.Common.{⊎_elim, ◌+◌, ◌<◌, ◌==◌, ◌∙◌, ◌≡◌, ◌≢◌, ◌⊎◌}
use Rattle.std.specs.Prelude.{All, AllPairs}
use Rattle.std.proofs.lemmas.Bool.Decides.{eqb_tells}
use Rattle.std.proofs.lemmas.List.{get_or-take}
use Rattle.std.proofs.lemmas.List.Elements.{All-from_get_or, All-get_or}
use Rattle.std.proofs.lemmas.List.Folds.{list_any_at, list_any_none}
use Rattle.ufs_spec.proofs.Facts.{eq-eqb}

abbrev pub ApartTo : List Leftover → ℕ → Type 0
ApartTo xs k = (i j : ℕ) (d : Leftover) → i < j → j < k →
    die_of (slice_index_or xs i d) ≢ die_of (slice_index_or xs j d)

-- what holds of the first elements and of the next one
each_more : {A : Type 0} (P : A → Type 0) (xs : List A) (k : ℕ) (x : A) → k < length xs →
    x ≡ slice_index_or xs k x → P x → ((i : ℕ) (d : A) → i < k → P (slice_index_or xs i d)) →
    (i : ℕ) (d : A) → i < k + 1 → P (slice_index_or xs i d)
each_more {A} P xs k x less is here before i d l =
    ⊎_elim (λ (h : ((i == k) ≡ true) × (i ≡ k)). there h.1)
    (λ (h : ((i == k) ≡ false) × (i ≢ k)). before i d (below i l h.1)) (eqb_tells i k)
  where
    below : (j : ℕ) → j < k + 1 → j ≢ k → j < k
    below j l differ = omega arith

    there : i ≡ k → P (slice_index_or xs i d)
    there e =
        subst P (is ∙ get_or_default xs k x d less ∙ sym (ap (λ (m : ℕ). slice_index_or xs m d) e)) here

-- a relation of a leftover to its die, for the next one of a list
module _ (R : ℕ → Leftover → Type 0) (xs : List Leftover) (k : ℕ) (x : Leftover) (die : ℕ) (less : k < length xs)
    (is : x ≡ slice_index_or xs k x) (its : die ≡ die_of x) where
  abbrev OfItsDie : Leftover → Type 0
  OfItsDie l = R (die_of l) l

  -- it has it if all have it
  pub next_of_all : All OfItsDie xs → R die x
  next_of_all all =
      subst (λ (d : ℕ). R d x) (sym its) (subst OfItsDie (sym is) (All-get_or OfItsDie xs k x less all))

  -- with it one more has it
  pub one_more_has : R die x → ((i : ℕ) (d : Leftover) → i < k → OfItsDie (slice_index_or xs i d)) → (i : ℕ)
      (d : Leftover) → i < k + 1 → OfItsDie (slice_index_or xs i d)
  one_more_has has = each_more OfItsDie xs k x less is (subst (λ (d : ℕ). R d x) its has)

abbrev is_on : ℕ → Leftover → Bool
is_on die l = die_of l == die

module _ (xs : List Leftover) (k : ℕ) (x : Leftover) (die : ℕ) (less : k < length xs) (is : x ≡ slice_index_or xs k x)
    (its : die ≡ die_of x) where
  long : length (take k xs) ≡ k
  long = length-take-le k xs (omega arith)

  -- the next one is as the list has it, whatever stands behind its end
  next : (d : Leftover) → slice_index_or xs k d ≡ x
  next d = get_or_default xs k d x less ∙ sym is

  -- one that is on the die of an earlier one is not apart from it
  pub apart_clash : list_any (is_on die) (take k xs) ≡ true → AllPairs (λ l m. die_of l ≢ die_of m) xs → ⊥
  apart_clash any apart =
      true≢false (sym any ∙ list_any_none (is_on die) (take k xs)
      (All-from_get_or (λ l. is_on die l ≡ false) (take k xs) x other))
    where
      other : (i : ℕ) → i < length (take k xs) → is_on die (slice_index_or (take k xs) i x) ≡ false
      other i l =
          let far = long in
          let inside : i < k = omega arith in
          let same = get_or-take k xs i x inside in
          ⊎_elim
          (λ (h : (is_on die (slice_index_or (take k xs) i x) ≡ true)
          × (die_of (slice_index_or (take k xs) i x) ≡ die)).
          absurd (apart i k x inside less (sym (ap die_of same) ∙ h.1 ∙ its ∙ ap die_of is)))
          (λ (h : (is_on die (slice_index_or (take k xs) i x) ≡ false)
          × (die_of (slice_index_or (take k xs) i x) ≢ die)). h.0)
          (eqb_tells (die_of (slice_index_or (take k xs) i x)) die)

  -- one that is on no die of an earlier one is apart from all of them
  pub apart_more : list_any (is_on die) (take k xs) ≡ false → ApartTo xs k → ApartTo xs (k + 1)
  apart_more none apart i j d before up =
      ⊎_elim (λ (h : j ≡ k). last h) (λ (h : j < k). apart i j d before h) (cases_here j up)
    where
      below : (j : ℕ) → j < k + 1 → j ≢ k → j < k
      below j l differ = omega arith

      cases_here : (j : ℕ) → j < k + 1 → (j ≡ k) ⊎ (j < k)
      cases_here j l = ⊎_elim (λ (h : ((j == k) ≡ true) × (j ≡ k)). inl h.1)
          (λ (h : ((j == k) ≡ false) × (j ≢ k)). inr (below j l h.1)) (eqb_tells j k)

      last : j ≡ k → die_of (slice_index_or xs i d) ≢ die_of (slice_index_or xs j d)
      last h e =
          let far = long in
          let inside : i < k = omega arith in
          let there : i < length (take k xs) = omega arith in
          let same : die_of (slice_index_or (take k xs) i d) ≡ die_of x =
          ap die_of (get_or-take k xs i d inside) ∙ e
          ∙ ap (λ (m : ℕ). die_of (slice_index_or xs m d)) h ∙ ap die_of (next d) in
          true≢false
          (sym (list_any_at (is_on die) (take k xs) i d there
          (eq-eqb (die_of (slice_index_or (take k xs) i d)) die (same ∙ sym its))) ∙ none)
