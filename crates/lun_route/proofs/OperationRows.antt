-- What is found among the rows that a unit takes, and the entries of one row more.
use Rattle.std.proofs.Common.{◌≡◌, ℕ, ◌+◌, ◌<◌, ◌&&◌, Bool, true, false, cond, List, [], ◌∷◌, ◌++◌, length, find, take}
use Rattle.std.proofs.Common.{filter, get_or, if◌then◌else◌, Some, refl, sym, ap, ◌∙◌}
use Rattle.std.specs.List.{flat_map}
use Rattle.std.proofs.lemmas.List.{append-nil, take_more}
use Rattle.std.proofs.lemmas.List.Concat.{flat_map-append}
use Rattle.std.proofs.lemmas.List.Elements.{filter-append}
use Rattle.ufs_spec.specs.declared.operations.Row.{Row}

-- what passes both tests is found among what passes the first
pub find_filtered : {X : Type 0} (p q : X → Bool) (xs : List X) → find (λ x. p x && q x) xs ≡ find q (filter p xs)
find_filtered p q [] = refl
find_filtered {X} p q (x ∷ xs) = by (p x) (find_filtered p q xs)
  where
    by : (b : Bool) → find (λ (y : X). p y && q y) xs ≡ find q (filter p xs) →
        cond (b && q x) (Some x) (find (λ (y : X). p y && q y) xs) ≡ find q (cond b (x ∷ filter p xs) (filter p xs))
    by true rest = ap (cond (q x) (Some x)) rest
    by false rest = rest

-- the entry of one row, if it passes
one_entry : (f : Row → List ℕ) (p : Row → Bool) (row : Row) →
    flat_map f (filter p (row ∷ [])) ≡ (if p row then f row else [])
one_entry f p row = by (p row)
  where
    by : (b : Bool) → flat_map f (if b then row ∷ [] else []) ≡ (if b then f row else [])
    by true = append-nil (f row)
    by false = refl

-- the entry of one row more, if it passes
entry_more : (f : Row → List ℕ) (p : Row → Bool) (rows : List Row) (i : ℕ) (d : Row) → i < length rows →
    flat_map f (filter p (take (i + 1) rows))
    ≡ flat_map f (filter p (take i rows)) ++ (if p (get_or rows i d) then f (get_or rows i d) else [])
entry_more f p rows i d l =
    ap (λ (xs : List Row). flat_map f (filter p xs)) (take_more rows i d l)
    ∙ ap (flat_map f) (filter-append p (take i rows) (get_or rows i d ∷ []))
    ∙ flat_map-append f (filter p (take i rows)) (filter p (get_or rows i d ∷ []))
    ∙ ap (λ (last : List ℕ). flat_map f (filter p (take i rows)) ++ last) (one_entry f p (get_or rows i d))

-- the same where these are the entries before it and after it
pub entries_more : (f : Row → List ℕ) (p : Row → Bool) (rows : List Row) (i : ℕ) (d : Row) (old new : List ℕ) →
    i < length rows → old ≡ flat_map f (filter p (take i rows)) →
    new ≡ old ++ (if p (get_or rows i d) then f (get_or rows i d) else []) →
    new ≡ flat_map f (filter p (take (i + 1) rows))
entries_more f p rows i d old new l before after =
    after
    ∙ ap (λ (bytes : List ℕ). bytes ++ (if p (get_or rows i d) then f (get_or rows i d) else [])) before
    ∙ sym (entry_more f p rows i d l)
