-- What calls leave as it is in each page, and what tests say then.
use Rattle.write_cache.proofs.Common.{Bool, List, None, Option, Pending, Place, Rest, Some, [], ap, awaits, completed}
use Rattle.write_cache.proofs.Common.{completed_by, cond, false, map, passes, refl, rests_filled, same_Some, slice_get}
use Rattle.write_cache.proofs.Common.{slice_get-map, slice_set, suc, sym, tells, true, written_at, zero, ℕ, ◌∙◌, ◌∷◌}
use Rattle.write_cache.proofs.Common.{◌≡◌}
use Rattle.std.proofs.Common.{option_map}
use Rattle.ufs_spec.specs.declared.layer.Name.{Name}

abbrev pub rest_of : Pending → Option Rest
rest_of p = p.rest

abbrev pub place_of : Pending → Option Place
place_of p = p.written

passes_mapped : {B : Type 0} (f : Pending → B) (g : B → Bool) (ps : List Pending) (k : ℕ) →
    passes (λ p. g (f p)) ps k ≡ passes g (map f ps) k
passes_mapped {B} f g ps k =
    sym (ap (tells g) (slice_get-map f ps k) ∙ by (slice_get ps k))
  where
    by : (o : Option Pending) → tells g (option_map f o) ≡ tells (λ p. g (f p)) o
    by None = refl
    by (Some p) = refl

-- a test of what stays says of each page what it said before
pub same_passes : {B : Type 0} (f : Pending → B) (g : B → Bool) (ps qs : List Pending) → map f qs ≡ map f ps →
    (k : ℕ) → passes (λ p. g (f p)) qs k ≡ passes (λ p. g (f p)) ps k
same_passes {B} f g ps qs same k =
    passes_mapped f g qs k ∙ ap (λ (xs : List B). passes g xs k) same ∙ sym (passes_mapped f g ps k)

-- a page that is written stays as it is in all else
pub written_same : {B : Type 0} (f : Pending → B) (ps : List Pending) (k : ℕ) (place : Place) →
    ((p : Pending) → f (record p { written = Some place }) ≡ f p) → (o : Option Pending) → slice_get ps k ≡ o →
    map f (written_at ps k place o) ≡ map f ps
written_same f ps k place kept None e = refl
written_same {B} f ps k place kept (Some p) e = set ps k e
  where
    set : (ps : List Pending) (k : ℕ) → slice_get ps k ≡ Some p →
        map f (slice_set ps k (record p { written = Some place })) ≡ map f ps
    set [] k e = refl
    set (x ∷ ps) zero e = ap (λ (y : B). y ∷ map f ps) (kept p ∙ sym (ap f (same_Some x p e)))
    set (x ∷ ps) (suc k) e = ap (λ (ys : List B). f x ∷ ys) (set ps k e)

-- and so does each that has its content
pub rests_same : {B : Type 0} (f : Pending → B) →
    ((base : List ℕ) (o : Option Rest) (p : Pending) → f (completed_by base o p) ≡ f p) →
    (name : Name) (base : List ℕ) (ps : List Pending) → map f (rests_filled name base ps) ≡ map f ps
rests_same f kept name base [] = refl
rests_same {B} f kept name base (p ∷ ps) =
    by (awaits name p) (rests_same f kept name (completed base p).body ps) (rests_same f kept name base ps)
  where
    by : (c : Bool) → map f (rests_filled name (completed base p).body ps) ≡ map f ps →
        map f (rests_filled name base ps) ≡ map f ps → map f
        (cond c (completed base p ∷ rests_filled name (completed base p).body ps) (p ∷ rests_filled name base ps))
        ≡ f p ∷ map f ps
    by true filled same = λ i. kept base p.rest p i ∷ filled i
    by false filled same = ap (λ (ys : List B). f p ∷ ys) same
