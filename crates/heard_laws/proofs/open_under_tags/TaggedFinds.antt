-- What is found under a tag in a list where no tag stands twice, once one is added, goes or changes.
use Rattle.heard_laws.proofs.Common.{Bool, List, None, Some, TagsDiffer, [], ap, cond, cond-false, cond-true, eqb-true}
use Rattle.heard_laws.proofs.Common.{false, false≢true, filter, find, list_any, map, none-some, none_found, option_map}
use Rattle.heard_laws.proofs.Common.{refl, same_Some, sym, true, ℕ, ◌++◌, ◌==◌, ◌∙◌, ◌∷◌, ◌≡◌}
use Rattle.std.specs.Prelude.{◌||◌}

-- a test of a changed element
pub find_map : {A : Type 0} (p : A → Bool) (f : A → A) → ((x : A) → p (f x) ≡ p x) → (xs : List A) →
    find p (map f xs) ≡ option_map f (find p xs)
find_map p f same [] = refl
find_map p f same (x ∷ xs) = by (p x) refl (find_map p f same xs)
  where
    by : (b : Bool) → p x ≡ b → find p (map f xs) ≡ option_map f (find p xs) →
        cond (p (f x)) (Some (f x)) (find p (map f xs)) ≡ option_map f (cond b (Some x) (find p xs))
    by true e rest = cond-true (p (f x)) (Some (f x)) (find p (map f xs)) (same x ∙ e)
    by false e rest = cond-false (p (f x)) (Some (f x)) (find p (map f xs)) (same x ∙ e) ∙ rest

-- one more that does not pass, and one more that passes where none did
pub find_more : {A : Type 0} (p : A → Bool) (xs : List A) (x : A) → p x ≡ false →
    find p (xs ++ x ∷ []) ≡ find p xs
find_more p [] x off = cond-false (p x) (Some x) None off
find_more p (y ∷ ys) x off = by (p y) (find_more p ys x off)
  where
    by : (b : Bool) → find p (ys ++ x ∷ []) ≡ find p ys →
        cond b (Some y) (find p (ys ++ x ∷ [])) ≡ cond b (Some y) (find p ys)
    by true rest = refl
    by false rest = rest

pub find_new : {A : Type 0} (p : A → Bool) (xs : List A) (x : A) → find p xs ≡ None → p x ≡ true →
    find p (xs ++ x ∷ []) ≡ Some x
find_new p [] x none on = cond-true (p x) (Some x) None on
find_new p (y ∷ ys) x none on = by (p y) refl none (λ k. find_new p ys x k on)
  where
    by : (b : Bool) → p y ≡ b → cond b (Some y) (find p ys) ≡ None →
        (find p ys ≡ None → find p (ys ++ x ∷ []) ≡ Some x) →
        cond b (Some y) (find p (ys ++ x ∷ [])) ≡ Some x
    by true e k rest = absurd (none-some y (sym k))
    by false e k rest = rest k

-- where none passes
pub none_any : {A : Type 0} (p : A → Bool) (xs : List A) → find p xs ≡ None → list_any p xs ≡ false
none_any p [] e = refl
none_any p (x ∷ xs) e = by (p x) e (none_any p xs)
  where
    by : (b : Bool) → cond b (Some x) (find p xs) ≡ None → (find p xs ≡ None → list_any p xs ≡ false) →
        (b || list_any p xs) ≡ false
    by true k rest = absurd (none-some x (sym k))
    by false k rest = rest k

-- Some are gone

-- those that pass all stay
pub find_left : {A : Type 0} (p q : A → Bool) (xs : List A) → ((x : A) → p x ≡ true → q x ≡ true) →
    find p (filter q xs) ≡ find p xs
find_left p q [] keeps = refl
find_left p q (x ∷ xs) keeps = by (p x) (q x) refl refl (find_left p q xs keeps)
  where
    by : (b c : Bool) → p x ≡ b → q x ≡ c → find p (filter q xs) ≡ find p xs →
        find p (cond c (x ∷ filter q xs) (filter q xs)) ≡ cond b (Some x) (find p xs)
    by true true e g rest = cond-true (p x) (Some x) (find p (filter q xs)) e
    by true false e g rest = absurd (false≢true (sym g ∙ keeps x e))
    by false true e g rest = cond-false (p x) (Some x) (find p (filter q xs)) e ∙ rest
    by false false e g rest = rest

-- none is found where none was
pub find_none : {A : Type 0} (p q : A → Bool) (xs : List A) → find p xs ≡ None → find p (filter q xs) ≡ None
find_none p q [] e = refl
find_none p q (x ∷ xs) e = by (p x) (q x) refl e (find_none p q xs)
  where
    by : (b c : Bool) → p x ≡ b → cond b (Some x) (find p xs) ≡ None →
        (find p xs ≡ None → find p (filter q xs) ≡ None) →
        find p (cond c (x ∷ filter q xs) (filter q xs)) ≡ None
    by true c e k rest = absurd (none-some x (sym k))
    by false true e k rest = cond-false (p x) (Some x) (find p (filter q xs)) e ∙ rest k
    by false false e k rest = rest k

-- the one that is found stays, or is gone where no tag stands twice
pub find_kept : {A : Type 0} (p q : A → Bool) (xs : List A) (x : A) → find p xs ≡ Some x → q x ≡ true →
    find p (filter q xs) ≡ Some x
find_kept p q [] x e is = absurd (none-some x e)
find_kept p q (y ∷ ys) x e is = by (p y) (q y) refl refl e (λ k. find_kept p q ys x k is)
  where
    by : (b c : Bool) → p y ≡ b → q y ≡ c → cond b (Some y) (find p ys) ≡ Some x →
        (find p ys ≡ Some x → find p (filter q ys) ≡ Some x) →
        find p (cond c (y ∷ filter q ys) (filter q ys)) ≡ Some x
    by true true f g k rest = cond-true (p y) (Some y) (find p (filter q ys)) f ∙ k
    by true false f g k rest = absurd (false≢true (sym g ∙ (ap q (same_Some y x k) ∙ is)))
    by false true f g k rest = cond-false (p y) (Some y) (find p (filter q ys)) f ∙ rest k
    by false false f g k rest = rest k

pub find_dropped : {A : Type 0} (tag_of : A → ℕ) (tag : ℕ) (q : A → Bool) (xs : List A) (x : A) →
    TagsDiffer tag_of xs → find (λ y. tag_of y == tag) xs ≡ Some x → q x ≡ false →
    find (λ y. tag_of y == tag) (filter q xs) ≡ None
find_dropped tag_of tag q [] x differ e off = absurd (none-some x e)
find_dropped {A} tag_of tag q (y ∷ ys) x differ e off =
    by (tag_of y == tag) (q y) refl refl e (λ k. find_dropped tag_of tag q ys x differ.1 k off)
  where
    p : A → Bool
    p z = tag_of z == tag

    by : (b c : Bool) → (tag_of y == tag) ≡ b → q y ≡ c → cond b (Some y) (find p ys) ≡ Some x →
        (find p ys ≡ Some x → find p (filter q ys) ≡ None) →
        find p (cond c (y ∷ filter q ys) (filter q ys)) ≡ None
    by true true f g k rest = absurd (false≢true (sym (ap q (same_Some y x k) ∙ off) ∙ g))
    by true false f g k rest =
        find_none p q ys
        (none_found p ys (ap (λ (n : ℕ). list_any (λ z. tag_of z == n) ys) (sym (eqb-true (tag_of y) tag f))
        ∙ differ.0))
    by false true f g k rest = cond-false (p y) (Some y) (find p (filter q ys)) f ∙ rest k
    by false false f g k rest = rest k
