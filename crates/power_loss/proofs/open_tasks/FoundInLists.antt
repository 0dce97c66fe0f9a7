-- What is found in a list that grows, in one whose elements change, and in one from which some are gone.
use Rattle.power_loss.proofs.Common.{◌≡◌, Bool, true, false, cond, not, List, [], ◌∷◌, ◌++◌, Some, None, map, sym, ap}
use Rattle.power_loss.proofs.Common.{◌∙◌, refl, subst, filter, find, list_any, false≢true, none-some, same_Some}
use Rattle.std.specs.Option.{option_or}
use Rattle.std.specs.Prelude.{◌||◌, is_some}
use Rattle.std.proofs.lemmas.List.Folds.{find-append}

pub found_more : {A : Type 0} (p : A → Bool) (xs ys : List A) {a : A} → find p xs ≡ Some a → find p (xs ++ ys) ≡ Some a
found_more p xs ys h = find-append p xs ys ∙ ap (λ y. option_or y (find p ys)) h

pub found_last : {A : Type 0} (p : A → Bool) (xs : List A) (a : A) → list_any p xs ≡ false → p a ≡ true →
    find p (xs ++ a ∷ []) ≡ Some a
found_last p [] a none is = ap (λ b. cond b (Some a) None) is
found_last p (x ∷ xs) a none is = by (p x) none (λ k. found_last p xs a k is)
  where
    by : (b : Bool) → (b || list_any p xs) ≡ false → (list_any p xs ≡ false → find p (xs ++ a ∷ []) ≡ Some a) →
        cond b (Some x) (find p (xs ++ a ∷ [])) ≡ Some a
    by true k rest = absurd (false≢true (sym k))
    by false k rest = rest k

pub found_is : {A : Type 0} (p : A → Bool) (xs : List A) (a : A) → find p xs ≡ Some a → p a ≡ true
found_is p [] a h = absurd (none-some a h)
found_is p (x ∷ xs) a h = by (p x) refl h (found_is p xs a)
  where
    by : (b : Bool) → p x ≡ b → cond b (Some x) (find p xs) ≡ Some a → (find p xs ≡ Some a → p a ≡ true) → p a ≡ true
    by true e k rest = subst (λ y. p y ≡ true) (same_Some x a k) e
    by false e k rest = rest k

pub found_map : {A : Type 0} (p : A → Bool) (f : A → A) → ((x : A) → p (f x) ≡ p x) → (xs : List A) (a : A) →
    find p xs ≡ Some a → find p (map f xs) ≡ Some (f a)
found_map p f same [] a h = absurd (none-some a h)
found_map p f same (x ∷ xs) a h = by (p x) refl h (found_map p f same xs a)
  where
    by : (b : Bool) → p x ≡ b → cond b (Some x) (find p xs) ≡ Some a → (find p xs ≡ Some a →
        find p (map f xs) ≡ Some (f a)) → cond (p (f x)) (Some (f x)) (find p (map f xs)) ≡ Some (f a)
    by true e k rest = ap (λ b. cond b (Some (f x)) (find p (map f xs))) (same x ∙ e)
        ∙ ap (λ y. Some (f y)) (same_Some x a k)
    by false e k rest = ap (λ b. cond b (Some (f x)) (find p (map f xs))) (same x ∙ e) ∙ rest k

-- where all that are looked for are gone
pub found_gone : {A : Type 0} (p : A → Bool) (xs : List A) → find p (filter (λ x. not (p x)) xs) ≡ None
found_gone p [] = refl
found_gone p (x ∷ xs) = by (p x) refl (found_gone p xs)
  where
    by : (b : Bool) → p x ≡ b → find p (filter (λ y. not (p y)) xs) ≡ None →
        find p (cond (not b) (x ∷ filter (λ y. not (p y)) xs) (filter (λ y. not (p y)) xs)) ≡ None
    by true e rest = rest
    by false e rest = ap (λ b. cond b (Some x) (find p (filter (λ y. not (p y)) xs))) e ∙ rest

-- where only others are gone
pub found_left : {A : Type 0} (p q : A → Bool) → ((x : A) → p x ≡ true → q x ≡ true) → (xs : List A) (a : A) →
    find p xs ≡ Some a → find p (filter q xs) ≡ Some a
found_left p q keeps [] a h = absurd (none-some a h)
found_left p q keeps (x ∷ xs) a h = by (p x) (q x) refl refl h (found_left p q keeps xs a)
  where
    by : (b c : Bool) → p x ≡ b → q x ≡ c → cond b (Some x) (find p xs) ≡ Some a →
        (find p xs ≡ Some a → find p (filter q xs) ≡ Some a) → find p (cond c (x ∷ filter q xs) (filter q xs)) ≡ Some a
    by true true e g k rest = ap (λ y. cond y (Some x) (find p (filter q xs))) e ∙ k
    by true false e g k rest = absurd (false≢true (sym g ∙ keeps x e))
    by false true e g k rest = ap (λ y. cond y (Some x) (find p (filter q xs))) e ∙ rest k
    by false false e g k rest = rest k

pub none_left : {A : Type 0} (p q : A → Bool) (xs : List A) → list_any p xs ≡ false → find p (filter q xs) ≡ None
none_left p q [] h = refl
none_left p q (x ∷ xs) h = by (p x) (q x) refl h (none_left p q xs)
  where
    by : (b c : Bool) → p x ≡ b → (b || list_any p xs) ≡ false → (list_any p xs ≡ false → find p (filter q xs) ≡ None) →
        find p (cond c (x ∷ filter q xs) (filter q xs)) ≡ None
    by true c e k rest = absurd (false≢true (sym k))
    by false true e k rest = ap (λ y. cond y (Some x) (find p (filter q xs))) e ∙ rest k
    by false false e k rest = rest k

pub none_found : {A : Type 0} (p : A → Bool) (xs : List A) → list_any p xs ≡ false → find p xs ≡ None
none_found p [] h = refl
none_found p (x ∷ xs) h = by (p x) h (none_found p xs)
  where
    by : (b : Bool) → (b || list_any p xs) ≡ false → (list_any p xs ≡ false → find p xs ≡ None) →
        cond b (Some x) (find p xs) ≡ None
    by true k rest = absurd (false≢true (sym k))
    by false k rest = rest k

-- whether any is found
pub some_map : {A : Type 0} (p : A → Bool) (f : A → A) → ((x : A) → p (f x) ≡ p x) → (xs : List A) →
    is_some (find p (map f xs)) ≡ is_some (find p xs)
some_map p f same [] = refl
some_map p f same (x ∷ xs) = by (p x) (p (f x)) (same x) (some_map p f same xs)
  where
    by : (b c : Bool) → c ≡ b → is_some (find p (map f xs)) ≡ is_some (find p xs) →
        is_some (cond c (Some (f x)) (find p (map f xs))) ≡ is_some (cond b (Some x) (find p xs))
    by true true e rest = refl
    by false false e rest = rest
    by true false e rest = absurd (false≢true e)
    by false true e rest = absurd (false≢true (sym e))
