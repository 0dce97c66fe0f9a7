-- Lists whose elements have tags, no tag twice, and lists with a fact for each element: one comes, goes or changes.
use Rattle.power_loss.proofs.Common.{◌≡◌, ℕ, zero, suc, ◌==◌, ◌||◌, Bool, true, false, cond, List, [], ◌∷◌, ◌++◌, Some}
use Rattle.power_loss.proofs.Common.{None, map, refl, ◌∙◌, subst, arith, filter, find, AllByRecursion, list_any}
use Rattle.power_loss.proofs.Common.{nat_tests, All-filter, list_any-append, none-some, same_Some, or_parts, eqb-self}
use Rattle.power_loss.proofs.Common.{cond-false, cond-true, any_none}
use Rattle.std.specs.Prelude.{slice_get}
use Rattle.std.proofs.lemmas.List.Elements.{All-from_recursion, recursion_from_All}
use Rattle.ufs_spec.proofs.Facts.{or_from}
use Rattle.power_loss.specs.Exchange.{TagsDiffer}

pub other_way : (m n : ℕ) → (m == n) ≡ false → (n == m) ≡ false
other_way m n h = grind (arith, nat_tests)

-- A fact for each element

pub each_weaker : {A : Type 0} (P Q : A → Type 0) → ((x : A) → P x → Q x) → (xs : List A) →
    AllByRecursion P xs → AllByRecursion Q xs
each_weaker P Q keeps [] h = tt
each_weaker P Q keeps (x ∷ xs) h = (keeps x h.0, each_weaker P Q keeps xs h.1)

pub each_map : {A : Type 0} (P : A → Type 0) (f : A → A) → ((x : A) → P x → P (f x)) → (xs : List A) →
    AllByRecursion P xs → AllByRecursion P (map f xs)
each_map P f keeps [] h = tt
each_map P f keeps (x ∷ xs) h = (keeps x h.0, each_map P f keeps xs h.1)

pub each_push : {A : Type 0} (P : A → Type 0) (xs : List A) (x : A) → AllByRecursion P xs → P x →
    AllByRecursion P (xs ++ x ∷ [])
each_push P [] x h new = (new, tt)
each_push P (y ∷ ys) x h new = (h.0, each_push P ys x h.1 new)

pub each_filter : {A : Type 0} (P : A → Type 0) (q : A → Bool) (xs : List A) → AllByRecursion P xs →
    AllByRecursion P (filter q xs)
each_filter P q xs h = recursion_from_All P (filter q xs) (All-filter q P xs (All-from_recursion P xs h))

pub each_at : {A : Type 0} (P : A → Type 0) (xs : List A) (k : ℕ) (x : A) → AllByRecursion P xs →
    slice_get xs k ≡ Some x → P x
each_at P [] k x h e = absurd (none-some x e)
each_at P (y ∷ ys) zero x h e = subst P (same_Some y x e) h.0
each_at P (y ∷ ys) (suc k) x h e = each_at P ys k x h.1 e

pub each_found : {A : Type 0} (P : A → Type 0) (p : A → Bool) (xs : List A) (x : A) → AllByRecursion P xs →
    find p xs ≡ Some x → P x
each_found P p [] x h e = absurd (none-some x e)
each_found P p (y ∷ ys) x h e = by (p y) e (each_found P p ys x h.1)
  where
    by : (b : Bool) → cond b (Some y) (find p ys) ≡ Some x → (find p ys ≡ Some x → P x) → P x
    by true k rest = subst P (same_Some y x k) h.0
    by false k rest = rest k

-- None passes a test

pub any_map : {A : Type 0} (p q : A → Bool) (f : A → A) → ((x : A) → p (f x) ≡ q x) → (xs : List A) →
    list_any p (map f xs) ≡ list_any q xs
any_map p q f same [] = refl
any_map p q f same (x ∷ xs) = λ i. same x i || any_map p q f same xs i

pub any_push : {A : Type 0} (p : A → Bool) (xs : List A) (x : A) → list_any p xs ≡ false → p x ≡ false →
    list_any p (xs ++ x ∷ []) ≡ false
any_push p xs x h e = list_any-append p xs (x ∷ []) ∙ or_from _ _ h (or_from _ _ e refl)

pub any_fewer : {A : Type 0} (p q : A → Bool) (xs : List A) → list_any p xs ≡ false → list_any p (filter q xs) ≡ false
any_fewer p q [] h = refl
any_fewer p q (x ∷ xs) h =
    let both = or_parts (p x) (list_any p xs) h in
    by (q x) both.0 (any_fewer p q xs both.1)
  where
    by : (b : Bool) → p x ≡ false → list_any p (filter q xs) ≡ false →
        list_any p (cond b (x ∷ filter q xs) (filter q xs)) ≡ false
    by true first rest = or_from _ _ first rest
    by false first rest = rest

-- No tag twice

pub differ_map : {A : Type 0} (tag : A → ℕ) (f : A → A) → ((x : A) → tag (f x) ≡ tag x) → (xs : List A) →
    TagsDiffer tag xs → TagsDiffer tag (map f xs)
differ_map tag f same [] h = tt
differ_map tag f same (x ∷ xs) h = (
  any_map (λ y. tag y == tag (f x)) (λ y. tag y == tag x) f (λ y. λ i. same y i == same x i) xs ∙ h.0,
  differ_map tag f same xs h.1,
)

pub differ_push : {A : Type 0} (tag : A → ℕ) (xs : List A) (x : A) → list_any (λ y. tag y == tag x) xs ≡ false →
    TagsDiffer tag xs → TagsDiffer tag (xs ++ x ∷ [])
differ_push tag [] x new h = (refl, tt)
differ_push tag (y ∷ ys) x new h =
    let both = or_parts (tag y == tag x) (list_any (λ z. tag z == tag x) ys) new in (
      any_push (λ z. tag z == tag y) ys x h.0 (other_way (tag y) (tag x) both.0),
      differ_push tag ys x both.1 h.1,
    )

pub differ_filter : {A : Type 0} (tag : A → ℕ) (q : A → Bool) (xs : List A) → TagsDiffer tag xs →
    TagsDiffer tag (filter q xs)
differ_filter tag q [] h = tt
differ_filter tag q (x ∷ xs) h = by (q x) (any_fewer (λ y. tag y == tag x) q xs h.0) (differ_filter tag q xs h.1)
  where
    by : (b : Bool) → list_any (λ y. tag y == tag x) (filter q xs) ≡ false → TagsDiffer tag (filter q xs) →
        TagsDiffer tag (cond b (x ∷ filter q xs) (filter q xs))
    by true first rest = (first, rest)
    by false first rest = rest

-- an element is found by its tag
pub found_at : {A : Type 0} (tag : A → ℕ) (xs : List A) (k : ℕ) (x : A) → TagsDiffer tag xs →
    slice_get xs k ≡ Some x → find (λ y. tag y == tag x) xs ≡ Some x
found_at tag [] k x differ e = absurd (none-some x e)
found_at tag (y ∷ ys) zero x differ e = subst (λ z. find (λ w. tag w == tag z) (y ∷ ys) ≡ Some z) (same_Some y x e)
    (cond-true (tag y == tag y) (Some y) (find (λ w. tag w == tag y) ys) (eqb-self (tag y)))
found_at tag (y ∷ ys) (suc k) x differ e = cond-false (tag y == tag x) (Some y) (find (λ w. tag w == tag x) ys)
    (other_way (tag x) (tag y) (any_none (λ w. tag w == tag y) ys k x differ.0 e)) ∙ found_at tag ys k x differ.1 e

-- no element that is found has a tag that none has
pub none_of_tag : {A : Type 0} (p : A → Bool) (xs : List A) → AllByRecursion (λ x. p x ≡ false) xs → find p xs ≡ None
none_of_tag p [] h = refl
none_of_tag p (x ∷ xs) h = cond-false (p x) (Some x) (find p xs) h.0 ∙ none_of_tag p xs h.1
