-- The names of the pages of groups that are numbered from one number on: how many there are, which they are, and that
-- they differ.
use Rattle.ftl_core.proofs.Common.{Group, IsIn, List, Name, Some, [], ap, append_assoc, arith, at_has, below, get_below}
use Rattle.ftl_core.proofs.Common.{inl, inr, length, length-append, length-below, length-map, map, mapped_at, name_at}
use Rattle.ftl_core.proofs.Common.{names_after, names_of, none-some, refl, same_Some, slice_get, subst, suc}
use Rattle.ftl_core.proofs.Common.{sum_by-cons, sym, zero, ℕ, ⊎_elim, ◌++◌, ◌+◌, ◌<◌, ◌∙◌, ◌∷◌, ◌≡◌, ◌≤◌, ◌⊎◌}
use Rattle.std.proofs.Common.{sum_by, ◌-◌}
use Rattle.power_loss.proofs.jobs_owed.WhatWaits.{name_of_group}
use Rattle.power_loss.proofs.ordered_lists.ElementsAndOrders.{in_below, in_left, in_map, in_right}

-- a name by its parts
pub name_is : (name : Name) {n i : ℕ} → name.number ≡ n → name.index ≡ i → name ≡ name_at n i
name_is name e f = λ j. record { number = e j; index = f j }

-- an element of two lists, one behind the other
pub get_either : {A : Type 0} (xs ys : List A) (k : ℕ) (x : A) → slice_get (xs ++ ys) k ≡ Some x →
    ((k < length xs) × (slice_get xs k ≡ Some x)) ⊎ ((length xs ≤ k) × (slice_get ys (k - length xs) ≡ Some x))
get_either [] ys k x h = inr (omega arith, ap (slice_get ys) (same k) ∙ h)
  where
    same : (k : ℕ) → k - 0 ≡ k
    same k = omega arith
get_either (y ∷ xs) ys zero x h = inl (omega arith, h)
get_either (y ∷ xs) ys (suc k) x h =
    ⊎_elim
    (λ (r : (k < length xs) × (slice_get xs k ≡ Some x)). let l = r.0 in inl (omega arith, r.1))
    (λ (r : (length xs ≤ k) × (slice_get ys (k - length xs) ≡ Some x)).
    let l = r.0 in inr (omega arith, ap (slice_get ys) (less k (length xs)) ∙ r.1))
    (get_either xs ys k x h)
  where
    less : (k n : ℕ) → suc k - suc n ≡ k - n
    less k n = omega arith

-- How many

pub count_names : (n : ℕ) (gs : List Group) → length (names_after n gs) ≡ sum_by length gs
count_names n [] = refl
count_names n (g ∷ gs) =
    let front = length-map (below (length g)) (name_at (n + 1)) in
    let long = length-below (length g) in
    let both = length-append (names_of (n + 1) g) (names_after (n + 1) gs) in
    let rest = count_names (n + 1) gs in
    let all = sum_by-cons length g gs in
    omega (arith, front, long, both, rest, all)

-- More groups

pub names_more : (n : ℕ) (gs hs : List Group) →
    names_after n (gs ++ hs) ≡ names_after n gs ++ names_after (n + length gs) hs
names_more n [] hs = ap (λ (m : ℕ). names_after m hs) (same n)
  where
    same : (n : ℕ) → n ≡ n + 0
    same n = omega arith
names_more n (g ∷ gs) hs =
    ap (λ (names : List Name). names_of (n + 1) g ++ names) (names_more (n + 1) gs hs)
    ∙ (ap (λ (m : ℕ). names_of (n + 1) g ++ (names_after (n + 1) gs ++ names_after m hs)) (next n (length gs))
    ∙ sym (append_assoc (names_of (n + 1) g) (names_after (n + 1) gs) (names_after (n + suc (length gs)) hs)))
  where
    next : (n k : ℕ) → n + 1 + k ≡ n + suc k
    next n k = omega arith

-- Which

-- a name has a group, and a page of it
pub record IsOfGroups (n : ℕ) (gs : List Group) (name : Name) : Type 0 where
  pub above : n < name.number
  pub group : Group
  pub is : slice_get gs (name.number - n - 1) ≡ Some group
  pub index : name.index < length group

pub in_names : (n : ℕ) (gs : List Group) (name : Name) → IsIn name (names_after n gs) → IsOfGroups n gs name
in_names n gs name h =
    let r = name_of_group n gs name h in
    let e = r.number in
    let at : name.number - n - 1 ≡ r.at = omega arith in
    record { above = omega arith; group = r.group; is = ap (slice_get gs) at ∙ r.is; index = r.index }

-- the page of a group has a name
pub page_in : (n at i : ℕ) (gs : List Group) (g : Group) → slice_get gs at ≡ Some g → i < length g →
    IsIn (name_at (n + suc at) i) (names_after n gs)
page_in n at i [] g h l = absurd (none-some g h)
page_in n zero i (x ∷ gs) g h l =
    in_left (name_at (n + 1) i) (names_of (n + 1) x) (names_after (n + 1) gs)
    (in_map (name_at (n + 1)) i (below (length x)) (in_below (length x) i (subst (λ (y : Group). i < length y)
    (sym (same_Some x g h)) l)))
page_in n (suc at) i (x ∷ gs) g h l =
    in_right (name_at (n + suc (suc at)) i) (names_of (n + 1) x) (names_after (n + 1) gs)
    (subst (λ (m : ℕ). IsIn (name_at m i) (names_after (n + 1) gs)) (next n at) (page_in (n + 1) at i gs g h l))
  where
    next : (n k : ℕ) → n + 1 + suc k ≡ n + suc (suc k)
    next n k = omega arith

pub names_in : (n : ℕ) (gs : List Group) (name : Name) → IsOfGroups n gs name → IsIn name (names_after n gs)
names_in n gs name h =
    let l = h.above in
    let e : name.number ≡ n + suc (name.number - n - 1) = omega arith in
    subst (λ (x : Name). IsIn x (names_after n gs)) (sym (name_is name e refl))
    (page_in n (name.number - n - 1) name.index gs h.group h.is h.index)

-- They differ

-- the name of a group's page stands at its index
pub get_name : (n k : ℕ) (g : Group) (name : Name) → slice_get (names_of n g) k ≡ Some name →
    (k < length g) × (name ≡ name_at n k)
get_name n k g name h =
    let r = mapped_at (name_at n) (below (length g)) k name h in
    let s = get_below (length g) k r.0 r.1 in
    let e = s.0 in
    let l = s.1 in
    (omega arith, sym r.2 ∙ ap (name_at n) s.0)

-- no name stands twice
pub names_differ : (n : ℕ) (gs : List Group) (i j : ℕ) (name : Name) → slice_get (names_after n gs) i ≡ Some name →
    slice_get (names_after n gs) j ≡ Some name → i ≡ j
names_differ n [] i j name h k = absurd (none-some name h)
names_differ n (g ∷ gs) i j name h k = by (get_either front rest i name h) (get_either front rest j name k)
    (names_differ (n + 1) gs (i - length front) (j - length front) name)
  where
    front : List Name
    front = map (name_at (n + 1)) (below (length g))

    rest : List Name
    rest = names_after (n + 1) gs

    -- no name of the first group is one of those behind it
    apart : (m q : ℕ) → slice_get front m ≡ Some name → slice_get rest q ≡ Some name → ⊥
    apart m q e f =
        let l = (in_names (n + 1) gs name (at_has (names_after (n + 1) gs) q name f)).above in
        let a = ap (λ (x : Name). x.number) (get_name (n + 1) m g name e).1 in
        omega (arith, l, a)

    by : ((i < length front) × (slice_get front i ≡ Some name))
        ⊎ ((length front ≤ i) × (slice_get rest (i - length front) ≡ Some name)) →
        ((j < length front) × (slice_get front j ≡ Some name))
        ⊎ ((length front ≤ j) × (slice_get rest (j - length front) ≡ Some name)) →
        (slice_get rest (i - length front) ≡ Some name → slice_get rest (j - length front) ≡ Some name →
        i - length front ≡ j - length front) → i ≡ j
    by (inl a) (inl b) behind =
        let x = ap (λ (z : Name). z.index) (get_name (n + 1) i g name a.1).1 in
        let y = ap (λ (z : Name). z.index) (get_name (n + 1) j g name b.1).1 in
        omega (arith, x, y)
    by (inl a) (inr b) behind = absurd (apart i (j - length front) a.1 b.1)
    by (inr a) (inl b) behind = absurd (apart j (i - length front) b.1 a.1)
    by (inr a) (inr b) behind =
        let x = a.0 in
        let y = b.0 in
        let e = behind a.1 b.1 in
        omega (arith, x, y, e)
