-- Elements of lists, and lists in an order: the spots of all dies are counted die by die.
use Rattle.power_loss.proofs.Common.{◌≡◌, ℕ, zero, suc, ◌<◌, ◌⊎◌, Bool, true, false, cond, List, [], ◌∷◌, ◌++◌, map}
use Rattle.power_loss.proofs.Common.{Option, Some, None, refl, sym, ap, ◌∙◌, subst, inl, inr, ⊎_elim, arith, Contains}
use Rattle.power_loss.proofs.Common.{filter, filter_map, find, cons_option, flat_map, All-head, All-nil, All-push}
use Rattle.power_loss.proofs.Common.{All-tail, All-weaker, false≢true, none-some, same_Some, Spot, below, spots}
use Rattle.power_loss.proofs.Common.{Numbers}
use Rattle.power_loss.proofs.MachineWords.{IsBefore, IsSpot}
use Rattle.std.specs.Prelude.{All, slice_get}
use Rattle.std.proofs.lemmas.Grind.{flat_map-append}
use Rattle.ufs_spec.specs.Translation.{first_of}

-- Elements

abbrev pub IsIn : {A : Type 0} → A → List A → Type 0
IsIn x [] = ⊥
IsIn x (y ∷ ys) = (y ≡ x) ⊎ IsIn x ys

pub contained_in : {A : Type 0} {x : A} (xs : List A) → Contains xs x → IsIn x xs
contained_in [] h = let low = h.1 in absurd (omega arith)
contained_in (y ∷ ys) (zero, low, e) = inl e
contained_in {x = x} (y ∷ ys) (suc k, low, e) = inr (contained_in ys (k, (omega arith), e))

pub in_contained : {A : Type 0} {x : A} (xs : List A) → IsIn x xs → Contains xs x
in_contained [] h = absurd h
in_contained (y ∷ ys) (inl e) = (0, omega arith, e)
in_contained {x = x} (y ∷ ys) (inr h) = let r = in_contained ys h in let l = r.1 in (suc r.0, omega arith, r.2)

pub has_at : {A : Type 0} (xs : List A) (x : A) → IsIn x xs → (i : ℕ) × (slice_get xs i ≡ Some x)
has_at [] x h = absurd h
has_at (y ∷ ys) x (inl e) = (0, ap Some e)
has_at (y ∷ ys) x (inr h) = let r = has_at ys x h in (suc r.0, r.1)

pub at_has : {A : Type 0} (xs : List A) (i : ℕ) (x : A) → slice_get xs i ≡ Some x → IsIn x xs
at_has [] i x h = absurd (none-some x h)
at_has (y ∷ ys) zero x h = inl (same_Some y x h)
at_has (y ∷ ys) (suc i) x h = inr (at_has ys i x h)

-- what holds of each element holds of one
pub all_in : {A : Type 0} (P : A → Type 0) (x : A) (xs : List A) → All P xs → IsIn x xs → P x
all_in P x [] all h = absurd h
all_in P x (y ∷ ys) all (inl e) = subst P e (All-head P y ys all)
all_in P x (y ∷ ys) all (inr h) = all_in P x ys (All-tail P y ys all) h

pub in_left : {A : Type 0} (x : A) (xs ys : List A) → IsIn x xs → IsIn x (xs ++ ys)
in_left x [] ys h = absurd h
in_left x (z ∷ zs) ys (inl h) = inl h
in_left x (z ∷ zs) ys (inr h) = inr (in_left x zs ys h)

pub in_right : {A : Type 0} (x : A) (xs ys : List A) → IsIn x ys → IsIn x (xs ++ ys)
in_right x [] ys h = h
in_right x (z ∷ zs) ys h = inr (in_right x zs ys h)

pub in_either : {A : Type 0} (x : A) (xs ys : List A) → IsIn x (xs ++ ys) → IsIn x xs ⊎ IsIn x ys
in_either x [] ys h = inr h
in_either x (z ∷ zs) ys (inl h) = inl (inl h)
in_either x (z ∷ zs) ys (inr h) = ⊎_elim (λ k. inl (inr k)) (λ k. inr k) (in_either x zs ys h)

pub in_map : {A B : Type 0} (f : A → B) (x : A) (xs : List A) → IsIn x xs → IsIn (f x) (map f xs)
in_map f x [] h = absurd h
in_map f x (y ∷ ys) (inl h) = inl (ap f h)
in_map f x (y ∷ ys) (inr h) = inr (in_map f x ys h)

pub map_in : {A B : Type 0} (f : A → B) (z : B) (xs : List A) → IsIn z (map f xs) → (x : A) × IsIn x xs × (f x ≡ z)
map_in f z [] h = absurd h
map_in f z (y ∷ ys) (inl h) = (y, inl refl, h)
map_in f z (y ∷ ys) (inr h) = let r = map_in f z ys h in (r.0, inr r.1, r.2)

-- an element of a mapped list, by its place
pub mapped_at : {A B : Type 0} (f : A → B) (xs : List A) (i : ℕ) (y : B) → slice_get (map f xs) i ≡ Some y →
    (x : A) × (slice_get xs i ≡ Some x) × (f x ≡ y)
mapped_at f [] i y h = absurd (none-some y h)
mapped_at f (x ∷ xs) zero y h = (x, refl, same_Some (f x) y h)
mapped_at f (x ∷ xs) (suc i) y h = mapped_at f xs i y h

pub in_flat : {A B : Type 0} (f : A → List B) (x : A) (z : B) (xs : List A) → IsIn x xs → IsIn z (f x) →
    IsIn z (flat_map f xs)
in_flat f x z [] h k = absurd h
in_flat f x z (y ∷ ys) (inl h) k = in_left z (f y) (flat_map f ys) (subst (λ w. IsIn z (f w)) (sym h) k)
in_flat f x z (y ∷ ys) (inr h) k = in_right z (f y) (flat_map f ys) (in_flat f x z ys h k)

pub flat_in : {A B : Type 0} (f : A → List B) (z : B) (xs : List A) → IsIn z (flat_map f xs) →
    (x : A) × IsIn x xs × IsIn z (f x)
flat_in f z [] h = absurd h
flat_in f z (y ∷ ys) h = ⊎_elim (λ k. (y, inl refl, k)) (λ k. let r = flat_in f z ys k in (r.0, inr r.1, r.2))
    (in_either z (f y) (flat_map f ys) h)

pub kept_in : {A : Type 0} (p : A → Bool) (x : A) (xs : List A) → IsIn x xs → p x ≡ true → IsIn x (filter p xs)
kept_in p x [] h e = absurd h
kept_in p x (y ∷ ys) h e = by (p y) refl h (λ k. kept_in p x ys k e)
  where
    by : (b : Bool) → p y ≡ b → IsIn x (y ∷ ys) → (IsIn x ys → IsIn x (filter p ys)) →
        IsIn x (cond b (y ∷ filter p ys) (filter p ys))
    by b k (inr z) rest = later b (rest z)
      where
        later : (b : Bool) → IsIn x (filter p ys) → IsIn x (cond b (y ∷ filter p ys) (filter p ys))
        later true w = inr w
        later false w = w
    by true k (inl z) rest = inl z
    by false k (inl z) rest = absurd (false≢true (sym k ∙ ap p z ∙ e))

pub filter_in : {A : Type 0} (p : A → Bool) (x : A) (xs : List A) → IsIn x (filter p xs) → IsIn x xs × (p x ≡ true)
filter_in p x [] h = absurd h
filter_in p x (y ∷ ys) h = by (p y) refl h (λ k. filter_in p x ys k)
  where
    by : (b : Bool) → p y ≡ b → IsIn x (cond b (y ∷ filter p ys) (filter p ys)) →
        (IsIn x (filter p ys) → IsIn x ys × (p x ≡ true)) → IsIn x (y ∷ ys) × (p x ≡ true)
    by true k (inl e) rest = (inl e, ap p (sym e) ∙ k)
    by true k (inr z) rest = let r = rest z in (inr r.0, r.1)
    by false k z rest = let r = rest z in (inr r.0, r.1)

-- what is found is an element that passes
pub found_in : {A : Type 0} (test : A → Bool) (xs : List A) (x : A) → find test xs ≡ Some x →
    IsIn x xs × (test x ≡ true)
found_in test [] x h = absurd (none-some x h)
found_in test (y ∷ ys) x h = by (test y) refl h (found_in test ys x)
  where
    by : (b : Bool) → test y ≡ b → cond b (Some y) (find test ys) ≡ Some x →
        (find test ys ≡ Some x → IsIn x ys × (test x ≡ true)) → IsIn x (y ∷ ys) × (test x ≡ true)
    by true e k rest = let s = same_Some y x k in (inl s, ap test (sym s) ∙ e)
    by false e k rest = let r = rest k in (inr r.0, r.1)

-- a value that is kept comes of an element, and each element gives its own
pub mapped_in : {A B : Type 0} (f : A → Option B) {z : B} (xs : List A) → IsIn z (filter_map f xs) →
    (x : A) × IsIn x xs × (f x ≡ Some z)
mapped_in f [] h = absurd h
mapped_in {A} {B} f {z} (x ∷ xs) h = by (f x) refl h (mapped_in f xs)
  where
    more : (x : A) × IsIn x xs × (f x ≡ Some z) → (y : A) × IsIn y (x ∷ xs) × (f y ≡ Some z)
    more r = (r.0, inr r.1, r.2)

    by : (o : Option B) → f x ≡ o → IsIn z (cons_option o (filter_map f xs)) →
        (IsIn z (filter_map f xs) → (y : A) × IsIn y xs × (f y ≡ Some z)) → (y : A) × IsIn y (x ∷ xs) × (f y ≡ Some z)
    by None e k rest = more (rest k)
    by (Some y) e (inl k) rest = (x, inl refl, e ∙ ap Some k)
    by (Some y) e (inr k) rest = more (rest k)

pub in_mapped : {A B : Type 0} (f : A → Option B) (x : A) {z : B} (xs : List A) → IsIn x xs → f x ≡ Some z →
    IsIn z (filter_map f xs)
in_mapped f x [] h e = absurd h
in_mapped {A} {B} f x {z} (y ∷ ys) (inl k) e =
    subst (λ (o : Option B). IsIn z (cons_option o (filter_map f ys))) (sym (ap f k ∙ e)) (inl refl)
in_mapped {A} {B} f x {z} (y ∷ ys) (inr k) e = by (f y) (in_mapped f x ys k e)
  where
    by : (o : Option B) → IsIn z (filter_map f ys) → IsIn z (cons_option o (filter_map f ys))
    by None h = h
    by (Some w) h = inr h

pub first_in : {A : Type 0} {x : A} (xs : List A) → first_of xs ≡ Some x → IsIn x xs
first_in {x = x} [] h = absurd (none-some x h)
first_in {x = x} (y ∷ ys) h = inl (same_Some y x h)

pub in_below : (n i : ℕ) → i < n → IsIn i (below n)
in_below zero i l = absurd (omega arith)
in_below (suc n) i l = ⊎_elim (λ (u : i < n). in_left i (below n) (n ∷ []) (in_below n i u))
    (λ (u : i ≡ n). in_right i (below n) (n ∷ []) (inl (sym u))) (order i n l)
  where
    order : (i n : ℕ) → i < suc n → (i < n) ⊎ (i ≡ n)
    order i n l = grind arith

pub all_below : (n : ℕ) → All (λ i. i < n) (below n)
all_below zero = All-nil (λ i. i < 0)
all_below (suc n) = All-push (λ i. i < suc n) (below n) n
    (All-weaker (λ i. i < n) (λ i. i < suc n) (λ i l. omega arith) (below n) (all_below n)) (omega arith)

pub below_in : (n i : ℕ) → IsIn i (below n) → i < n
below_in n i h = all_in (λ i. i < n) i (below n) (all_below n) h

-- Order

abbrev pub IsOrdered : {A : Type 0} → (A → A → Type 0) → List A → Type 0
IsOrdered R [] = Unit {0}
IsOrdered {A} R (x ∷ xs) = ((y : A) → IsIn y xs → R x y) × IsOrdered R xs

pub ordered_append : {A : Type 0} (R : A → A → Type 0) (xs ys : List A) → IsOrdered R xs → IsOrdered R ys →
    ((x y : A) → IsIn x xs → IsIn y ys → R x y) → IsOrdered R (xs ++ ys)
ordered_append R [] ys h k l = k
ordered_append R (x ∷ xs) ys h k l = (
  λ y i. ⊎_elim (λ u. h.0 y u) (λ u. l x y (inl refl) u) (in_either y xs ys i),
  ordered_append R xs ys h.1 k (λ a y i j. l a y (inr i) j),
)

pub ordered_map : {A B : Type 0} (R : A → A → Type 0) (S : B → B → Type 0) (f : A → B) (xs : List A) →
    ((x y : A) → R x y → S (f x) (f y)) → IsOrdered R xs → IsOrdered S (map f xs)
ordered_map R S f [] h k = tt
ordered_map R S f (x ∷ xs) h k =
    (λ z i. let r = map_in f z xs i in subst (S (f x)) r.2 (h x r.0 (k.0 r.0 r.1)), ordered_map R S f xs h k.1)

pub ordered_filter : {A : Type 0} (R : A → A → Type 0) (p : A → Bool) (xs : List A) → IsOrdered R xs →
    IsOrdered R (filter p xs)
ordered_filter R p [] h = tt
ordered_filter R p (x ∷ xs) h = by (p x) (ordered_filter R p xs h.1)
  where
    by : (b : Bool) → IsOrdered R (filter p xs) → IsOrdered R (cond b (x ∷ filter p xs) (filter p xs))
    by true rest = (λ y i. h.0 y (filter_in p y xs i).0, rest)
    by false rest = rest

ordered_below : (n : ℕ) → IsOrdered (λ i j. i < j) (below n)
ordered_below zero = tt
ordered_below (suc n) = ordered_append (λ i j. i < j) (below n) (n ∷ []) (ordered_below n) (λ y i. absurd i, tt)
    (λ x y i j. let l = below_in n x i in ⊎_elim (λ (e : n ≡ y). omega arith) (λ e. absurd e) j)

-- an element by its place comes before each that stands later
pub order_at : {A : Type 0} (R : A → A → Type 0) (xs : List A) → IsOrdered R xs → (i j : ℕ) (a b : A) →
    slice_get xs i ≡ Some a → slice_get xs j ≡ Some b → i < j → R a b
order_at R [] s i j a b e f l = absurd (none-some a e)
order_at R (x ∷ xs) s zero (suc j) a b e f l = subst (λ y. R y b) (same_Some x a e) (s.0 b (at_has xs j b f))
order_at R (x ∷ xs) s (suc i) (suc j) a b e f l = order_at R xs s.1 i j a b e f (omega arith)
order_at R (x ∷ xs) s i zero a b e f l = absurd (omega arith)

-- The blocks of all dies

abbrev die_spots : ℕ → ℕ → List Spot
die_spots blocks die = map (λ block. record { die = die; block = block }) (below blocks)

pub in_spots : {n : Numbers} {s : Spot} → IsSpot n s → IsIn s (spots n)
in_spots {n} {s} is = in_flat (die_spots n.blocks) s.die s (below n.dies) (in_below n.dies s.die is.die)
    (in_map (λ block. record { die = s.die; block = block }) s.block (below n.blocks)
    (in_below n.blocks s.block is.block))

pub spots_in : {n : Numbers} {s : Spot} → IsIn s (spots n) → IsSpot n s
spots_in {n} {s} h =
    let r = flat_in (die_spots n.blocks) s (below n.dies) h in
    let m = map_in (λ block. record { die = r.0; block = block }) s (below n.blocks) r.2 in
    subst (IsSpot n) m.2 (record { die = below_in n.dies r.0 r.1; block = below_in n.blocks m.0 m.1 })

dies_ordered : (blocks dies : ℕ) → IsOrdered IsBefore (flat_map (die_spots blocks) (below dies))
dies_ordered blocks zero = tt
dies_ordered blocks (suc dies) = subst (λ (zs : List Spot). IsOrdered IsBefore zs)
    (sym (flat_map-append (die_spots blocks) (below dies) (dies ∷ [])))
    (ordered_append IsBefore (flat_map (die_spots blocks) (below dies)) (die_spots blocks dies ++ [])
    (dies_ordered blocks dies)
    (ordered_append IsBefore (die_spots blocks dies) []
    (ordered_map (λ i j. i < j) IsBefore (λ block. record { die = dies; block = block }) (below blocks)
    (λ x y l. inr (refl, l)) (ordered_below blocks)) tt (λ x y i j. absurd j)) (λ x y i j. inl (apart x y i j)))
  where
    apart : (x y : Spot) → IsIn x (flat_map (die_spots blocks) (below dies)) → IsIn y (die_spots blocks dies ++ []) →
        x.die < y.die
    apart x y i j =
        let r = flat_in (die_spots blocks) x (below dies) i in
        let m = map_in (λ block. record { die = r.0; block = block }) x (below blocks) r.2 in
        let w = ⊎_elim (λ k. k) (λ k. absurd k) (in_either y (die_spots blocks dies) [] j) in
        let o = map_in (λ block. record { die = dies; block = block }) y (below blocks) w in
        let l = below_in dies r.0 r.1 in
        let e = ap (λ (z : Spot). z.die) m.2 in
        let f = ap (λ (z : Spot). z.die) o.2 in
        omega arith

pub spots_ordered : (n : Numbers) → IsOrdered IsBefore (spots n)
spots_ordered n = dies_ordered n.blocks n.dies
