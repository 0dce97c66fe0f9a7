-- How the frontier climbs over groups that are wholly there.
use Rattle.power_loss.proofs.Common.{◌≡◌, ℕ, zero, suc, ◌+◌, ◌-◌, ◌<◌, ◌≤◌, ◌⊎◌, Bool, true, false, if◌then◌else◌}
use Rattle.power_loss.proofs.Common.{is_some, List, [], ◌∷◌, drop, length, Option, Some, None, slice_get, refl, sym, ap}
use Rattle.power_loss.proofs.Common.{◌∙◌, subst, inl, inr, ⊎_elim, arith, nat_le, option_and_then, option_map}
use Rattle.power_loss.proofs.Common.{slice_get_within, Group, Item, Entry, Name, all_stand, at_name, climbed, entry_in}
use Rattle.power_loss.proofs.Common.{Place, and_parts, cases_Bool, at_name_cases, Book, IsPageAt, last_number}
use Rattle.power_loss.proofs.Common.{FrontierRight, Standing, same_Some}
use Rattle.std.proofs.Common.{length-drop}
use Rattle.std.proofs.lemmas.Bool.{lt-leb}

-- Groups of this life

slot_of : (c : Bool) (o : Option Entry) (slot : Option Group) {i : ℕ} {e : Entry} → c ≡ false →
    (if c then o else option_and_then (λ g. entry_in g i) (if c then None else slot)) ≡ Some e →
    (g : Group) × (slot ≡ Some g) × (entry_in g i ≡ Some e)
slot_of true o slot c h = cc
slot_of false o None c h = cc
slot_of false o (Some g) c h = (g, refl, h)

item_of : (slot : Option Item) (size : ℕ) {e : Entry} → option_map (λ item. record { item = item; size = size })
    slot ≡ Some e → (item : Item) × (slot ≡ Some item)
item_of None size h = cc
item_of (Some item) size h = (item, refl)

-- a page of this life is one of a group
pub in_group : (b : Book) (n i : ℕ) (e : Entry) → b.greatest_seen < n → IsPageAt b n i e →
    (g : Group) × (slice_get b.groups (n - b.greatest_seen - 1) ≡ Some g) × (i < length g)
in_group b n i e l is =
    let s = slot_of (nat_le n b.greatest_seen) (b.entries_before n i) (slice_get b.groups (n - b.greatest_seen - 1))
    (lt-leb n b.greatest_seen l) is in
    let x = item_of (slice_get s.0 i) (length s.0) s.2 in
    (s.0, s.1, slice_get_within s.0 i x.0 x.1)

-- Groups behind a number

pub get_drop : {A : Type 0} (xs : List A) (k j : ℕ) → slice_get (drop k xs) j ≡ slice_get xs (k + j)
get_drop xs zero j = ap (slice_get xs) (omega arith)
get_drop [] (suc k) j = refl
get_drop (x ∷ xs) (suc k) j = get_drop xs k j ∙ sym (ap (slice_get (x ∷ xs)) (more k j))
  where
    more : (k j : ℕ) → suc k + j ≡ suc (k + j)
    more k j = omega arith

-- the last of a list
pub drop_last : {A : Type 0} (xs : List A) (k : ℕ) → length xs ≡ suc k → (x : A) × (drop k xs ≡ x ∷ []) ×
    (slice_get xs k ≡ Some x)
drop_last [] k e = absurd (omega arith)
drop_last (x ∷ []) zero e = (x, refl, refl)
drop_last (x ∷ y ∷ ys) zero e = absurd (omega arith)
drop_last (x ∷ xs) (suc k) e = drop_last xs k (omega arith)

-- The climb

pub stands_each : (stands : ℕ → Bool) (k i : ℕ) → all_stand stands k ≡ true → i < k → stands i ≡ true
stands_each stands zero i h l = absurd (omega arith)
stands_each stands (suc k) i h l =
    let b = and_parts (stands k) (all_stand stands k) h in
    ⊎_elim (λ e. stands_each stands k i b.1 e) (λ e. ap stands e ∙ b.0) (below_or i k l)
  where
    below_or : (i k : ℕ) → i < suc k → (i < k) ⊎ (i ≡ k)
    below_or i k l = grind arith

-- what a climb reaches
pub record Climbed (stands : ℕ → ℕ → Bool) (n : ℕ) (gs : List Group) (to : ℕ) : Type 0 where
  pub from : n ≤ to
  pub within : to ≤ n + length gs
  pub all : (j i : ℕ) (g : Group) → slice_get gs j ≡ Some g → n + suc j ≤ to → i < length g →
      stands (n + suc j) i ≡ true

climb_more : {stands : ℕ → ℕ → Bool} (n : ℕ) (g : Group) {gs : List Group} {to : ℕ} → Climbed stands (suc n) gs to →
    all_stand (stands (suc n)) (length g) ≡ true → (j i : ℕ) (h : Group) → slice_get (g ∷ gs) j ≡ Some h →
    n + suc j ≤ to → i < length h → stands (n + suc j) i ≡ true
climb_more {stands} n g c e zero i h at l u = ap (λ z. stands z i) (omega arith) ∙ stands_each (stands (suc n))
    (length g) i e (subst (λ z. i < length z) (sym (same_Some g h at)) u)
climb_more {stands} n g c e (suc j) i h at l u = ap (λ z. stands z i) (omega arith) ∙ c.all j i h at (omega arith) u

climb_next : {stands : ℕ → ℕ → Bool} {n : ℕ} (g : Group) {gs : List Group} → Climbed stands (suc n) gs
    (climbed stands (suc n) gs) → Climbed stands n (g ∷ gs) (climbed stands n (g ∷ gs))
climb_next {stands} {n} g c = ⊎_elim
    (λ e. let f = c.from in let u = c.within in rw e record {
      from = omega arith;
      within = omega arith;
      all = climb_more n g c e;
    }) (λ e. rw e record { from = omega arith; within = omega arith; all = λ j i h at l u. absurd (omega arith) })
    (cases_Bool (all_stand (stands (suc n)) (length g)))

pub climb : (stands : ℕ → ℕ → Bool) (n : ℕ) (gs : List Group) → Climbed stands n gs (climbed stands n gs)
climb stands n [] = record { from = omega arith; within = omega arith; all = λ j i g at l u. cc }
climb stands n (g ∷ gs) = climb_next g (climb stands (suc n) gs)

-- it goes over the first group where that is wholly there
pub climb_one : (stands : ℕ → ℕ → Bool) (n : ℕ) (g : Group) (gs : List Group) → all_stand (stands (suc n))
    (length g) ≡ true → suc n ≤ climbed stands n (g ∷ gs)
climb_one stands n g gs e = let c = (climb stands (suc n) gs).from in rw e c

-- A page more

pub some_told : {A : Type 0} (o : Option A) → is_some o ≡ true → (x : A) × (o ≡ Some x)
some_told None h = cc
some_told (Some x) h = (x, refl)

-- what stood stands, there or at the new place
pub stands_more : (standing : Standing) (name : Name) (p : Place) (n i : ℕ) → (q : Place) × (standing n i ≡ Some q) →
    (q : Place) × (at_name standing name (Some p) n i ≡ Some q)
stands_more standing name p n i (q, e) = ⊎_elim (λ h. (p, h.2)) (λ h. (q, h.1 ∙ e)) (at_name_cases standing name
    (Some p) n i)

pub stands_now : (standing : Standing) {name : Name} {p : Place} {n i : ℕ} → n ≡ name.number → i ≡ name.index →
    at_name standing name (Some p) n i ≡ Some p
stands_now standing {name} {p} {n} {i} e f = ⊎_elim (λ h. h.2) (λ h. absurd (h.0 (e, f)))
    (at_name_cases standing name (Some p) n i)

-- what stands was there, or it is the new place
pub stood : (standing : Standing) {name : Name} (p : Place) (n i : ℕ) (q : Place) → at_name standing name
    (Some p) n i ≡ Some q → ((n ≡ name.number) × (i ≡ name.index) × (p ≡ q)) ⊎
    ((((n ≡ name.number) × (i ≡ name.index)) → ⊥) × (standing n i ≡ Some q))
stood standing {name = name} p n i q h =
    ⊎_elim (λ k. inl (k.0, k.1, same_Some p q (sym k.2 ∙ h))) (λ k. inr (k.0, sym k.1 ∙ h)) (at_name_cases standing name
    (Some p) n i)

-- the frontier behind a page of the name
abbrev pub climbed_to : Book → Standing → ℕ → ℕ
climbed_to b standing frontier = climbed (λ n i. is_some (standing n i)) frontier
    (drop (frontier - b.greatest_seen) b.groups)

pub climbs_up : (b : Book) (standing : Standing) (frontier : ℕ) → frontier ≤ climbed_to b standing frontier
climbs_up b standing frontier = (climb (λ n i. is_some (standing n i)) frontier
    (drop (frontier - b.greatest_seen) b.groups)).from

pub climbs_within : (b : Book) (standing : Standing) (frontier : ℕ) → b.greatest_seen ≤ frontier →
    frontier ≤ last_number b → climbed_to b standing frontier ≤ last_number b
climbs_within b standing frontier l u = let c = (climb (λ n i. is_some (standing n i)) frontier
    (drop (frontier - b.greatest_seen) b.groups)).within in
    omega (arith, length-drop (frontier - b.greatest_seen) b.groups, c)

-- above the old frontier and up to the new one each page stands
climbs_stand : (b : Book) (standing : Standing) (frontier n i : ℕ) (e : Entry) → b.greatest_seen ≤ frontier →
    frontier < n → n ≤ climbed_to b standing frontier → IsPageAt b n i e → (p : Place) × (standing n i ≡ Some p)
climbs_stand b standing frontier n i e low l u is =
    let g = in_group b n i e (omega arith) is in
    let c = climb (λ n i. is_some (standing n i)) frontier (drop (frontier - b.greatest_seen) b.groups) in
    let at = get_drop b.groups (frontier - b.greatest_seen) (n - frontier - 1) ∙ ap (slice_get b.groups)
    (index b.greatest_seen frontier n low l) ∙ g.1 in
    some_told (standing n i) (ap (λ z. is_some (standing z i)) (back frontier n l) ∙ c.all (n - frontier - 1) i g.0 at
    (subst (λ z. z ≤ climbed_to b standing frontier) (back frontier n l) u) g.2)
  where
    index : (top frontier n : ℕ) → top ≤ frontier → frontier < n → frontier - top + (n - frontier - 1) ≡ n - top - 1
    index top frontier n low l = omega arith

    back : (frontier n : ℕ) → frontier < n → n ≡ frontier + suc (n - frontier - 1)
    back frontier n l = omega arith

-- the frontier is right behind a page whose name is known
pub climbs_right : {b : Book} {standing : Standing} {frontier : ℕ} (name : Name) (p : Place) {x : Entry} →
    FrontierRight b standing frontier → IsPageAt b name.number name.index x →
    FrontierRight b (at_name standing name (Some p)) (climbed_to b (at_name standing name (Some p)) frontier)
climbs_right {b = b} {standing = standing} {frontier = frontier} name p {x = x} f is = record {
  above = let c = climbs_up b (at_name standing name (Some p)) frontier in let a = f.above in omega (arith, c);
  within = climbs_within b (at_name standing name (Some p)) frontier f.above f.within;
  stand = λ n i e l at. ⊎_elim (λ o. stands_more standing name p n i (f.stand n i e o at))
      (λ o. climbs_stand b (at_name standing name (Some p)) frontier n i e f.above o l at) (order n frontier);
  known = λ n i q h. ⊎_elim
      (λ k. (x, subst (λ z. IsPageAt b z i x) (sym k.0) (subst (λ z. IsPageAt b name.number z x) (sym k.1) is)))
      (λ k. f.known n i q k.1) (stood standing {name = name} p n i q h);
}
  where
    order : (n m : ℕ) → (n ≤ m) ⊎ (m < n)
    order n m = grind arith

-- over the last group alone, of one page that stands, it climbs to the end
pub climbs_last : (b : Book) (standing : Standing) (frontier : ℕ) → b.greatest_seen ≤ frontier →
    suc frontier ≡ last_number b → ((j : ℕ) (g : Group) → slice_get b.groups j ≡ Some g → length g ≡ 1) →
    is_some (standing (suc frontier) 0) ≡ true → suc frontier ≤ climbed_to b standing frontier
climbs_last b standing frontier low e singles there =
    let r = drop_last b.groups (frontier - b.greatest_seen) (omega arith) in
    subst (λ z. suc frontier ≤ climbed (λ n i. is_some (standing n i)) frontier z) (sym r.1)
    (climb_one (λ n i. is_some (standing n i)) frontier r.0 []
    (ap (all_stand (λ i. is_some (standing (suc frontier) i))) (singles (frontier - b.greatest_seen) r.0 r.2) ∙
    rw there refl))
