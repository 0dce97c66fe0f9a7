-- One group more becomes durable, or none does: as the functions do it.
use Rattle.ftl_core.proofs.Common.{Bool, Core, List, Lives, None, Option, Pending, Pin, Place, Some, Stored, [], ap}
use Rattle.ftl_core.proofs.Common.{arith, drop, eq_self, false, filter, fold, front_written, group_durable}
use Rattle.ftl_core.proofs.Common.{if◌then◌else◌, inl, inr, is_of_group, is_unwritten, length, list_any, not}
use Rattle.ftl_core.proofs.Common.{option_map, page_durable, page_durable_at, refl, risen, settled, slice_get, subst}
use Rattle.ftl_core.proofs.Common.{suc, sym, take, true, zero, ℕ, ⊎_elim, ◌+◌, ◌-◌, ◌<◌, ◌∙◌, ◌∷◌, ◌≡◌, ◌≤◌, ◌⊎◌}
use Rattle.write_cache.specs.declared.slots.Landed.{Landed}
use Rattle.ftl_core.specs.Ends.{landed_at, page_landed, pages_landed, settled_by}
use Rattle.write_cache.specs.Slots.{landed, whole_group}

-- Pages of one group and of others

-- the pages of other groups
abbrev pub others : ℕ → List Pending → List Pending
others number ps = filter (λ p. not (is_of_group number p)) ps

-- there are no more of them
pub others_within : (number : ℕ) (ps : List Pending) → length (others number ps) ≤ length ps
others_within number [] = omega arith
others_within number (p ∷ ps) = by (is_of_group number p) (others_within number ps)
  where
    by : (b : Bool) → length (others number ps) ≤ length ps →
        length (if not b then p ∷ others number ps else others number ps) ≤ suc (length ps)
    by true m = omega (arith, m)
    by false m = omega (arith, m)

-- and fewer than the pages where the first is of the group
pub others_fewer : (p : Pending) (ps : List Pending) → length (others p.number (p ∷ ps)) < suc (length ps)
others_fewer p ps =
    let m = others_within p.number ps in
    let e : is_of_group p.number p ≡ true = eq_self p.number in
    let same : others p.number (p ∷ ps) ≡ others p.number ps =
    ap (λ (b : Bool). if not b then p ∷ others p.number ps else others p.number ps) e in
    let long = ap (λ (qs : List Pending). length qs) same in
    omega (arith, m, long)

-- The first group is whole

pub record IsWhole (ps : List Pending) (number : ℕ) : Type 0 where
  pub first : Pending
  pub rest : List Pending
  pub is : ps ≡ first ∷ rest
  pub number_is : first.number ≡ number
  pub written : list_any (is_unwritten number) ps ≡ false

one_some : {A : Type 0} (b : Bool) (x y : A) → (if b then None else Some x) ≡ Some y → (b ≡ false) × (x ≡ y)
one_some true x y e = cc
one_some false x y e = (refl, cc)

pub whole : (ps : List Pending) (number : ℕ) → whole_group ps (slice_get ps 0) ≡ Some number → IsWhole ps number
whole [] number e = cc
whole (p ∷ ps) number e =
    let r = one_some (list_any (is_unwritten p.number) (p ∷ ps)) p.number number e in
    record {
      first = p;
      rest = ps;
      is = refl;
      number_is = r.1;
      written = subst (λ (n : ℕ). list_any (is_unwritten n) (p ∷ ps) ≡ false) r.1 r.0;
    }

pub fewer : (c : Core) (number : ℕ) → front_written c ≡ Some number →
    length (group_durable c number).pages < length c.pages
fewer c number e =
    let w = whole c.pages number e in
    subst (λ (ps : List Pending). length (others number ps) < length ps) (sym w.is)
    (subst (λ (n : ℕ). length (others n (w.first ∷ w.rest)) < suc (length w.rest)) w.number_is
    (others_fewer w.first w.rest))

-- Page by page

-- the places of addresses, which pages are live, and what readers keep are all that changes
pub only_places : (c : Core) (ps : List Pending) →
    fold page_durable c ps ≡ record c {
      places = (fold page_durable c ps).places;
      live = (fold page_durable c ps).live;
      pins = (fold page_durable c ps).pins;
    }
only_places c [] = refl
only_places c (p ∷ ps) =
    only_places (page_durable c p) ps
    ∙ one (fold page_durable (page_durable c p) ps).places (fold page_durable (page_durable c p) ps).live
    (fold page_durable (page_durable c p) ps).pins p.written
  where
    one : (places : List (Option Stored)) (live : Lives) (pins : List Pin) (o : Option Place) →
        record (page_durable_at c p o) { places = places; live = live; pins = pins } ≡
        record c { places = places; live = live; pins = pins }
    one places live pins None = refl
    one places live pins (Some place) = refl

-- the next page, if there is one
abbrev pub durable_next : Core → Option Pending → Core
durable_next c None = c
durable_next c (Some p) = page_durable c p

fold_next : (c : Core) (ps : List Pending) (n : ℕ) →
    fold page_durable c (take (suc n) ps) ≡ durable_next (fold page_durable c (take n ps)) (slice_get ps n)
fold_next c [] zero = refl
fold_next c [] (suc n) = refl
fold_next c (p ∷ ps) zero = refl
fold_next c (p ∷ ps) (suc n) = fold_next (page_durable c p) ps n

left_next : (ps : List Pending) (n : ℕ) → drop 1 (drop n ps) ≡ drop (suc n) ps
left_next [] zero = refl
left_next [] (suc n) = refl
left_next (p ∷ ps) zero = refl
left_next (p ∷ ps) (suc n) = left_next ps n

first_left : (ps : List Pending) (n : ℕ) → slice_get (drop n ps) 0 ≡ slice_get ps n
first_left [] zero = refl
first_left [] (suc n) = refl
first_left (p ∷ ps) zero = refl
first_left (p ∷ ps) (suc n) = first_left ps n

-- the first page leaves its slot, if there is one, and is durable
abbrev pub landed_next : Core → Option Pending → Core
landed_next c None = c
landed_next c (Some p) = page_landed c (landed p)

abbrev pub land_first : Core → Core
land_first c = landed_next (record c { pages = drop 1 c.pages }) (slice_get c.pages 0)

-- which pages are left does not matter to what becomes durable
landed_beside : (c : Core) (ps : List Pending) (o : Option Pending) →
    landed_next (record c { pages = ps }) o ≡ record (durable_next c o) { pages = ps }
landed_beside c ps None = refl
landed_beside c ps (Some p) = by p.written
  where
    by : (o : Option Place) →
        landed_at (record c { pages = ps }) (landed p) o ≡ record (page_durable_at c p o) { pages = ps }
    by None = refl
    by (Some place) = refl

pub landed_some : (c : Core) (o : Option Pending) (r : Option Landed) (p : Landed) → r ≡ option_map landed o →
    r ≡ Some p → page_landed c p ≡ landed_next c o
landed_some c None r p is some = cc
landed_some c (Some q) r p is some = ap (page_landed c) (same p (landed q) (sym some ∙ is))
  where
    same : (x y : Landed) → Some x ≡ Some y → x ≡ y
    same x y e = cc

pub landed_none : (c : Core) (o : Option Pending) (r : Option Landed) → r ≡ option_map landed o →
    ((p : Landed) → r ≡ Some p → ⊥) → c ≡ landed_next c o
landed_none c None r is none = refl
landed_none c (Some q) r is none = absurd (none (landed q) is)

-- one page more
pub next_landed : (c d e : Core) (n : ℕ) → d ≡ pages_landed c n → e ≡ land_first d → e ≡ pages_landed c (n + 1)
next_landed c d e n now is =
    is
    ∙ ap land_first now
    ∙ ap (λ (ps : List Pending). landed_next (record before { pages = ps }) (slice_get (drop n c.pages) 0))
    (left_next c.pages n)
    ∙ ap (landed_next (record before { pages = drop (suc n) c.pages })) (first_left c.pages n)
    ∙ landed_beside before (drop (suc n) c.pages) (slice_get c.pages n)
    ∙ sym (ap (λ (z : Core). record z { pages = drop (suc n) c.pages }) (fold_next c c.pages n))
    ∙ ap (pages_landed c) (one n)
  where
    before : Core
    before = fold page_durable c (take n c.pages)

    one : (k : ℕ) → suc k ≡ k + 1
    one k = omega arith

-- all pages of the first group, and it is pending no more
pub group_landed : (c d e : Core) (number n : ℕ) → take n c.pages ≡ filter (is_of_group number) c.pages →
    drop n c.pages ≡ others number c.pages → d ≡ pages_landed c n → e ≡ record d { frontier = risen d } →
    e ≡ group_durable c number
group_landed c d e number n mine left now is =
    is
    ∙ ap (λ (z : Core). record z { frontier = risen z }) now
    ∙ ap (λ (ps : List Pending). record (fold page_durable c ps) {
      pages = drop n c.pages;
      frontier = risen (fold page_durable c ps);
    }) mine
    ∙ ap (λ (z : Core). record (fold page_durable c ours) { pages = drop n c.pages; frontier = risen z })
    (only_places c ours)
    ∙ ap (λ (ps : List Pending). record (fold page_durable c ours) { pages = ps; frontier = risen c }) left
  where
    ours : List Pending
    ours = filter (is_of_group number) c.pages

-- Until none is whole

after : ℕ → Core → Option ℕ → Core
after n c None = c
after n c (Some number) = settled_by n (group_durable c number)

is_after : (n : ℕ) (c : Core) → settled_by (suc n) c ≡ after n c (front_written c)
unfolding settled_by after
is_after n c =
    elim (front_written c) as
    (λ q. elim q as (λ r. Core) [ None ↦ c | Some number ↦ settled_by n (group_durable c number) ] ≡ after n c q) [
      | None ↦ refl
      | Some number ↦ refl
    ]

pub settled_end : (n : ℕ) (c : Core) → front_written c ≡ None → settled_by n c ≡ c
unfolding settled_by after
settled_end zero c ends = refl
settled_end (suc n) c ends = is_after n c ∙ ap (after n c) ends

pub settled_on : (n : ℕ) (c : Core) (number : ℕ) → front_written c ≡ Some number →
    settled_by (suc n) c ≡ settled_by n (group_durable c number)
unfolding after
settled_on n c number e = is_after n c ∙ ap (after n c) e

pub written_or_not : (o : Option ℕ) → (o ≡ None) ⊎ ((number : ℕ) × (o ≡ Some number))
written_or_not None = inl refl
written_or_not (Some number) = inr (number, refl)

-- one round more changes nothing where there are as many as pages
settled_more : (n : ℕ) (c : Core) → length c.pages ≤ n → settled_by (suc n) c ≡ settled_by n c
settled_more zero c l =
    ⊎_elim (λ e. settled_end 1 c e ∙ sym (settled_end 0 c e))
    (λ (e : (number : ℕ) × (front_written c ≡ Some number)). let f = fewer c e.0 e.1 in absurd (omega (arith, f)))
    (written_or_not (front_written c))
settled_more (suc n) c l =
    ⊎_elim (λ e. settled_end (suc (suc n)) c e ∙ sym (settled_end (suc n) c e))
    (λ (e : (number : ℕ) × (front_written c ≡ Some number)).
    let f = fewer c e.0 e.1 in
    settled_on (suc n) c e.0 e.1
    ∙ settled_more n (group_durable c e.0) (omega (arith, f))
    ∙ sym (settled_on n c e.0 e.1))
    (written_or_not (front_written c))

settled_enough : (k : ℕ) (c : Core) → settled_by (k + length c.pages) c ≡ settled c
settled_enough zero c = ap (λ (n : ℕ). settled_by n c) (omega arith)
settled_enough (suc k) c =
    ap (λ (n : ℕ). settled_by n c) (out k (length c.pages))
    ∙ settled_more (k + length c.pages) c (omega arith)
    ∙ settled_enough k c
  where
    out : (k n : ℕ) → suc k + n ≡ suc (k + n)
    out k n = omega arith

pub settled_step : (c : Core) (number : ℕ) → front_written c ≡ Some number →
    settled (group_durable c number) ≡ settled c
settled_step c number written =
    let f = fewer c number written in
    enough (length (group_durable c number).pages) (length c.pages) f refl
    ∙ sym (settled_on (length c.pages - 1) c number written)
    ∙ ap (λ (n : ℕ). settled_by n c) (one_more (length (group_durable c number).pages) (length c.pages) f)
  where
    one_more : (a b : ℕ) → a < b → suc (b - 1) ≡ b
    one_more a b l = omega arith

    over : (a b : ℕ) → a < b → b - 1 ≡ (b - 1 - a) + a
    over a b l = omega arith

    enough : (a b : ℕ) (l : a < b) → a ≡ length (group_durable c number).pages →
        settled (group_durable c number) ≡ settled_by (b - 1) (group_durable c number)
    enough a b l e =
        sym (ap (λ (n : ℕ). settled_by n (group_durable c number)) (over a b l ∙ ap (λ (n : ℕ). (b - 1 - a) + n) e)
        ∙ settled_enough (b - 1 - a) (group_durable c number))

pub none_written : {A : Type 0} (r : Option A) → ((x : A) → r ≡ Some x → ⊥) → r ≡ None
none_written None other = refl
none_written (Some x) other = absurd (other x refl)
