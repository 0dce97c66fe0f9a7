-- The pages of the first group.
use Rattle.write_cache.proofs.Common.{AreApart, AreRuns, Bool, GroupAt, List, None, Pending, Shown, Some, [], ap, arith}
use Rattle.write_cache.proofs.Common.{cond, drop, eq-eqb, false, get_or, is_none, length, list_any, map, none-some, not}
use Rattle.write_cache.proofs.Common.{refl, same_Some, shown, slice_get, subst, suc, sym, take, true, zero, ℕ, ◌&&◌}
use Rattle.write_cache.proofs.Common.{◌++◌, ◌+◌, ◌<◌, ◌||◌, ◌∙◌, ◌∷◌, ◌≡◌, ◌≤◌}
use Rattle.std.proofs.Common.{filter}
use Rattle.std.specs.Prelude.{count_by, if◌then◌else◌}
use Rattle.std.proofs.lemmas.List.Sums.{sum_by-cons}
use Rattle.write_cache.specs.Ring.{AreOf}
use Rattle.write_cache.specs.Slots.{front_written, is_of_group, is_unwritten, whole_group}
use Rattle.write_cache.proofs.Runs.{runs_apart}

-- no page of a group is among these
pub record IsOther (n : ℕ) (ps : List Pending) : Type 0 where
  pub of_group : filter (is_of_group n) ps ≡ []
  pub others : filter (λ p. not (is_of_group n p)) ps ≡ ps
  pub written : list_any (is_unwritten n) ps ≡ false

other_apart : (n : ℕ) (ps : List Pending) → AreApart n (map shown ps) → IsOther n ps
other_apart n [] h = record { of_group = refl; others = refl; written = refl }
other_apart n (p ∷ ps) h = other p ps h.0 (other_apart n ps h.1)
  where
    other : (p : Pending) (ps : List Pending) → is_of_group n p ≡ false → IsOther n ps → IsOther n (p ∷ ps)
    other p ps e r = record {
      of_group = ap (λ (b : Bool). cond b (p ∷ filter (is_of_group n) ps) (filter (is_of_group n) ps)) e ∙ r.of_group;
      others = ap (λ (b : Bool). cond (not b) (p ∷ filter (λ p. not (is_of_group n p)) ps)
          (filter (λ p. not (is_of_group n p)) ps)) e ∙ ap (λ (qs : List Pending). p ∷ qs) r.others;
      written = ap (λ (b : Bool). (b && is_none p.written) || list_any (is_unwritten n) ps) e ∙ r.written;
    }

-- the pages of a group are so many first ones, and each is written
pub record IsFront (n k : ℕ) (ps : List Pending) : Type 0 where
  pub taken : take k ps ≡ filter (is_of_group n) ps
  pub left : drop k ps ≡ filter (λ p. not (is_of_group n p)) ps
  pub written : list_any (is_unwritten n) ps ≡ false
  pub within : k ≤ length ps

one_more : (n k : ℕ) (p : Pending) (ps : List Pending) → is_of_group n p ≡ true → is_none p.written ≡ false →
    IsFront n k ps → IsFront n (suc k) (p ∷ ps)
one_more n k p ps e f r = record {
  taken = ap (λ (qs : List Pending). p ∷ qs) r.taken
      ∙ sym (ap (λ (b : Bool). cond b (p ∷ filter (is_of_group n) ps) (filter (is_of_group n) ps)) e);
  left = r.left
      ∙ sym (ap (λ (b : Bool). cond (not b) (p ∷ filter (λ p. not (is_of_group n p)) ps)
      (filter (λ p. not (is_of_group n p)) ps)) e);
  written = ap (λ (b : Bool). (b && is_none p.written) || list_any (is_unwritten n) ps) e
      ∙ ap (λ (b : Bool). (true && b) || list_any (is_unwritten n) ps) f ∙ r.written;
  within = let w = r.within in omega (arith, w);
}

none_first : (n : ℕ) (ps : List Pending) → IsOther n ps → IsFront n 0 ps
none_first n ps r = record {
  taken = sym r.of_group;
  left = sym r.others;
  written = r.written;
  within = omega arith;
}

none_open : (b : Bool) → cond b 1 zero ≡ zero → b ≡ false
none_open true e = absurd (omega (arith, e))
none_open false e = refl

-- a run of pages that are all written is the group
front_group : (n : ℕ) (ps : List Pending) (run behind : List Shown) → map shown ps ≡ run ++ behind → AreOf n run →
    AreApart n behind → count_by (λ (x : Shown). x.is_open) run ≡ 0 → IsFront n (length run) ps
front_group n ps [] behind is are apart none =
    none_first n ps (other_apart n ps (subst (λ (xs : List Shown). AreApart n xs) (sym is) apart))
front_group n [] (x ∷ run) behind is are apart none =
    absurd (let e = ap (λ (xs : List Shown). length xs) is in omega (arith, e))
front_group n (p ∷ ps) (x ∷ run) behind is are apart none =
    let count = sum_by-cons (λ (y : Shown). cond y.is_open 1 0) x run in
    let first = ap (λ (xs : List Shown). get_or xs 0 x) is in
    let more : count_by (λ (y : Shown). y.is_open) run ≡ 0 = omega (arith, none, count) in
    one_more n (length run) p ps (eq-eqb p.number n (ap (λ (y : Shown). y.number) first ∙ are.0))
    (ap (λ (y : Shown). y.is_open) first ∙ none_open x.is_open (omega (arith, none, count)))
    (front_group n ps run behind (ap (λ (xs : List Shown). drop 1 xs) is) are.1 apart more)

-- and else a page of the group is not written
open_group : (n : ℕ) (ps : List Pending) (run behind : List Shown) → map shown ps ≡ run ++ behind → AreOf n run →
    0 < count_by (λ (x : Shown). x.is_open) run → list_any (is_unwritten n) ps ≡ true
open_group n ps [] behind is are some = absurd (omega (arith, some))
open_group n [] (x ∷ run) behind is are some =
    absurd (let e = ap (λ (xs : List Shown). length xs) is in omega (arith, e))
open_group n (p ∷ ps) (x ∷ run) behind is are some =
    by x.is_open refl (λ l. open_group n ps run behind (ap (λ (xs : List Shown). drop 1 xs) is) are.1 l)
  where
    first : shown p ≡ x
    first = ap (λ (xs : List Shown). get_or xs 0 x) is

    of : is_of_group n p ≡ true
    of = eq-eqb p.number n (ap (λ (y : Shown). y.number) first ∙ are.0)

    count : count_by (λ (y : Shown). y.is_open) (x ∷ run) ≡ cond x.is_open 1 0 + count_by (λ (y : Shown). y.is_open) run
    count = sum_by-cons (λ (y : Shown). cond y.is_open 1 0) x run

    either : (b c : Bool) → c ≡ true → (b || c) ≡ true
    either true c e = refl
    either false c e = e

    by : (b : Bool) → x.is_open ≡ b →
        (0 < count_by (λ (y : Shown). y.is_open) run → list_any (is_unwritten n) ps ≡ true) →
        list_any (is_unwritten n) (p ∷ ps) ≡ true
    by true e more =
        ap (λ (b : Bool). (b && is_none p.written) || list_any (is_unwritten n) ps) of
        ∙ ap (λ (b : Bool). (true && b) || list_any (is_unwritten n) ps) (ap (λ (y : Shown). y.is_open) first ∙ e)
    by false e more =
        either (is_unwritten n p) (list_any (is_unwritten n) ps) (more
        (let none = ap {B = ℕ} (λ (b : Bool). cond b 1 0) e in omega (arith, some, count, none)))

-- By the first entry

pub first_written : (s l h : ℕ) (gs : List GroupAt) (ps : List Pending) (g : GroupAt) →
    AreRuns s l h gs (map shown ps) → slice_get gs 0 ≡ Some g → g.unwritten ≡ 0 → IsFront g.number g.pages ps
first_written s l h [] ps g r e none = absurd (none-some g e)
first_written s l h (y ∷ gs) ps g r e none =
    subst (λ (z : GroupAt). IsFront z.number z.pages ps) same
    (subst (λ (m : ℕ). IsFront y.number m ps) r.2.first.many
    (front_group y.number ps r.2.front r.2.behind r.2.whole r.2.first.of_group
    (runs_apart y.number y.end (y.number + 1) h gs r.2.behind r.2.others (omega arith))
    (sym r.2.first.unwritten ∙ ap (λ (z : GroupAt). z.unwritten) same ∙ none)))
  where
    same : y ≡ g
    same = same_Some y g e

pub first_unwritten : (s l h : ℕ) (gs : List GroupAt) (ps : List Pending) (g : GroupAt) →
    AreRuns s l h gs (map shown ps) → slice_get gs 0 ≡ Some g → 0 < g.unwritten →
    list_any (is_unwritten g.number) ps ≡ true
first_unwritten s l h [] ps g r e some = absurd (none-some g e)
first_unwritten s l h (y ∷ gs) ps g r e some =
    subst (λ (z : GroupAt). list_any (is_unwritten z.number) ps ≡ true) same
    (open_group y.number ps r.2.front r.2.behind r.2.whole r.2.first.of_group
    (let u = r.2.first.unwritten in let v = ap (λ (z : GroupAt). z.unwritten) same in omega (arith, some, u, v)))
  where
    same : y ≡ g
    same = same_Some y g e

pub record IsFirst (n : ℕ) (ps : List Pending) : Type 0 where
  pub page : Pending
  pub at : slice_get ps 0 ≡ Some page
  pub number : page.number ≡ n

first_of : (n : ℕ) (ps : List Pending) (run behind : List Shown) → map shown ps ≡ run ++ behind → AreOf n run →
    0 < length run → IsFirst n ps
first_of n ps [] behind is are some = absurd (omega (arith, some))
first_of n [] (x ∷ run) behind is are some =
    absurd (let e = ap (λ (xs : List Shown). length xs) is in omega (arith, e))
first_of n (p ∷ ps) (x ∷ run) behind is are some = record {
  page = p;
  at = refl;
  number = ap (λ (xs : List Shown). (get_or xs 0 x).number) is ∙ are.0;
}

-- the first page is of the first group
pub first_page : (s l h : ℕ) (gs : List GroupAt) (ps : List Pending) (g : GroupAt) → AreRuns s l h gs (map shown ps) →
    slice_get gs 0 ≡ Some g → IsFirst g.number ps
first_page s l h [] ps g r e = absurd (none-some g e)
first_page s l h (y ∷ gs) ps g r e =
    subst (λ (z : GroupAt). IsFirst z.number ps) (same_Some y g e)
    (first_of y.number ps r.2.front r.2.behind r.2.whole r.2.first.of_group
    (let m = r.2.first.many in let l = r.2.first.some in omega (arith, m, l)))

-- what is said of it
pub front_told : (n : ℕ) (b : Bool) (ps : List Pending) (p : Pending) → slice_get ps 0 ≡ Some p → p.number ≡ n →
    list_any (is_unwritten n) ps ≡ b → front_written ps ≡ (if b then None else Some n)
front_told n b ps p at e w =
    ap (whole_group ps) at
    ∙ ap (λ (m : ℕ). if list_any (is_unwritten m) ps then None else Some m) e
    ∙ ap (λ (c : Bool). if c then None else Some n) w
