-- What the entries of the ring tell of the pages, and the pages of one group among all.
use Rattle.write_cache.proofs.Common.{AreApart, AreRuns, GroupAt, HasNone, IsRising, List, None, Option, Shown, Some}
use Rattle.write_cache.proofs.Common.{Stands, [], ap, append_assoc, arith, false, first_number, length, length-append}
use Rattle.write_cache.proofs.Common.{none-some, refl, same_Some, slice_get, slice_set, subst, suc, sym, wrapped, zero}
use Rattle.write_cache.proofs.Common.{ℕ, ◌++◌, ◌+◌, ◌-◌, ◌<◌, ◌==◌, ◌^◌, ◌∙◌, ◌∷◌, ◌≡◌, ◌≤◌}
use Rattle.std.specs.Prelude.{IfSome}
use Rattle.std.proofs.lemmas.List.Sums.{count_by-le-length}
use Rattle.write_cache.specs.Ring.{AreOf, IsRun}
use Rattle.write_cache.proofs.Entries.{other_above, other_below, rising_at}

-- Pages of a group, and apart from it

pub of_append : (n : ℕ) (xs ys : List Shown) → AreOf n xs → AreOf n ys → AreOf n (xs ++ ys)
of_append n [] ys h l = l
of_append n (x ∷ xs) ys h l = (h.0, of_append n xs ys h.1 l)

pub apart_append : (n : ℕ) (xs ys : List Shown) → AreApart n xs → AreApart n ys → AreApart n (xs ++ ys)
apart_append n [] ys h l = l
apart_append n (x ∷ xs) ys h l = (h.0, apart_append n xs ys h.1 l)

of_apart : (m n : ℕ) (xs : List Shown) → AreOf m xs → (m == n) ≡ false → AreApart n xs
of_apart m n [] h e = tt
of_apart m n (x ∷ xs) h e = (ap (λ (k : ℕ). k == n) h.0 ∙ e, of_apart m n xs h.1 e)

pub of_at : (n k : ℕ) (xs : List Shown) (x : Shown) → AreOf n xs → slice_get xs k ≡ Some x → x.number ≡ n
of_at n k [] x h e = absurd (none-some x e)
of_at n zero (y ∷ xs) x h e = sym (ap (λ (z : Shown). z.number) (same_Some y x e)) ∙ h.0
of_at n (suc k) (y ∷ xs) x h e = of_at n k xs x h.1 e

pub apart_at : (n k : ℕ) (xs : List Shown) (x : Shown) → AreApart n xs → slice_get xs k ≡ Some x → (x.number == n) ≡ false
apart_at n k [] x h e = absurd (none-some x e)
apart_at n zero (y ∷ xs) x h e = sym (ap (λ (z : Shown). z.number == n) (same_Some y x e)) ∙ h.0
apart_at n (suc k) (y ∷ xs) x h e = apart_at n k xs x h.1 e

pub of_set : (n k : ℕ) (xs : List Shown) (y : Shown) → AreOf n xs → y.number ≡ n → AreOf n (slice_set xs k y)
of_set n k [] y h e = tt
of_set n zero (x ∷ xs) y h e = (e, h.1)
of_set n (suc k) (x ∷ xs) y h e = (h.0, of_set n k xs y h.1 e)

-- What the entries tell together

pub runs_lower : (s l m h : ℕ) (gs : List GroupAt) (xs : List Shown) → AreRuns s l h gs xs → m ≤ l → AreRuns s m h gs xs
runs_lower s l m h [] xs r le = r
runs_lower s l m h (g ∷ gs) xs r le = let a = r.0 in (omega (arith, a, le), r.1, r.2)

pub runs_first : (s l h d : ℕ) (gs : List GroupAt) (xs : List Shown) → AreRuns s l h gs xs →
    AreRuns s (first_number d gs) h gs xs
runs_first s l h d [] xs r = r
runs_first s l h d (g ∷ gs) xs r = (omega arith, r.1, r.2)

pub runs_rising : (s l h : ℕ) (gs : List GroupAt) (xs : List Shown) → AreRuns s l h gs xs → IsRising l gs
runs_rising s l h [] xs r = tt
runs_rising s l h (g ∷ gs) xs r =
    (r.0, runs_rising g.end (g.number + 1) h gs r.2.behind r.2.others)

pub runs_apart : (n s l h : ℕ) (gs : List GroupAt) (xs : List Shown) → AreRuns s l h gs xs → n < l → AreApart n xs
runs_apart n s l h [] xs r less = subst (λ (ys : List Shown). AreApart n ys) (sym r) tt
runs_apart n s l h (g ∷ gs) xs r less =
    let a = r.0 in
    let more : n < g.number + 1 = omega (arith, a, less) in
    subst (λ (ys : List Shown). AreApart n ys) (sym r.2.whole) (apart_append n r.2.front r.2.behind
    (of_apart g.number n r.2.front r.2.first.of_group (other_above n g.number (omega (arith, a, less))))
    (runs_apart n g.end (g.number + 1) h gs r.2.behind r.2.others more))

pub runs_none : (n s l h : ℕ) (gs : List GroupAt) (xs : List Shown) → AreRuns s l h gs xs → HasNone n gs → AreApart n xs
runs_none n s l h [] xs r none = subst (λ (ys : List Shown). AreApart n ys) (sym r) tt
runs_none n s l h (g ∷ gs) xs r none =
    subst (λ (ys : List Shown). AreApart n ys) (sym r.2.whole) (apart_append n r.2.front r.2.behind
    (of_apart g.number n r.2.front r.2.first.of_group none.0)
    (runs_none n g.end (g.number + 1) h gs r.2.behind r.2.others none.1))

pub runs_most : (s l h at : ℕ) (gs : List GroupAt) (xs : List Shown) (g : GroupAt) → AreRuns s l h gs xs →
    slice_get gs at ≡ Some g → g.number ≤ h
runs_most s l h at [] xs g r e = absurd (none-some g e)
runs_most s l h zero (x ∷ gs) xs g r e =
    let most = r.1 in
    let same = ap (λ (y : GroupAt). y.number) (same_Some x g e) in
    omega (arith, most, same)
runs_most s l h (suc at) (x ∷ gs) xs g r e =
    runs_most x.end (x.number + 1) h at gs r.2.behind g r.2.others e

-- there are no more groups than pages
pub runs_length : (s l h : ℕ) (gs : List GroupAt) (xs : List Shown) → AreRuns s l h gs xs → length gs ≤ length xs
runs_length s l h [] xs r = omega arith
runs_length s l h (g ∷ gs) xs r =
    let all = ap (λ (ys : List Shown). length ys) r.2.whole ∙ length-append r.2.front r.2.behind in
    let more = runs_length g.end (g.number + 1) h gs r.2.behind r.2.others in
    let many = r.2.first.many in
    let some = r.2.first.some in
    omega (arith, all, more, many, some)

wrap_more : (s p k q n e f : ℕ) → e ≡ wrapped (s + p) → f ≡ wrapped (e + (k + q)) → n ≡ p + k →
    f ≡ wrapped (s + (n + q))
wrap_more s p k q n e f is place long = omega (arith, is, place, long)

-- the pages of one group among all
pub stands : (s l h at : ℕ) (gs : List GroupAt) (xs : List Shown) (g : GroupAt) → AreRuns s l h gs xs →
    slice_get gs at ≡ Some g → Stands s g xs
stands s l h at [] xs g r e = absurd (none-some g e)
stands s l h zero (x ∷ gs) xs g r e = subst (λ (y : GroupAt). Stands s y xs) (same_Some x g e) (record {
  before = [];
  run = r.2.front;
  behind = r.2.behind;
  whole = r.2.whole;
  start = s;
  is_run = r.2.first;
  place = r.2.first.end ∙ ap (λ (n : ℕ). wrapped (s + n)) (omega arith);
  apart_before = tt;
  apart_behind = runs_apart x.number x.end (x.number + 1) h gs r.2.behind r.2.others (omega arith);
})
stands s l h (suc at) (x ∷ gs) xs g r e =
    let more = stands x.end (x.number + 1) h at gs r.2.behind g r.2.others e in
    let least = rising_at (x.number + 1) at gs g
    (runs_rising x.end (x.number + 1) h gs r.2.behind r.2.others) e in
    let long = length-append r.2.front more.before in
    let many = r.2.first.many in
    record {
      before = r.2.front ++ more.before;
      run = more.run;
      behind = more.behind;
      whole = r.2.whole ∙ ap (λ (ys : List Shown). r.2.front ++ ys) more.whole
          ∙ sym (append_assoc r.2.front more.before (more.run ++ more.behind));
      start = more.start;
      is_run = more.is_run;
      place = wrap_more s x.pages (length more.before) g.pages (length (r.2.front ++ more.before)) x.end g.end
          r.2.first.end more.place (omega (arith, long, many));
      apart_before = apart_append g.number r.2.front more.before
          (of_apart x.number g.number r.2.front r.2.first.of_group
          (other_below g.number x.number (omega (arith, least))))
          more.apart_before;
      apart_behind = more.apart_behind;
    }

pub counted_within : (s : ℕ) (g : GroupAt) (xs : List Shown) → IsRun s g xs → g.unwritten ≤ g.pages
counted_within s g xs r =
    let all = count_by-le-length (λ (x : Shown). x.is_open) xs in
    let is = r.unwritten in
    let many = r.many in
    omega (arith, all, is, many)

pub stands_within : (s : ℕ) (g : GroupAt) (xs : List Shown) (st : Stands s g xs) →
    length st.before + g.pages ≤ length xs
stands_within s g xs st =
    let all = ap (λ (ys : List Shown). length ys) st.whole ∙ length-append st.before (st.run ++ st.behind) in
    let two = length-append st.run st.behind in
    let many = st.is_run.many in
    omega (arith, all, two, many)

-- each entry's counts fit
pub short_at : (s l h m : ℕ) (gs : List GroupAt) (xs : List Shown) → AreRuns s l h gs xs → length xs < 2 ^ 16 - 1 →
    IfSome (slice_get gs m) (λ (g : GroupAt). (g.pages < 2 ^ 16 - 1) × (g.unwritten ≤ g.pages))
short_at s l h m gs xs r few = by (slice_get gs m) refl
  where
    by : (o : Option GroupAt) → slice_get gs m ≡ o →
        IfSome o (λ (g : GroupAt). (g.pages < 2 ^ 16 - 1) × (g.unwritten ≤ g.pages))
    by None e = tt
    by (Some g) e =
        let st = stands s l h m gs xs g r e in
        let within = stands_within s g xs st in
        (omega (arith, within, few), counted_within st.start g st.run st.is_run)
