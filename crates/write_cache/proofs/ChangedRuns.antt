-- The entries of the ring tell of the pages after a change: of one page more, of one fewer, and of one that is written.
use Rattle.write_cache.proofs.Common.{AreRuns, Bool, GroupAt, List, None, Option, Shown, Some, [], ap, append-nil}
use Rattle.write_cache.proofs.Common.{append_assoc, arith, cases_eq, cases_lt, cond, drop, eq-eqb, false, false≢true}
use Rattle.write_cache.proofs.Common.{get_or, inl, inr, le-leb, length, length-append, min, nat_le, nat_lt, ne_eqb}
use Rattle.write_cache.proofs.Common.{none-some, refl, same_Some, set_length, shortened, slice_get, slice_set, subst}
use Rattle.write_cache.proofs.Common.{suc, sym, true, wrapped, written, zero, ℕ, ◌++◌, ◌+◌, ◌-◌, ◌<◌, ◌==◌, ◌^◌, ◌∙◌}
use Rattle.write_cache.proofs.Common.{◌∷◌, ◌≡◌, ◌≤◌, ◌⊎◌}
use Rattle.std.specs.Prelude.{count_by}
use Rattle.std.proofs.lemmas.List.{set-append_left, set-append_right}
use Rattle.std.proofs.lemmas.List.Sums.{sum_by-cons, sum_by_push}
use Rattle.std.proofs.lemmas.Option.{slice_get-get_or}
use Rattle.ufs_spec.proofs.Facts.{le-ltb, lt-ltb}
use Rattle.write_cache.specs.Ring.{IsRun, begun, longer, noted, shorter}
use Rattle.write_cache.proofs.Entries.{rising_at}
use Rattle.write_cache.proofs.Rows.{IsLast, last_of_row, row_alone, row_kept, row_longer, same_tests}
use Rattle.write_cache.proofs.Runs.{apart_at, of_append, of_at, of_set, runs_apart, runs_lower, runs_most, runs_rising}

-- One page more

-- a page that is not written
abbrev pub new : ℕ → ℕ → Shown
new n i = record { number = n; index = i; is_open = true }

pub last_of_run : (s : ℕ) (g : GroupAt) (xs : List Shown) → IsRun s g xs → IsLast g.last xs
last_of_run s g xs r =
    last_of_row g.last (length xs - 1) xs (omega (arith, some, many))
    (r.row (length xs - 1) ∙ le-leb (length xs) (g.row + (length xs - 1)) (omega (arith, row)))
  where
    some : 0 < g.pages
    some = r.some

    many : length xs ≡ g.pages
    many = r.many

    row : 0 < g.row
    row = r.some_row

run_begun : (s n i : ℕ) → IsRun s (begun n i s) (new n i ∷ [])
run_begun s n i = record {
  many = refl;
  some = omega arith;
  of_group = (refl, tt);
  end = refl;
  unwritten = refl;
  some_row = omega arith;
  row = λ k. row_alone i k (new n i) refl ∙ sym (le-leb 1 (1 + k) (omega arith));
}

row_some : (b : Bool) (row : ℕ) → 0 < cond b (min (row + 1) (2 ^ 16 - 1)) 1
row_some true row = omega arith
row_some false row = omega arith

run_longer : (s n i : ℕ) (g : GroupAt) (xs : List Shown) → IsRun s g xs → g.number ≡ n → length xs + 1 < 2 ^ 16 →
    IsRun s (longer g i) (xs ++ new n i ∷ [])
run_longer s n i g xs r is few =
    let long = length-append xs (new n i ∷ []) in
    let many = r.many in
    let end = r.end in
    let count = sum_by_push (λ (x : Shown). cond x.is_open 1 0) xs (new n i) in
    let unwritten = r.unwritten in
    record {
      many = omega (arith, long, many);
      some = omega arith;
      of_group = of_append g.number xs (new n i ∷ []) r.of_group (sym is, tt);
      end = omega (arith, end);
      unwritten = omega (arith, count, unwritten);
      some_row = row_some (i == g.last + 1) g.row;
      row = row_longer g.last g.row i xs (new n i) refl r.some_row (last_of_run s g xs r) few r.row;
    }

-- a page more of the last group
runs_longer : (s l h n i at : ℕ) (gs : List GroupAt) (xs : List Shown) (g : GroupAt) → AreRuns s l h gs xs →
    slice_get gs at ≡ Some g → suc at ≡ length gs → g.number ≡ n → h ≤ n → length xs + 1 < 2 ^ 16 →
    AreRuns s l n (slice_set gs at (longer g i)) (xs ++ new n i ∷ [])
runs_longer s l h n i at [] xs g r e last is le few = absurd (none-some g e)
runs_longer s l h n i zero (x ∷ []) xs g r e last is le few =
    subst (λ (y : GroupAt). AreRuns s l n (longer y i ∷ []) (xs ++ new n i ∷ [])) (same_Some x g e) (
      r.0,
      omega (arith, same),
      record {
        front = r.2.front ++ new n i ∷ [];
        behind = [];
        whole = ap (λ (ys : List Shown). ys ++ new n i ∷ []) all ∙ sym (append-nil (r.2.front ++ new n i ∷ []));
        first = run_longer s n i x r.2.front r.2.first same (omega (arith, few, long));
        others = refl;
      },
    )
  where
    same : x.number ≡ n
    same = ap (λ (y : GroupAt). y.number) (same_Some x g e) ∙ is

    all : xs ≡ r.2.front
    all = r.2.whole ∙ ap (λ (ys : List Shown). r.2.front ++ ys) r.2.others ∙ append-nil r.2.front

    long : length xs ≡ length r.2.front
    long = ap (λ (ys : List Shown). length ys) all
runs_longer s l h n i (suc at) (x ∷ []) xs g r e last is le few = absurd (none-some g e)
runs_longer s l h n i zero (x ∷ y ∷ gs) xs g r e last is le few = absurd (omega (arith, last))
runs_longer s l h n i (suc at) (x ∷ y ∷ gs) xs g r e last is le few =
    let a = r.1 in
    let all = ap (λ (ys : List Shown). length ys) r.2.whole ∙ length-append r.2.front r.2.behind in (
      r.0,
      omega (arith, a, le),
      record {
        front = r.2.front;
        behind = r.2.behind ++ new n i ∷ [];
        whole = ap (λ (ys : List Shown). ys ++ new n i ∷ []) r.2.whole
            ∙ append_assoc r.2.front r.2.behind (new n i ∷ []);
        first = r.2.first;
        others = runs_longer x.end (x.number + 1) h n i at (y ∷ gs) r.2.behind g r.2.others e
            (omega (arith, last)) is le
            (omega (arith, all, few));
      },
    )

-- a page that begins a group
runs_begun : (s l h n i at : ℕ) (gs : List GroupAt) (xs : List Shown) (g : GroupAt) → AreRuns s l h gs xs →
    slice_get gs at ≡ Some g → suc at ≡ length gs → g.number < n → h ≤ n →
    AreRuns s l n (gs ++ begun n i g.end ∷ []) (xs ++ new n i ∷ [])
runs_begun s l h n i at [] xs g r e last less le = absurd (none-some g e)
runs_begun s l h n i zero (x ∷ []) xs g r e last less le =
    subst (λ (y : GroupAt). AreRuns s l n (x ∷ begun n i y.end ∷ []) (xs ++ new n i ∷ [])) (same_Some x g e) (
      r.0,
      omega (arith, same, less),
      record {
        front = r.2.front;
        behind = new n i ∷ [];
        whole = ap (λ (ys : List Shown). ys ++ new n i ∷ []) (r.2.whole
            ∙ ap (λ (ys : List Shown). r.2.front ++ ys) r.2.others ∙ append-nil r.2.front);
        first = r.2.first;
        others = (
          omega (arith, same, less),
          omega arith,
          record {
            front = new n i ∷ [];
            behind = [];
            whole = refl;
            first = run_begun x.end n i;
            others = refl;
          },
        );
      },
    )
  where
    same : x.number ≡ g.number
    same = ap (λ (y : GroupAt). y.number) (same_Some x g e)
runs_begun s l h n i (suc at) (x ∷ []) xs g r e last less le = absurd (none-some g e)
runs_begun s l h n i zero (x ∷ y ∷ gs) xs g r e last less le = absurd (omega (arith, last))
runs_begun s l h n i (suc at) (x ∷ y ∷ gs) xs g r e last less le =
    let a = r.1 in (
      r.0,
      omega (arith, a, le),
      record {
        front = r.2.front;
        behind = r.2.behind ++ new n i ∷ [];
        whole = ap (λ (ys : List Shown). ys ++ new n i ∷ []) r.2.whole
            ∙ append_assoc r.2.front r.2.behind (new n i ∷ []);
        first = r.2.first;
        others = runs_begun x.end (x.number + 1) h n i at (y ∷ gs) r.2.behind g r.2.others e
            (omega (arith, last)) less le;
      },
    )

pub runs_noted : (s h n i : ℕ) (gs : List GroupAt) (xs : List Shown) → AreRuns s 0 h gs xs → h ≤ n →
    length xs + 1 < 2 ^ 16 → AreRuns s 0 n (noted s n i gs) (xs ++ new n i ∷ [])
runs_noted s h n i [] xs r le few = (
  omega arith,
  omega arith,
  record {
    front = new n i ∷ [];
    behind = [];
    whole = ap (λ (ys : List Shown). ys ++ new n i ∷ []) r;
    first = run_begun s n i;
    others = refl;
  },
)
runs_noted s h n i (x ∷ gs) xs r le few =
    subst (λ (m : ℕ). AreRuns s 0 n (noted_at m (slice_get (x ∷ gs) m)) (xs ++ new n i ∷ [])) at
    (subst (λ (o : Option GroupAt). AreRuns s 0 n (noted_at (length gs) o) (xs ++ new n i ∷ [])) (sym there)
    (by (cases_eq b.number n)))
  where
    b : GroupAt
    b = get_or (x ∷ gs) (length gs) x

    at : length gs ≡ length (x ∷ gs) - 1
    at = omega arith

    there : slice_get (x ∷ gs) (length gs) ≡ Some b
    there = slice_get-get_or (x ∷ gs) (length gs) x (omega arith)

    noted_at : ℕ → Option GroupAt → List GroupAt
    noted_at m None = (x ∷ gs) ++ begun n i s ∷ []
    noted_at m (Some g) = cond (g.number == n) (slice_set (x ∷ gs) m (longer g i)) ((x ∷ gs) ++ begun n i g.end ∷ [])

    below : b.number ≤ h
    below = runs_most s 0 h (length gs) (x ∷ gs) xs b r there

    by : (b.number ≡ n) ⊎ (b.number ≡ n → ⊥) → AreRuns s 0 n (noted_at (length gs) (Some b)) (xs ++ new n i ∷ [])
    by (inl is) = subst (λ (t : Bool). AreRuns s 0 n (cond t (slice_set (x ∷ gs) (length gs) (longer b i))
        ((x ∷ gs) ++ begun n i b.end ∷ [])) (xs ++ new n i ∷ [])) (sym (eq-eqb b.number n is))
        (runs_longer s 0 h n i (length gs) (x ∷ gs) xs b r there refl is le few)
    by (inr not) = subst (λ (t : Bool). AreRuns s 0 n (cond t (slice_set (x ∷ gs) (length gs) (longer b i))
        ((x ∷ gs) ++ begun n i b.end ∷ [])) (xs ++ new n i ∷ [])) (sym (ne_eqb b.number n not))
        (runs_begun s 0 h n i (length gs) (x ∷ gs) xs b r there refl
        (let l = below in omega (arith, l, not, le)) le)

-- One page fewer

run_shorter : (s : ℕ) (g : GroupAt) (x : Shown) (xs : List Shown) → IsRun s g (x ∷ xs) → 0 < length xs →
    IsRun (wrapped (s + 1)) (shorter g x.is_open) xs
run_shorter s g x xs r some =
    let many = r.many in
    let end = r.end in
    let count = sum_by-cons (λ (y : Shown). cond y.is_open 1 0) x xs in
    let unwritten = r.unwritten in
    record {
      many = omega (arith, many);
      some = omega (arith, many, some);
      of_group = r.of_group.1;
      end = omega (arith, end, many);
      unwritten = omega (arith, count, unwritten);
      some_row = r.some_row;
      row = λ k. r.row (suc k)
          ∙ same_tests (length (x ∷ xs)) (g.row + suc k) (length xs) (g.row + k) (λ l. omega (arith, l))
          (λ l. omega (arith, l));
    }

first_gone : (s h : ℕ) (g : GroupAt) (gs : List GroupAt) (x : Shown) (xs front behind : List Shown) →
    x ∷ xs ≡ front ++ behind → IsRun s g front → AreRuns g.end (g.number + 1) h gs behind → g.number ≤ h →
    AreRuns (wrapped (s + 1)) 0 h (shortened x.is_open (g ∷ gs)) xs
first_gone s h g gs x xs [] behind all r more le =
    absurd (let many = r.many in let some = r.some in omega (arith, many, some))
first_gone s h g gs x xs (y ∷ ys) behind all r more le = by (cases_lt 1 g.pages)
  where
    many : suc (length ys) ≡ g.pages
    many = r.many

    same : x ≡ y
    same = ap (λ (zs : List Shown). get_or zs 0 x) all

    rest : xs ≡ ys ++ behind
    rest = ap (λ (zs : List Shown). drop 1 zs) all

    by : (1 < g.pages) ⊎ (g.pages ≤ 1) → AreRuns (wrapped (s + 1)) 0 h
        (cond (nat_lt 1 g.pages) (shorter g x.is_open ∷ gs) gs) xs
    by (inl l) = subst (λ (b : Bool). AreRuns (wrapped (s + 1)) 0 h (cond b (shorter g x.is_open ∷ gs) gs) xs)
        (sym (lt-ltb 1 g.pages l)) (
          omega arith,
          le,
          record {
            front = ys;
            behind = behind;
            whole = rest;
            first = subst (λ (z : Shown). IsRun (wrapped (s + 1)) (shorter g z.is_open) ys) (sym same)
                (run_shorter s g y ys r (omega (arith, many, l)));
            others = more;
          },
        )
    by (inr l) = subst (λ (b : Bool). AreRuns (wrapped (s + 1)) 0 h (cond b (shorter g x.is_open ∷ gs) gs) xs)
        (sym (le-ltb 1 g.pages l))
        (subst (λ (zs : List Shown). AreRuns (wrapped (s + 1)) 0 h gs zs)
        (sym (rest ∙ none ys (omega (arith, many, l))))
        (subst (λ (m : ℕ). AreRuns m 0 h gs behind)
        (end ∙ ap (λ (m : ℕ). wrapped (s + m)) (omega (arith, many, l, some)))
        (runs_lower g.end (g.number + 1) 0 h gs behind more (omega arith))))
      where
        some : 0 < g.pages
        some = r.some

        end : g.end ≡ wrapped (s + g.pages)
        end = r.end

        none : (zs : List Shown) → length zs ≡ 0 → zs ++ behind ≡ behind
        none [] e = refl
        none (z ∷ zs) e = absurd (omega (arith, e))

pub runs_shorter : (s h : ℕ) (gs : List GroupAt) (x : Shown) (xs : List Shown) → AreRuns s 0 h gs (x ∷ xs) →
    AreRuns (wrapped (s + 1)) 0 h (shortened x.is_open gs) xs
runs_shorter s h [] x xs r = absurd (let none = ap (λ (ys : List Shown). length ys) r in omega (arith, none))
runs_shorter s h (g ∷ gs) x xs r =
    first_gone s h g gs x xs r.2.front r.2.behind r.2.whole r.2.first r.2.others r.1

-- One page more that is written

-- the page is written
abbrev pub closed : Shown → Shown
closed x = record x { is_open = false }

count_closed : (k : ℕ) (xs : List Shown) (x : Shown) → slice_get xs k ≡ Some x →
    count_by (λ (y : Shown). y.is_open) (slice_set xs k (closed x)) + cond x.is_open 1 0
    ≡ count_by (λ (y : Shown). y.is_open) xs
count_closed k [] x e = absurd (none-some x e)
count_closed zero (y ∷ xs) x e =
    let same = ap {B = ℕ} (λ (z : Shown). cond z.is_open 1 0) (same_Some y x e) in
    let a = sum_by-cons (λ (z : Shown). cond z.is_open 1 0) (closed x) xs in
    let b = sum_by-cons (λ (z : Shown). cond z.is_open 1 0) y xs in
    omega (arith, same, a, b)
count_closed (suc k) (y ∷ xs) x e =
    let more = count_closed k xs x e in
    let a = sum_by-cons (λ (z : Shown). cond z.is_open 1 0) y (slice_set xs k (closed x)) in
    let b = sum_by-cons (λ (z : Shown). cond z.is_open 1 0) y xs in
    omega (arith, more, a, b)

run_written : (s k : ℕ) (g : GroupAt) (xs : List Shown) (x : Shown) → IsRun s g xs → slice_get xs k ≡ Some x →
    IsRun s (written g x.is_open) (slice_set xs k (closed x))
run_written s k g xs x r e =
    let count = count_closed k xs x e in
    let unwritten = r.unwritten in
    record {
      many = set_length xs k (closed x) ∙ r.many;
      some = r.some;
      of_group = of_set g.number k xs (closed x) r.of_group (of_at g.number k xs x r.of_group e);
      end = r.end;
      unwritten = omega (arith, count, unwritten);
      some_row = r.some_row;
      row = λ m. row_kept g.last m k xs x (closed x) e refl ∙ r.row m
          ∙ ap (λ (n : ℕ). nat_le n (g.row + m)) (sym (set_length xs k (closed x)));
    }

-- a page of two parts
get_left : (k : ℕ) (xs ys : List Shown) (x : Shown) → k < length xs → slice_get (xs ++ ys) k ≡ Some x →
    slice_get xs k ≡ Some x
get_left k [] ys x l e = absurd (omega (arith, l))
get_left zero (y ∷ xs) ys x l e = e
get_left (suc k) (y ∷ xs) ys x l e = get_left k xs ys x (omega (arith, l)) e

get_right : (k : ℕ) (xs ys : List Shown) (x : Shown) → length xs ≤ k → slice_get (xs ++ ys) k ≡ Some x →
    slice_get ys (k - length xs) ≡ Some x
get_right k [] ys x l e = ap (slice_get ys) (omega arith) ∙ e
get_right zero (y ∷ xs) ys x l e = absurd (omega (arith, l))
get_right (suc k) (y ∷ xs) ys x l e =
    ap (slice_get ys) (omega arith) ∙ get_right k xs ys x (omega (arith, l)) e

pub runs_written : (s l h at k : ℕ) (gs : List GroupAt) (xs : List Shown) (g : GroupAt) (x : Shown) →
    AreRuns s l h gs xs → slice_get gs at ≡ Some g → slice_get xs k ≡ Some x → x.number ≡ g.number →
    AreRuns s l h (slice_set gs at (written g x.is_open)) (slice_set xs k (closed x))
runs_written s l h at k [] xs g x r e there is = absurd (none-some g e)
runs_written s l h zero k (y ∷ gs) xs g x r e there is =
    subst (λ (z : GroupAt). AreRuns s l h (written z x.is_open ∷ gs) (slice_set xs k (closed x))) (same_Some y g e)
    (by (cases_lt k (length r.2.front)))
  where
    same : y.number ≡ g.number
    same = ap (λ (z : GroupAt). z.number) (same_Some y g e)

    both : slice_get (r.2.front ++ r.2.behind) k ≡ Some x
    both = sym (ap (λ (ys : List Shown). slice_get ys k) r.2.whole) ∙ there

    by : (k < length r.2.front) ⊎ (length r.2.front ≤ k) →
        AreRuns s l h (written y x.is_open ∷ gs) (slice_set xs k (closed x))
    by (inl less) = (
      r.0,
      r.1,
      record {
        front = slice_set r.2.front k (closed x);
        behind = r.2.behind;
        whole = ap (λ (ys : List Shown). slice_set ys k (closed x)) r.2.whole
            ∙ set-append_left r.2.front r.2.behind k (closed x) less;
        first = run_written s k y r.2.front x r.2.first (get_left k r.2.front r.2.behind x less both);
        others = r.2.others;
      },
    )
    by (inr more) =
        absurd (false≢true (sym (apart_at y.number (k - length r.2.front) r.2.behind x
        (runs_apart y.number y.end (y.number + 1) h gs r.2.behind r.2.others (omega arith))
        (get_right k r.2.front r.2.behind x more both))
        ∙ eq-eqb x.number y.number (is ∙ sym same)))
runs_written s l h (suc at) k (y ∷ gs) xs g x r e there is =
    by (cases_lt k (length r.2.front)) (λ more.
    runs_written y.end (y.number + 1) h at (k - length r.2.front) gs r.2.behind g x r.2.others e
    (get_right k r.2.front r.2.behind x more both) is)
  where
    both : slice_get (r.2.front ++ r.2.behind) k ≡ Some x
    both = sym (ap (λ (ys : List Shown). slice_get ys k) r.2.whole) ∙ there

    least : y.number + 1 + at ≤ g.number
    least = rising_at (y.number + 1) at gs g
        (runs_rising y.end (y.number + 1) h gs r.2.behind r.2.others) e

    by : (k < length r.2.front) ⊎ (length r.2.front ≤ k) →
        (length r.2.front ≤ k → AreRuns y.end (y.number + 1) h (slice_set gs at (written g x.is_open))
        (slice_set r.2.behind (k - length r.2.front) (closed x))) →
        AreRuns s l h (y ∷ slice_set gs at (written g x.is_open)) (slice_set xs k (closed x))
    by (inl less) others =
        let of = of_at y.number k r.2.front x r.2.first.of_group (get_left k r.2.front r.2.behind x less both) in
        absurd (omega (arith, of, is, least))
    by (inr more) others = (
      r.0,
      r.1,
      record {
        front = r.2.front;
        behind = slice_set r.2.behind (k - length r.2.front) (closed x);
        whole = ap (λ (ys : List Shown). slice_set ys k (closed x)) r.2.whole
            ∙ set-append_right r.2.front r.2.behind (length r.2.front) k (closed x) refl more;
        first = r.2.first;
        others = others more;
      },
    )
