-- The first of a list that passes a test, looked for from the front, and only where a wider test passes.
use Rattle.ftl_core.proofs.Common.{Bool, DieRow, List, None, Option, Pending, Rest, Some, [], ap, arith, cond, drop}
use Rattle.ftl_core.proofs.Common.{false, find, find_behind, if◌then◌else◌, is_none, is_some, list_any, none-some}
use Rattle.ftl_core.proofs.Common.{page_waits, refl, same_Some, slice_get, subst, suc, sym, take, true, true≢false}
use Rattle.ftl_core.proofs.Common.{zero, ℕ, ◌&&◌, ◌+◌, ◌∙◌, ◌∷◌, ◌≡◌, ◌≤◌}
use Rattle.std.proofs.Common.{not}
use Rattle.std.specs.List.{position_from}
use Rattle.block_table.specs.Rows.{writes_page}
use Rattle.write_cache.specs.Ready.{first_ready_from, is_ready}

abbrev pub FoundOr : {A : Type 0} → Bool → A → Option A → Option A
FoundOr b x rest = if b then Some x else rest

none_after : {A : Type 0} (b : Bool) (x : A) (rest : Option A) → FoundOr b x rest ≡ None → (b ≡ false) × (rest ≡ None)
none_after true x rest e = absurd (none-some x (sym e))
none_after false x rest e = (refl, e)

one_less : {A : Type 0} (test : A → Bool) (x : A) (xs : List A) → find test (x ∷ xs) ≡ None →
    (test x ≡ false) × (find test xs ≡ None)
one_less test x xs e = none_after (test x) x (find test xs) e

-- none before it passes, and it does
pub first_found : {A : Type 0} (test : A → Bool) (xs : List A) (at : ℕ) (x : A) → find test (take at xs) ≡ None →
    slice_get xs at ≡ Some x → test x ≡ true → find test xs ≡ Some x
first_found test [] at x none there passes = absurd (none-some x there)
first_found {A} test (y ∷ ys) zero x none there passes =
    let same = same_Some' there in
    ap (λ (b : Bool). FoundOr b y (find test ys)) (ap test same ∙ passes) ∙ ap (λ (z : A). Some z) same
  where
    same_Some' : Some y ≡ Some x → y ≡ x
    same_Some' e = cc
first_found test (y ∷ ys) (suc at) x none there passes =
    let r = one_less test y (take at ys) none in
    find_behind test y ys r.0 ∙ first_found test ys at x r.1 there passes

-- none as far as there
pub none_yet : {A : Type 0} (test : A → Bool) (xs : List A) (at : ℕ) (x : A) → find test (take at xs) ≡ None →
    slice_get xs at ≡ Some x → test x ≡ false → find test (take (at + 1) xs) ≡ None
none_yet test [] at x none there fails = absurd (none-some x there)
none_yet {A} test (y ∷ ys) zero x none there fails =
    let same = same_Some' there in
    find_behind test y [] (ap test same ∙ fails)
  where
    same_Some' : Some y ≡ Some x → y ≡ x
    same_Some' e = cc
none_yet test (y ∷ ys) (suc at) x none there fails =
    let r = one_less test y (take at ys) none in
    subst (λ (k : ℕ). find test (take k (y ∷ ys)) ≡ None) (one_more at)
    (find_behind test y (take (at + 1) ys) r.0 ∙ none_yet test ys at x r.1 there fails)
  where
    one_more : (n : ℕ) → suc (n + 1) ≡ suc n + 1
    one_more n = omega arith

-- Where a wider test passes

-- each element that passes the one test passes the other
abbrev pub IsWider : {A : Type 0} → (A → Bool) → (A → Bool) → Type 0
IsWider {A} wide test = (x : A) → wide x ≡ false → test x ≡ false

none_left : {A : Type 0} (wide test : A → Bool) (i : ℕ) (xs : List A) → IsWider wide test →
    position_from wide i xs ≡ None → find test xs ≡ None
none_left wide test i [] le e = refl
none_left wide test i (x ∷ xs) le e = by (wide x) refl e (none_left wide test (i + 1) xs le)
  where
    by : (b : Bool) → wide x ≡ b → cond b (Some i) (position_from wide (i + 1) xs) ≡ None →
        (position_from wide (i + 1) xs ≡ None → find test xs ≡ None) → find test (x ∷ xs) ≡ None
    by true w e rest = absurd (none-some i (sym e))
    by false w e rest = find_behind test x xs (le x w) ∙ rest e

none_before : {A : Type 0} (wide test : A → Bool) (i at : ℕ) (xs : List A) → IsWider wide test →
    position_from wide i xs ≡ Some at → (m : ℕ) × (at ≡ i + m) × (find test (take m xs) ≡ None)
none_before wide test i at [] le e = absurd (none-some at e)
none_before {A} wide test i at (x ∷ xs) le e = by (wide x) refl e (none_before wide test (i + 1) at xs le)
  where
    by : (b : Bool) → wide x ≡ b → cond b (Some i) (position_from wide (i + 1) xs) ≡ Some at →
        (position_from wide (i + 1) xs ≡ Some at → (m : ℕ) × (at ≡ i + 1 + m) × (find test (take m xs) ≡ None)) →
        (m : ℕ) × (at ≡ i + m) × (find test (take m (x ∷ xs)) ≡ None)
    by true w e rest = (0, (let same = same_Some i at e in omega arith), refl)
    by false w e rest =
        let r = rest e in
        let is = r.1 in
        (suc r.0, omega (arith, is), find_behind test x (take r.0 xs) (le x w) ∙ r.2)

take_more : {A : Type 0} (test : A → Bool) (from m at : ℕ) (xs : List A) → at ≡ from + m →
    find test (take from xs) ≡ None → find test (take m (drop from xs)) ≡ None → find test (take at xs) ≡ None
take_more test zero m at xs e none more =
    subst (λ (k : ℕ). find test (take k xs) ≡ None) (let f : m ≡ at = omega arith in f) more
take_more test (suc from) m zero xs e none more = absurd (omega arith)
take_more test (suc from) m (suc at) [] e none more = refl
take_more test (suc from) m (suc at) (x ∷ xs) e none more =
    let r = one_less test x (take from xs) none in
    find_behind test x (take at xs) r.0 ∙ take_more test from m at xs (omega arith) r.1 more

take_all : {A : Type 0} (test : A → Bool) (from : ℕ) (xs : List A) → find test (take from xs) ≡ None →
    find test (drop from xs) ≡ None → find test xs ≡ None
take_all test zero xs none more = more
take_all test (suc from) [] none more = refl
take_all test (suc from) (x ∷ xs) none more =
    let r = one_less test x (take from xs) none in
    find_behind test x xs r.0 ∙ take_all test from xs r.1 more

-- the elements before the next one that passes the wider test do not pass
pub next_found : {A : Type 0} (wide test : A → Bool) (xs : List A) (from at : ℕ) → IsWider wide test →
    find test (take from xs) ≡ None → position_from wide from (drop from xs) ≡ Some at →
    (find test (take at xs) ≡ None) × (from ≤ at)
next_found wide test xs from at le none is =
    let r = none_before wide test from at (drop from xs) le is in
    let e = r.1 in
    (take_more test from r.0 at xs e none r.2, omega arith)

-- and where there is no next one, no element does
pub none_found : {A : Type 0} (wide test : A → Bool) (xs : List A) (from : ℕ) → IsWider wide test →
    find test (take from xs) ≡ None → position_from wide from (drop from xs) ≡ None → find test xs ≡ None
none_found wide test xs from le none is =
    take_all test from xs none (none_left wide test from (drop from xs) le is)

-- Pages that can be programmed now

-- a page that waits can be programmed now
wider : (rows : List DieRow) → IsWider is_ready (page_waits rows)
wider rows p e = by (is_none p.written) p.rest e
  where
    by : (b : Bool) (o : Option Rest) → (b && not (is_some o)) ≡ false →
        (b && not (list_any (writes_page p.number p.index) rows) && is_none o) ≡ false
    by false o e = refl
    by true None e = absurd (true≢false e)
    by true (Some rest) e = no (not (list_any (writes_page p.number p.index) rows))
      where
        no : (b : Bool) → (b && false) ≡ false
        no true = refl
        no false = refl

-- the pages before the next one that can be programmed do not wait
pub none_to : (rows : List DieRow) (ps : List Pending) (from at : ℕ) → find (page_waits rows) (take from ps) ≡ None →
    Some at ≡ first_ready_from ps from → (find (page_waits rows) (take at ps) ≡ None) × (from ≤ at)
none_to rows ps from at none is = next_found is_ready (page_waits rows) ps from at (wider rows) none (sym is)

-- and where there is no next one, no page does
pub none_after_all : (rows : List DieRow) (ps : List Pending) (from : ℕ) →
    find (page_waits rows) (take from ps) ≡ None → None ≡ first_ready_from ps from → find (page_waits rows) ps ≡ None
none_after_all rows ps from none is = none_found is_ready (page_waits rows) ps from (wider rows) none (sym is)
