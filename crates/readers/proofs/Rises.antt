-- A row stays one of rising indices, and its counts stay right.
use Rattle.readers.proofs.Common.{Bool, List, Pin, Rises, [], ap, arith, count_by, false, filter, map, refl, subst, sym}
use Rattle.readers.proofs.Common.{true, ℕ, ◌++◌, ◌+◌, ◌∙◌, ◌∷◌, ◌≡◌, ◌≤◌}
use Rattle.std.proofs.Common.{cond}
use Rattle.std.proofs.lemmas.List.Sums.{sum_by-append, sum_by-cons}

pub rises_below : (reader above below next : ℕ) (ps : List Pin) → below ≤ above → Rises reader above next ps →
    Rises reader below next ps
rises_below reader above below next [] le rises = omega (arith, le, rises)
rises_below reader above below next (p ∷ ps) le rises =
    let there = rises.1.0 in (rises.0, (omega (arith, le, there), rises.1.1))

-- the first pin goes
pub rises_on : (reader next : ℕ) (p : Pin) (ps : List Pin) → Rises reader 0 next (p ∷ ps) → Rises reader 0 next ps
rises_on reader next p ps rises = rises_below reader (p.index + 1) 0 next ps (omega arith) rises.1.1

-- some pins go
pub rises_left : (test : Pin → Bool) (reader from next : ℕ) (ps : List Pin) → Rises reader from next ps →
    Rises reader from next (filter test ps)
rises_left test reader from next [] rises = rises
rises_left test reader from next (p ∷ ps) rises =
    by (test p) (rises_left test reader (p.index + 1) next ps rises.1.1)
  where
    by : (b : Bool) → Rises reader (p.index + 1) next (filter test ps) →
        Rises reader from next (cond b (p ∷ filter test ps) (filter test ps))
    by true left = (rises.0, (rises.1.0, left))
    by false left =
        let there = rises.1.0 in rises_below reader (p.index + 1) from next (filter test ps) (omega (arith, there)) left

-- pins change and keep whose they are
pub rises_same : (f : Pin → Pin) (same : (p : Pin) → ((f p).reader ≡ p.reader) × ((f p).index ≡ p.index))
    (reader from next : ℕ) (ps : List Pin) → Rises reader from next ps → Rises reader from next (map f ps)
rises_same f same reader from next [] rises = rises
rises_same f same reader from next (p ∷ ps) rises =
    let is = (same p).1 in
    let there = rises.1.0 in (
      (same p).0 ∙ rises.0,
      (
        omega (arith, is, there),
        subst (λ (i : ℕ). Rises reader (i + 1) next (map f ps)) (sym is)
            (rises_same f same reader (p.index + 1) next ps rises.1.1),
      ),
    )

-- a pin comes behind all others
pub rises_more : (reader from next : ℕ) (q : Pin) (ps : List Pin) → reader ≡ q.reader → next ≤ q.index →
    Rises reader from next ps → Rises reader from (q.index + 1) (ps ++ q ∷ [])
rises_more reader from next q [] of le rises = (sym of, (omega (arith, le, rises), omega arith))
rises_more reader from next q (p ∷ ps) of le rises =
    (rises.0, (rises.1.0, rises_more reader (p.index + 1) next q ps of le rises.1.1))

-- pins change and are counted as before
pub count_same : (test : Pin → Bool) (f : Pin → Pin) (same : (p : Pin) → test (f p) ≡ test p) (ps : List Pin) →
    count_by test (map f ps) ≡ count_by test ps
count_same test f same [] = refl
count_same test f same (p ∷ ps) =
    let one : Pin → ℕ = λ (x : Pin). cond (test x) 1 0 in
    sum_by-cons one (f p) (map f ps)
    ∙ ap (λ (n : ℕ). one (f p) + n) (count_same test f same ps)
    ∙ ap (λ (b : Bool). cond b 1 0 + count_by test ps) (same p)
    ∙ sym (sum_by-cons one p ps)

-- one pin more
pub count_more : (test : Pin → Bool) (ps : List Pin) (q : Pin) →
    count_by test (ps ++ q ∷ []) ≡ count_by test ps + cond (test q) 1 0
count_more test ps q = sum_by-append (λ (x : Pin). cond (test x) 1 0) ps (q ∷ []) ∙ omega arith

-- the first pin goes
pub count_on : (test : Pin → Bool) (p : Pin) (ps : List Pin) →
    count_by test (p ∷ ps) ≡ cond (test p) 1 0 + count_by test ps
count_on test p ps = sum_by-cons (λ (x : Pin). cond (test x) 1 0) p ps
