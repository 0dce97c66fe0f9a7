-- A page's rest is put around its own part.
use Rattle.write_cache.proofs.Common.{List, [], ap, append-nil, append_assoc, arith, drop, drop_all, length}
use Rattle.write_cache.proofs.Common.{length-append, min, sym, take, ℕ, ◌++◌, ◌+◌, ◌-◌, ◌∙◌, ◌≡◌, ◌≤◌}
use Rattle.std.proofs.lemmas.List.{drop_min, length-drop, length-take-le, take_min}
use Rattle.std.proofs.Math.Seq.{take-append-add}
use Rattle.ufs_spec.specs.Plain.{with_part}

-- all bytes up to one place and from another on are from the base, and what lies between them stays
between : (s e N : ℕ) (base body mid : List ℕ) → length base ≡ N → length body ≡ N → s ≤ e → e ≤ N →
    mid ≡ take s base ++ drop s body →
    take e mid ++ (drop e base ++ drop (e + length (drop e base)) mid)
    ≡ take s base ++ (take (e - s) (drop s body) ++ drop e base)
between s e N base body mid long wide l m is =
    ap (λ (xs : List ℕ). xs ++ (drop e base ++ drop (e + length (drop e base)) mid)) front
    ∙ ap (λ (xs : List ℕ). (take s base ++ take (e - s) (drop s body)) ++ (drop e base ++ xs)) none
    ∙ ap (λ (xs : List ℕ). (take s base ++ take (e - s) (drop s body)) ++ xs) (append-nil (drop e base))
    ∙ append_assoc (take s base) (take (e - s) (drop s body)) (drop e base)
  where
    first : length (take s base) ≡ s
    first = length-take-le s base (omega (arith, long, l, m))

    at : e ≡ length (take s base) + (e - s)
    at = omega (arith, first, l)

    front : take e mid ≡ take s base ++ take (e - s) (drop s body)
    front = ap (λ (xs : List ℕ). take e xs) is
        ∙ ap (λ (n : ℕ). take n (take s base ++ drop s body)) at
        ∙ take-append-add (take s base) (drop s body) (e - s)

    whole : length mid ≤ e + length (drop e base)
    whole =
        let a = ap (λ (xs : List ℕ). length xs) is in
        let b = length-append (take s base) (drop s body) in
        let c = length-drop s body in
        let d = length-drop e base in
        omega (arith, a, b, c, d, first, long, wide, l, m)

    none : drop (e + length (drop e base)) mid ≡ []
    none = drop_all (e + length (drop e base)) mid whole

-- the same by the part: where it begins and how long it is, and both places cut at the end of the page
pub around : (f b s e N : ℕ) (base body mid last behind : List ℕ) → length base ≡ N → length body ≡ N → s ≡ min f N →
    e ≡ min (f + b) N → mid ≡ take s base ++ drop (0 + length (take s base)) body → behind ≡ drop e base →
    last ≡ take e mid ++ (behind ++ drop (e + length behind) mid) → last ≡ with_part f (take b (drop f body)) base
around f b s e N base body mid last behind long wide start end is cut then =
    then ∙ ap (λ (xs : List ℕ). take e mid ++ (xs ++ drop (e + length xs) mid)) cut
    ∙ between s e N base body mid long wide (omega (arith, start, end)) (omega (arith, end)) mid_is
    ∙ ap (λ (xs : List ℕ). xs ++ (take (e - s) (drop s body) ++ drop e base)) (sym front)
    ∙ ap (λ (xs : List ℕ). take f base ++ (xs ++ drop e base)) (sym own)
    ∙ ap (λ (xs : List ℕ). take f base ++ (take b (drop f body) ++ xs)) (sym back)
  where
    first : length (take s base) ≡ s
    first = length-take-le s base (omega (arith, long, start))

    mid_is : mid ≡ take s base ++ drop s body
    mid_is = is ∙ ap (λ (n : ℕ). take s base ++ drop n body) (omega (arith, first))

    front : take f base ≡ take s base
    front = sym (take_min f base) ∙ ap (λ (n : ℕ). take n base) (omega (arith, start, long))

    left_behind : drop f body ≡ drop s body
    left_behind = sym (drop_min f body) ∙ ap (λ (n : ℕ). drop n body) (omega (arith, start, wide))

    left : length (drop s body) ≡ N - s
    left = let d = length-drop s body in omega (arith, d, wide)

    own : take b (drop f body) ≡ take (e - s) (drop s body)
    own = ap (λ (xs : List ℕ). take b xs) left_behind ∙ sym (take_min b (drop s body))
        ∙ ap (λ (n : ℕ). take n (drop s body)) (omega (arith, left, start, end))

    count : length (take b (drop f body)) ≡ e - s
    count = ap (λ (xs : List ℕ). length xs) own
        ∙ length-take-le (e - s) (drop s body) (omega (arith, left, start, end))

    back : drop (f + length (take b (drop f body))) base ≡ drop e base
    back = ap (λ (n : ℕ). drop (f + n) base) count ∙ sym (drop_min (f + (e - s)) base)
        ∙ ap (λ (n : ℕ). drop n base) (omega (arith, start, end, long))
