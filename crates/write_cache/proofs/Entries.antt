-- The entries of the ring: their numbers rise.
use Rattle.write_cache.proofs.Common.{GroupAt, HasNone, IsRising, List, Some, [], ap, arith, drop}
use Rattle.write_cache.proofs.Common.{false, length, none-some, same_Some, slice_get, subst, suc, sym, zero, ℕ, ◌+◌}
use Rattle.write_cache.proofs.Common.{◌<◌, ◌==◌, ◌∷◌, ◌≡◌, ◌≤◌}

pub other_above : (n m : ℕ) → n < m → (m == n) ≡ false
other_above n m l = grind (arith, l)

pub other_below : (n m : ℕ) → m < n → (m == n) ≡ false
other_below n m l = grind (arith, l)

-- each entry's number is above this one
abbrev pub AreAbove : ℕ → List GroupAt → Type 0
AreAbove n [] = Unit {0}
AreAbove n (g ∷ gs) = (n < g.number) × AreAbove n gs

pub rising_above : (n least : ℕ) (gs : List GroupAt) → IsRising least gs → n < least → AreAbove n gs
rising_above n least [] h l = tt
rising_above n least (g ∷ gs) h l =
    let a = h.0 in
    (omega (arith, a, l), rising_above n (g.number + 1) gs h.1 (omega (arith, a, l)))

pub above_none : (n : ℕ) (gs : List GroupAt) → AreAbove n gs → HasNone n gs
above_none n [] h = tt
above_none n (g ∷ gs) h = (other_above n g.number h.0, above_none n gs h.1)

-- so far behind the first, all numbers are above
pub above_from : (n least c : ℕ) (gs : List GroupAt) → IsRising least gs → (c < length gs → n < least + c) →
    AreAbove n (drop c gs)
above_from n least zero [] h l = tt
above_from n least (suc c) [] h l = tt
above_from n least zero (g ∷ gs) h l =
    rising_above n least (g ∷ gs) h (let m = l (omega arith) in omega (arith, m))
above_from n least (suc c) (g ∷ gs) h l =
    let a = h.0 in
    above_from n (g.number + 1) c gs h.1 (λ less. let m = l (omega (arith, less)) in omega (arith, m, a))

pub above_more : (n at : ℕ) (gs : List GroupAt) (g : GroupAt) → slice_get gs at ≡ Some g → n < g.number →
    AreAbove n (drop (suc at) gs) → AreAbove n (drop at gs)
above_more n at [] g e l h = absurd (none-some g e)
above_more n zero (x ∷ gs) g e l h = (subst (λ (y : GroupAt). n < y.number) (sym (same_Some x g e)) l, h)
above_more n (suc at) (x ∷ gs) g e l h = above_more n at gs g e l h

-- an entry's number is at least as far above the first as the entry is behind it
pub rising_at : (least at : ℕ) (gs : List GroupAt) (g : GroupAt) → IsRising least gs → slice_get gs at ≡ Some g →
    least + at ≤ g.number
rising_at least at [] g h e = absurd (none-some g e)
rising_at least zero (x ∷ gs) g h e =
    let a = h.0 in
    let same = ap (λ (y : GroupAt). y.number) (same_Some x g e) in
    omega (arith, a, same)
rising_at least (suc at) (x ∷ gs) g h e =
    let a = h.0 in
    let more = rising_at (x.number + 1) at gs g h.1 e in
    omega (arith, a, more)

-- no entry has a number that lies between those of two neighbours
pub none_between : (n least at : ℕ) (gs : List GroupAt) (g : GroupAt) → IsRising least gs → slice_get gs at ≡ Some g →
    g.number < n → AreAbove n (drop (suc at) gs) → HasNone n gs
none_between n least at [] g h e l above = tt
none_between n least zero (x ∷ gs) g h e l above =
    let same = ap (λ (y : GroupAt). y.number) (same_Some x g e) in
    (other_below n x.number (omega (arith, same, l)), above_none n gs above)
none_between n least (suc at) (x ∷ gs) g h e l above =
    let more = rising_at (x.number + 1) at gs g h.1 e in
    (other_below n x.number (omega (arith, more, l)), none_between n (x.number + 1) at gs g h.1 e l above)
