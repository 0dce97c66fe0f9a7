-- How many blocks are bad, and when that locks the device.
use Rattle.ufs_laws.proofs.Common.{Bad, BlockState, Bool, List, Numbers, Spot, Translation, [], ap, arith, below, cond}
use Rattle.ufs_laws.proofs.Common.{false, flat_map, if◌then◌else◌, inl, inr, le-ltb, lt-ltb, map, nat_lt, ne_eqb}
use Rattle.ufs_laws.proofs.Common.{or_from, or_left, or_right, refl, spots, suc, sym, true, zero, ℕ, ◌&&◌, ◌+◌, ◌<◌}
use Rattle.ufs_laws.proofs.Common.{◌==◌, ◌∙◌, ◌∷◌, ◌≡◌, ◌≢◌, ◌≤◌, ◌⊎◌}
use Rattle.std.proofs.Common.{sum_by}
use Rattle.std.specs.Prelude.{count_by}
use Rattle.std.proofs.lemmas.Bool.{and_right, cases_eq}
use Rattle.std.proofs.lemmas.List.{map-append}
use Rattle.std.proofs.lemmas.List.Sums.{sum_by-append, sum_by-cons}
use Rattle.ufs_laws.proofs.plain_contents.ListParts.{joined_next}
use Rattle.ufs_spec.proofs.Equalities.{spot_cases, spot_self}
use Rattle.ufs_spec.specs.Disk.{at_spot, same_spot}
use Rattle.ufs_spec.specs.Ledger.{next_number}
use Rattle.ufs_spec.specs.Pages.{greatest_number}
use Rattle.ufs_spec.specs.Translation.{count_blocks, is_bad, is_locked}

-- ## The lock

abbrev too_many : Translation → Bool
too_many t = nat_lt t.numbers.spare (count_blocks t is_bad)

abbrev no_number : Translation → Bool
no_number t = nat_lt greatest_number (next_number t.ledger)

pub spare : (t : Translation) → count_blocks t is_bad ≡ t.numbers.spare → next_number t.ledger ≤ greatest_number →
    is_locked t ≡ false
spare t same left =
    or_from (too_many t) (no_number t) (le-ltb t.numbers.spare (count_blocks t is_bad) (omega (arith, same)))
    (le-ltb greatest_number (next_number t.ledger) left)

pub one_more : (t : Translation) → count_blocks t is_bad ≡ t.numbers.spare + 1 → is_locked t ≡ true
one_more t more =
    or_left (too_many t) (no_number t) (lt-ltb t.numbers.spare (count_blocks t is_bad) (omega (arith, more)))

pub last_number : (t : Translation) → next_number t.ledger ≡ greatest_number + 1 → is_locked t ≡ true
last_number t last =
    or_right (too_many t) (no_number t) (lt-ltb greatest_number (next_number t.ledger) (omega (arith, last)))

-- ## A block is one of all blocks

-- the sum of a function over the numbers below one
abbrev total : (ℕ → ℕ) → ℕ → ℕ
total g zero = 0
total g (suc n) = total g n + g n

sum_made : (f : Spot → ℕ) (h : ℕ → Spot) (n : ℕ) → sum_by f (map h (below n)) ≡ total (λ i. f (h i)) n
sum_made f h zero = refl
sum_made f h (suc n) =
    let rest = sum_made f h n in
    let last = sum_by-cons f (h n) [] in
    ap (sum_by f) (map-append h (below n) (n ∷ []))
    ∙ sum_by-append f (map h (below n)) (h n ∷ [])
    ∙ omega (arith, rest, last)

sum_joined : (f : Spot → ℕ) (row : ℕ → List Spot) (n : ℕ) →
    sum_by f (flat_map row (below n)) ≡ total (λ i. sum_by f (row i)) n
sum_joined f row zero = refl
sum_joined f row (suc n) =
    ap (sum_by f) (joined_next row n)
    ∙ sum_by-append f (flat_map row (below n)) (row n)
    ∙ ap (λ (x : ℕ). x + sum_by f (row n)) (sum_joined f row n)

-- where only one number counts, and it counts once
module _ (g : ℕ → ℕ) (k : ℕ) (one : g k ≡ 1) (other : (i : ℕ) → i ≢ k → g i ≡ 0) where
  none_total : (n : ℕ) → n ≤ k → total g n ≡ 0
  none_total zero few = refl
  none_total (suc n) few =
      let rest = none_total n (omega arith) in
      let last = other n (λ e. omega (arith, e)) in
      omega (arith, rest, last)

  one_total : (n : ℕ) → k < n → total g n ≡ 1
  one_total zero some = absurd (omega arith)
  one_total (suc n) some = by (cases_eq n k) (one_total n)
    where
      by : (n ≡ k) ⊎ (n ≢ k) → (k < n → total g n ≡ 1) → total g n + g n ≡ 1
      by (inl same) below_it =
          let rest = none_total n (omega (arith, same)) in
          let last : g n ≡ 1 = ap g same ∙ one in
          omega (arith, rest, last)
      by (inr apart) below_it =
          let rest = below_it (omega (arith, apart)) in
          let last = other n apart in
          omega (arith, rest, last)

zero_total : (g : ℕ → ℕ) → ((i : ℕ) → g i ≡ 0) → (n : ℕ) → total g n ≡ 0
zero_total g none zero = refl
zero_total g none (suc n) =
    let rest = zero_total g none n in
    let last = none n in
    omega (arith, rest, last)

abbrev one_if : Bool → ℕ
one_if b = cond b 1 0

-- the blocks of a die
abbrev row : ℕ → ℕ → List Spot
row blocks die = map (λ block. record { die = die; block = block }) (below blocks)

here_once : (n : Numbers) (s : Spot) → s.die < n.dies → s.block < n.blocks →
    count_by (λ x. same_spot x s) (spots n) ≡ 1
here_once n s die block =
    sum_joined is (row n.blocks) n.dies ∙ one_total (λ i. sum_by is (row n.blocks i)) s.die same other n.dies die
  where
    is : Spot → ℕ
    is x = one_if (same_spot x s)

    same : sum_by is (row n.blocks s.die) ≡ 1
    same =
        sum_made is (λ b. record { die = s.die; block = b }) n.blocks
        ∙ one_total (λ b. is (record { die = s.die; block = b })) s.block (ap one_if (spot_self s))
        (λ b apart. ap one_if (and_right (s.die == s.die) (b == s.block) (ne_eqb b s.block apart))) n.blocks block

    other : (i : ℕ) → i ≢ s.die → sum_by is (row n.blocks i) ≡ 0
    other i apart =
        sum_made is (λ b. record { die = i; block = b }) n.blocks
        ∙ zero_total (λ b. is (record { die = i; block = b }))
        (λ b. ap (λ (c : Bool). one_if (c && (b == s.block))) (ne_eqb i s.die apart)) n.blocks

-- ## A block more

-- a test that one block more passes
more_count : (p q : Spot → Bool) (same : Spot → Bool) →
    ((x : Spot) → one_if (q x) ≡ one_if (p x) + one_if (same x)) → (xs : List Spot) →
    count_by q xs ≡ count_by p xs + count_by same xs
more_count p q same each [] = refl
more_count p q same each (x ∷ xs) =
    let rest = more_count p q same each xs in
    let here = each x in
    let a = sum_by-cons (λ (y : Spot). one_if (q y)) x xs in
    let b = sum_by-cons (λ (y : Spot). one_if (p y)) x xs in
    let c = sum_by-cons (λ (y : Spot). one_if (same y)) x xs in
    omega (arith, rest, here, a, b, c)

-- the blocks with one of them bad
abbrev with_bad : (Spot → BlockState) → Spot → Spot → BlockState
with_bad blocks s = at_spot blocks s Bad

pub one_bad_more : (n : Numbers) (blocks : Spot → BlockState) (s : Spot) → s.die < n.dies → s.block < n.blocks →
    is_bad (blocks s) ≡ false →
    count_by (λ x. is_bad (with_bad blocks s x)) (spots n) ≡ count_by (λ x. is_bad (blocks x)) (spots n) + 1
one_bad_more n blocks s die block good =
    more_count (λ x. is_bad (blocks x)) (λ x. is_bad (with_bad blocks s x)) (λ x. same_spot x s) each (spots n)
    ∙ ap (λ (k : ℕ). count_by (λ x. is_bad (blocks x)) (spots n) + k) (here_once n s die block)
  where
    each : (x : Spot) → one_if (is_bad (with_bad blocks s x)) ≡ one_if (is_bad (blocks x)) + one_if (same_spot x s)
    each x = by (spot_cases x s)
      where
        by : ((same_spot x s ≡ true) × (x ≡ s)) ⊎ ((same_spot x s ≡ false) × (x ≢ s)) →
            one_if (is_bad (with_bad blocks s x)) ≡ one_if (is_bad (blocks x)) + one_if (same_spot x s)
        by (inl (is, same)) =
            let was : is_bad (blocks x) ≡ false = ap (λ (y : Spot). is_bad (blocks y)) same ∙ good in
            ap (λ (b : Bool). one_if (is_bad (if b then Bad else blocks x))) is
            ∙ sym (ap (λ (b : Bool). one_if b + one_if (same_spot x s)) was ∙ ap (λ (b : Bool). 0 + one_if b) is)
        by (inr (is, apart)) =
            ap (λ (b : Bool). one_if (is_bad (if b then Bad else blocks x))) is
            ∙ sym (ap (λ (b : Bool). one_if (is_bad (blocks x)) + one_if b) is ∙ omega arith)

pub bad_again : (n : Numbers) (blocks : Spot → BlockState) (s : Spot) → is_bad (blocks s) ≡ true →
    count_by (λ x. is_bad (with_bad blocks s x)) (spots n) ≡ count_by (λ x. is_bad (blocks x)) (spots n)
bad_again n blocks s bad = ap (λ (f : Spot → Bool). count_by f (spots n)) (λ i x. each x i)
  where
    each : (x : Spot) → is_bad (with_bad blocks s x) ≡ is_bad (blocks x)
    each x = by (spot_cases x s)
      where
        by : ((same_spot x s ≡ true) × (x ≡ s)) ⊎ ((same_spot x s ≡ false) × (x ≢ s)) →
            is_bad (with_bad blocks s x) ≡ is_bad (blocks x)
        by (inl (is, same)) =
            ap (λ (b : Bool). is_bad (if b then Bad else blocks x)) is
            ∙ sym (ap (λ (y : Spot). is_bad (blocks y)) same ∙ bad)
        by (inr (is, apart)) = ap (λ (b : Bool). is_bad (if b then Bad else blocks x)) is
