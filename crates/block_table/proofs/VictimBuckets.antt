-- Blocks that may be collected, bucket by bucket: the first of the least live pages.
use Rattle.block_table.proofs.Common.{AreCounted, Blocks, Bool, Buckets, CanBeVictim, IsLowest, IsVictim, List, Lives}
use Rattle.block_table.proofs.Common.{Sizes, Spot, and_from, and_parts, ap, arith, block_place, blocks_in, cases_lt}
use Rattle.block_table.proofs.Common.{eq-eqb, eqb-true, false, false≢true, gains, has, has_block, inl, inr, is_pinned}
use Rattle.block_table.proofs.Common.{is_victim_at, le-ltb, length, live_count, lt-ltb, ltb-true, may_be_victim}
use Rattle.block_table.proofs.Common.{mul-add-lt, mul_comm, nat_lt, not, refl, spot_there, state_of, subst, sym, true}
use Rattle.block_table.proofs.Common.{ℕ, ◌&&◌, ◌*◌, ◌+◌, ◌<◌, ◌==◌, ◌∙◌, ◌≡◌, ◌≤◌, ◌⊎◌}
use Rattle.block_table.specs.Victims.{IsBefore, IsNoVictim}
use Rattle.block_table.proofs.LiveCounts.{order, spot_inside}
use Rattle.block_table.proofs.Searches.{can_shown, can_told}
use Rattle.block_table.proofs.Unpinned.{AreUnpinned, count_at_most, place_there, spot_block, spot_die}
use Rattle.block_table.proofs.VictimWords.{unpinned_is, spot_placed}

-- Buckets

-- no block that does not stand in the bucket may be collected
pub empty_none : (l : Lives) (t : Blocks) (scarce : Bool) (counts : List ℕ) (b : Buckets) (count : ℕ) →
    count ≤ l.sizes.pages →
    length l.pins ≡ blocks_in l.sizes → AreCounted l counts → AreUnpinned b l.sizes.pages counts l.pins →
    (p : ℕ) → has b count p ≡ false → is_victim_at l t scarce count p ≡ false
empty_none l t scarce counts b count few whole kept old p empty = by (cases_lt p (blocks_in l.sizes))
  where
    s : Spot
    s = spot_there l.sizes p

    none : (n c g : Bool) → (n && c) ≡ false → (c && (n && g)) ≡ false
    none true true g h = absurd (false≢true (sym h))
    none true false g h = refl
    none false true g h = refl
    none false false g h = refl

    by : (p < blocks_in l.sizes) ⊎ (blocks_in l.sizes ≤ p) → is_victim_at l t scarce count p ≡ false
    by (inl inside) =
        ap (λ (c : Bool). c && ((live_count l s == count) && may_be_victim l t scarce s))
        (lt-ltb p (blocks_in l.sizes) inside)
        ∙ none (not (is_pinned l s)) (live_count l s == count) (gains l scarce s (state_of t s.die s.block))
        (sym (unpinned_is l counts count p kept whole inside) ∙ sym (old count p few) ∙ empty)
    by (inr out) =
        ap (λ (c : Bool). c && ((live_count l s == count) && may_be_victim l t scarce s))
        (le-ltb p (blocks_in l.sizes) out)

-- Victims

at_place : {l : Lives} {t : Blocks} {scarce : Bool} (s : Spot) → CanBeVictim l t scarce s →
    is_victim_at l t scarce (live_count l s) (block_place l.sizes s) ≡ true
at_place {l} {t} {scarce} s can =
    and_from (nat_lt (block_place l.sizes s) (blocks_in l.sizes))
    ((live_count l (spot_there l.sizes (block_place l.sizes s)) == live_count l s)
    && may_be_victim l t scarce (spot_there l.sizes (block_place l.sizes s)))
    (lt-ltb (block_place l.sizes s) (blocks_in l.sizes) (spot_inside l.sizes s can.inside))
    (and_from (live_count l (spot_there l.sizes (block_place l.sizes s)) == live_count l s)
    (may_be_victim l t scarce (spot_there l.sizes (block_place l.sizes s)))
    (eq-eqb (live_count l (spot_there l.sizes (block_place l.sizes s))) (live_count l s)
    (ap (live_count l) (spot_placed l.sizes s can.inside)))
    (ap (may_be_victim l t scarce) (spot_placed l.sizes s can.inside) ∙ (can_told can).1))

-- no block with at most so many live pages may be collected
pub none_more : (l : Lives) (t : Blocks) (scarce : Bool) (count : ℕ) →
    ((s : Spot) → CanBeVictim l t scarce s → count ≤ live_count l s) →
    ((p : ℕ) → is_victim_at l t scarce count p ≡ false) → (s : Spot) → CanBeVictim l t scarce s →
    count + 1 ≤ live_count l s
none_more l t scarce count before none s can = by (order count (live_count l s))
  where
    by : (count < live_count l s) ⊎ ((count ≡ live_count l s) ⊎ (live_count l s < count)) → count + 1 ≤ live_count l s
    by (inl m) = omega arith
    by (inr (inl e)) = absurd (false≢true (sym (none (block_place l.sizes s))
        ∙ ap (λ (c : ℕ). is_victim_at l t scarce c (block_place l.sizes s)) e ∙ at_place s can))
    by (inr (inr m)) = let h = before s can in absurd (omega arith)

pub none_left : (l : Lives) (t : Blocks) (scarce : Bool) (count : ℕ) → l.sizes.pages + 1 ≤ count →
    ((s : Spot) → CanBeVictim l t scarce s → count ≤ live_count l s) → IsNoVictim l t scarce
none_left l t scarce count over before s can =
    let h = before s can in
    let k = count_at_most l s in
    omega arith

-- blocks are counted in the order of their places
place_before : (n : Sizes) (a b : Spot) → has_block n a ≡ true → has_block n b ≡ true → IsBefore a b →
    block_place n a < block_place n b
place_before n a b h k (inl m) =
    let u = ltb-true a.block n.blocks (and_parts (nat_lt a.die n.dies) (nat_lt a.block n.blocks) h).1 in
    let r = mul-add-lt a.die n.blocks a.block b.die m u in
    let e = mul_comm n.blocks b.die in
    omega arith
place_before n a b h k (inr (e, m)) =
    let f : a.die * n.blocks ≡ b.die * n.blocks = ap (λ (d : ℕ). d * n.blocks) e in
    omega arith

-- the first block of the least number of live pages is the victim
pub first_is : (l : Lives) (t : Blocks) (scarce : Bool) (count p : ℕ) →
    ((s : Spot) → CanBeVictim l t scarce s → count ≤ live_count l s) →
    IsLowest (is_victim_at l t scarce count) p →
    IsVictim l t scarce (spot_there l.sizes p)
first_is l t scarce count p before first = record {
  can = can;
  least = λ a q. subst (λ (c : ℕ). c ≤ live_count l a) (sym count_is) (before a q);
  lowest = λ a q same w. false≢true (sym (first.below (block_place l.sizes a) (earlier a q w))
      ∙ ap (λ (c : ℕ). is_victim_at l t scarce c (block_place l.sizes a)) (sym (same ∙ count_is)) ∙ at_place a q);
}
  where
    s : Spot
    s = spot_there l.sizes p

    parts : (nat_lt p (blocks_in l.sizes) ≡ true) × (((live_count l s == count) && may_be_victim l t scarce s) ≡ true)
    parts = and_parts (nat_lt p (blocks_in l.sizes)) ((live_count l s == count) && may_be_victim l t scarce s)
        first.passes

    inner : ((live_count l s == count) ≡ true) × (may_be_victim l t scarce s ≡ true)
    inner = and_parts (live_count l s == count) (may_be_victim l t scarce s) parts.1

    inside : p < blocks_in l.sizes
    inside = ltb-true p (blocks_in l.sizes) parts.0

    count_is : live_count l s ≡ count
    count_is = eqb-true (live_count l s) count inner.0

    can : CanBeVictim l t scarce s
    can = can_shown ((spot_block l.sizes p inside, inl (spot_die l.sizes p inside)), inner.1)

    earlier : (a : Spot) → CanBeVictim l t scarce a → IsBefore a s → block_place l.sizes a < p
    earlier a q w = subst (λ (k : ℕ). block_place l.sizes a < k) (place_there l.sizes p)
        (place_before l.sizes a s q.inside can.inside w)
