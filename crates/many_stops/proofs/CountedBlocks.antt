-- How many blocks are free: no fewer where each block that was free is so, one less at the most where all but one are,
-- and one more where each is and another is free too. And how many are bad.
use Rattle.many_stops.proofs.Common.{Bad, BlockState, Bool, Closed, Filling, Free, IsSpot, Numbers, Spot, ap, arith}
use Rattle.many_stops.proofs.Common.{at_spot, at_spot_cases, bad_count, cond, count_by, false, free_count, free_or_not}
use Rattle.many_stops.proofs.Common.{in_spots, is_bad, is_free, refl, spots, sum_no_less, sym, true, ℕ, ⊎_elim, ◌+◌}
use Rattle.many_stops.proofs.Common.{◌∙◌, ◌≡◌, ◌≢◌, ◌≤◌}
use Rattle.power_loss.proofs.ordered_lists.ElementsAndOrders.{spots_in}
use Rattle.many_stops.proofs.room_left.SumsOfRoom.{spot_told, spots_apart, sum_less, sum_more}

-- a block counts if it is free
abbrev weight : BlockState → ℕ
weight x = cond (is_free x) 1 0

weight_within : (x : BlockState) → weight x ≤ 1
weight_within Free = omega arith
weight_within state = omega arith

weight_none : (x : BlockState) → x ≢ Free → weight x ≡ 0
weight_none Free h = absurd (h refl)
weight_none state h = refl

weight_free : {x : BlockState} → x ≡ Free → weight x ≡ 1
weight_free e = ap weight e

weight_less : (x y : BlockState) → (x ≡ Free → y ≡ Free) → weight x ≤ weight y
weight_less x y h = ⊎_elim
    (λ e. let a = weight_free e in let b = weight_free (h e) in omega (arith, a, b))
    (λ out. let a = weight_none x out in omega (arith, a)) (free_or_not x)

-- each block of the dies that was free is so
pub no_fewer : (n : Numbers) (was now : Spot → BlockState) → ((s : Spot) → IsSpot n s → was s ≡ Free → now s ≡ Free) →
    free_count n was ≤ free_count n now
no_fewer n was now each = sum_no_less (λ s. weight (was s)) (λ s. weight (now s)) (spots n)
    (λ s i. weight_less (was s) (now s) (each s (spots_in i)))

-- each but one is so
all_but_one : (n : Numbers) (was now : Spot → BlockState) (lost : Spot) →
    ((s : Spot) → IsSpot n s → s ≢ lost → was s ≡ Free → now s ≡ Free) → free_count n was ≤ 1 + free_count n now
all_but_one n was now lost each =
    sum_less 1 (λ s. weight (was s)) (λ s. weight (now s)) lost (spots n) (spot_told lost) (spots_apart n)
    (λ s i other. weight_less (was s) (now s) (each s (spots_in i) other))
    (let w = weight_within (was lost) in omega (arith, w))

-- each is so, and one that was not
pub one_more : (n : Numbers) (was now : Spot → BlockState) (won : Spot) → IsSpot n won →
    ((s : Spot) → IsSpot n s → was s ≡ Free → now s ≡ Free) → was won ≢ Free → now won ≡ Free →
    1 + free_count n was ≤ free_count n now
one_more n was now won on each taken free =
    sum_more 1 (λ s. weight (was s)) (λ s. weight (now s)) won (spots n) (in_spots on)
    (λ s i. weight_less (was s) (now s) (each s (spots_in i)))
    (let a = weight_none (was won) taken in let b = weight_free free in omega (arith, a, b))

-- each but one is so, and one that was not
pub one_for_another : (n : Numbers) (was now : Spot → BlockState) (lost won : Spot) → IsSpot n won →
    ((s : Spot) → IsSpot n s → s ≢ lost → was s ≡ Free → now s ≡ Free) → was won ≢ Free → now won ≡ Free →
    won ≢ lost → free_count n was ≤ free_count n now
one_for_another n was now lost won on each taken free apart =
    let with_lost = at_spot now lost Free in
    let up : 1 + free_count n was ≤ free_count n with_lost =
    one_more n was with_lost won on
    (λ s on e. ⊎_elim (λ k. k.1) (λ k. k.1 ∙ each s on k.0 e) (at_spot_cases now lost Free s)) taken
    (⊎_elim (λ k. absurd (apart k.0)) (λ k. k.1 ∙ free) (at_spot_cases now lost Free won)) in
    let down : free_count n with_lost ≤ 1 + free_count n now =
    all_but_one n with_lost now lost
    (λ s on other e. ⊎_elim (λ k. absurd (other k.0)) (λ k. sym k.1 ∙ e) (at_spot_cases now lost Free s)) in
    omega (arith, up, down)

-- Where one block changes

-- a block that was not free leaves those free that are
pub others_free : (blocks : Spot → BlockState) (s : Spot) (x : BlockState) → blocks s ≢ Free →
    (a : Spot) → blocks a ≡ Free → at_spot blocks s x a ≡ Free
others_free blocks s x taken a free = ⊎_elim (λ k. absurd (taken (ap blocks (sym k.0) ∙ free))) (λ k. k.1 ∙ free)
    (at_spot_cases blocks s x a)

-- so no fewer are
pub none_fewer : (n : Numbers) (blocks : Spot → BlockState) (s : Spot) (x : BlockState) → blocks s ≢ Free →
    free_count n blocks ≤ free_count n (at_spot blocks s x)
none_fewer n blocks s x taken =
    no_fewer n blocks (at_spot blocks s x) (λ a on free. others_free blocks s x taken a free)

-- whatever one block becomes, one less is free at the most
pub one_fewer : (n : Numbers) (blocks : Spot → BlockState) (s : Spot) (x : BlockState) →
    free_count n blocks ≤ 1 + free_count n (at_spot blocks s x)
one_fewer n blocks s x = all_but_one n blocks (at_spot blocks s x) s
    (λ a on other e. ⊎_elim (λ k. absurd (other k.0)) (λ k. k.1 ∙ e) (at_spot_cases blocks s x a))

-- Bad blocks

pub is_not_bad : (x : BlockState) → x ≢ Bad → is_bad x ≡ false
is_not_bad Bad h = absurd (h refl)
is_not_bad Free h = refl
is_not_bad Closed h = refl
is_not_bad (Filling next) h = refl

-- where the same blocks are bad, as many are
pub bad_alike : (n : Numbers) (was now : Spot → BlockState) → ((s : Spot) → is_bad (now s) ≡ is_bad (was s)) →
    bad_count n now ≡ bad_count n was
bad_alike n was now same = λ i. count_by (λ s. same s i) (spots n)

-- they are where one block changes that was good, and is good
pub bad_stays : (blocks : Spot → BlockState) (s : Spot) (x : BlockState) → blocks s ≢ Bad → x ≢ Bad → (a : Spot) →
    is_bad (at_spot blocks s x a) ≡ is_bad (blocks a)
bad_stays blocks s x was now a = ⊎_elim
    (λ k. ap is_bad k.1 ∙ is_not_bad x now ∙ sym (ap (λ z. is_bad (blocks z)) k.0 ∙ is_not_bad (blocks s) was))
    (λ k. ap is_bad k.1) (at_spot_cases blocks s x a)

pub good_alike : (n : Numbers) (blocks : Spot → BlockState) (s : Spot) (x : BlockState) → blocks s ≢ Bad → x ≢ Bad →
    bad_count n (at_spot blocks s x) ≡ bad_count n blocks
good_alike n blocks s x was now = bad_alike n blocks (at_spot blocks s x) (bad_stays blocks s x was now)

weighs_bad : (x y : BlockState) → (x ≡ Bad → y ≡ Bad) → cond (is_bad x) 1 0 ≤ cond (is_bad y) 1 0
weighs_bad Bad y h = let e = ap {B = ℕ} (λ (z : BlockState). cond (is_bad z) 1 0) (h refl) in omega (arith, e)
weighs_bad Free y h = omega arith
weighs_bad Closed y h = omega arith
weighs_bad (Filling next) y h = omega arith

-- where a block goes bad, no fewer are
pub no_fewer_bad : (n : Numbers) (blocks : Spot → BlockState) (s : Spot) →
    bad_count n blocks ≤ bad_count n (at_spot blocks s Bad)
no_fewer_bad n blocks s =
    sum_no_less (λ a. cond (is_bad (blocks a)) 1 0) (λ a. cond (is_bad (at_spot blocks s Bad a)) 1 0) (spots n)
    (λ a i. weighs_bad (blocks a) (at_spot blocks s Bad a)
    (λ e. ⊎_elim (λ k. k.1) (λ k. k.1 ∙ e) (at_spot_cases blocks s Bad a)))

-- where a block goes bad that was not, one more is
pub one_bad_more : (n : Numbers) (blocks : Spot → BlockState) (s : Spot) → IsSpot n s → blocks s ≢ Bad →
    1 + bad_count n blocks ≤ bad_count n (at_spot blocks s Bad)
one_bad_more n blocks s on good =
    sum_more 1 (λ a. cond (is_bad (blocks a)) 1 0) (λ a. cond (is_bad (at_spot blocks s Bad a)) 1 0) s (spots n)
    (in_spots on)
    (λ a i. weighs_bad (blocks a) (at_spot blocks s Bad a)
    (λ e. ⊎_elim (λ k. k.1) (λ k. k.1 ∙ e) (at_spot_cases blocks s Bad a)))
    (let was = ap {B = ℕ} (λ (b : Bool). cond b 1 0) (is_not_bad (blocks s) good) in
    let now = ap {B = ℕ} (λ (x : BlockState). cond (is_bad x) 1 0)
    (⊎_elim (λ k. k.1) (λ k. absurd (k.0 refl)) (at_spot_cases blocks s Bad s)) in
    omega (arith, was, now))

-- and one more at the most
pub one_bad_most : (n : Numbers) (blocks : Spot → BlockState) (s : Spot) →
    bad_count n (at_spot blocks s Bad) ≤ 1 + bad_count n blocks
one_bad_most n blocks s =
    sum_less 1 (λ a. cond (is_bad (at_spot blocks s Bad a)) 1 0) (λ a. cond (is_bad (blocks a)) 1 0) s (spots n)
    (spot_told s) (spots_apart n)
    (λ a i other. ⊎_elim (λ k. absurd (other k.0))
    (λ k. let e = ap {B = ℕ} (λ (x : BlockState). cond (is_bad x) 1 0) k.1 in omega (arith, e))
    (at_spot_cases blocks s Bad a))
    (let l = one_at_most (is_bad (at_spot blocks s Bad s)) in omega (arith, l))
  where
    one_at_most : (b : Bool) → cond b 1 0 ≤ 1
    one_at_most true = omega arith
    one_at_most false = omega arith
