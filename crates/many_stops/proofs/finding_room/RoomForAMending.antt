-- Room for a mending: what free blocks give of it, what programs take of it, and how many blocks hold what a mending
-- programs.
use Rattle.many_stops.proofs.Common.{Bad, BlockState, Bool, Closed, Filling, Free, IsIn, List, Numbers, Spot, [], ap}
use Rattle.many_stops.proofs.Common.{arith, at_spot, at_spot_cases, cond, count_by, div_ceil, false, free_count}
use Rattle.many_stops.proofs.Common.{if◌then◌else◌, inl, inr, is_free, least_room, mending_blocks, refl, room_in, spots}
use Rattle.many_stops.proofs.Common.{state_after, suc, sum_by-cons, sum_no_less, true, ℕ, ⊎_elim, ◌*◌, ◌+◌, ◌-◌, ◌<◌}
use Rattle.many_stops.proofs.Common.{◌==◌, ◌∷◌, ◌≡◌, ◌≤◌}
use Rattle.std.proofs.Math.Nat.{lt_of_mul-lt-mul_right}
use Rattle.std.proofs.lemmas.Grind.{div_ceil_times}
use Rattle.std.specs.List.{sum_by}
use Rattle.power_loss.specs.MendingRoom.{page_room}
use Rattle.many_stops.proofs.room_left.SumsOfRoom.{sum_more}

-- Counts and sums

-- where of four tests each element passes no fewer of the last two than of the first two, so do all together
pub counts_under : {A : Type 0} (p q u w : A → Bool) (xs : List A) →
    ((x : A) → IsIn x xs → cond (p x) 1 0 + cond (q x) 1 0 ≤ cond (u x) 1 0 + cond (w x) 1 0) →
    count_by p xs + count_by q xs ≤ count_by u xs + count_by w xs
counts_under p q u w [] each = omega arith
counts_under {A} p q u w (x ∷ xs) each =
    let a = sum_by-cons (λ (y : A). cond (p y) 1 0) x xs in
    let b = sum_by-cons (λ (y : A). cond (q y) 1 0) x xs in
    let c = sum_by-cons (λ (y : A). cond (u y) 1 0) x xs in
    let d = sum_by-cons (λ (y : A). cond (w y) 1 0) x xs in
    let l = each x (inl refl) in
    let r = counts_under p q u w xs (λ y i. each y (inr i)) in
    omega (arith, a, b, c, d, l, r)

-- where each element is no more than so much if it passes, and nothing if it does not, the sum is no more than as many
-- times that as pass
pub sum_within : {A : Type 0} (test : A → Bool) (m : ℕ) (f : A → ℕ) (xs : List A) →
    ((x : A) → IsIn x xs → f x ≤ cond (test x) m 0) → sum_by f xs ≤ m * count_by test xs
sum_within test m f [] each = omega arith
sum_within {A} test m f (x ∷ xs) each =
    let a = sum_by-cons f x xs in
    let b = sum_by-cons (λ (y : A). cond (test y) 1 0) x xs in
    let l = each x (inl refl) in
    let r = sum_within test m f xs (λ y i. each y (inr i)) in
    by (test x) (f x) (sum_by f xs) (count_by test xs) a b l r
  where
    by : (t : Bool) (fx s c : ℕ) {whole count : ℕ} → whole ≡ fx + s → count ≡ cond t 1 0 + c → fx ≤ cond t m 0 →
        s ≤ m * c → whole ≤ m * count
    by true fx s c a b l r = rw b (omega (arith, a, l, r))
    by false fx s c a b l r = rw b (omega (arith, a, l, r))

-- Room

-- without a block that is being filled there is room in free ones alone
pub free_room_alone : (n : Numbers) (blocks : Spot → BlockState) →
    ((s : Spot) (next : ℕ) → IsIn s (spots n) → blocks s ≡ Filling next → ⊥) →
    room_in n blocks ≤ n.pages * free_count n blocks
free_room_alone n blocks none =
    sum_within (λ s. is_free (blocks s)) n.pages (λ s. page_room n.pages (blocks s)) (spots n)
    (λ s i. by (blocks s) (λ next. none s next i))
  where
    by : (x : BlockState) → ((next : ℕ) → x ≡ Filling next → ⊥) → page_room n.pages x ≤ cond (is_free x) n.pages 0
    by Free f = omega arith
    by (Filling next) f = absurd (f next refl)
    by Closed f = omega arith
    by Bad f = omega arith

-- a free block whose first page is programmed has no more room than before
pub opened_room : (n : Numbers) (blocks : Spot → BlockState) (s : Spot) → blocks s ≡ Free →
    room_in n (at_spot blocks s (Filling 0)) ≤ room_in n blocks
opened_room n blocks s free =
    sum_no_less (λ a. page_room n.pages (at_spot blocks s (Filling 0) a)) (λ a. page_room n.pages (blocks a)) (spots n)
    (λ a i. ⊎_elim
    (λ k.
    let e = ap (page_room n.pages) k.1 in
    let f = ap (λ z. page_room n.pages (blocks z)) k.0 in
    let g = ap (page_room n.pages) free in
    omega (arith, e, f, g)) (λ k. let e = ap (page_room n.pages) k.1 in omega (arith, e))
    (at_spot_cases blocks s (Filling 0) a))

less_after : (pages page : ℕ) → page < pages → suc (page_room pages (state_after pages page)) ≤ pages - page
less_after pages page l = by (page + 1 == pages)
  where
    by : (b : Bool) → suc (page_room pages (if b then Closed else Filling (page + 1))) ≤ pages - page
    by true = omega (arith, l)
    by false = omega (arith, l)

-- a program that ended well takes room for one page at least
pub program_fills : (n : Numbers) (blocks : Spot → BlockState) (s : Spot) (page : ℕ) → page < n.pages →
    blocks s ≡ Filling page → IsIn s (spots n) →
    suc (room_in n (at_spot blocks s (state_after n.pages page))) ≤ room_in n blocks
program_fills n blocks s page l is inside =
    let r = sum_more 1 (λ a. page_room n.pages (at_spot blocks s (state_after n.pages page) a))
    (λ a. page_room n.pages (blocks a)) s (spots n) inside (λ a i. each a) one in
    omega (arith, r)
  where
    after : at_spot blocks s (state_after n.pages page) s ≡ state_after n.pages page
    after = ⊎_elim (λ k. k.1) (λ k. absurd (k.0 refl)) (at_spot_cases blocks s (state_after n.pages page) s)

    one : 1 + page_room n.pages (at_spot blocks s (state_after n.pages page) s) ≤ page_room n.pages (blocks s)
    one =
        let e = ap (page_room n.pages) after in
        let f = ap (page_room n.pages) is in
        let r = less_after n.pages page l in
        omega (arith, e, f, r)

    each : (a : Spot) →
        page_room n.pages (at_spot blocks s (state_after n.pages page) a) ≤ page_room n.pages (blocks a)
    each a = ⊎_elim
        (λ k.
        let e = ap (page_room n.pages) k.1 in
        let f = ap (λ z. page_room n.pages (blocks z)) k.0 in
        let g = ap (page_room n.pages) is in
        let r = less_after n.pages page l in
        omega (arith, e, f, g, r)) (λ k. let e = ap (page_room n.pages) k.1 in omega (arith, e))
        (at_spot_cases blocks s (state_after n.pages page) a)

-- a block that goes bad takes all room that it had
pub failure_fills : (n : Numbers) (blocks : Spot → BlockState) (s : Spot) (m : ℕ) →
    m ≤ page_room n.pages (blocks s) → IsIn s (spots n) → m + room_in n (at_spot blocks s Bad) ≤ room_in n blocks
failure_fills n blocks s m room inside =
    sum_more m (λ a. page_room n.pages (at_spot blocks s Bad a)) (λ a. page_room n.pages (blocks a)) s (spots n) inside
    (λ a i. ⊎_elim (λ k. let e = ap (page_room n.pages) k.1 in omega (arith, e))
    (λ k. let e = ap (page_room n.pages) k.1 in omega (arith, e)) (at_spot_cases blocks s Bad a))
    (let e = ap (page_room n.pages) bad in omega (arith, e, room))
  where
    bad : at_spot blocks s Bad s ≡ Bad
    bad = ⊎_elim (λ k. k.1) (λ k. absurd (k.0 refl)) (at_spot_cases blocks s Bad s)

-- How many blocks a mending needs

holds_two_more : (pages slots filled : ℕ) → 2 ≤ pages → slots ≤ filled * pages → slots + 2 ≤ pages * (filled + 1)
holds_two_more pages slots filled some hold = omega (arith, some, hold)

-- they hold the pages of a full cache and two marks
pub blocks_hold : (n : Numbers) → 2 ≤ n.pages → n.slots + 2 ≤ n.pages * mending_blocks n
blocks_hold n some =
    holds_two_more n.pages n.slots (div_ceil n.slots n.pages) some
    (div_ceil_times n.slots n.pages (omega (arith, some))).0

room_twice : (dies filled : ℕ) → dies + 2 + 2 * filled ≡ dies + 2 * (filled + 1)
room_twice dies filled = omega arith

-- and twice as many, with one for each die, are what the device's own pages need
pub least_room_twice : (n : Numbers) → least_room n ≡ n.dies + 2 * mending_blocks n
least_room_twice n = room_twice n.dies (div_ceil n.slots n.pages)

-- what is less by pages is no more by blocks
pub fewer_blocks : (pages k x step room : ℕ) → step + k * pages ≤ room → room + 1 ≤ pages * x + pages + step → k ≤ x
fewer_blocks pages k x step room needed left =
    let l : k * pages < suc x * pages = omega (arith, needed, left) in
    let r = lt_of_mul-lt-mul_right pages l in
    omega (arith, r)
