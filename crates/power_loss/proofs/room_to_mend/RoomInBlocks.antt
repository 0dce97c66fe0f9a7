-- The pages that may still be programmed, summed over the blocks of all dies: what free blocks make of the sum at the
-- least, and what one program and one erase leave of it.
use Rattle.power_loss.proofs.Common.{All, All-nil, AreLost, Bad, BlockState, Bool, Cells, Closed, Filling, Free}
use Rattle.power_loss.proofs.Common.{IsOpenedTranslation, Key, List, Numbers, Pin, Programming, Spot, Translation, []}
use Rattle.power_loss.proofs.Common.{ap, arith, at_most, at_spot, at_spot_cases, cond, eqb-true, false, if◌then◌else◌}
use Rattle.power_loss.proofs.Common.{inl, inr, is_free, length, none-some, refl, spot_cases, spots, state_after, subst}
use Rattle.power_loss.proofs.Common.{sum_by-cons, sym, true, ℕ, ⊎_elim, ◌*◌, ◌+◌, ◌-◌, ◌<◌, ◌==◌, ◌∙◌, ◌∷◌, ◌≡◌, ◌≢◌}
use Rattle.power_loss.proofs.Common.{◌≤◌}
use Rattle.power_loss.proofs.MachineWords.{IsBefore}
use Rattle.std.specs.List.{count_by, sum_by}
use Rattle.std.proofs.Math.Nat.{mul-le-mul_left}
use Rattle.std.proofs.lemmas.Grind.{div_ceil_times}
use Rattle.std.specs.Int.{div_ceil}
use Rattle.ufs_spec.specs.Translation.{count_blocks, least_room}
use Rattle.power_loss.specs.MendingRoom.{HasRoom, IsOffFree, MendsAlone, page_of_step, page_room}
use Rattle.power_loss.proofs.lives.LostKeys.{turns_at_opening}
use Rattle.power_loss.proofs.ordered_lists.ElementsAndOrders.{IsIn, IsOrdered, spots_ordered}

-- Sums

-- a sum that is something has an element that is
pub sum_has : {A : Type 0} (f : A → ℕ) (xs : List A) → 1 ≤ sum_by f xs → (x : A) × IsIn x xs × (1 ≤ f x)
sum_has f [] h = absurd (omega (arith, h))
sum_has f (x ∷ xs) h =
    let e = sum_by-cons f x xs in
    ⊎_elim (λ some. (x, inl refl, some))
    (λ none. let r = sum_has f xs (omega (arith, h, e, none)) in (r.0, inr r.1, r.2)) (at_most 1 (f x))

one_more : (m c s x : ℕ) → m * c ≤ s → x ≡ m → m * (1 + c) ≤ x + s
one_more m c s x h e = omega (arith, h, e)

none_more : (m c s x : ℕ) → m * c ≤ s → m * (0 + c) ≤ x + s
none_more m c s x h = omega (arith, h)

-- where each element that passes is so much, the sum is as many times that at the least
pub sum_of_passing : {A : Type 0} (test : A → Bool) (m : ℕ) (f : A → ℕ) (xs : List A) →
    ((x : A) → test x ≡ true → f x ≡ m) → m * count_by test xs ≤ sum_by f xs
sum_of_passing test m f [] each = omega arith
sum_of_passing {A} test m f (x ∷ xs) each =
    let e = sum_by-cons f x xs in
    let c = sum_by-cons (λ (y : A). cond (test y) 1 0) x xs in
    rw e (rw c (by (test x) refl (sum_of_passing test m f xs each)))
  where
    by : (b : Bool) → test x ≡ b → m * count_by test xs ≤ sum_by f xs →
        m * (cond b 1 0 + count_by test xs) ≤ f x + sum_by f xs
    by true is rest = one_more m (count_by test xs) (sum_by f xs) (f x) rest (each x is)
    by false is rest = none_more m (count_by test xs) (sum_by f xs) (f x) rest

-- where each element is no less, the sum is no less
pub sum_no_less : {A : Type 0} (f g : A → ℕ) (xs : List A) → ((x : A) → IsIn x xs → f x ≤ g x) →
    sum_by f xs ≤ sum_by g xs
sum_no_less f g [] each = omega arith
sum_no_less f g (x ∷ xs) each =
    let a = sum_by-cons f x xs in
    let b = sum_by-cons g x xs in
    let l = each x (inl refl) in
    let r = sum_no_less f g xs (λ y i. each y (inr i)) in
    omega (arith, a, b, l, r)

apart : (a b s : Spot) → a ≡ s → b ≡ s → IsBefore a b → ⊥
apart a b s e f (inl l) = let d = ap (λ (z : Spot). z.die) (e ∙ sym f) in omega (arith, l, d)
apart a b s e f (inr (d, l)) = let k = ap (λ (z : Spot). z.block) (e ∙ sym f) in omega (arith, l, k)

-- where one block has so much less at the most, and no other less, the sum has
sum_less : (m : ℕ) (f g : Spot → ℕ) (s : Spot) (xs : List Spot) → IsOrdered IsBefore xs →
    ((x : Spot) → x ≢ s → f x ≤ g x) → f s ≤ m + g s → sum_by f xs ≤ m + sum_by g xs
sum_less m f g s [] ordered others one = omega arith
sum_less m f g s (x ∷ xs) ordered others one =
    let a = sum_by-cons f x xs in
    let b = sum_by-cons g x xs in
    ⊎_elim
    (λ k.
    let l : f x ≤ m + g x = subst (λ z. f z ≤ m + g z) (sym k.1) one in
    let r = sum_no_less f g xs (λ y i. others y (λ e. apart x y s k.1 e (ordered.0 y i))) in
    omega (arith, a, b, l, r))
    (λ k.
    let l = others x k.1 in
    let r = sum_less m f g s xs ordered.1 others one in
    omega (arith, a, b, l, r)) (spot_cases x s)

-- Room

-- the room of all blocks
abbrev pub room_in : Numbers → (Spot → BlockState) → ℕ
room_in n blocks = sum_by (λ s. page_room n.pages (blocks s)) (spots n)

free_room : (pages : ℕ) (x : BlockState) → is_free x ≡ true → page_room pages x ≡ pages
free_room pages Free h = refl
free_room pages state h = cc

-- free blocks have room for their pages
pub room_of_free : (n : Numbers) (blocks : Spot → BlockState) →
    n.pages * count_by (λ s. is_free (blocks s)) (spots n) ≤ room_in n blocks
room_of_free n blocks = sum_of_passing (λ s. is_free (blocks s)) n.pages (λ s. page_room n.pages (blocks s)) (spots n)
    (λ s h. free_room n.pages (blocks s) h)

-- where one block changes, so much room is taken at the most as there was more of it
room_less : (n : Numbers) (blocks : Spot → BlockState) (s : Spot) (x : BlockState) (m : ℕ) →
    page_room n.pages (blocks s) ≤ m + page_room n.pages x → room_in n blocks ≤ m + room_in n (at_spot blocks s x)
room_less n blocks s x m taken =
    sum_less m (λ a. page_room n.pages (blocks a)) (λ a. page_room n.pages (at_spot blocks s x a)) s (spots n)
    (spots_ordered n) others one
  where
    others : (a : Spot) → a ≢ s → page_room n.pages (blocks a) ≤ page_room n.pages (at_spot blocks s x a)
    others a other = ⊎_elim (λ k. absurd (other k.0))
        (λ k. let e = ap (page_room n.pages) k.1 in omega (arith, e)) (at_spot_cases blocks s x a)

    one : page_room n.pages (blocks s) ≤ m + page_room n.pages (at_spot blocks s x s)
    one = ⊎_elim (λ k. let e = ap (page_room n.pages) k.1 in omega (arith, e, taken)) (λ k. absurd (k.0 refl))
        (at_spot_cases blocks s x s)

room_taken : (pages page : ℕ) → page < pages → pages - page ≤ 1 + page_room pages (state_after pages page)
room_taken pages page l = by (page + 1 == pages) refl
  where
    by : (b : Bool) → (page + 1 == pages) ≡ b →
        pages - page ≤ 1 + page_room pages (if b then Closed else Filling (page + 1))
    by true e = let k = eqb-true (page + 1) pages e in omega (arith, k, l)
    by false e = omega (arith, l)

-- a program that ended well takes room for one page
pub program_takes : (n : Numbers) (blocks : Spot → BlockState) (s : Spot) (page : ℕ) → page < n.pages →
    blocks s ≡ Filling page → room_in n blocks ≤ 1 + room_in n (at_spot blocks s (state_after n.pages page))
program_takes n blocks s page l is =
    room_less n blocks s (state_after n.pages page) 1
    (let e = ap (page_room n.pages) is in let r = room_taken n.pages page l in omega (arith, e, r))

room_within : (pages : ℕ) (x : BlockState) → page_room pages x ≤ pages
room_within pages Free = omega arith
room_within pages (Filling next) = omega arith
room_within pages state = omega arith

-- one that failed takes no more than the room of its block, and so does an erase
pub failure_takes : (n : Numbers) (blocks : Spot → BlockState) (s : Spot) →
    room_in n blocks ≤ n.pages + room_in n (at_spot blocks s Bad)
failure_takes n blocks s =
    room_less n blocks s Bad n.pages (let l = room_within n.pages (blocks s) in omega (arith, l))

-- a block whose state has as much room as before leaves all of it
pub change_leaves : (n : Numbers) (blocks : Spot → BlockState) (s : Spot) (x : BlockState) →
    page_room n.pages (blocks s) ≡ page_room n.pages x → room_in n blocks ≤ room_in n (at_spot blocks s x)
change_leaves n blocks s x same =
    sum_no_less (λ a. page_room n.pages (blocks a)) (λ a. page_room n.pages (at_spot blocks s x a)) (spots n)
    (λ a i. ⊎_elim
    (λ k.
    let e = ap (page_room n.pages) k.1 in
    let f = ap (λ z. page_room n.pages (blocks z)) k.0 in
    omega (arith, e, f, same)) (λ k. let e = ap (page_room n.pages) k.1 in omega (arith, e))
    (at_spot_cases blocks s x a))

-- a free block has room for as many pages as one whose first page is programmed next
pub opening_leaves : (pages : ℕ) {x : BlockState} {page : ℕ} → x ≡ Free → page ≡ 0 →
    page_room pages x ≡ page_room pages (Filling page)
opening_leaves pages {page} free first = let e = ap (page_room pages) free in omega (arith, e, first)

-- A life begins

-- what an opening leaves free is room for a mending of so many keys, and for so many failures
pub opening_room : (n : Numbers) (c : Cells) (bad : Spot → Bool) (t : Translation) (lost : List Key) (failures : ℕ) →
    IsOpenedTranslation n c bad t → AreLost c t.ledger.first_lost t.ledger.greatest_seen lost →
    length lost + 2 + failures * n.pages ≤ n.pages * count_blocks t is_free → HasRoom failures t
opening_room n c bad t lost failures o x room =
    let turns = turns_at_opening n c bad t lost o x in
    let step = ap page_of_step o.no_step in
    let pages : t.numbers.pages * count_blocks t is_free ≡ n.pages * count_blocks t is_free =
    ap (λ (k : Numbers). k.pages * count_blocks t is_free) o.numbers in
    let bad = ap (λ (k : Numbers). failures * k.pages) o.numbers in
    let left = room_of_free t.numbers t.disk.blocks in
    omega (arith, turns, step, pages, bad, left, room)

-- and nothing else is under way
pub opening_alone : (n : Numbers) (c : Cells) (bad : Spot → Bool) (t : Translation) → IsOpenedTranslation n c bad t →
    MendsAlone t
opening_alone n c bad t o = record {
  pins = subst (All (λ (pin : Pin). IsOffFree t.disk.blocks pin.looked)) (sym o.no_pins) (All-nil _);
  no_rests = o.no_rests;
  readable = λ step is absent. absurd (none-some step (sym o.no_step ∙ is));
  of_step = λ die p cell is. absurd (none-some (Programming p cell) (sym (o.disk.idle die) ∙ is));
  one_die = λ die other p q cell more is e. absurd (none-some (Programming p cell) (sym (o.disk.idle die) ∙ is));
}

-- The room that groups leave

enough : (pages slots d filled : ℕ) → 1 ≤ pages → slots ≤ filled * pages →
    slots + 2 ≤ pages * (d + 2 + 2 * filled - d)
enough pages slots d filled some hold =
    let e : d + 2 + 2 * filled - d ≡ 2 + 2 * filled = omega arith in
    rw e (omega (arith, some, hold))

-- less one block for each die, it holds the repairs of a full cache and two marks
pub cache_fits : (n : Numbers) → 1 ≤ n.pages → n.slots + 2 ≤ n.pages * (least_room n - n.dies)
cache_fits n some =
    enough n.pages n.slots n.dies (div_ceil n.slots n.pages) some (div_ceil_times n.slots n.pages some).0

-- so an opening that finds no less of it free has room for as many keys, and each block more may become bad
pub least_room_mends : (n : Numbers) (c : Cells) (bad : Spot → Bool) (t : Translation) (lost : List Key) (failures : ℕ) →
    1 ≤ n.pages → IsOpenedTranslation n c bad t → AreLost c t.ledger.first_lost t.ledger.greatest_seen lost →
    length lost ≤ n.slots → least_room n - n.dies + failures ≤ count_blocks t is_free → HasRoom failures t
least_room_mends n c bad t lost failures some o x few free =
    let left = cache_fits n some in
    let more = mul-le-mul_left n.pages free in
    opening_room n c bad t lost failures o x (omega (arith, left, more, few))
