-- Groups leave room to the device's own pages, and below it one block after another is opened.
use Rattle.power_loss.proofs.Common.{Bool, Cell, Erasing, Filling, Flight, Free, List, MayTake, Name, None, Numbers}
use Rattle.power_loss.proofs.Common.{Option, Place, Programming, Reading, Some, Spot, Stale, Translation, [], ap, arith}
use Rattle.power_loss.proofs.Common.{below, cell_now, false, false≢true, filter_map, flight_at, flight_for}
use Rattle.power_loss.proofs.Common.{has_open_block, has_room_for_groups, inl, inr, is_free, is_some, leb-true}
use Rattle.power_loss.proofs.Common.{list_any, ltb-true, may_open_for_group, may_open_for_step, next_place, none-some}
use Rattle.power_loss.proofs.Common.{not, not-true, or_cases, or_left, or_right, place_in, refl, same_Some, some_flight}
use Rattle.power_loss.proofs.Common.{spot_of, subst, suc, sym, true, waiting_name, waiting_step, ℕ, ⊎_elim, ◌*◌, ◌+◌}
use Rattle.power_loss.proofs.Common.{◌<◌, ◌∙◌, ◌∷◌, ◌≡◌, ◌≢◌, ◌≤◌, ◌⊎◌}
use Rattle.power_loss.proofs.MachineWords.{IsSpot}
use Rattle.std.proofs.Math.Nat.{lt_of_mul-lt-mul_right}
use Rattle.std.proofs.lemmas.Grind.{div_ceil_times}
use Rattle.std.proofs.Common.{if◌then◌else◌, max}
use Rattle.std.specs.Int.{div_ceil}
use Rattle.ufs_spec.specs.Disk.{Bad}
use Rattle.ufs_spec.specs.Translation.{Plan, is_bad, is_plan_of_bad, least_room, may_go_bad, wanted_room}
use Rattle.ufs_spec.specs.Translation.{count_blocks, first_of, flies_erase, is_stale, lowest_vacant, next_erase}
use Rattle.ufs_spec.specs.Translation.{next_flight, next_in, own_room, left_by_groups, spots_of}
use Rattle.power_loss.specs.OwnRoom.{IsOwnRoom, IsWaitingStep, OpensBlock}
use Rattle.power_loss.proofs.collected_blocks.FewestLivePages.{in_any}
use Rattle.power_loss.proofs.jobs_owed.ProgramsAndErases.{erase_told, next_owed, or_told, program_owed}
use Rattle.ufs_laws.proofs.free_blocks.ErasesInOrder.{stale_is}
use Rattle.power_loss.proofs.jobs_owed.ProgramsAndErases.{vacant_owed, with_room}
use Rattle.power_loss.proofs.ordered_lists.ElementsAndOrders.{IsIn, in_below, in_map, in_mapped}

-- How much room it is

-- where so many blocks hold the pages and one block less of them would too, they are not more
fewest_hold : (slots pages filled blocks : ℕ) → filled * pages < slots + pages → slots ≤ blocks * pages →
    filled ≤ blocks
fewest_hold slots pages filled blocks less hold =
    let more : filled * pages < suc blocks * pages = omega (arith, less, hold) in
    let l = lt_of_mul-lt-mul_right pages more in
    omega (arith, l)

pub own_room_is : (n : Numbers) (bad : ℕ) → 1 ≤ n.pages → IsOwnRoom n bad (own_room n bad)
own_room_is n bad some =
    let bounds = div_ceil_times n.slots n.pages some in
    record {
      filled = div_ceil n.slots n.pages;
      hold = bounds.0;
      fewest = λ blocks hold. fewest_hold n.slots n.pages (div_ceil n.slots n.pages) blocks bounds.1 hold;
      is = refl;
    }

-- how much groups leave

more_wanted : (dies least bad : ℕ) → least + bad + 2 ≤ max (2 * dies + 4) (least + 2) + bad
more_wanted dies least bad = grind arith

left_or : (t : Translation) (b : Bool) → is_plan_of_bad t.disk.blocks t.work.plan ≡ b →
    left_by_groups t ≡ (if b then wanted_room t.numbers (count_blocks t is_bad)
    else own_room t.numbers (count_blocks t is_bad))
left_or t b is = ap (λ (c : Bool). if c then wanted_room t.numbers (count_blocks t is_bad)
    else own_room t.numbers (count_blocks t is_bad)) is

pub least_left : (t : Translation) → own_room t.numbers (count_blocks t is_bad) ≤ left_by_groups t
least_left t = by (is_plan_of_bad t.disk.blocks t.work.plan) refl
  where
    by : (b : Bool) → is_plan_of_bad t.disk.blocks t.work.plan ≡ b →
        own_room t.numbers (count_blocks t is_bad) ≤ left_by_groups t
    by true is =
        let e = left_or t true is in
        let m = more_wanted t.numbers.dies (least_room t.numbers) (may_go_bad t.numbers (count_blocks t is_bad)) in
        omega (arith, e, m)
    by false is = let e = left_or t false is in omega (arith, e)

pub more_left : (t : Translation) (plan : Plan) → t.work.plan ≡ Some plan → t.disk.blocks plan.victim ≡ Bad →
    own_room t.numbers (count_blocks t is_bad) + 2 ≤ left_by_groups t
more_left t plan is bad =
    let e = left_or t true (ap (is_plan_of_bad t.disk.blocks) is ∙ ap is_bad bad) in
    let m = more_wanted t.numbers.dies (least_room t.numbers) (may_go_bad t.numbers (count_blocks t is_bad)) in
    omega (arith, e, m)

-- What is given for a group

-- no step waits, and then room is for groups
room_for : (t : Translation) (die : ℕ) (w : Option Cell) (name : Option Name) {f : Flight} →
    flight_for t die w name ≡ Some f → w ≡ None → has_room_for_groups t ≡ true
room_for t die None (Some name) h none = (with_room t die name h).0
room_for t die None None {f} h none = absurd (none-some f h)
room_for t die (Some cell) name h none = absurd (none-some cell (sym none))

-- what is programmed is not the erase of a block for pages that may go
program_later : (t : Translation) (die : ℕ) (p : Place) (cell : Cell) →
    next_flight t die ≡ Some (Programming p cell) →
    flight_for t die (waiting_step t t.work.step) (waiting_name t) ≡ Some (Programming p cell)
program_later t die p cell h = ⊎_elim (λ k. absurd (apart (erase_told (lowest_vacant t is_stale die) k).2)) (λ k. k.1)
    (or_told (next_erase t is_stale die) (flight_for t die (waiting_step t t.work.step) (waiting_name t)) h)
  where
    apart : {s : Spot} → Erasing s ≡ Programming p cell → ⊥
    apart e = cc

pub page_room : (t : Translation) (die : ℕ) (p : Place) (cell : Cell) → MayTake t die (Some (Programming p cell)) →
    IsWaitingStep t cell ⊎ (left_by_groups t ≤ count_blocks t is_free)
page_room t die p cell may = ⊎_elim (λ step. inl step)
    (λ group. inr (leb-true (left_by_groups t) (count_blocks t is_free)
    (room_for t die (waiting_step t t.work.step) (waiting_name t) (program_later t die p cell may.1.1) group.0)))
    (program_owed t die p cell may).is

-- What opens a block

stale_opens_none : (t : Translation) (die : ℕ) (flight : Flight) → next_erase t is_stale die ≡ Some flight →
    OpensBlock t flight → ⊥
stale_opens_none t die flight h opens =
    let r = erase_told (lowest_vacant t is_stale die) h in
    let other : t.disk.vacancies r.0 ≢ Stale = subst (OpensBlock t) (sym r.2) opens in
    other (stale_is (t.disk.vacancies r.0) (vacant_owed t is_stale die r.0 r.1).vacancy)

-- so what opens one is for the page that waits
opens_later : (t : Translation) (die : ℕ) (flight : Flight) → OpensBlock t flight →
    next_flight t die ≡ Some flight →
    flight_for t die (waiting_step t t.work.step) (waiting_name t) ≡ Some flight
opens_later t die flight opens h = ⊎_elim (λ k. absurd (stale_opens_none t die flight k opens)) (λ k. k.1)
    (or_told (next_erase t is_stale die) (flight_for t die (waiting_step t t.work.step) (waiting_name t)) h)

-- a block is opened where one may be
opened_at : (t : Translation) (die : ℕ) (opens : Bool) (cell : Cell) (at : Option Place) (flight : Flight) →
    next_place t die ≡ at → OpensBlock t flight → flight_at t die opens cell at ≡ Some flight → opens ≡ true
opened_at t die opens cell (Some p) flight is h e =
    let free : t.disk.blocks (spot_of p) ≡ Free =
    subst (OpensBlock t) (sym (same_Some (Programming p cell) flight e)) h in
    absurd (apart (sym free ∙ (next_owed t die p is).1))
  where
    apart : Free ≡ Filling p.page → ⊥
    apart e = cc
opened_at t die true cell None flight is h e = refl
opened_at t die false cell None flight is h e = absurd (none-some flight e)

-- for the page of a step that waits, or for a group
opened_for : (t : Translation) (die : ℕ) (w : Option Cell) (name : Option Name) (flight : Flight) →
    OpensBlock t flight → flight_for t die w name ≡ Some flight →
    ((cell : Cell) × (w ≡ Some cell) × (may_open_for_step t ≡ true)) ⊎ (may_open_for_group t ≡ true)
opened_for t die (Some cell) name flight opens h =
    inl (cell, refl, opened_at t die (may_open_for_step t) cell (next_place t die) flight refl opens h)
opened_for t die None (Some name) flight opens h =
    inr (opened_at t die (may_open_for_group t) (cell_now t.ledger name) (next_place t die) flight refl opens
    (with_room t die name h).1)
opened_for t die None None flight opens h = absurd (none-some flight h)

given_for : (t : Translation) (die : ℕ) (flight : Flight) → MayTake t die (Some flight) → OpensBlock t flight →
    ((cell : Cell) × IsWaitingStep t cell × (may_open_for_step t ≡ true)) ⊎ (may_open_for_group t ≡ true)
given_for t die (Erasing s) may opens = opened_for t die (waiting_step t t.work.step) (waiting_name t) (Erasing s) opens
    (opens_later t die (Erasing s) opens may.1.1)
given_for t die (Programming p cell) may opens =
    opened_for t die (waiting_step t t.work.step) (waiting_name t) (Programming p cell) opens
    (opens_later t die (Programming p cell) opens may.1.1)
given_for t die (Reading reader place) may opens = absurd opens

pub block_room : (t : Translation) (die : ℕ) (flight : Flight) → MayTake t die (Some flight) → OpensBlock t flight →
    ((cell : Cell) × IsWaitingStep t cell) ⊎ (left_by_groups t < count_blocks t is_free)
block_room t die flight may opens = ⊎_elim (λ step. inl (step.0, step.1))
    (λ group. inr (ltb-true (left_by_groups t) (count_blocks t is_free) group)) (given_for t die flight may opens)

-- What is given below the room

none_open : (t : Translation) (die : ℕ) (flight : Flight) → MayTake t die (Some flight) → OpensBlock t flight →
    count_blocks t is_free < left_by_groups t → has_open_block t ≡ false
none_open t die flight may opens few =
    ⊎_elim (λ step. by (or_cases (has_room_for_groups t) (not (has_open_block t)) step.2))
    (λ group. let room = ltb-true (left_by_groups t) (count_blocks t is_free) group in
    absurd (omega (arith, room, few)))
    (given_for t die flight may opens)
  where
    by : (has_room_for_groups t ≡ true) ⊎ (not (has_open_block t) ≡ true) → has_open_block t ≡ false
    by (inl room) = let enough = leb-true (left_by_groups t) (count_blocks t is_free) room in
        absurd (omega (arith, enough, few))
    by (inr closed) = not-true (has_open_block t) closed

-- a list with an element has a first one
first_there : {A : Type 0} (x : A) (xs : List A) → IsIn x xs → is_some (first_of xs) ≡ true
first_there x [] h = absurd h
first_there x (y ∷ ys) h = refl

-- a block that is being filled is open
pub filled_open : (t : Translation) (s : Spot) (next : ℕ) → IsSpot t.numbers s → t.disk.blocks s ≡ Filling next →
    has_open_block t ≡ true
filled_open t s next inside filling =
    or_left (list_any (λ die. is_some (next_place t die)) (below t.numbers.dies)) (some_flight t flies_erase)
    (in_any (λ die. is_some (next_place t die)) s.die (below t.numbers.dies) (in_below t.numbers.dies s.die inside.die)
    (first_there (place_in s next) (filter_map (λ z. next_in z (t.disk.blocks z)) (spots_of t.numbers s.die))
    (in_mapped (λ z. next_in z (t.disk.blocks z)) s (spots_of t.numbers s.die)
    (in_map (λ block. record { die = s.die; block = block }) s.block (below t.numbers.blocks)
    (in_below t.numbers.blocks s.block inside.block))
    (ap (next_in s) filling))))

-- a block that is being erased is open
erased_open : (t : Translation) (die : ℕ) (s : Spot) → die < t.numbers.dies → t.disk.flights die ≡ Some (Erasing s) →
    has_open_block t ≡ true
erased_open t die s there job =
    or_right (list_any (λ d. is_some (next_place t d)) (below t.numbers.dies)) (some_flight t flies_erase)
    (in_any (λ d. flies_erase (t.disk.flights d)) die (below t.numbers.dies) (in_below t.numbers.dies die there)
    (ap flies_erase job))

pub none_filled : (t : Translation) (die : ℕ) (flight : Flight) (opened : Spot) (next : ℕ) →
    MayTake t die (Some flight) → OpensBlock t flight → count_blocks t is_free < left_by_groups t →
    IsSpot t.numbers opened → t.disk.blocks opened ≡ Filling next → ⊥
none_filled t die flight opened next may opens few inside filling =
    false≢true (sym (none_open t die flight may opens few) ∙ filled_open t opened next inside filling)

pub none_erased : (t : Translation) (die other : ℕ) (flight : Flight) (opened : Spot) → MayTake t die (Some flight) →
    OpensBlock t flight → count_blocks t is_free < left_by_groups t → other < t.numbers.dies →
    t.disk.flights other ≡ Some (Erasing opened) → ⊥
none_erased t die other flight opened may opens few there job =
    false≢true (sym (none_open t die flight may opens few) ∙ erased_open t other opened there job)
