-- How much room is in the blocks that are being filled, where one block or one job changes.
use Rattle.many_stops.proofs.Common.{BlockState, Bool, Closed, Filling, Flight, Flights, GroupPage, IsSpot, Name}
use Rattle.many_stops.proofs.Common.{Numbers, Option, Place, Programming, Some, Spot, Step, ap, arith, at_spot}
use Rattle.many_stops.proofs.Common.{at_spot_cases, below, false, filling_room, if◌then◌else◌, name_of, page_of_group}
use Rattle.many_stops.proofs.Common.{programs_name, refl, room_on_dies, spot_of, state_after, subst, sum_no_less, sym}
use Rattle.many_stops.proofs.Common.{true, true≢false, ℕ, ⊎_elim, ◌+◌, ◌-◌, ◌<◌, ◌==◌, ◌∙◌, ◌≡◌, ◌≢◌, ◌≤◌}
use Rattle.std.specs.Prelude.{sum_by}
use Rattle.ufs_spec.proofs.Facts.{eqb-true}
use Rattle.ufs_spec.specs.Translation.{spots_of}
use Rattle.power_loss.proofs.ordered_lists.ElementsAndOrders.{below_in, in_below, in_map}
use Rattle.power_loss.proofs.room_to_mend.AloneKept.{AreFewer}
use Rattle.power_loss.proofs.room_to_mend.RoomInBlocks.{sum_has}
use Rattle.many_stops.specs.RoomOfGroups.{room_on}
use Rattle.many_stops.proofs.room_left.SumsOfRoom.{below_apart, die_apart, die_of, number_told, spot_of_die}
use Rattle.many_stops.proofs.room_left.SumsOfRoom.{spot_told, sum_holds, sum_less}

-- Room in the blocks of a die

abbrev pub die_room : Numbers → (Spot → BlockState) → ℕ → ℕ
die_room n blocks die = sum_by (λ s. filling_room n.pages (blocks s)) (spots_of n die)

-- it is no less where that of each block is not
pub die_no_less : (n : Numbers) (blocks after : Spot → BlockState) (die : ℕ) →
    ((s : Spot) → s.die ≡ die → filling_room n.pages (blocks s) ≤ filling_room n.pages (after s)) →
    die_room n blocks die ≤ die_room n after die
die_no_less n blocks after die each =
    sum_no_less (λ s. filling_room n.pages (blocks s)) (λ s. filling_room n.pages (after s)) (spots_of n die)
    (λ s i. each s (die_of n die s i))

-- where one block changes, the room of other dies stays
pub other_dies : (n : Numbers) (blocks : Spot → BlockState) (s : Spot) (x : BlockState) (die : ℕ) → die ≢ s.die →
    die_room n blocks die ≤ die_room n (at_spot blocks s x) die
other_dies n blocks s x die other = die_no_less n blocks (at_spot blocks s x) die
    (λ a home. ⊎_elim (λ k. absurd (other (sym home ∙ ap (λ (z : Spot). z.die) k.0)))
    (λ k. let e = ap (filling_room n.pages) k.1 in omega (arith, e)) (at_spot_cases blocks s x a))

room_taken : (pages page : ℕ) → page < pages → pages - page ≤ 1 + filling_room pages (state_after pages page)
room_taken pages page l = by (page + 1 == pages) refl
  where
    by : (b : Bool) → (page + 1 == pages) ≡ b →
        pages - page ≤ 1 + filling_room pages (if b then Closed else Filling (page + 1))
    by true e = let k = eqb-true (page + 1) pages e in omega (arith, k, l)
    by false e = omega (arith, l)

-- a block with so much less room takes it from that of its die
die_less : (n : Numbers) (m : ℕ) (blocks : Spot → BlockState) (s : Spot) (x : BlockState) →
    filling_room n.pages (blocks s) ≤ m + filling_room n.pages x →
    die_room n blocks s.die ≤ m + die_room n (at_spot blocks s x) s.die
die_less n m blocks s x less =
    sum_less m (λ a. filling_room n.pages (blocks a)) (λ a. filling_room n.pages (at_spot blocks s x a)) s
    (spots_of n s.die) (spot_told s) (die_apart n s.die)
    (λ a i other. ⊎_elim (λ k. absurd (other k.0)) (λ k. let e = ap (filling_room n.pages) k.1 in omega (arith, e))
    (at_spot_cases blocks s x a))
    (⊎_elim (λ k. let e = ap (filling_room n.pages) k.1 in omega (arith, e, less)) (λ k. absurd (k.0 refl))
    (at_spot_cases blocks s x s))

-- a program that ended well takes room for one page
pub program_takes : (n : Numbers) (blocks : Spot → BlockState) (p : Place) → p.page < n.pages →
    blocks (spot_of p) ≡ Filling p.page →
    die_room n blocks p.die ≤ 1 + die_room n (at_spot blocks (spot_of p) (state_after n.pages p.page)) p.die
program_takes n blocks p l is = die_less n 1 blocks (spot_of p) (state_after n.pages p.page)
    (let f = ap (filling_room n.pages) is in let t = room_taken n.pages p.page l in omega (arith, f, t))

-- a block whose room stays leaves that of its die
pub same_room : (n : Numbers) (blocks : Spot → BlockState) (s : Spot) (x : BlockState) (die : ℕ) →
    filling_room n.pages (blocks s) ≤ filling_room n.pages x →
    die_room n blocks die ≤ die_room n (at_spot blocks s x) die
same_room n blocks s x die same = die_no_less n blocks (at_spot blocks s x) die
    (λ a home. ⊎_elim
    (λ k.
    let e = ap (filling_room n.pages) k.1 in
    let f = ap (λ z. filling_room n.pages (blocks z)) k.0 in
    omega (arith, e, f, same)) (λ k. let e = ap (filling_room n.pages) k.1 in omega (arith, e))
    (at_spot_cases blocks s x a))

-- a block of the die that is opened has room for all its pages
pub opened_room : (n : Numbers) (blocks : Spot → BlockState) (s : Spot) → s.block < n.blocks →
    n.pages ≤ die_room n (at_spot blocks s (Filling 0)) s.die
opened_room n blocks s inside =
    let here : filling_room n.pages (at_spot blocks s (Filling 0) s) ≡ n.pages =
    ⊎_elim (λ k. ap (filling_room n.pages) k.1 ∙ whole n.pages) (λ k. absurd (k.0 refl))
    (at_spot_cases blocks s (Filling 0) s) in
    let l = sum_holds (λ a. filling_room n.pages (at_spot blocks s (Filling 0) a)) s (spots_of n s.die)
    (in_map (λ block. record { die = s.die; block = block }) s.block (below n.blocks)
    (in_below n.blocks s.block inside)) in
    omega (arith, here, l)
  where
    whole : (pages : ℕ) → pages - 0 ≡ pages
    whole pages = omega arith

-- Pages of groups in flight

-- fewer programs in flight take no more room
pub fewer_pages : {flights now : Flights} (step : Option Step) → AreFewer flights now → (die : ℕ) →
    page_of_group step (now die) ≤ page_of_group step (flights die)
fewer_pages {flights} {now} step fewer die = by (now die) refl
  where
    by : (o : Option Flight) → now die ≡ o → page_of_group step o ≤ page_of_group step (flights die)
    by (Some (Programming p (GroupPage tag body))) e =
        subst (λ z. page_of_group step (Some (Programming p (GroupPage tag body))) ≤ page_of_group step z)
        (sym (fewer die p (GroupPage tag body) e)) (omega arith)
    by o e = omega arith

-- a step that programs no page of the host leaves no more of them to groups than any other
pub groups_most : (step now : Option Step) → ((name : Name) → programs_name step name ≡ false) → (o : Option Flight) →
    page_of_group now o ≤ page_of_group step o
groups_most step now none (Some (Programming p (GroupPage tag body))) =
    one (programs_name now (name_of tag)) (programs_name step (name_of tag)) (none (name_of tag))
  where
    one : (a b : Bool) → b ≡ false → (if a then 0 else 1) ≤ (if b then 0 else 1)
    one a true e = absurd (true≢false e)
    one true false e = omega arith
    one false false e = omega arith
groups_most step now none o = omega arith

-- Room on all dies

less_taken : (a b c d : ℕ) → a ≤ b → d ≤ c → a - c ≤ b - d
less_taken a b c d l k = omega (arith, l, k)

-- it is no less where no block has less and no more pages of groups are in flight
pub rooms_no_less : (n : Numbers) (blocks after : Spot → BlockState) (step now : Option Step)
    (flights flown : Flights) → ((die : ℕ) → die_room n blocks die ≤ die_room n after die) →
    ((die : ℕ) → page_of_group now (flown die) ≤ page_of_group step (flights die)) →
    room_on_dies n blocks step flights ≤ room_on_dies n after now flown
rooms_no_less n blocks after step now flights flown rooms pages =
    sum_no_less (room_on n blocks step flights) (room_on n after now flown) (below n.dies)
    (λ die i. less_taken (die_room n blocks die) (die_room n after die) (page_of_group step (flights die))
    (page_of_group now (flown die)) (rooms die) (pages die))

-- where it is less on one die alone
pub rooms_less : (n : Numbers) (m d : ℕ) (blocks after : Spot → BlockState) (step now : Option Step)
    (flights flown : Flights) →
    ((die : ℕ) → die ≢ d → room_on n blocks step flights die ≤ room_on n after now flown die) →
    room_on n blocks step flights d ≤ m + room_on n after now flown d →
    room_on_dies n blocks step flights ≤ m + room_on_dies n after now flown
rooms_less n m d blocks after step now flights flown others one =
    sum_less m (room_on n blocks step flights) (room_on n after now flown) d (below n.dies) (number_told d)
    (below_apart n.dies) (λ die i other. others die other) one

room_within : (pages : ℕ) (x : BlockState) → filling_room pages x ≤ pages
room_within pages (Filling next) = omega arith
room_within pages x = omega arith

-- where one block changes it is less by one block at the most
pub block_less : (n : Numbers) (blocks : Spot → BlockState) (s : Spot) (x : BlockState) (step now : Option Step)
    (flights flown : Flights) →
    ((die : ℕ) → page_of_group now (flown die) ≤ page_of_group step (flights die)) →
    room_on_dies n blocks step flights ≤ n.pages + room_on_dies n (at_spot blocks s x) now flown
block_less n blocks s x step now flights flown pages =
    rooms_less n n.pages s.die blocks (at_spot blocks s x) step now flights flown
    (λ die other. less_taken _ _ _ _ (other_dies n blocks s x die other) (pages die))
    (here _ _ _ _ _
    (die_less n n.pages blocks s x (let l = room_within n.pages (blocks s) in omega (arith, l))) (pages s.die))
  where
    here : (m a b c d : ℕ) → a ≤ m + b → d ≤ c → a - c ≤ m + (b - d)
    here m a b c d l k = omega (arith, l, k)

-- the room on one die
pub rooms_hold : (n : Numbers) (blocks : Spot → BlockState) (step : Option Step) (flights : Flights) (die : ℕ) →
    die < n.dies → room_on n blocks step flights die ≤ room_on_dies n blocks step flights
rooms_hold n blocks step flights die l =
    sum_holds (room_on n blocks step flights) die (below n.dies) (in_below n.dies die l)

-- where some is, a block is being filled
pub record IsFilled (n : Numbers) (blocks : Spot → BlockState) : Type 0 where
  pub spot : Spot
  pub inside : IsSpot n spot
  pub next : ℕ
  pub is : blocks spot ≡ Filling next

filled : (n : Numbers) (blocks : Spot → BlockState) (s : Spot) → IsSpot n s → (x : BlockState) → blocks s ≡ x →
    1 ≤ filling_room n.pages x → IsFilled n blocks
filled n blocks s inside (Filling next) e l = record { spot = s; inside = inside; next = next; is = e }
filled n blocks s inside x e l = absurd (omega (arith, l))

some_room : (a b : ℕ) → 1 ≤ a - b → 1 ≤ a
some_room a b l = omega (arith, l)

pub room_is_filled : (n : Numbers) (blocks : Spot → BlockState) (step : Option Step) (flights : Flights) →
    1 ≤ room_on_dies n blocks step flights → IsFilled n blocks
room_is_filled n blocks step flights some =
    let d = sum_has (room_on n blocks step flights) (below n.dies) some in
    let room = some_room (die_room n blocks d.0) (page_of_group step (flights d.0)) d.2 in
    let s = sum_has (λ a. filling_room n.pages (blocks a)) (spots_of n d.0) room in
    filled n blocks s.0 (spot_of_die n d.0 s.0 (below_in n.dies d.0 d.1) s.1) (blocks s.0) refl s.2
