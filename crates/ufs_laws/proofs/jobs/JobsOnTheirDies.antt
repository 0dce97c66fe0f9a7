-- Each job that a die may be given lies on it.
use Rattle.ufs_laws.proofs.Common.{BlockState, Bool, Cell, Erasing, Filling, Flight, List, MayTake, Name, None, Option}
use Rattle.ufs_laws.proofs.Common.{Place, Programming, Reader, Reading, Some, Spot, Translation, Vacancy, Want, [], ap}
use Rattle.ufs_laws.proofs.Common.{below, cell_now, cond, die_of_flight, false, find, flight_at, flight_for}
use Rattle.ufs_laws.proofs.Common.{flight_into, flight_or, has_room_for_groups, if◌then◌else◌, is_ready, is_stale}
use Rattle.ufs_laws.proofs.Common.{is_untouched, lowest_vacant, map, may_be_used, may_open_for_group, next_erase}
use Rattle.ufs_laws.proofs.Common.{next_flight, next_place, option_map, refl, sym, true, waiting_name, waiting_step}
use Rattle.ufs_laws.proofs.Common.{want_at, wants_on, ℕ, ◌∙◌, ◌∷◌, ◌≡◌}
use Rattle.std.proofs.Common.{eqb-true, filter_map}
use Rattle.std.specs.List.{cons_option}
use Rattle.std.proofs.lemmas.List.Elements.{All-contains, filter_passes}
use Rattle.ufs_spec.specs.Disk.{place_in}
use Rattle.ufs_spec.specs.Translation.{first_of, is_of_die, may_open_for_step, next_in, wants}

-- Reads

pub read_here : (t : Translation) (die : ℕ) (reader : Reader) (place : Place) →
    MayTake t die (Some (Reading reader place)) → place.die ≡ die
read_here t die reader place h =
    eqb-true place.die die
    (All-contains (λ (w : Want). is_of_die die w ≡ true) (wants_on t die) (want_at reader place)
    (filter_passes (is_of_die die) (wants t)) h.1)

-- Programs

abbrev pub spot_at : ℕ → ℕ → Spot
spot_at die block = record { die = die; block = block }

next_in_block : (die block : ℕ) (state : BlockState) (p : Place) → next_in (spot_at die block) state ≡ Some p →
    p.die ≡ die
next_in_block die block (Filling next) p e =
    let same : record { die = die; block = block; page = next } ≡ p = cc in ap (λ (q : Place). q.die) (sym same)
next_in_block die block other p e = absurd (let no : None ≡ Some p = e in cc)

first_in_spots : (die block : ℕ) (rest : List Place) (state : BlockState) (p : Place) →
    (first_of rest ≡ Some p → p.die ≡ die)
    → first_of (cons_option (next_in (spot_at die block) state) rest) ≡ Some p → p.die ≡ die
first_in_spots die block rest (Filling next) p h e = next_in_block die block (Filling next) p e
first_in_spots die block rest other p h e = h e

next_among : (t : Translation) (die : ℕ) (blocks : List ℕ) (p : Place)
    → first_of (filter_map (λ s. next_in s (t.disk.blocks s)) (map (spot_at die) blocks)) ≡ Some p → p.die ≡ die
next_among t die [] p e = absurd (let none : None ≡ Some p = e in cc)
next_among t die (block ∷ more) p e =
    first_in_spots die block (filter_map (λ s. next_in s (t.disk.blocks s)) (map (spot_at die) more))
    (t.disk.blocks (spot_at die block)) p
    (next_among t die more p) e

-- Erases

lies_on : (f flight : Flight) (die : ℕ) → die_of_flight f ≡ die → Some f ≡ Some flight → die_of_flight flight ≡ die
lies_on f flight die here e = let same : f ≡ flight = cc in ap die_of_flight (sym same) ∙ here

erase_first : (die block : ℕ) (may : Bool) (rest : Option Spot) (flight : Flight) →
    (option_map Erasing rest ≡ Some flight → die_of_flight flight ≡ die)
    → option_map Erasing (cond may (Some (spot_at die block)) rest) ≡ Some flight → die_of_flight flight ≡ die
erase_first die block false rest flight h e = h e
erase_first die block true rest flight h e = lies_on (Erasing (spot_at die block)) flight die refl e

erase_among : (is : Spot → Bool) (die : ℕ) (blocks : List ℕ) (flight : Flight)
    → option_map Erasing (find is (map (spot_at die) blocks)) ≡ Some flight → die_of_flight flight ≡ die
erase_among is die [] flight e = absurd (let none : None ≡ Some flight = e in cc)
erase_among is die (block ∷ more) flight e =
    erase_first die block (is (spot_at die block)) (find is (map (spot_at die) more)) flight
    (erase_among is die more flight) e

erase_here : (t : Translation) (is : Vacancy → Bool) (die : ℕ) (flight : Flight) → next_erase t is die ≡ Some flight →
    die_of_flight flight ≡ die
erase_here t is die flight e = erase_among (may_be_used t is) die (below t.numbers.blocks) flight e

-- Blocks that were erased

block_first : (die block : ℕ) (may : Bool) (rest : Option Spot) (s : Spot) → (rest ≡ Some s → s.die ≡ die)
    → cond may (Some (spot_at die block)) rest ≡ Some s → s.die ≡ die
block_first die block false rest s h e = h e
block_first die block true rest s h e = let same : spot_at die block ≡ s = cc in ap (λ (x : Spot). x.die) (sym same)

block_among : (is : Spot → Bool) (die : ℕ) (blocks : List ℕ) (s : Spot) → find is (map (spot_at die) blocks) ≡ Some s →
    s.die ≡ die
block_among is die [] s e = absurd (let none : None ≡ Some s = e in cc)
block_among is die (block ∷ more) s e =
    block_first die block (is (spot_at die block)) (find is (map (spot_at die) more)) s (block_among is die more s) e

into_here : (t : Translation) (die : ℕ) (cell : Cell) (o : Option Spot) (flight : Flight) →
    ((s : Spot) → o ≡ Some s → s.die ≡ die)
    → flight_into t die cell o ≡ Some flight → die_of_flight flight ≡ die
into_here t die cell (Some s) flight h e = lies_on (Programming (place_in s 0) cell) flight die (h s refl) e
into_here t die cell None flight h e = erase_here t is_untouched die flight e

-- Each job

flight_here : (t : Translation) (die : ℕ) (opens : Bool) (cell : Cell) (p : Option Place) (flight : Flight) →
    next_place t die ≡ p
    → flight_at t die opens cell p ≡ Some flight → die_of_flight flight ≡ die
flight_here t die opens cell (Some p) flight next e =
    lies_on (Programming p cell) flight die (next_among t die (below t.numbers.blocks) p next) e
flight_here t die true cell None flight next e =
    into_here t die cell (lowest_vacant t is_ready die) flight
    (block_among (may_be_used t is_ready) die (below t.numbers.blocks)) e
flight_here t die false cell None flight next e = absurd (let none : None ≡ Some flight = e in cc)

flight_for_here : (t : Translation) (die : ℕ) (cell : Option Cell) (name : Option Name) (flight : Flight)
    → flight_for t die cell name ≡ Some flight → die_of_flight flight ≡ die
flight_for_here t die (Some cell) name flight e =
    flight_here t die (may_open_for_step t) cell (next_place t die) flight refl e
flight_for_here t die None (Some name) flight e = by (has_room_for_groups t) e
  where
    by : (b : Bool)
        → (if b then flight_at t die (may_open_for_group t) (cell_now t.ledger name) (next_place t die) else None)
        ≡ Some flight → die_of_flight flight ≡ die
    by true k = flight_here t die (may_open_for_group t) (cell_now t.ledger name) (next_place t die) flight refl k
    by false k = absurd (let none : None ≡ Some flight = k in cc)
flight_for_here t die None None flight e = absurd (let none : None ≡ Some flight = e in cc)

either_here : (o other : Option Flight) (flight : Flight) (die : ℕ) → (o ≡ Some flight → die_of_flight flight ≡ die) →
    (other ≡ Some flight → die_of_flight flight ≡ die)
    → flight_or o other ≡ Some flight → die_of_flight flight ≡ die
either_here (Some f) other flight die one two e = one e
either_here None other flight die one two e = two e

next_here : (t : Translation) (die : ℕ) (flight : Flight) → next_flight t die ≡ Some flight → die_of_flight flight ≡ die
next_here t die flight e =
    either_here (next_erase t is_stale die) _ flight die (erase_here t is_stale die flight)
    (flight_for_here t die (waiting_step t t.work.step) (waiting_name t) flight) e

pub job_here : (t : Translation) (die : ℕ) (flight : Flight) → MayTake t die (Some flight) → die_of_flight flight ≡ die
job_here t die (Reading reader place) h = read_here t die reader place h
job_here t die flight h = next_here t die flight h.1.1
