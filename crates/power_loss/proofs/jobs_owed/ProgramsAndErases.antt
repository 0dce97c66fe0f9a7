-- What is owed to a die: the place of a program and what is programmed there, and the block of an erase.
use Rattle.power_loss.proofs.Common.{BlockState, Bool, Cell, Erasing, Filling, Flight, Free, MayTake, Name, None}
use Rattle.power_loss.proofs.Common.{Numbers, Option, Place, Programming, Reading, Ready, Some, Spot, Stale, Step}
use Rattle.power_loss.proofs.Common.{Translation, Untouched, Vacancy, accepted_groups, and_parts, ap, before_accepted}
use Rattle.power_loss.proofs.Common.{below, cell_now, false, filter_map, flies_name, flight_at, flight_for}
use Rattle.power_loss.proofs.Common.{has_room_for_groups, if◌then◌else◌, inl, inr, is_free, is_none, is_pinned}
use Rattle.power_loss.proofs.Common.{is_rest_of, is_standing, list_any, ltb-true, may_open_for_group, may_open_for_step}
use Rattle.power_loss.proofs.Common.{names_after, next_place, none-some, none_is, not, not-true, place_in, refl}
use Rattle.power_loss.proofs.Common.{same_Some, some_flight, spot_of, step_cell, step_flies, subst, sym, true}
use Rattle.power_loss.proofs.Common.{waiting_name, waiting_step, ℕ, ⊎_elim, ◌&&◌, ◌<◌, ◌∙◌, ◌≡◌, ◌≢◌, ◌⊎◌}
use Rattle.power_loss.proofs.MachineWords.{IsSpot}
use Rattle.std.proofs.Common.{option_map}
use Rattle.ufs_laws.proofs.free_blocks.ErasesInOrder.{stale_is, untouched_is}
use Rattle.ufs_spec.specs.Translation.{flight_into, flight_or, is_idle, is_ready, is_stale, is_untouched, is_vacant}
use Rattle.ufs_spec.specs.Translation.{lowest_vacant, may_be_used, next_erase, next_flight, next_in, spots_of, waits}
use Rattle.power_loss.proofs.ordered_lists.ElementsAndOrders.{IsIn, below_in, first_in, found_in, map_in, mapped_in}

-- The blocks of a die

pub record IsSpotOf (n : Numbers) (die : ℕ) (s : Spot) : Type 0 where
  pub at_home : s.die ≡ die
  pub block : s.block < n.blocks

spot_in : {n : Numbers} {die : ℕ} {s : Spot} → IsIn s (spots_of n die) → IsSpotOf n die s
spot_in {n} {die} {s} h =
    let r = map_in (λ block. record { die = die; block = block }) s (below n.blocks) h in
    subst (IsSpotOf n die) r.2 (record { at_home = refl; block = below_in n.blocks r.0 r.1 })

-- Idle dies

pub idle_below : (t : Translation) (die : ℕ) → is_idle t die ≡ true → die < t.numbers.dies
idle_below t die h = ltb-true die t.numbers.dies (and_parts _ (is_none (t.disk.flights die)) h).0

-- Blocks that may be used

pub free_is : (x : BlockState) → is_free x ≡ true → x ≡ Free
free_is Free h = refl
free_is state h = cc

-- a free block of the die, in which it is so and of which nobody keeps a page
pub record VacantOwed (t : Translation) (is : Vacancy → Bool) (die : ℕ) (s : Spot) : Type 0 where
  pub inside : IsSpotOf t.numbers die s
  pub free : t.disk.blocks s ≡ Free
  pub vacancy : is (t.disk.vacancies s) ≡ true
  pub unkept : is_pinned t s ≡ false

pub vacant_owed : (t : Translation) (is : Vacancy → Bool) (die : ℕ) (s : Spot) → lowest_vacant t is die ≡ Some s →
    VacantOwed t is die s
vacant_owed t is die s e =
    let x = found_in (may_be_used t is) (spots_of t.numbers die) s e in
    let b = and_parts (is_vacant t is s) (not (is_pinned t s)) x.1 in
    let c = and_parts (is_free (t.disk.blocks s)) (is (t.disk.vacancies s)) b.0 in
    record {
      inside = spot_in x.0;
      free = free_is (t.disk.blocks s) c.0;
      vacancy = c.1;
      unkept = not-true (is_pinned t s) b.1;
    }

-- what is in a block that is erased

ready_is : (x : Vacancy) → is_ready x ≡ true → x ≡ Ready
ready_is Ready h = refl
ready_is x h = cc

stale_not_ready : {x : Vacancy} → x ≡ Stale → x ≢ Ready
stale_not_ready e h = let no : Stale ≡ Ready = sym e ∙ h in cc

untouched_not_ready : {x : Vacancy} → x ≡ Untouched → x ≢ Ready
untouched_not_ready e h = let no : Untouched ≡ Ready = sym e ∙ h in cc

-- The place of a program

-- the place is the first of a free block that was erased in this life
pub record OpensReady (t : Translation) (p : Place) : Type 0 where
  pub free : t.disk.blocks (spot_of p) ≡ Free
  pub ready : t.disk.vacancies (spot_of p) ≡ Ready
  pub unkept : is_pinned t (spot_of p) ≡ false
  pub first : p.page ≡ 0

-- the place is the next of a block that is being filled, or such a first one
pub record PlaceOwed (t : Translation) (die : ℕ) (p : Place) : Type 0 where
  pub inside : IsSpotOf t.numbers die (spot_of p)
  pub next : (t.disk.blocks (spot_of p) ≡ Filling p.page) ⊎ OpensReady t p

next_is : (s : Spot) (x : BlockState) {p : Place} → next_in s x ≡ Some p → (place_in s p.page ≡ p)
    × (x ≡ Filling p.page)
next_is s (Filling next) {p} h =
    let e = same_Some (place_in s next) p h in
    (ap (λ (z : Place). place_in s z.page) (sym e) ∙ e, ap (λ (z : Place). Filling z.page) e)
next_is s state {p} h = absurd (none-some p h)

-- the next place of a die is that of a block of it that is being filled
pub next_owed : (t : Translation) (die : ℕ) (p : Place) → next_place t die ≡ Some p →
    IsSpotOf t.numbers die (spot_of p) × (t.disk.blocks (spot_of p) ≡ Filling p.page)
next_owed t die p h =
    let next = λ (s : Spot). next_in s (t.disk.blocks s) in
    let r = mapped_in next (spots_of t.numbers die) (first_in (filter_map next (spots_of t.numbers die)) h) in
    let k = next_is r.0 (t.disk.blocks r.0) r.2 in
    let e : r.0 ≡ spot_of p = ap spot_of k.0 in
    (subst (IsSpotOf t.numbers die) e (spot_in r.1), ap t.disk.blocks (sym e) ∙ k.1)

place_owed : (t : Translation) (die : ℕ) (p : Place) → next_place t die ≡ Some p → PlaceOwed t die p
place_owed t die p h = let o = next_owed t die p h in record { inside = o.0; next = inl o.1 }

ready_owed : (t : Translation) (die : ℕ) (s : Spot) → lowest_vacant t is_ready die ≡ Some s →
    PlaceOwed t die (place_in s 0)
ready_owed t die s e =
    let o = vacant_owed t is_ready die s e in
    record {
      inside = o.inside;
      next = inr (record {
        free = o.free;
        ready = ready_is (t.disk.vacancies s) o.vacancy;
        unkept = o.unkept;
        first = refl;
      });
    }

-- What a program or an erase is

pub record ProgramOwed (t : Translation) (die : ℕ) (p : Place) (cell : Cell) (w : Option Cell) (waiting : Option Name) :
    Type 0 where
  pub place : PlaceOwed t die p
  pub is : (w ≡ Some cell) ⊎ ((w ≡ None) × ((name : Name) × (waiting ≡ Some name) × (cell ≡ cell_now t.ledger name)))

-- what a flight that is owed is
abbrev IsFlight : Translation → ℕ → Option Cell → Option Name → Flight → Type 0
IsFlight t die w waiting (Programming p cell) = ProgramOwed t die p cell w waiting
IsFlight t die w waiting (Erasing s) =
    (lowest_vacant t is_stale die ≡ Some s) ⊎ (lowest_vacant t is_untouched die ≡ Some s)
IsFlight t die w waiting (Reading reader place) = ⊥

-- an erase that is owed is that of the lowest block that may be used
pub erase_told : (o : Option Spot) {f : Flight} → option_map Erasing o ≡ Some f →
    (s : Spot) × (o ≡ Some s) × (Erasing s ≡ f)
erase_told None {f} h = absurd (none-some f h)
erase_told (Some s) {f} h = (s, refl, same_Some (Erasing s) f h)

untouched_flight : (t : Translation) (die : ℕ) (w : Option Cell) (waiting : Option Name) {f : Flight} →
    next_erase t is_untouched die ≡ Some f → IsFlight t die w waiting f
untouched_flight t die w waiting {f} h =
    let r = erase_told (lowest_vacant t is_untouched die) h in subst (IsFlight t die w waiting) r.2 (inr r.1)

stale_flight : (t : Translation) (die : ℕ) (w : Option Cell) (waiting : Option Name) {f : Flight} →
    next_erase t is_stale die ≡ Some f → IsFlight t die w waiting f
stale_flight t die w waiting {f} h =
    let r = erase_told (lowest_vacant t is_stale die) h in subst (IsFlight t die w waiting) r.2 (inl r.1)

into_flight : (t : Translation) (die : ℕ) {cell : Cell} (o : Option Spot) {w : Option Cell} {waiting : Option Name}
    {f : Flight} → lowest_vacant t is_ready die ≡ o →
    (w ≡ Some cell) ⊎ ((w ≡ None) × ((name : Name) × (waiting ≡ Some name) × (cell ≡ cell_now t.ledger name))) →
    flight_into t die cell o ≡ Some f → IsFlight t die w waiting f
into_flight t die {cell} (Some s) {w} {waiting} {f} e is h =
    subst (IsFlight t die w waiting) (same_Some (Programming (place_in s 0) cell) f h)
    (record { place = ready_owed t die s e; is = is })
into_flight t die None {w} {waiting} e is h = untouched_flight t die w waiting h

at_flight : (t : Translation) (die : ℕ) (opens : Bool) {cell : Cell} (place : Option Place) {w : Option Cell}
    {waiting : Option Name} {f : Flight} → next_place t die ≡ place →
    (w ≡ Some cell) ⊎ ((w ≡ None) × ((name : Name) × (waiting ≡ Some name) × (cell ≡ cell_now t.ledger name))) →
    flight_at t die opens cell place ≡ Some f → IsFlight t die w waiting f
at_flight t die opens {cell} (Some p) {w} {waiting} {f} e is h =
    subst (IsFlight t die w waiting) (same_Some (Programming p cell) f h)
    (record { place = place_owed t die p e; is = is })
at_flight t die true None {w} {waiting} {f} e is h = into_flight t die (lowest_vacant t is_ready die) refl is h
at_flight t die false None {f = f} e is h = absurd (none-some f h)

-- what is owed for a group alone is owed where room is for groups
pub with_room : (t : Translation) (die : ℕ) (name : Name) {f : Flight} → flight_for t die None (Some name) ≡ Some f →
    (has_room_for_groups t ≡ true)
    × (flight_at t die (may_open_for_group t) (cell_now t.ledger name) (next_place t die) ≡ Some f)
with_room t die name {f} h =
    by (has_room_for_groups t) (flight_at t die (may_open_for_group t) (cell_now t.ledger name) (next_place t die)) h
  where
    by : (b : Bool) (o : Option Flight) → (if b then o else None) ≡ Some f → (b ≡ true) × (o ≡ Some f)
    by true o e = (refl, e)
    by false o e = absurd (none-some f e)

flight_is : (t : Translation) (die : ℕ) (w : Option Cell) (waiting : Option Name) {f : Flight} →
    flight_for t die w waiting ≡ Some f → IsFlight t die w waiting f
flight_is t die (Some cell) waiting {f} h =
    at_flight t die (may_open_for_step t) (next_place t die) refl (inl refl) h
flight_is t die None (Some name) {f} h = at_flight t die (may_open_for_group t) (next_place t die) refl
    (inr (refl, (name, refl, refl))) (with_room t die name h).1
flight_is t die None None {f} h = absurd (none-some f h)

-- the first of two jobs, or the second where there is no first
pub or_told : (o other : Option Flight) {f : Flight} → flight_or o other ≡ Some f →
    (o ≡ Some f) ⊎ ((o ≡ None) × (other ≡ Some f))
or_told (Some flight) other h = inl h
or_told None other h = inr (refl, h)

next_is_flight : (t : Translation) (die : ℕ) {f : Flight} → next_flight t die ≡ Some f →
    IsFlight t die (waiting_step t t.work.step) (waiting_name t) f
next_is_flight t die {f} h = ⊎_elim (λ k. stale_flight t die (waiting_step t t.work.step) (waiting_name t) k)
    (λ k. flight_is t die (waiting_step t t.work.step) (waiting_name t) k.1)
    (or_told (next_erase t is_stale die) (flight_for t die (waiting_step t t.work.step) (waiting_name t)) h)

-- Erases

pub record EraseOwed (t : Translation) (die : ℕ) (s : Spot) : Type 0 where
  pub idle : t.disk.flights die ≡ None
  pub inside : IsSpotOf t.numbers die s
  pub free : t.disk.blocks s ≡ Free
  pub unkept : is_pinned t s ≡ false
  -- it was not erased in this life
  pub unready : t.disk.vacancies s ≢ Ready

pub erase_owed : (t : Translation) (die : ℕ) (s : Spot) → MayTake t die (Some (Erasing s)) → EraseOwed t die s
erase_owed t die s may = ⊎_elim
    (λ k. let o = vacant_owed t is_stale die s k in
    of_vacant o (stale_not_ready (stale_is (t.disk.vacancies s) o.vacancy)))
    (λ k. let o = vacant_owed t is_untouched die s k in
    of_vacant o (untouched_not_ready (untouched_is (t.disk.vacancies s) o.vacancy)))
    (next_is_flight t die may.1.1)
  where
    of_vacant : {is : Vacancy → Bool} → VacantOwed t is die s → t.disk.vacancies s ≢ Ready → EraseOwed t die s
    of_vacant o unready = record {
      idle = none_is (t.disk.flights die) (and_parts _ (is_none (t.disk.flights die)) may.0).1;
      inside = o.inside;
      free = o.free;
      unkept = o.unkept;
      unready = unready;
    }

-- the block is one of the dies'
pub take_inside : (t : Translation) (die : ℕ) (s : Spot) → MayTake t die (Some (Erasing s)) → IsSpot t.numbers s
take_inside t die s may =
    let i = (erase_owed t die s may).inside in
    record { die = subst (λ d. d < t.numbers.dies) (sym i.at_home) (idle_below t die may.0); block = i.block }

-- What is programmed

pub program_owed : (t : Translation) (die : ℕ) (p : Place) (cell : Cell) → MayTake t die (Some (Programming p cell)) →
    ProgramOwed t die p cell (waiting_step t t.work.step) (waiting_name t)
program_owed t die p cell may = next_is_flight t die may.1.1

given_if : {A : Type 0} (b : Bool) {x y : A} → (if b then Some x else None) ≡ Some y → (b ≡ true) × (x ≡ y)
given_if true {x} {y} h = (refl, same_Some x y h)
given_if false {y = y} h = absurd (none-some y h)

-- the step's page waits only if its content is there and no die programs it
pub record StepOwed (t : Translation) (cell : Cell) : Type 0 where
  pub step : Step
  pub under_way : t.work.step ≡ Some step
  pub there : step.there ≡ true
  pub flies : step_flies t step.kind ≡ false
  pub is : step_cell t step.kind ≡ cell

pub step_owed : (t : Translation) (s : Option Step) (cell : Cell) → t.work.step ≡ s → waiting_step t s ≡ Some cell →
    StepOwed t cell
step_owed t None cell e h = absurd (none-some cell h)
step_owed t (Some s) cell e h =
    let g = given_if (s.there && not (step_flies t s.kind)) h in
    let b = and_parts s.there (not (step_flies t s.kind)) g.0 in
    record { step = s; under_way = e; there = b.0; flies = not-true (step_flies t s.kind) b.1; is = g.1 }

-- the page of a group waits
pub record NameOwed (t : Translation) (name : Name) : Type 0 where
  pub behind : IsIn name (names_after (before_accepted t.ledger) (accepted_groups t.ledger))
  pub nowhere : is_standing t.ledger name.number name.index ≡ false
  pub flies : some_flight t (flies_name name) ≡ false
  pub whole : list_any (is_rest_of name) t.work.rests ≡ false

pub name_owed : (t : Translation) (name : Name) → waiting_name t ≡ Some name → NameOwed t name
name_owed t name h =
    let r = found_in (waits t) (names_after (before_accepted t.ledger) (accepted_groups t.ledger)) name h in
    let a = and_parts _ (not (list_any (is_rest_of name) t.work.rests)) r.1 in
    let b = and_parts (not (is_standing t.ledger name.number name.index)) _ a.0 in
    record {
      behind = r.0;
      nowhere = not-true (is_standing t.ledger name.number name.index) b.0;
      flies = not-true (some_flight t (flies_name name)) b.1;
      whole = not-true (list_any (is_rest_of name) t.work.rests) a.1;
    }

-- a page is given to a die for the step under way, or for the group that it is of
pub page_owed : (t : Translation) (die : ℕ) (p : Place) (cell : Cell) → MayTake t die (Some (Programming p cell)) →
    StepOwed t cell ⊎ ((name : Name) × (cell ≡ cell_now t.ledger name) × NameOwed t name)
page_owed t die p cell may = ⊎_elim (λ h. inl (step_owed t t.work.step cell refl h))
    (λ (h : (waiting_step t t.work.step ≡ None)
    × ((name : Name) × (waiting_name t ≡ Some name) × (cell ≡ cell_now t.ledger name))).
    inr (h.1.0, h.1.2, name_owed t h.1.0 h.1.1)) (program_owed t die p cell may).is
