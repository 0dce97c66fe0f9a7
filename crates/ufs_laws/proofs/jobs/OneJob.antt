-- Jobs that dies may be given: one is there or none is owed, where it lies, and when it is one.
use Rattle.ufs_laws.proofs.Common.{Bool, Cell, Contains, Erasing, Flight, List, MayTake, Name, None, Option, Place}
use Rattle.ufs_laws.proofs.Common.{Reader, Reading, Some, Spot, Translation, Want, [], and_parts, arith, cell_now}
use Rattle.ufs_laws.proofs.Common.{false, flight_at, flight_for, flight_into, flight_or, has_room_for_groups}
use Rattle.ufs_laws.proofs.Common.{if◌then◌else◌, inl, inr, is_idle, is_none, is_stale, may_open_for_group, nat_lt}
use Rattle.ufs_laws.proofs.Common.{next_erase, next_flight, next_place, option_map, refl, subst, sym, true, want_at}
use Rattle.ufs_laws.proofs.Common.{wants_on, ℕ, ◌<◌, ◌∙◌, ◌∷◌, ◌≡◌, ◌⊎◌}
use Rattle.std.proofs.Common.{ltb-true, true≢false}
use Rattle.ufs_spec.specs.Translation.{IsOwed}
use Rattle.ufs_spec.proofs.Facts.{none_is}

-- Tests

pub nothing_inside : {A : Type 0} (x : A) → Contains [] x → ⊥
nothing_inside x h = let short = h.1 in omega (arith, short)

-- No read is among the jobs behind the reads

-- the flight is a read
abbrev pub IsRead : Flight → Type 0
IsRead (Reading reader place) = Unit {0}
IsRead flight = ⊥

no_erase_reads : (o : Option Spot) (flight : Flight) → option_map Erasing o ≡ Some flight → IsRead flight → ⊥
no_erase_reads None (Reading reader place) e read = cc
no_erase_reads other (Reading reader place) e read = cc
no_erase_reads o flight e read = read

no_read_into : (t : Translation) (die : ℕ) (cell : Cell) (s : Option Spot) (flight : Flight)
    → flight_into t die cell s ≡ Some flight → IsRead flight → ⊥
no_read_into t die cell (Some s) (Reading reader place) e read = cc
no_read_into t die cell None (Reading reader place) e read = no_erase_reads _ (Reading reader place) e tt
no_read_into t die cell s flight e read = read

no_read_at : (t : Translation) (die : ℕ) (opens : Bool) (cell : Cell) (p : Option Place) (flight : Flight)
    → flight_at t die opens cell p ≡ Some flight → IsRead flight → ⊥
no_read_at t die opens cell (Some p) (Reading reader place) e read = cc
no_read_at t die true cell None (Reading reader place) e read = no_read_into t die cell _ (Reading reader place) e tt
no_read_at t die false cell None (Reading reader place) e read = cc
no_read_at t die opens cell p flight e read = read

no_read_for : (t : Translation) (die : ℕ) (cell : Option Cell) (name : Option Name) (flight : Flight)
    → flight_for t die cell name ≡ Some flight → IsRead flight → ⊥
no_read_for t die (Some cell) name flight e read = no_read_at t die _ cell _ flight e read
no_read_for t die None (Some name) flight e read = by (has_room_for_groups t) e
  where
    by : (b : Bool)
        → (if b then flight_at t die (may_open_for_group t) (cell_now t.ledger name) (next_place t die) else None)
        ≡ Some flight → ⊥
    by true k = no_read_at t die _ _ _ flight k read
    by false k = cc
no_read_for t die None None flight e read = cc

-- what is told of two jobs is told of the first of them
no_read_of : (o other : Option Flight) (flight : Flight) → (o ≡ Some flight → ⊥) → (other ≡ Some flight → ⊥) →
    flight_or o other ≡ Some flight → ⊥
no_read_of (Some f) other flight one two e = one e
no_read_of None other flight one two e = two e

next_is_no_read : (t : Translation) (die : ℕ) (flight : Flight) → next_flight t die ≡ Some flight → IsRead flight → ⊥
next_is_no_read t die flight e read =
    no_read_of (next_erase t is_stale die) _ flight (λ k. no_erase_reads _ flight k read)
    (λ k. no_read_for t die _ _ flight k read) e

-- One or none

abbrev Given : Translation → ℕ → Type 0
Given t die = ((flight : Flight) × MayTake t die (Some flight)) ⊎ MayTake t die None

owed : (t : Translation) (die : ℕ) (flight : Flight) → wants_on t die ≡ [] → next_flight t die ≡ Some flight →
    IsOwed t die flight
owed t die (Reading reader place) none next = absurd (next_is_no_read t die (Reading reader place) next tt)
owed t die flight none next = (none, next)

-- the first read that is owed
read_owed : (t : Translation) (die : ℕ) (want : Want) (more : List Want) → wants_on t die ≡ want ∷ more →
    IsOwed t die (Reading want.reader want.place)
read_owed t die want more e = subst (λ (ws : List Want). Contains ws want) (sym e) (0, omega arith, refl)

given_idle : (t : Translation) (die : ℕ) → is_idle t die ≡ true → (ws : List Want) → wants_on t die ≡ ws
    → (o : Option Flight) → next_flight t die ≡ o → Given t die
given_idle t die idle (want ∷ more) e o next = inl (Reading want.reader want.place, (idle, read_owed t die want more e))
given_idle t die idle [] e (Some flight) next = inl (flight, (idle, owed t die flight e next))
given_idle t die idle [] e None next = inr (inr (e, next))

given_as : (t : Translation) (die : ℕ) (idle : Bool) → is_idle t die ≡ idle → Given t die
given_as t die false e = inr (inl e)
given_as t die true e = given_idle t die e (wants_on t die) refl (next_flight t die) refl

-- a job that the die may be given, or none
pub given : (t : Translation) (die : ℕ) → ((flight : Flight) × MayTake t die (Some flight)) ⊎ MayTake t die None
given t die = given_as t die (is_idle t die) refl

-- Not and_parts

none_found : (t : Translation) (die : ℕ) (reader : Reader) (place : Place) → wants_on t die ≡ [] →
    IsOwed t die (Reading reader place) → ⊥
none_found t die reader place none h =
    nothing_inside (want_at reader place) (subst (λ (ws : List Want). Contains ws (want_at reader place)) none h)

-- where no read is owed, what is owed is the next flight
pub is_next : (t : Translation) (die : ℕ) (flight : Flight) → wants_on t die ≡ [] → IsOwed t die flight →
    next_flight t die ≡ Some flight
is_next t die (Reading reader place) none e = absurd (none_found t die reader place none e)
is_next t die flight none e = e.1

pub not_both : (t : Translation) (die : ℕ) (flight : Flight) → MayTake t die None → MayTake t die (Some flight) → ⊥
not_both t die flight (inl busy) h = true≢false (sym h.0 ∙ busy)
not_both t die flight (inr none) h = let next = is_next t die flight none.0 h.1 in let other = none.1 in cc

-- where no read is owed the job is one
pub one_job : (t : Translation) (die : ℕ) (f g : Flight) → wants_on t die ≡ [] → MayTake t die (Some f) →
    MayTake t die (Some g) → f ≡ g
one_job t die f g none h k =
    let first = is_next t die f none h.1 in
    let second = is_next t die g none k.1 in
    cc

-- At most one job

pub was_free : (t : Translation) (die : ℕ) (flight : Flight) → MayTake t die (Some flight) → t.disk.flights die ≡ None
was_free t die flight h =
    none_is (t.disk.flights die) (and_parts (nat_lt die t.numbers.dies) (is_none (t.disk.flights die)) h.0).1

pub is_die : (t : Translation) (die : ℕ) (flight : Flight) → MayTake t die (Some flight) → die < t.numbers.dies
is_die t die flight h =
    ltb-true die t.numbers.dies (and_parts (nat_lt die t.numbers.dies) (is_none (t.disk.flights die)) h.0).0
