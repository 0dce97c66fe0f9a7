-- Where jobs lie.
use Rattle.std.specs.Prelude.{◌≡◌, ℕ, Some}
use Rattle.ufs_spec.specs.Disk.{Erasing, Flight, Programming, Reading}
use Rattle.ufs_spec.specs.Refusals.{State}

-- the die of the page or block that it is about
abbrev pub die_of_flight : Flight → ℕ
die_of_flight (Reading reader place) = place.die
die_of_flight (Programming place cell) = place.die
die_of_flight (Erasing spot) = spot.die

-- every job in flight lies on the die that has it
abbrev pub JobsLieOnTheirDies : State → Type 0
JobsLieOnTheirDies s = (die : ℕ) (flight : Flight) → s.translation.disk.flights die ≡ Some flight →
    die_of_flight flight ≡ die
