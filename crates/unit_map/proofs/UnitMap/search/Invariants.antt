use Rattle.std.proofs.Common.{◌≡◌, ℕ, ◌<◌, None, slice_get}
use Rattle.unit_map.specs.Places.{name_there}
use Rattle.unit_map.proofs.UnitMap.search.Given as goal

abbrev pub invariant-loop-index : goal.invariant-loop-index
invariant-loop-index l = (i : ℕ) → i < l.index → name_there l.place (slice_get l.self.places i) ≡ None
