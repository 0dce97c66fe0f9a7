-- The checks of a request, by what is kept of the region.
use Rattle.std.specs.Prelude.{ℕ, ◌+◌, ◌*◌, ◌==◌, nat_lt, not, Bool, is_some, List, [], ◌∷◌}
use Rattle.ufs_spec.specs.Frames.{Frame}
use Rattle.ufs_spec.specs.Plain.{counter_end}
use Rattle.ufs_spec.specs.Rpmb.{Check, fails_if, has_wrong_mac}
use Rattle.rpmb.specs.declared.regions.RegionState.{RegionState}
use Rattle.rpmb.specs.declared.requests.Request.{Request}
use Rattle.rpmb.specs.declared.requests.Request.TheVariants as request

-- so many blocks from this address on end past the area
abbrev pub is_past : RegionState → (address count : ℕ) → Bool
is_past s address count = nat_lt (256 * s.blocks) (256 * (address + count))

abbrev pub key_checks : RegionState → Bool → List Check
key_checks s locked = fails_if (is_some s.key) 1 ∷ fails_if locked 5 ∷ []

abbrev pub counter_checks : RegionState → List Check
counter_checks s = fails_if (not (is_some s.key)) 7 ∷ []

abbrev pub write_checks : RegionState → Bool → (counter address count : ℕ) → Frame → List Frame → List Check
write_checks s locked counter address count f fs =
    fails_if (not (is_some s.key)) 7 ∷ fails_if (s.counter == counter_end) 5 ∷ fails_if (is_past s address count) 4
    ∷ fails_if (has_wrong_mac s.key f fs) 2 ∷ fails_if (not (counter == s.counter)) 3 ∷ fails_if locked 5 ∷ []

abbrev pub read_checks : RegionState → (address count : ℕ) → List Check
read_checks s address count = fails_if (not (is_some s.key)) 7 ∷ fails_if (is_past s address count) 4 ∷ []

-- the checks of what is asked for
abbrev pub asked_checks : RegionState → Bool → Request → Frame → List Frame → List Check
asked_checks s locked (request.ProgramKey key) f fs = key_checks s locked
asked_checks s locked request.ReadCounter f fs = counter_checks s
asked_checks s locked (request.Write counter address count) f fs = write_checks s locked counter address count f fs
asked_checks s locked (request.Read address count) f fs = read_checks s address count
asked_checks s locked request.ReadResult f fs = []
