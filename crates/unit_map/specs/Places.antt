-- A map from keys to the pages that have their durable contents, as a list in the order of keys (this profile).
use Rattle.std.specs.Prelude.{ℕ, List, slice_get, slice_set, Option, Some, None, option_and_then, if◌then◌else◌}
use Rattle.geometry.specs.Keys.{index_of}
use Rattle.ufs_spec.specs.Cells.{same_place}
use Rattle.ufs_spec.specs.Plain.{shape_of_numbers}
use Rattle.ufs_spec.specs.declared.configs.Numbers.{Numbers}
use Rattle.ufs_spec.specs.declared.flash.Key.{Key}
use Rattle.ufs_spec.specs.declared.flash.Place.{Place}
use Rattle.ufs_spec.specs.declared.layer.Name.{Name}
use Rattle.unit_map.specs.declared.Stored.{Stored}

-- which keys there are, and where the content of each is, in the order of keys
pub record UnitMap : Type 0 where
  pub numbers : Numbers
  pub places : List (Option Stored)

-- the position of the key among those of the device
abbrev pub position_of : Numbers → Key → Option ℕ
position_of n k = index_of (shape_of_numbers n) k

-- what is noted at a position; at a position that is not there nothing is
abbrev pub flat : Option (Option Stored) → Option Stored
flat None = None
flat (Some s) = s

-- where the content of the key is
abbrev pub stored_in : Numbers → List (Option Stored) → Key → Option Stored
stored_in n places k = option_and_then (λ p. flat (slice_get places p)) (position_of n k)

-- the name of the content's page, if that is the page there
abbrev pub name_if : Place → Option Stored → Option Name
name_if p None = None
name_if p (Some s) = if same_place s.place p then Some s.name else None

-- the name of the page there, if it is the one that is noted at a position
abbrev pub name_there : Place → Option (Option Stored) → Option Name
name_there p noted = name_if p (flat noted)

-- the content of the key at this position is there from now on
abbrev pub places_noted : List (Option Stored) → Stored → Option ℕ → List (Option Stored)
places_noted ps s None = ps
places_noted ps s (Some k) = slice_set ps k (Some s)
