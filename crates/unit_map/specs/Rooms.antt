-- How the map's fields are seen, and that its table finds each key.
use Rattle.unit_map.specs.Places.{UnitMap}
use Rattle.unit_map.specs.Tables.{IsTable}
use Rattle.unit_map.specs.declared.UnitMap.TheInside.{Inside}

-- what contracts see of the map: the configuration and the places; the table is not seen, since it follows from them
abbrev pub map_of : Inside → UnitMap
map_of f = record { numbers = f.config; places = f.places.items }

-- the table is one of the places that are kept
abbrev pub IsNoted : Inside → Type 0
IsNoted f = IsTable f.config f.places.items f.table
