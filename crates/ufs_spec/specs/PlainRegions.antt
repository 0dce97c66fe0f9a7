-- How the plain device of the code keeps the RPMB regions.
use Rattle.std.specs.Prelude.{◌≡◌, List, length}
use Rattle.ufs_spec.specs.Plain.{Region, regions}
use Rattle.ufs_spec.specs.declared.plain_device.PlainRegion.{PlainRegion}

-- the region that is kept so
abbrev pub region_seen : PlainRegion → Region
region_seen r = record { key = r.key; area = r.area.items; counter = r.counter }

-- as many are kept as there are
abbrev pub AreRegions : List PlainRegion → Type 0
AreRegions rs = length rs ≡ regions
