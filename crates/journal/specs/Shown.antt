-- What it means that what was found is what a plain device holds, and the plain device that a life begins with.
use Rattle.std.specs.Prelude.{◌≡◌, ◌<◌, ◌==◌, ℕ, suc, List, [], ◌∷◌, length, map, slice_get, slice_index_or, IfSome}
use Rattle.std.specs.Prelude.{Option, Some, None, if◌then◌else◌, true}
use Rattle.ufs_spec.specs.Plain.{Plain, area_len, block_at, new_region, region_of, shape_of_numbers, unit_of}
use Rattle.ufs_spec.specs.Plain.{zero, zero_area}
use Rattle.ufs_spec.specs.Rpmb.{Region}
use Rattle.ufs_spec.specs.declared.configs.Numbers.{Numbers}
use Rattle.journal.specs.declared.found.FoundRegion.{FoundRegion}
use Rattle.journal.specs.declared.found.FoundRest.{FoundRest}
use Rattle.journal.specs.declared.settings.ShownSettings.{ShownSettings}

-- at this address of this unit the block of the plain device was found
abbrev pub IsShownAt : List (List (List ℕ)) → Plain → ℕ → ℕ → Type 0
IsShownAt found p unit address = slice_get (slice_index_or found unit []) address ≡ Some (block_at unit address p)

-- at each address of each unit the block of the plain device was found
abbrev pub Shows : List (List (List ℕ)) → Plain → Type 0
Shows found p =
    (unit address : ℕ) → unit < length p.units → address < length (unit_of unit p) → IsShownAt found p unit address

-- the key and the counter of the region were found
abbrev pub ShowsKey : FoundRegion → Region → Type 0
ShowsKey found region = (found.key ≡ region.key) × (found.counter ≡ region.counter)

-- under a key the bytes of its area were found. Without a key no area can be read, and none was ever written
abbrev pub ShowsArea : FoundRegion → Region → Type 0
ShowsArea found region = IfSome found.key (λ key. found.area.now ≡ region.area)

-- this holds of each region that is there, and of what was found of it. Of a region whose area has no bytes nothing can
-- be read
abbrev pub OfEach : (FoundRegion → Region → Type 0) → List FoundRegion → Plain → Type 0
OfEach Holds found p =
    (number : ℕ) (r : FoundRegion) → slice_get found number ≡ Some r → 0 < length (region_of p number).area →
    Holds r (region_of p number)

-- the key, the counter and the area of each region were found
abbrev pub ShowsRegions : List FoundRegion → Plain → Type 0
ShowsRegions found p = OfEach ShowsKey found p × OfEach ShowsArea found p

-- both settings were found
abbrev pub ShowsSettings : FoundRest → Plain → Type 0
ShowsSettings found p = (found.boot ≡ p.boot) × (found.is_permanent ≡ p.permanent)

-- all of it was found: the blocks of each unit, both settings and the RPMB regions
abbrev pub ShowsAll : List (List (List ℕ)) → FoundRest → Plain → Type 0
ShowsAll found rest p = Shows found p × ShowsSettings rest p × ShowsRegions rest.regions p

-- all but the settings was found, and both settings that were found may be there
abbrev pub MayShow : List (List (List ℕ)) → FoundRest → Plain → ShownSettings → Type 0
MayShow found rest p may =
    Shows found p × (may.boot ≡ true) × (may.permanent ≡ true) × ShowsRegions rest.regions p

-- ## The plain device that a life begins with

-- these are blocks of as many units as the numbers say, for each unit as many as it has
abbrev pub AreUnits : Numbers → List (List (List ℕ)) → Type 0
AreUnits n units = map length units ≡ (shape_of_numbers n).blocks

-- under a key the whole area of this region was found
abbrev pub IsArea : Numbers → ℕ → FoundRegion → Type 0
IsArea n number found = IfSome found.key (λ key. length found.area.now ≡ area_len n number)

-- the same of each region that is there
abbrev pub AreAreas : Numbers → List FoundRegion → Type 0
AreAreas n found =
    (number : ℕ) (r : FoundRegion) → slice_get found number ≡ Some r → 0 < area_len n number → IsArea n number r

-- the bytes of the area, which are zeros without a key
abbrev pub area_found : Numbers → ℕ → Option (List ℕ) → List ℕ → List ℕ
area_found n number None area = zero_area n number
area_found n number (Some key) area = area

-- the region that was found
abbrev pub region_found : Numbers → ℕ → FoundRegion → Region
region_found n number found =
    record { key = found.key; area = area_found n number found.key found.area.now; counter = found.counter }

-- it is held if it is there; else it stays new, whatever was found
abbrev pub region_held : Numbers → ℕ → FoundRegion → Region
region_held n number found = if area_len n number == 0 then new_region n number else region_found n number found

-- the regions with the numbers from this one on
abbrev pub regions_held : Numbers → ℕ → List FoundRegion → List Region
regions_held n number [] = []
regions_held n number (found ∷ more) = region_held n number found ∷ regions_held n (suc number) more

-- the plain device whose units hold these blocks, with these RPMB regions, and which is new in all else
abbrev pub holding_regions : Numbers → List (List (List ℕ)) → List FoundRegion → Plain
holding_regions n units found = record (zero n) { units = units; regions = regions_held n 0 found }

-- the same with these settings
abbrev pub holding : Numbers → List (List (List ℕ)) → FoundRest → Plain
holding n units rest =
    record (holding_regions n units rest.regions) { boot = rest.boot; permanent = rest.is_permanent }
