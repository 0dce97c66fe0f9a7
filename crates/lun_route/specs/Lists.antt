-- The entries of REPORT LUNS, one after another (SPC).
use Rattle.std.specs.Prelude.{ℕ, ◌==◌, if◌then◌else◌, List, [], ◌∷◌, length, map}
use Rattle.std.specs.List.{flat_map}
use Rattle.ufs_spec.specs.Identities.{unit_entry}
use Rattle.ufs_spec.specs.Keys.{below}
use Rattle.ufs_spec.specs.declared.configs.Numbers.{Numbers}

-- the bytes of entries
abbrev pub joined : List (List ℕ) → List ℕ
joined entries = flat_map (λ entry. entry) entries

-- the entries of the first so many units of the configuration
abbrev pub numbered_entries : ℕ → List ℕ
numbered_entries units = joined (map (unit_entry 0x00) (below units))

-- the entries of the units of the configuration, if they are selected
abbrev pub ordinary_entries : Numbers → ℕ → List ℕ
ordinary_entries n select = if select == 1 then [] else numbered_entries (length n.units.items)

-- how many units of the configuration are listed
abbrev pub ordinary_listed : Numbers → ℕ → ℕ
ordinary_listed n select = if select == 1 then 0 else length n.units.items

-- the entries of the well-known units
abbrev pub well_known_entries : List ℕ
well_known_entries = joined (map (unit_entry 0xC1) (0x01 ∷ 0x30 ∷ 0x44 ∷ 0x50 ∷ []))

-- the entries of the well-known units, if they are selected
abbrev pub other_entries : ℕ → List ℕ
other_entries select = if select == 0 then [] else well_known_entries

-- how many well-known units are listed
abbrev pub others_listed : ℕ → ℕ
others_listed select = if select == 0 then 0 else 4
