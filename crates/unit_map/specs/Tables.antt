-- A table from the pages of the dies to keys, by their indexes (this profile).
use Rattle.std.specs.Prelude.{◌≡◌, ℕ, ◌+◌, ◌*◌, ◌<◌, ◌==◌, ◌&&◌, nat_lt, not, Bool, false, if◌then◌else◌, List}
use Rattle.std.specs.Prelude.{All, get_or, length, slice_get, slice_set, Option, Some, None, is_some, option_and_then}
use Rattle.geometry.specs.Keys.{key_total}
use Rattle.ufs_spec.specs.Plain.{shape_of_numbers}
use Rattle.ufs_spec.specs.declared.configs.Numbers.{Numbers}
use Rattle.ufs_spec.specs.declared.flash.Place.{Place}
use Rattle.unit_map.specs.Places.{flat, name_there}
use Rattle.unit_map.specs.declared.Stored.{Stored}
use Rattle.unit_map.specs.declared.key_table.KeyTable.{KeyTable}

-- how many pages the dies have
abbrev pub page_total : Numbers → ℕ
page_total n = n.dies * n.blocks * n.pages

-- the index of a page among those of all dies, by die, then by block; none if there is no such page
abbrev pub page_index : Numbers → Place → Option ℕ
page_index n p =
    if nat_lt p.die n.dies && nat_lt p.block n.blocks && nat_lt p.page n.pages
    then Some ((p.die * n.blocks + p.block) * n.pages + p.page)
    else None

-- the table with this key at the page with this index, if there is such a page
abbrev pub keys_noted : List ℕ → Option ℕ → ℕ → List ℕ
keys_noted keys None key = keys
keys_noted keys (Some page) key = slice_set keys page key

-- whether the key is another one, and its content stands there
abbrev pub is_other_there : List (Option Stored) → Place → ℕ → ℕ → Bool
is_other_there places p key last = not (last == key) && is_some (name_there p (slice_get places last))

-- whether the key that the table has at the page is another one, whose content still stands there
abbrev pub is_taken : List (Option Stored) → List ℕ → Option ℕ → Place → ℕ → Bool
is_taken places keys None p key = false
is_taken places keys (Some page) p key = is_other_there places p key (get_or keys page 0)

-- the only key whose content may stand there; none if the table is shared or has no such page
abbrev pub key_there : Numbers → KeyTable → Place → Option ℕ
key_there n t p = if t.shared then None else option_and_then (slice_get t.keys.items) (page_index n p)

-- each of the first keys whose content stands on a page of the dies is the one that the table has there
abbrev pub AreFound : Numbers → List (Option Stored) → ℕ → List ℕ → Type 0
AreFound n places count keys =
    (key : ℕ) (s : Stored) (page : ℕ) → key < count → flat (slice_get places key) ≡ Some s →
    page_index n s.place ≡ Some page → slice_get keys page ≡ Some key

-- the table has a key for each page of the dies; and unless it is shared, the first keys are found in it
pub record IsTableOf (n : Numbers) (places : List (Option Stored)) (count : ℕ) (t : KeyTable) : Type 0 where
  pub room : length t.keys.items ≡ page_total n
  pub known : All (λ key. key < key_total (shape_of_numbers n)) t.keys.items
  pub found : t.shared ≡ false → AreFound n places count t.keys.items

-- it is a table of all keys
abbrev pub IsTable : Numbers → List (Option Stored) → KeyTable → Type 0
IsTable n places t = IsTableOf n places (key_total (shape_of_numbers n)) t
