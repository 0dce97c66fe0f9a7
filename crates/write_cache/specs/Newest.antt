-- At which position the newest pending page of each key stands.
use Rattle.std.specs.Prelude.{◌≡◌, ℕ, ◌+◌, List, if◌then◌else◌, length, option_and_then, option_map, slice_get}
use Rattle.std.specs.Prelude.{slice_set, Option, Some, None}
use Rattle.geometry.specs.Keys.{index_of, key_total}
use Rattle.ufs_spec.specs.Plain.{shape_of_numbers}
use Rattle.ufs_spec.specs.declared.flash.Key.{Key}
use Rattle.write_cache.specs.declared.pages.newest.Newest.{Newest}
use Rattle.write_cache.specs.declared.slots.Pending.{Pending}
use Rattle.write_cache.specs.Ring.{back, wrapped}
use Rattle.write_cache.specs.Slots.{is_page_of, last_of}

-- the index of the key among all keys of the configuration; none if it has not this key
abbrev pub index_in : Newest → Key → Option ℕ
index_in t k = index_of (shape_of_numbers t.config) k

-- the position is noted for the key with this index; without an index none is
abbrev pub positions_noted : List ℕ → (position : ℕ) → Option ℕ → List ℕ
positions_noted at position None = at
positions_noted at position (Some i) = slice_set at i position

-- how far the position that was noted for the key is behind that of the first page; none if the key has no index
abbrev pub place_noted : Newest → (landed : ℕ) → Key → Option ℕ
place_noted t landed k =
    option_and_then (λ i. option_map (λ position. back position landed) (slice_get t.at.items i)) (index_in t k)

-- the page, if it is of the key
abbrev pub page_if : Key → Option Pending → Option Pending
page_if k None = None
page_if k (Some p) = if is_page_of k p then Some p else None

-- each key that has an index has an entry; and while a page of the key is pending, the entry is the position of the
-- last of these. The first pending page stands at the position that is given
pub record IsNewest (t : Newest) (landed : ℕ) (ps : List Pending) : Type 0 where
  pub many : length t.at.items ≡ key_total (shape_of_numbers t.config)
  pub noted : (k : Key) (i j : ℕ) → index_in t k ≡ Some i → last_of k ps ≡ Some j →
      slice_get t.at.items i ≡ Some (wrapped (landed + j))
