-- Which pending page is written at each place of the dies.
use Rattle.std.specs.Prelude.{◌≡◌, ℕ, ◌+◌, ◌-◌, ◌*◌, ◌%◌, ◌<◌, ◌==◌, ◌&&◌, nat_lt, not, Bool, false, if◌then◌else◌, List}
use Rattle.std.specs.Prelude.{length, slice_get, slice_set, Option, Some, None, option_and_then}
use Rattle.ufs_spec.specs.declared.configs.Numbers.{Numbers}
use Rattle.ufs_spec.specs.declared.flash.Place.{Place}
use Rattle.word_set.specs.Flags.{passes, tells}
use Rattle.write_cache.specs.declared.pages.written_at.WrittenAt.{WrittenAt}
use Rattle.write_cache.specs.declared.slots.Pending.{Pending}
use Rattle.write_cache.specs.Slots.{is_there}

-- how many pages the dies have
abbrev pub place_total : Numbers → ℕ
place_total n = n.dies * n.blocks * n.pages

-- the index of a place among the pages of all dies, by die, then by block; none if there is no such page
abbrev pub place_index : Numbers → Place → Option ℕ
place_index n p =
    if nat_lt p.die n.dies && nat_lt p.block n.blocks && nat_lt p.page n.pages
    then Some ((p.die * n.blocks + p.block) * n.pages + p.page)
    else None

-- the entry of a place at which no pending page is written
abbrev pub no_page : ℕ
no_page = 65535

-- the position of the page at this place of the queue, whose first page stands at this position
abbrev pub position_of : (first place : ℕ) → ℕ
position_of first place = (first + place) % 65535

-- where the page with this entry stands in the queue; none if the entry is that of no page
abbrev pub standing : (first entry : ℕ) → Option ℕ
standing first entry = if entry == no_page then None else Some ((entry + (65535 - first)) % 65535)

-- the table with this entry for the place with this index, if there is such a place
abbrev pub entry_put : List ℕ → (entry : ℕ) → Option ℕ → List ℕ
entry_put at entry None = at
entry_put at entry (Some i) = slice_set at i entry

-- the table without the page that leaves, which was written there, if it was
abbrev pub entry_left : Numbers → List ℕ → Option Place → List ℕ
entry_left n at None = at
entry_left n at (Some p) = entry_put at no_page (place_index n p)

-- the entry of the place; none if there is no such place
abbrev pub entry_of : WrittenAt → Place → Option ℕ
entry_of t p = option_and_then (slice_get t.at.items) (place_index t.config p)

-- where the page is written, if there is one and it is written
abbrev pub place_before : Option Pending → Option Place
place_before None = None
place_before (Some p) = p.written

-- the entry is there, and that of a page
abbrev pub is_taken : Option ℕ → Bool
is_taken None = false
is_taken (Some entry) = not (entry == no_page)

-- the entry of the place; none if there is no such place, or if the table is shared
abbrev pub told_of : WrittenAt → Place → Option ℕ
told_of t p = if t.shared then None else entry_of t p

-- a page of the queue is written at a place exactly if it stands where the entry of the place tells
abbrev pub AreThere : Numbers → (at : List ℕ) → (first : ℕ) → List Pending → Type 0
AreThere n at first ps =
    (p : Place) (i entry : ℕ) → place_index n p ≡ Some i → slice_get at i ≡ Some entry →
    (k : ℕ) → passes (is_there p) ps k ≡ tells (λ j. j == k) (standing first entry)

-- each place has an entry; and unless the table is shared, the entries tell of all pages that are written
pub record IsWrittenAt (t : WrittenAt) (ps : List Pending) : Type 0 where
  pub many : length t.at.items ≡ place_total t.config
  pub first : t.first < 65535
  pub told : t.shared ≡ false → AreThere t.config t.at.items t.first ps
