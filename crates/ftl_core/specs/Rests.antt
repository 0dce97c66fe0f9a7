-- Pages that come with keys of their own, of which a command may bring only a part (JESD220, 12.4): where the rest of
-- each is taken from, and what the read of a rest makes of what is kept. RestsKept says what that means.
use Rattle.std.specs.Prelude.{◌≡◌, ℕ, ◌+◌, ◌*◌, ◌≤◌, if◌then◌else◌, List, ◌++◌, length, map, filter_map, Option, Some}
use Rattle.std.specs.Prelude.{None}
use Rattle.ufs_spec.specs.Translation.{is_in_part}
use Rattle.ufs_spec.specs.declared.flash.Key.{Key}
use Rattle.ufs_spec.specs.declared.layer.Name.{Name}
use Rattle.block_table.specs.Lives.{Lives}
use Rattle.unit_map.specs.declared.Stored.{Stored}
use Rattle.write_cache.specs.declared.rests.NewPage.{NewPage}
use Rattle.write_cache.specs.declared.rests.RestSource.{RestSource}
use Rattle.write_cache.specs.declared.rests.RestSource.TheVariants as source
use Rattle.write_cache.specs.declared.slots.Pending.{Pending}
pub use Rattle.write_cache.specs.Rests.{awaited, awaits, own_name, part_of, rests_filled, waits, with_part_of}
use Rattle.write_cache.specs.Rests.{page_brought}
use Rattle.write_cache.specs.Slots.{is_named, last_page}
use Rattle.ftl_core.specs.declared.books.Brought.{Brought}
use Rattle.ftl_core.specs.Core.{Core}
use Rattle.ftl_core.specs.Moves.{claims_for, next_number, released, rest_look, stored_of}
use Rattle.readers.specs.Pins.{block_pinned, block_unpinned}

-- Where the rest of a page comes from

-- from the slot of the page of this name, if its content is there, else by the read that it waits for
abbrev pub slot_source : Name → Option Name → RestSource
slot_source own None = source.Slot own
slot_source own (Some read) = source.Owed read

-- from the page where the durable content stands, or from nothing
abbrev pub stored_source : Option Stored → RestSource
stored_source None = source.Nothing
stored_source (Some s) = source.Page s.name s.place

-- from the last pending page of the key, if there is one, else from its durable content
abbrev pub last_source : Option Pending → Option Stored → RestSource
last_source None stored = stored_source stored
last_source (Some p) stored = slot_source (own_name p) (awaited p)

-- from what holds the content of the key after all pending groups; a page that comes whole has no rest
abbrev pub source_for : Core → Key → RestSource
source_for c k = if is_in_part k then last_source (last_page k c.pages) (stored_of c k) else source.Nothing

-- The group

-- the page that a command brings, with where its rest comes from
abbrev pub new_page : Core → Brought → NewPage
new_page c x = record { key = x.key; part = x.part; bytes = x.bytes; source = source_for c x.key }

-- the pages of a group of these pages, in the place of the slots that the reader claimed
abbrev pub pages_brought : Core → ℕ → List Brought → List Pending
pages_brought c reader xs =
    filter_map (page_brought c.pages (next_number c) (map (new_page c) xs)) (claims_for c reader)

-- one group more, of these pages, with the next number. A slot of which the group has no page is free
abbrev pub accepted_pages : Core → ℕ → List Brought → Core
accepted_pages c reader xs =
    record (released c reader) { pages = c.pages ++ pages_brought c reader xs; last = next_number c }

-- the part is one of whole blocks within a page, and the bytes are as many
abbrev pub IsPartBrought : Brought → Type 0
IsPartBrought x = (length x.bytes.now ≡ 256 * x.part.blocks) × (x.part.first + x.part.blocks ≤ 16)

-- The read of a rest

-- each page that waits for the read has its content, if the read gave any; else it is still to be read
abbrev pub with_rest : Core → Name → Option (List ℕ) → Core
with_rest c name None = c
with_rest c name (Some body) = record c { pages = rests_filled name body c.pages }

-- Pins

-- the block from which the page's rest is still to be read has one pin more
abbrev pub rest_pinned : Lives → Pending → Lives
rest_pinned l p = block_pinned l (rest_look p.rest)

-- the block from which the page's rest was still to be read has one pin less, if the page is of this name
abbrev pub rest_unpinned : Name → Lives → Pending → Lives
rest_unpinned name l p = if is_named name.number name.index p then block_unpinned l (rest_look p.rest) else l

-- the same for the page that was found, if one was
abbrev pub rest_pinned_at : Lives → Option Pending → Lives
rest_pinned_at l None = l
rest_pinned_at l (Some p) = rest_pinned l p

-- and the same of the page that was found, if it is of this name
abbrev pub rest_unpinned_at : Name → Lives → Option Pending → Lives
rest_unpinned_at name l None = l
rest_unpinned_at name l (Some p) = rest_unpinned name l p

-- the block from which the rest of the page was still to be read, if one was found, has one pin less
abbrev pub first_unpinned : Lives → Option Pending → Lives
first_unpinned l None = l
first_unpinned l (Some p) = block_unpinned l (rest_look p.rest)
