-- Which blocks may not be erased: those of which a reader keeps a page, and those from which the rest of a page is still
-- to be read.
use Rattle.std.specs.Prelude.{ℕ, ◌==◌, Bool, false, ◌&&◌, ◌||◌, Option, Some, None}
use Rattle.std.specs.List.{list_any}
use Rattle.ufs_spec.specs.declared.layer.Looked.{Looked}
use Rattle.ufs_spec.specs.declared.layer.Looked.TheVariants.{OnPage, Unwritten}
use Rattle.write_cache.specs.declared.rests.OwedSource.{OwedSource}
use Rattle.write_cache.specs.declared.rests.OwedSource.TheVariants as owed
use Rattle.write_cache.specs.declared.rests.Rest.{Rest}
use Rattle.write_cache.specs.declared.slots.Pending.{Pending}
use Rattle.readers.specs.declared.pin.Pin.{Pin}
use Rattle.ftl_core.specs.Core.{Core}

-- what is looked at is a page of the block
abbrev pub keeps_page : ℕ → ℕ → Looked → Bool
keeps_page die block (OnPage name place) = (place.die == die) && (place.block == block)
keeps_page die block _ = false

-- a reader keeps a page of the block
abbrev pub keeps : ℕ → ℕ → Pin → Bool
keeps die block p = keeps_page die block p.looked

-- the page that is read for the rest, as what is looked at; none is where the read of another page brings it
abbrev pub look_of_source : OwedSource → Looked
look_of_source (owed.Page name place) = OnPage name place
look_of_source (owed.Slot name) = Unwritten

-- the page that is still to be read for a pending page, as what is looked at
abbrev pub rest_look : Option Rest → Looked
rest_look None = Unwritten
rest_look (Some rest) = look_of_source rest.source

-- the rest of the pending page is still to be read from a page of the block
abbrev pub reads_block : ℕ → ℕ → Pending → Bool
reads_block die block p = keeps_page die block (rest_look p.rest)

-- the block may not be erased
abbrev pub has_pin : Core → ℕ → ℕ → Bool
has_pin c die block = list_any (keeps die block) c.pins || list_any (reads_block die block) c.pages
