-- What becomes of pins, and how many of them each block has (JESD220, 10.5: a READ shows its blocks as they were when
-- its COMMAND came).
use Rattle.std.specs.Prelude.{ℕ, ◌+◌, ◌-◌, ◌*◌, ◌^◌, ◌==◌, Bool, false, true, ◌&&◌, if◌then◌else◌, min, not}
use Rattle.std.specs.Prelude.{List, replicate}
use Rattle.std.specs.List.{list_any}
use Rattle.ufs_spec.specs.Disk.{spot_of}
use Rattle.ufs_spec.specs.Exchanges.{most_tasks}
use Rattle.ufs_spec.specs.Ledger.{same_name}
use Rattle.ufs_spec.specs.Plain.{greatest_command}
use Rattle.ufs_spec.specs.declared.layer.Looked.{Looked}
use Rattle.ufs_spec.specs.declared.layer.Looked.TheVariants.{InSlot, OnPage, Unwritten}
use Rattle.ufs_spec.specs.declared.layer.Reader.TheVariants.{ForTask}
use Rattle.block_table.specs.Lives.{Lives, pins_of, with_pins}
use Rattle.block_table.specs.Rows.{reads_for}
use Rattle.block_table.specs.declared.rows.DieRow.{DieRow}
use Rattle.unit_map.specs.declared.Stored.{Stored}
use Rattle.readers.specs.declared.pin.Pin.{Pin}

-- how many pins there may be: each task keeps at most the blocks of one command
abbrev pub most_pins : ℕ
most_pins = most_tasks * greatest_command

-- Whose a pin is, and who is owed a read

-- the pin is of this block of the reader
abbrev pub is_pin_of : ℕ → ℕ → Pin → Bool
is_pin_of reader index p = (p.reader == reader) && (p.index == index)

-- the pin is of the reader
abbrev pub is_of_reader : ℕ → Pin → Bool
is_of_reader reader p = p.reader == reader

-- what was looked up lies on this die
abbrev pub looks_on : ℕ → Looked → Bool
looks_on die (OnPage name place) = place.die == die
looks_on die _ = false

-- the reader is owed the read of a page of this die: it wants it, and no die reads for it
abbrev pub is_owed_by : List DieRow → ℕ → Pin → Bool
is_owed_by rows die p = p.wanted && looks_on die p.looked && not (list_any (reads_for (ForTask p.reader p.index)) rows)

-- What becomes of a pin

-- the page of this block of the reader is wanted from now on
abbrev pub wanted_now : ℕ → ℕ → Pin → Pin
wanted_now reader index p = record p { wanted = if is_pin_of reader index p then true else p.wanted }

-- the page of this block of the reader is no longer to be read
abbrev pub wanted_no_more : ℕ → ℕ → Pin → Pin
wanted_no_more reader index p = record p { wanted = if is_pin_of reader index p then false else p.wanted }

-- who kept the slot of a page keeps its place from now on
abbrev pub now_stored : Stored → Looked → Looked
now_stored s (InSlot name) = if same_name name s.name then OnPage s.name s.place else InSlot name
now_stored s looked = looked

-- a pin on the slot of the page is on the page's place from now on; any other pin stays
abbrev pub moved_pin : Stored → Pin → Pin
moved_pin s p = record p { looked = now_stored s p.looked }

-- How many pins a block has

-- which pages are live, without the pins of the blocks: these follow from what readers keep
abbrev pub without_pins : Lives → Lives
without_pins l = record l { pins = replicate (l.sizes.dies * l.sizes.blocks) 0 }

-- the block of the page that is looked at has one pin more, if a page is
abbrev pub block_pinned : Lives → Looked → Lives
block_pinned l (OnPage name place) =
    with_pins l (spot_of place) (min (pins_of l (spot_of place) + 1) (2 ^ 32 - 1))
block_pinned l (InSlot name) = l
block_pinned l Unwritten = l

-- the block of the page that is looked at has one pin less, if a page is
abbrev pub block_unpinned : Lives → Looked → Lives
block_unpinned l (OnPage name place) = with_pins l (spot_of place) (pins_of l (spot_of place) - 1)
block_unpinned l (InSlot name) = l
block_unpinned l Unwritten = l

-- a pin for which the test holds goes, and its block has one pin less
abbrev pub let_go : (Pin → Bool) → Lives → Pin → Lives
let_go goes l p = if goes p then block_unpinned l p.looked else l

-- it is the slot of this page
abbrev pub is_slot_of : Stored → Looked → Bool
is_slot_of s (InSlot name) = same_name name s.name
is_slot_of s looked = false

-- a pin of the slot of this page is one of the block where the page stands now
abbrev pub pin_moves : Stored → Lives → Pin → Lives
pin_moves s l p = if is_slot_of s p.looked then block_pinned l (OnPage s.name s.place) else l
