-- How a row is kept.
use Rattle.std.specs.Prelude.{◌≡◌, ◌≤◌, count_by, length}
use Rattle.std.specs.VecDeque.{deque_capacity}
use Rattle.ufs_spec.specs.Plain.{greatest_command}
use Rattle.readers.specs.Rows.{RowPins, Rises, is_slotted, is_wanted}
use Rattle.readers.specs.declared.row.Row.TheInside.{Inside}

-- what contracts see: whose pins they are, and the pins in their order
abbrev pub row_seen : Inside → RowPins
row_seen f = record { reader = f.reader; next = f.next; pins = f.pins.items }

-- the pins are of the reader and rise, all have room, and the counts are right
pub record IsRow (f : Inside) : Type 0 where
  pub rises : Rises f.reader 0 f.next f.pins.items
  pub few : length f.pins.items ≤ greatest_command
  pub room : greatest_command ≤ deque_capacity f.pins
  pub wanted : f.wanted ≡ count_by is_wanted f.pins.items
  pub slots : f.slots ≡ count_by is_slotted f.pins.items
