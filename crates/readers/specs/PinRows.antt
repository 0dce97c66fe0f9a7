-- How the pins are kept.
use Rattle.std.specs.Prelude.{◌≤◌, ◌+◌, ◌++◌, List, length, vec_capacity}
use Rattle.ufs_spec.specs.Exchanges.{most_tasks}
use Rattle.readers.specs.declared.pin.Pin.{Pin}
use Rattle.readers.specs.Pins.{most_pins}
use Rattle.readers.specs.Rows.{pins_in}
use Rattle.readers.specs.declared.pins.Pins.TheInside.{Inside}

-- what contracts see: the pins of all rows in their order, and those behind all rows
abbrev pub pins_of : Inside → List Pin
pins_of f = pins_in f.rows.items ++ f.rest.items

-- all rows, and all pins behind them, have room
pub record HasRoom (f : Inside) : Type 0 where
  pub few : length f.rows.items + length f.spare.items ≤ most_tasks
  pub rows_room : most_tasks ≤ vec_capacity f.rows
  pub spare_room : most_tasks ≤ vec_capacity f.spare
  pub rest_few : length f.rest.items ≤ most_pins
  pub rest_room : most_pins ≤ vec_capacity f.rest
