-- Rows of pins, each of one reader.
use Rattle.std.specs.Prelude.{◌≡◌, ℕ, ◌+◌, ◌≤◌, ◌==◌, Bool, true, false, ◌&&◌, nat_le, nat_lt}
use Rattle.std.specs.Prelude.{◌-◌, List, [], ◌∷◌, ◌++◌, length, slice_get, Option, None, Some}
use Rattle.ufs_spec.specs.Plain.{greatest_command}
use Rattle.ufs_spec.specs.declared.layer.Looked.{Looked}
use Rattle.ufs_spec.specs.declared.layer.Looked.TheVariants.{InSlot, OnPage, Unwritten}
use Rattle.block_table.specs.Lives.{Lives}
use Rattle.readers.specs.declared.pin.Pin.{Pin}
use Rattle.readers.specs.Pins.{block_unpinned}

-- pins of one reader; each index is under `next`
pub record RowPins : Type 0 where
  pub reader : ℕ
  pub next : ℕ
  pub pins : List Pin

-- the row that holds this pin alone
abbrev pub row_of : Pin → RowPins
row_of p = record { reader = p.reader; next = p.index + 1; pins = p ∷ [] }

-- the row has room for the pin: it is of the reader, its index is above all that were there, and it has fewer than the
-- greatest command has blocks
abbrev pub takes : RowPins → Pin → Bool
takes r p = (r.reader == p.reader) && (nat_le r.next p.index && nat_lt (length r.pins) greatest_command)

-- the last of the rows has room for the pin
abbrev pub takes_at : Option RowPins → Pin → Bool
takes_at None p = false
takes_at (Some r) p = takes r p

abbrev pub last_takes : List RowPins → Pin → Bool
last_takes rs p = takes_at (slice_get rs (length rs - 1)) p

-- each row holds a pin
abbrev pub AreFilled : List RowPins → Type 0
AreFilled [] = Unit {0}
AreFilled (r ∷ rs) = ((length r.pins == 0) ≡ false) × AreFilled rs

-- one pin more
abbrev pub with_pin : RowPins → Pin → RowPins
with_pin r p = record r { next = p.index + 1; pins = r.pins ++ p ∷ [] }

-- the same row with these pins
abbrev pub with_pins : RowPins → List Pin → RowPins
with_pins r ps = record r { pins = ps }

-- the pins of all rows, one row behind the other
abbrev pub pins_in : List RowPins → List Pin
pins_in [] = []
pins_in (r ∷ rs) = r.pins ++ pins_in rs

-- the first pin has this index
abbrev pub starts_at : ℕ → List Pin → Bool
starts_at index [] = false
starts_at index (p ∷ ps) = p.index == index

-- the page of the first pin is wanted from now on, or no longer to be read
abbrev pub first_set : Bool → List Pin → List Pin
first_set wanted [] = []
first_set wanted (p ∷ ps) = record p { wanted = wanted } ∷ ps

-- the pin goes, and its block has one pin less
abbrev pub first_let_go : Lives → Pin → Lives
first_let_go l p = block_unpinned l p.looked

-- What a row counts

-- the page is still to be read
abbrev pub is_wanted : Pin → Bool
is_wanted p = p.wanted

-- what is looked at lies in a slot
abbrev pub is_in_slot : Looked → Bool
is_in_slot (InSlot name) = true
is_in_slot (OnPage name place) = false
is_in_slot Unwritten = false

-- the pin looks into a slot
abbrev pub is_slotted : Pin → Bool
is_slotted p = is_in_slot p.looked

-- the pins are of the reader, and their indices rise, from `from` on and under `next`
abbrev pub Rises : (reader from next : ℕ) → List Pin → Type 0
Rises reader from next [] = from ≤ next
Rises reader from next (p ∷ ps) = (p.reader ≡ reader) × ((from ≤ p.index) × Rises reader (p.index + 1) next ps)
