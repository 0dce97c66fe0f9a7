-- What is known of each die: the block that it fills, and its job in flight (this profile).
use Rattle.std.specs.Prelude.{ℕ, ◌==◌, ◌&&◌, Bool, true, false, if◌then◌else◌, is_some, List, slice_get, slice_set}
use Rattle.std.specs.Prelude.{Option, Some, None}
use Rattle.ufs_spec.specs.Translation.{same_reader}
use Rattle.ufs_spec.specs.declared.layer.Reader.{Reader}
use Rattle.ufs_spec.specs.declared.layer.Reader.TheVariants.{ForNobody, ForTask}
use Rattle.block_table.specs.declared.rows.DieRow.{DieRow}
use Rattle.block_table.specs.declared.rows.OpenBlock.{OpenBlock}
use Rattle.block_table.specs.declared.rows.Flight.{Flight}
use Rattle.block_table.specs.declared.rows.Flight.TheVariants as flight

-- a die that fills no block and has no job
abbrev pub idle_row : DieRow
idle_row = record { filling = None; flight = None }

-- the die fills a block
abbrev pub fills : DieRow → Bool
fills r = is_some r.filling

-- the job in flight erases a block
abbrev pub flight_erases : Option Flight → Bool
flight_erases (Some (flight.Erase block)) = true
flight_erases _ = false

-- the die erases a block
abbrev pub erases : DieRow → Bool
erases r = flight_erases r.flight

-- the job in flight programs the page of a group with this number and index
abbrev pub flight_writes : ℕ → ℕ → Option Flight → Bool
flight_writes number index (Some (flight.Group place n i)) = (number == n) && (index == i)
flight_writes number index _ = false

-- the die programs the page of the group with this number that has this index
abbrev pub writes_page : ℕ → ℕ → DieRow → Bool
writes_page number index r = flight_writes number index r.flight

-- the job in flight programs the page of the step under way
abbrev pub is_step_flight : Option Flight → Bool
is_step_flight (Some (flight.Step place)) = true
is_step_flight _ = false

-- the die programs the page of the step under way
abbrev pub writes_step : DieRow → Bool
writes_step r = is_step_flight r.flight

-- the job in flight is a read for this reader
abbrev pub flight_reads : Reader → Option Flight → Bool
flight_reads reader (Some (flight.Read place other)) = same_reader reader other
flight_reads reader _ = false

-- the die reads for this reader
abbrev pub reads_for : Reader → DieRow → Bool
reads_for reader r = flight_reads reader r.flight

-- this is in flight of the die from now on, over the block that it fills; nothing changes if there is no such die
abbrev pub flight_set : List DieRow → ℕ → Option Flight → Option DieRow → List DieRow
flight_set rows die f None = rows
flight_set rows die f (Some r) = slice_set rows die (record { filling = r.filling; flight = f })

-- this is in flight of the die from now on, if there is such a die
abbrev pub rows_in_flight : List DieRow → ℕ → Option Flight → List DieRow
rows_in_flight rows die f = flight_set rows die f (slice_get rows die)

-- the die fills this from now on, and its job stays; nothing changes if there is no such die
abbrev pub filling_set : List DieRow → ℕ → Option OpenBlock → Option DieRow → List DieRow
filling_set rows die o None = rows
filling_set rows die o (Some r) = slice_set rows die (record { filling = o; flight = r.flight })

-- the die fills this from now on, if there is such a die
abbrev pub rows_filling : List DieRow → ℕ → Option OpenBlock → List DieRow
rows_filling rows die o = filling_set rows die o (slice_get rows die)

-- what a die that fills this fills once the block went bad: another block it goes on to fill
abbrev pub filling_but : ℕ → Option OpenBlock → Option OpenBlock
filling_but block None = None
filling_but block (Some o) = if o.block == block then None else Some o

-- the die has no job, and fills the block no more; nothing changes if there is no such die
abbrev pub failed_set : List DieRow → ℕ → ℕ → Option DieRow → List DieRow
failed_set rows die block None = rows
failed_set rows die block (Some r) =
    slice_set rows die (record { filling = filling_but block r.filling; flight = None })

-- a job of the die failed in the block: the die has no job, and fills the block no more
abbrev pub rows_failed : List DieRow → ℕ → ℕ → List DieRow
rows_failed rows die block = failed_set rows die block (slice_get rows die)

-- a read in flight for a reader who let go is for nobody
abbrev pub flight_without : ℕ → Option Flight → Option Flight
flight_without tag (Some (flight.Read place (ForTask other i))) =
    Some (flight.Read place (if other == tag then ForNobody else ForTask other i))
flight_without tag f = f

-- the die's read for this reader goes on, for nobody
abbrev pub without_reader : ℕ → DieRow → DieRow
without_reader reader r = record r { flight = flight_without reader r.flight }

-- a read in flight for this block of the reader is for nobody; its other reads stay
abbrev pub flight_without_block : ℕ → ℕ → Option Flight → Option Flight
flight_without_block tag index (Some (flight.Read place (ForTask other i))) =
    Some (flight.Read place (if (other == tag) && (i == index) then ForNobody else ForTask other i))
flight_without_block tag index f = f

-- the die's read for this block of the reader goes on, for nobody
abbrev pub without_block : ℕ → ℕ → DieRow → DieRow
without_block reader index r = record r { flight = flight_without_block reader index r.flight }
