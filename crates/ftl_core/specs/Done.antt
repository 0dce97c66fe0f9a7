-- The end of the job that a die has in flight, as the code does it: what is answered, and what is kept then.
-- `IsTold` of Describes says what that means.
use Rattle.std.specs.Prelude.{◌≡◌, ℕ, slice_get, Option, Some, None, option_map}
use Rattle.ufs_spec.specs.declared.flash.Outcome.{Outcome}
use Rattle.ufs_spec.specs.declared.flash.Tag.{Tag}
use Rattle.block_table.specs.declared.rows.DieRow.{DieRow}
use Rattle.block_table.specs.declared.rows.Flight.{Flight}
use Rattle.block_table.specs.declared.rows.Flight.TheVariants as flight
use Rattle.ftl_core.specs.Ended.{EndedNow}
use Rattle.ftl_core.specs.Core.{Core}
use Rattle.ftl_core.specs.Gives.{GivesIf, IsReadAfter, change_after, ending, is_read, other_for}

-- what is kept once this job ended so: a read by whom it is for, a program and an erase by whether it went well
abbrev pub IsJobAfter : Core → ℕ → DieRow → Flight → Outcome → Option Tag → Core → Type 0
IsJobAfter c die b (flight.Read place reader) o tag new = IsReadAfter (is_read o) c die b o tag reader new
IsJobAfter c die b (flight.Step place) o tag new = new ≡ change_after c die b (flight.Step place) (ending o)
IsJobAfter c die b (flight.Group place n i) o tag new = new ≡ change_after c die b (flight.Group place n i) (ending o)
IsJobAfter c die b (flight.Erase block) o tag new = new ≡ change_after c die b (flight.Erase block) (ending o)

-- what is kept once the job of a die ended so; if it has none in flight nothing changes
abbrev pub IsFlightAfter : Core → ℕ → DieRow → Option Flight → Outcome → Option Tag → Core → Type 0
IsFlightAfter c die b None o tag new = new ≡ c
IsFlightAfter c die b (Some f) o tag new = IsJobAfter c die b f o tag new

-- what is kept once the job of a die ended so; if the device has no such die nothing changes
abbrev pub IsRowAfter : Core → ℕ → Option DieRow → Outcome → Option Tag → Core → Type 0
IsRowAfter c die None o tag new = new ≡ c
IsRowAfter c die (Some b) o tag new = IsFlightAfter c die b b.flight o tag new

-- what is kept once the job of the die ended so, and a page with this tag was read, if one was
abbrev pub IsCoreEnded : Core → ℕ → Outcome → Option Tag → Core → Type 0
IsCoreEnded c die o tag new = IsRowAfter c die (slice_get c.rows die) o tag new

-- a program and an erase give nothing, and a read what its reader looked up
abbrev pub JobEnds : Core → Flight → Outcome → Option EndedNow → Type 0
JobEnds c (flight.Read place reader) o r = GivesIf (is_read o) c o reader r
JobEnds c _ o r = r ≡ option_map other_for (ending o)

-- the end of a job that the die does not have is answered with none
abbrev pub FlightEnds : Core → Option Flight → Outcome → Option EndedNow → Type 0
FlightEnds c None o r = r ≡ None
FlightEnds c (Some f) o r = JobEnds c f o r

-- the end of a job of a die that the device does not have is answered with none
abbrev pub RowEnds : Core → Option DieRow → Outcome → Option EndedNow → Type 0
RowEnds c None o r = r ≡ None
RowEnds c (Some b) o r = FlightEnds c b.flight o r

-- the answer to the end of the die's job
abbrev pub IsEnded : Core → ℕ → Outcome → Option EndedNow → Type 0
IsEnded c die o r = RowEnds c (slice_get c.rows die) o r
