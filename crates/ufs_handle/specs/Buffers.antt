-- Bytes that are put into a buffer of a C program.
use Rattle.std.specs.Prelude.{◌≡◌, ◌<◌, ◌≤◌, List, ◌++◌, ℕ, Result, Ok, Err, drop, length}
use Rattle.ufs_handle.specs.declared.fault.Fault.{Fault}
use Rattle.ufs_handle.specs.declared.fault.Fault.TheVariants as fault

-- the bytes stand at the front of the buffer, and what stood behind them is as before; or the buffer is too short for
-- them, and all of it is as before
abbrev pub IsPut : List ℕ → Result (Unit {0}) Fault → List ℕ → List ℕ → Type 0
IsPut bytes (Ok _) room into = (length bytes ≤ length room) × (into ≡ bytes ++ drop (length bytes) room)
IsPut bytes (Err f) room into = (f ≡ fault.Room) × (length room < length bytes) × (into ≡ room)
