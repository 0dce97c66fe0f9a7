-- The parts of what REPORT SUPPORTED OPERATION CODES tells that the definitions do not name (SPC).
use Rattle.std.specs.Prelude.{Bool, List, [], if◌then◌else◌, is_some, unwrap_or, ℕ, ◌&&◌, ◌++◌, ◌==◌, ◌∷◌}
use Rattle.byteorder.specs.Endian.{big_bytes}
use Rattle.ufs_spec.specs.Identities.{cdb_length, command_entry, entry_flags, is_asked, support}
use Rattle.ufs_spec.specs.declared.operations.Row.{Row}

-- a unit of the configuration takes the command
abbrev pub is_unit_row : Row → Bool
is_unit_row row = row.takers.units

-- a unit takes it, and it is asked for
abbrev pub is_taken_and_asked : ℕ → Row → Bool
is_taken_and_asked select row = is_unit_row row && is_asked select row

-- the command has this operation code, and a service action
abbrev pub is_of_actions : ℕ → Row → Bool
is_of_actions operation row = (row.operation == operation) && is_some row.action

-- an entry before the timeouts
abbrev pub entry_head : Bool → Row → List ℕ
entry_head timed row =
    (row.operation ∷ 0 ∷ []) ++ big_bytes 2 (unwrap_or row.action 0) ++ (0 ∷ entry_flags timed row.action ∷ [])
    ++ big_bytes 2 (cdb_length row.operation)

-- the entry of a command that a unit takes
abbrev pub entry_if_taken : Bool → Row → List ℕ
entry_if_taken timed row = if is_unit_row row then command_entry timed row else []

-- the first four bytes of what is told of one command: what is known of it, and the length of its CDB
abbrev pub support_head : Bool → (known long : ℕ) → List ℕ
support_head timed known long = (0 ∷ support timed known ∷ []) ++ big_bytes 2 long
