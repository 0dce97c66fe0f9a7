use Rattle.std.proofs.Common.{◌≡◌, ◌≤◌, ◌*◌, filter, take}
use Rattle.std.specs.List.{flat_map}
use Rattle.arrayvec.specs.ArrayVec.{array_vec_len}
use Rattle.ufs_spec.specs.Identities.{command_entry}
use Rattle.lun_route.specs.Operations.{is_unit_row}
use Rattle.lun_route.proofs.operations.entries_of.Given as goal

-- the entries of the rows so far are there
abbrev pub invariant-loop-row : goal.invariant-loop-row
invariant-loop-row l = record {
  entries : l.entries.items ≡ flat_map (command_entry l.timed) (filter is_unit_row (take l.row-index l.rows));
  few : array_vec_len l.entries ≤ 20 * l.row-index;
}
