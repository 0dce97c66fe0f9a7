use Rattle.std.proofs.Common.{List, arith, length, ℕ, ◌<◌}
use Rattle.ufs_spec.specs.Identities.{command_entry}
use Rattle.ufs_spec.specs.declared.operations.Row.{Row}
use Rattle.lun_route.specs.Operations.{is_unit_row}
use Rattle.lun_route.proofs.OperationRows.{entries_more}
use Rattle.lun_route.proofs.operations.entries_of.Goals as goal

pub loop-row-preserved : goal.loop-row-preserved
loop-row-preserved c =
    let rows : List Row = c.args.rows.now in
    let i : ℕ = c.loop-row.row-index in
    let less : i < length rows = omega arith in
    let one = c.put_if_taken.ensures.few in
    let all = c.loop-row.invariant.few in
    record {
      entries = entries_more (command_entry c.args.timed) is_unit_row rows i _ _ _ less c.loop-row.invariant.entries
          c.put_if_taken.ensures.entry;
      few = omega (arith, one, all);
    }
