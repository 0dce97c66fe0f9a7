use Rattle.device.proofs.Common.{ap, arith, get_or, get_or_default, length, power_cycle_ended, ◌<◌, ◌∙◌}
use Rattle.std.proofs.Common.{slice_set}
use Rattle.std.proofs.lemmas.List.Edits.{map_over_more}
use Rattle.device.proofs.leftovers.end_power_cycles.Goals as goal

pub loop-die-preserved : goal.loop-die-preserved
loop-die-preserved c =
    let i = c.loop-die.die-index in
    let less : i < length c.loop-die.dies = omega arith in
    let x = get_or c.loop-die.dies i c.die-item.result in
    ap (slice_set c.loop-die.dies i) c.end_power_cycle.ensures
    ∙ map_over_more power_cycle_ended c.args.dies.now c.loop-die.dies i x (omega arith) c.loop-die.invariant
    (get_or_default c.loop-die.dies i c.die-item.result x less)
