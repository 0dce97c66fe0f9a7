use Rattle.std.proofs.Common.{◌≡◌, ◌<◌, ◌∙◌, ap, arith, get_or, length, slice_set}
use Rattle.std.proofs.lemmas.List.{get_or_default}
use Rattle.std.proofs.lemmas.List.Edits.{map_over_more}
use Rattle.rpmb.specs.Kept.{forgotten}
use Rattle.rpmb.proofs.machines.forget_each.Goals as goal

pub loop-machine-preserved : goal.loop-machine-preserved
loop-machine-preserved c =
    let i = c.loop-machine.machine-index in
    let less : i < length c.loop-machine.machines = omega arith in
    let new = c.forget.new.self in
    let x = get_or c.loop-machine.machines i new in
    let is : new ≡ forgotten x = c.forget.ensures
    ∙ ap forgotten (get_or_default c.loop-machine.machines i _ new less) in
    ap (slice_set c.loop-machine.machines i) is ∙ map_over_more forgotten c.args.machines.now c.loop-machine.machines i x
    (omega arith) c.loop-machine.invariant (get_or_default c.loop-machine.machines i new x less)
