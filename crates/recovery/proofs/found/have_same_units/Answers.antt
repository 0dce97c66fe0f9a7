use Rattle.recovery.proofs.Common.{◌≡◌}
use Rattle.std.specs.Bool.{Decides}
use Rattle.std.proofs.lemmas.Slice.Eq.{slice_eq-Decides}
use Rattle.recovery.proofs.same_units.SameUnits.{same_unit}
use Rattle.recovery.proofs.found.have_same_units.Goals as goal

pub returns : goal.returns
returns c =
    let us = c.args.said.now.units in
    let vs = c.args.numbers.now.units in
    let same : Decides c.eq.result (us.items ≡ vs.items) =
    slice_eq-Decides same_unit us.items vs.items c.eq.result c.eq.ensures in
    (λ e. λ i. record { items = same.0 e i }, λ e. same.1 (λ i. (e i).items))
