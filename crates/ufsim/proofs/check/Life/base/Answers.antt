use Rattle.std.proofs.Common.{Option, Some, ap, map, refl, subst, sym}
use Rattle.ufsim.specs.Checked.{IsToldAs}
use Rattle.ufsim.specs.Trials.{Found}
use Rattle.ufsim.specs.declared.reading.Holdings.{Holdings}
use Rattle.ufsim.proofs.Judging.{made}
use Rattle.ufsim.proofs.check.Life.base.Goals as goal

pub returns-in_ok-device_holding-in-Some-clause-made : goal.returns-in_ok-device_holding-in-Some-clause-made
returns-in_ok-device_holding-in-Some-clause-made c =
    let found : Found = record { units = map (λ v. v.items) c.in-Some.base.units.items; rest = c.rest.result } in (
      Some found,
      subst (λ (o : Option Holdings). IsToldAs o (Some found)) (sym c.in-Some.is) (refl, c.rest.ensures),
      made _ _ _ _ _ _ c.numbers-numbers.ensures.value (ap (map (λ v. v.items)) c.as_slice.ensures.value)
          c.in_ok-device_holding-in-Some.ensures.some c.in_ok-device_holding-in-Some.ensures.none,
    )
