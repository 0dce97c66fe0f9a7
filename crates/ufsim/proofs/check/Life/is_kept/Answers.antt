use Rattle.std.proofs.Common.{Option, Some, ap, false, map, refl, subst}
use Rattle.ufs_spec.specs.Plain.{Plain}
use Rattle.ufsim.specs.Checked.{IsMade}
use Rattle.ufsim.specs.Trials.{Found}
use Rattle.ufsim.proofs.Judging.{judged, none_made}
use Rattle.ufsim.proofs.check.Life.is_kept.Goals as goal

pub returns-in_default : goal.returns-in_default
returns-in_default c =
    let n = c.args.self.now.config in
    let j = c.args.self.now.journal in
    let began = c.in_ok-base.ensures.made.0 in
    let found : Found =
    record { units = map (λ v. v.items) c.args.found.now.units.items; rest = c.rest-rest.result } in
    let broken = subst (λ (o : Option Plain). IsMade n began o) c.in_default.is c.in_ok-base.ensures.made.2 in (
      record { numbers = n; began = began; heard = j; found = Some found; good = false },
      (refl, refl, (c.in_ok-base.ensures.made.1, (refl, c.rest-rest.ensures))),
      none_made n began j (Some found) broken,
      refl,
    )

pub returns : goal.returns
returns c =
    let n = c.args.self.now.config in
    let j = c.args.self.now.journal in
    let began = c.in_ok-base.ensures.made.0 in
    let found : Found =
    record { units = map (λ v. v.items) c.args.found.now.units.items; rest = c.rest-rest.result } in
    let base_is = subst (λ (o : Option Plain). IsMade n began o) c.in-Some.is c.in_ok-base.ensures.made.2 in (
      record { numbers = n; began = began; heard = j; found = Some found; good = c.is_kept.result },
      (refl, refl, (c.in_ok-base.ensures.made.1, (refl, c.rest-rest.ensures))),
      judged n began j found c.is_kept.result c.in-Some.base c.entries.result.now c.held.result
          (map (λ v. v.items) c.as_slice.result.now) base_is c.entries.ensures c.held.ensures
          (ap (map (λ v. v.items)) c.as_slice.ensures.value) c.is_kept.ensures.kept c.is_kept.ensures.lost,
      refl,
    )
