use Rattle.device.proofs.Common.{DeviceCore, HasFilled, ap, is_some, none_some, option_map, refl, some_is, subst, sym}
use Rattle.device.proofs.Common.{◌∙◌}
use Rattle.device.proofs.described.SameDevice.{same_core}
use Rattle.ftl_core.specs.Public.{IsTold, ended_now}
use Rattle.device.proofs.die_calls.CallsRight.{may_end}
use Rattle.device.proofs.die_calls.EndsTold.{ends_right}
use Rattle.device.proofs.device.Device.done_opened.Goals as goal

pub returns-in_default-clause-known : goal.returns-in_default-clause-known
returns-in_default-clause-known c =
    λ s h.
    let d = same_core _ _ s c.self.view_is h in
    sym (ap is_some c.in_default.is) ∙ c.done.ensures.known s.translation d.kept.layer_kept

pub returns-in_default-clause-ended : goal.returns-in_default-clause-ended
returns-in_default-clause-ended c =
    λ s ending left h is leaves.
    let d = same_core _ _ s c.self.view_is h in
    let t = c.done.ensures.told s.translation ending d.kept.layer_kept is in
    absurd (none_some t.0 (sym (ap (option_map ended_now) c.in_default.is) ∙ t.1))

pub returns-clause-known : goal.returns-clause-known
returns-clause-known c =
    λ s h.
    let d = same_core _ _ s c.self.view_is h in
    sym (ap is_some c.in-Some.is) ∙ c.done.ensures.known s.translation d.kept.layer_kept

pub returns-clause-ended : goal.returns-clause-ended
returns-clause-ended c =
    λ s ending left h is leaves.
    let d = same_core _ _ s c.self.view_is h in
    let layer = d.kept.layer_kept in
    let t = c.done.ensures.told s.translation ending layer is in
    let may = may_end _ s c.args.die c.args.outcome.now ending left d is leaves in
    let ended : IsTold s.translation.disk.cells (s.translation.disk.flights c.args.die) ending
    (ended_now c.in-Some.ended) =
    subst (IsTold s.translation.disk.cells (s.translation.disk.flights c.args.die) ending)
    (some_is t.0 (ended_now c.in-Some.ended) (sym t.1 ∙ ap (option_map ended_now) c.in-Some.is)) t.2 in (
      refl,
      ends_right _ c.fill_register.new.self c.end_waiting.new.self s c.args.die c.args.outcome.now ending left c.done.new.self
          (ended_now c.in-Some.ended) d is leaves (c.done.ensures.described s.translation ending layer is may)
          (c.done.ensures.claims _ d.kept.claims) ended
          (λ who place flies. c.done.ensures.read s.translation who place layer flies)
          (subst (λ (x : DeviceCore). HasFilled x c.fill_register.new.self) c.tell.ensures c.fill_register.ensures)
          c.end_waiting.ensures,
    )
