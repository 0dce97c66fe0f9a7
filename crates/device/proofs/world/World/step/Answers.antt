use Rattle.device.proofs.Common.{RunFaultKind, WorldState, ap, subst, sym, ◌∙◌}
use Rattle.device.specs.Worlds.{IsRefusedAs, dies_refused}
use Rattle.device.proofs.described.SameDevice.{same_world}
use Rattle.device.proofs.world.World.step.Goals as goal

pub returns-in-Ok-clause-stepped : goal.returns-in-Ok-clause-stepped
returns-in-Ok-clause-stepped c =
    λ s h going.
    let f = same_world _ _ s c.self.view_is h in
    c.in-Ok.ensures.went s
    (record { config = f.config; describes = f.describes; valid = f.valid; dies_fit = f.dies_fit })

pub returns-in-Err-clause-stepped : goal.returns-in-Err-clause-stepped
returns-in-Err-clause-stepped c =
    λ s h going.
    let f = same_world _ _ s c.self.view_is h in
    subst (IsRefusedAs s c.args.event.now) (sym c.fault-in-Err.ensures.kind)
    (c.in-Err.ensures.went s
    (record { config = f.config; describes = f.describes; valid = f.valid; dies_fit = f.dies_fit }))

pub returns-in-Err-clause-dies : goal.returns-in-Err-clause-dies
returns-in-Err-clause-dies c =
    λ s h going.
    let f = same_world _ _ s c.self.view_is h in
    let left =
    c.in-Err.ensures.dies s
    (record { config = f.config; describes = f.describes; valid = f.valid; dies_fit = f.dies_fit }) in
    ap (λ (w : WorldState). w.dies) c.self-2.view_is ∙ left
    ∙ ap (λ (w : WorldState). dies_refused c.in-Err.kind w.dies c.args.event.now) c.self.view_is
    ∙ ap (λ (k : RunFaultKind). dies_refused k c.args.self.now.dies c.args.event.now)
    (sym c.fault-in-Err.ensures.kind)
