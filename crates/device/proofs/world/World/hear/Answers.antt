use Rattle.device.proofs.Common.{IsHeardAs, List, refl, subst, ℕ}
use Rattle.ufs_spec.specs.declared.events.Event.TheVariants as event
use Rattle.device.proofs.described.SameDevice.{same_core, same_world}
use Rattle.device.proofs.dies_of_world.WentRight.{heard_went}
use Rattle.device.proofs.world.World.hear.Goals as goal

pub returns-clause-went : goal.returns-clause-went
returns-clause-went c =
    λ s h.
    let f = same_world _ _ s c.self.view_is h in
    heard_went _ c.host.new.self s (event.Host c.args.bytes.now) c.args.bytes.now.items c.host.result
    (λ heard is. (heard, is, refl)) f
    (subst (λ (b : List ℕ). IsHeardAs s b c.host.result c.host.new.self) c.as_slice.ensures.value
    (c.host.ensures.heard s (same_core _ _ s c.deref_mut.ensures.value f.describes)))
