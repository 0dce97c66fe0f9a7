use Rattle.device.proofs.described.SameDevice.{same_core, same_world}
use Rattle.device.proofs.dies_of_world.WentRight.{stepped_went}
use Rattle.device.proofs.world.World.turn.Goals as goal

pub returns-clause-went : goal.returns-clause-went
returns-clause-went c =
    λ s h.
    let f = same_world _ _ s c.self.view_is h in
    stepped_went _ c.turn.new.self s c.turn.result f (c.turn.ensures.stepped s (same_core _ _ s c.deref_mut.ensures.value f.describes))
