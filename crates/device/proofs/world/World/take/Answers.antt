use Rattle.device.proofs.Common.{Ok, Went, WorldState, subst, sym}
use Rattle.ufs_spec.specs.declared.events.Event.TheVariants as event
use Rattle.ufs_spec.specs.declared.events.Output.TheVariants as output
use Rattle.device.proofs.described.SameDevice.{same_core, same_world}
use Rattle.device.proofs.dies_of_world.WentRight.{given_went}
use Rattle.device.proofs.world.World.take.Goals as goal

pub returns-clause-went : goal.returns-clause-went
returns-clause-went c =
    λ s h.
    let f = same_world _ _ s c.self.view_is h in
    subst (λ (w : WorldState). Went s (event.Take c.args.die) w (Ok (output.Take c.take-job.result)))
    (sym c.note_job.ensures)
    (given_went _ c.take-job.new.self s c.args.die c.take-job.result f (c.take-job.ensures.given s (same_core _ _ s c.deref_mut.ensures.value f.describes)))
