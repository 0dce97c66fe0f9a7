use Rattle.device.proofs.Common.{Describes, DeviceCore, None, Ok, Went, WorldState, ap, slice_set, subst, sym, world_of}
use Rattle.device.proofs.Common.{◌∙◌, ◌≡◌}
use Rattle.ufs_spec.specs.declared.events.Event.TheVariants as event
use Rattle.ufs_spec.specs.declared.events.Output.TheVariants as output
use Rattle.device.proofs.dies_of_world.FailRight.{fail_read_went, fail_read_wrong}
use Rattle.device.proofs.world.World.fail_read.Goals as goal

pub returns-then-not-is_read-clause-went : goal.returns-then-not-is_read-clause-went
returns-then-not-is_read-clause-went c =
    λ s h.
    fail_read_wrong c.args.self.now s c.args.die h (λ p has.
    c.is_read.ensures.no_read c.if-not-is_read.true p (c.job_of.ensures.what ∙ has))

pub returns-clause-went : goal.returns-clause-went
returns-clause-went c =
    λ s h.
    let read = c.is_read.ensures.read c.if-not-is_read.false in
    let ended : world_of c.self.inside ≡ record c.args.self.now {
      jobs = slice_set c.args.self.now.jobs c.args.die None;
    } = c.self.view_is ∙ c.end_job.ensures.after in
    let core : Describes c.deref_mut.result.now s =
    subst (λ (d : DeviceCore). Describes d s)
    (sym (c.deref_mut.ensures.value ∙ ap (λ (w : WorldState). w.core) ended)) h.describes in
    subst (λ (w : WorldState). Went s (event.Fail c.args.die None) (record w { core = c.done.new.self })
    (Ok output.Ended)) (sym ended)
    (fail_read_went c.args.self.now s c.args.die h c.done.new.self read.0 (sym c.job_of.ensures.what ∙ read.1)
    (λ ending left is leaves. (c.done.ensures.ended s ending left core is leaves).1))
