use Rattle.device.proofs.Common.{Describes, DeviceCore, None, Ok, Some, Went, WorldState, ap, dies_failed, slice_set}
use Rattle.device.proofs.Common.{subst, sym, world_of, ◌∙◌, ◌≡◌}
use Rattle.ufs_spec.specs.declared.events.Event.TheVariants as event
use Rattle.ufs_spec.specs.declared.events.Output.TheVariants as output
use Rattle.device.proofs.dies_of_world.FailRight.{fail_bad, fail_went, fail_wrong}
use Rattle.device.proofs.world.World.fail_leaving.Goals as goal

pub returns-then-not-is_left_of-clause-went : goal.returns-then-not-is_left_of-clause-went
returns-then-not-is_left_of-clause-went c =
    λ s h.
    fail_wrong c.args.self.now s c.args.die c.args.left.now h (c.is_left_of.ensures.not_of c.if-not-is_left_of.true)

pub returns-then-not-may_die_leave-clause-went : goal.returns-then-not-may_die_leave-clause-went
returns-then-not-may_die_leave-clause-went c =
    λ s h.
    fail_bad c.args.self.now s c.args.die c.args.left.now h (c.is_left_of.ensures.of c.if-not-is_left_of.false)
    (c.may_die_leave.ensures.unlawful c.if-not-may_die_leave.true)

pub returns-clause-went : goal.returns-clause-went
returns-clause-went c =
    λ s h.
    let ended : world_of c.self.inside ≡ record c.args.self.now {
      jobs = slice_set c.args.self.now.jobs c.args.die None;
      dies = dies_failed c.args.self.now.dies c.args.die c.args.left.now;
    } = c.self.view_is ∙ c.end_job.ensures.after
    ∙ ap (λ (w : WorldState). record w { jobs = slice_set w.jobs c.args.die None }) c.leave_failed.ensures in
    let core : Describes c.deref_mut.result.now s =
    subst (λ (d : DeviceCore). Describes d s)
    (sym (c.deref_mut.ensures.value ∙ ap (λ (w : WorldState). w.core) ended)) h.describes in
    subst (λ (w : WorldState). Went s (event.Fail c.args.die (Some c.args.left.now))
    (record w { core = c.done.new.self }) (Ok output.Ended)) (sym ended)
    (fail_went c.args.self.now s c.args.die c.args.left.now h (c.is_left_of.ensures.of c.if-not-is_left_of.false)
    c.done.new.self (c.may_die_leave.ensures.lawful c.if-not-may_die_leave.false)
    (λ ending left is leaves. (c.done.ensures.ended s ending left core is leaves).1))
