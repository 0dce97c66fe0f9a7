use Rattle.device.proofs.Common.{CanDo, Describes, DeviceCore, DieState, Job, List, None, Ok, Went, WorldState}
use Rattle.device.proofs.Common.{after_job, ap, die_at, outcome_of, slice_set, subst, sym, world_of, ℕ, ◌∙◌, ◌≡◌}
use Rattle.ufs_spec.specs.declared.events.Event.TheVariants as event
use Rattle.ufs_spec.specs.declared.events.Output.TheVariants as output
use Rattle.device.proofs.dies_of_world.WentRight.{finish_can, finish_went}
use Rattle.device.proofs.world.World.finish.Goals as goal

-- the die does the job
abbrev works : WorldState → ℕ → Job → WorldState
works w die j = record w { dies = slice_set w.dies die (after_job (die_at w.dies die) j) }

-- it had it in flight, and has none then
abbrev did : WorldState → ℕ → Job → WorldState
did w die j = record w {
  jobs = slice_set w.jobs die None;
  dies = slice_set w.dies die (after_job (die_at w.dies die) j);
}

pub returns-in_default-work-clause-went : goal.returns-in_default-work-clause-went
returns-in_default-work-clause-went c =
    λ s h.
    let same : c.end_job.new.self.dies ≡ c.args.self.now.dies = ap (λ (w : WorldState). w.dies) c.end_job.ensures.after
    in
    absurd (c.in_default-work.ensures.cannot
    (subst (λ (dies : List DieState). CanDo (die_at dies c.args.die) c.in-Some.job) (sym same)
    (finish_can c.args.self.now s c.args.die c.in-Some.job h (sym c.end_job.ensures.what ∙ c.in-Some.is))))

pub returns-clause-went : goal.returns-clause-went
returns-clause-went c =
    λ s h.
    let ended : world_of c.self.inside ≡ did c.args.self.now c.args.die c.in-Some.job =
    c.self.view_is ∙ c.in-Some-work.ensures.after ∙ ap (λ (w : WorldState). works w c.args.die c.in-Some.job)
    c.end_job.ensures.after in
    let out : c.in-Some-work.outcome ≡ outcome_of (die_at c.args.self.now.dies c.args.die) c.in-Some.job =
    c.in-Some-work.ensures.outcome ∙ ap (λ (w : WorldState). outcome_of (die_at w.dies c.args.die) c.in-Some.job)
    c.end_job.ensures.after in
    let core : Describes c.deref_mut.result.now s =
    subst (λ (d : DeviceCore). Describes d s)
    (sym (c.deref_mut.ensures.value ∙ ap (λ (w : WorldState). w.core) ended)) h.describes in
    subst (λ (w : WorldState). Went s (event.Finish c.args.die) (record w { core = c.done.new.self })
    (Ok output.Ended)) (sym ended)
    (finish_went c.args.self.now c.done.new.self s c.args.die c.in-Some.job c.in-Some-work.outcome h
    (sym c.end_job.ensures.what ∙ c.in-Some.is) out
    (λ ending left is leaves. (c.done.ensures.ended s ending left core is leaves).1))
