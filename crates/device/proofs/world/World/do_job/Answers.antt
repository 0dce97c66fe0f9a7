use Rattle.device.proofs.Common.{WorldState, length, length-set, subst, sym, ◌<◌, ◌∙◌}
use Rattle.device.proofs.dies_of_world.DieParts.{worked_sizes}
use Rattle.device.proofs.world.World.do_job.Goals as goal

pub invariant_of-self : goal.invariant_of-self
invariant_of-self c = record {
  jobs = c.self.invariant.jobs ∙ sym (length-set c.self.inside.dies.items c.args.index c.work.new.die);
  fit =
      worked_sizes c.self.inside.config c.self.inside.dies.items c.args.index c.index_mut.result.now c.work.new.die
      c.args.job.now c.work.result c.self.invariant.fit
      (subst (λ (w : WorldState). c.args.index < length w.dies) (sym c.self.view_is) c.requires.there)
      c.index_mut.ensures.value c.work.ensures;
}
