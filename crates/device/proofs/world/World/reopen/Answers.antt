use Rattle.device.proofs.Common.{DieState, Fit, HasScanned, List, WorldState, ap, length, subst, sym, world_of, ◌∙◌}
use Rattle.device.proofs.dies_of_world.OpenedWorld.{opened_over, scanned_over, written_same}
use Rattle.device.proofs.world.World.reopen.Goals as goal

pub invariant_of-self : goal.invariant_of-self
invariant_of-self c =
    let same = written_same c.self.inside.dies c.open_device.new.dies
    (c.open_device.ensures.same ∙ c.as_mut_slice.ensures.value) in
    record {
      jobs = c.self.invariant.jobs ∙ sym (ap length same);
      fit = subst (Fit c.self.inside.config) (sym same) c.self.invariant.fit;
    }

pub invariant_of-self-in-Err : goal.invariant_of-self-in-Err
invariant_of-self-in-Err c =
    let same = written_same c.self.inside.dies c.open_device.new.dies
    (c.open_device.ensures.same ∙ c.as_mut_slice.ensures.value) in
    record {
      jobs = c.self.invariant.jobs ∙ sym (ap length same);
      fit = subst (Fit c.self.inside.config) (sym same) c.self.invariant.fit;
    }

pub returns-in-Ok-clause-same : goal.returns-in-Ok-clause-same
returns-in-Ok-clause-same c =
    let same = written_same c.self.inside.dies c.open_device.new.dies
    (c.open_device.ensures.same ∙ c.as_mut_slice.ensures.value) in (
      c.in-Ok.device,
      ap (λ (ds : List DieState). record (world_of c.self.inside) { core = c.in-Ok.device; dies = ds }) same
          ∙ ap (λ (w : WorldState). record w { core = c.in-Ok.device }) c.self.view_is,
    )

pub returns-in-Ok-clause-scanned : goal.returns-in-Ok-clause-scanned
returns-in-Ok-clause-scanned c =
    let same = written_same c.self.inside.dies c.open_device.new.dies
    (c.open_device.ensures.same ∙ c.as_mut_slice.ensures.value) in
    subst (λ (ds : List DieState). HasScanned c.self.inside.config ds c.in-Ok.device) (sym same)
    (scanned_over c.self.inside.config c.copied.result c.self.inside.dies.items c.as_mut_slice.result.now c.in-Ok.device
    c.copied.ensures c.as_mut_slice.ensures.value c.in-Ok.ensures.found)

pub returns-in-Ok-clause-described : goal.returns-in-Ok-clause-described
returns-in-Ok-clause-described c =
    opened_over c.args.self.now.config c.copied.result c.args.self.now.dies c.as_mut_slice.result.now c.in-Ok.device
    (c.copied.ensures ∙ ap (λ (w : WorldState). w.config) c.self.view_is)
    (c.as_mut_slice.ensures.value ∙ ap (λ (w : WorldState). w.dies) c.self.view_is) c.in-Ok.ensures.described

pub returns-in-Err-clause-same : goal.returns-in-Err-clause-same
returns-in-Err-clause-same c =
    let same = written_same c.self.inside.dies c.open_device.new.dies
    (c.open_device.ensures.same ∙ c.as_mut_slice.ensures.value) in (
      c.self.inside.device.value,
      ap (λ (ds : List DieState). record (world_of c.self.inside) { dies = ds }) same
          ∙ ap (λ (w : WorldState). record w { core = c.self.inside.device.value }) c.self.view_is,
    )
