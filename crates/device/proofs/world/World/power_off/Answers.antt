use Rattle.device.proofs.Common.{Fit, ap, length, length-map, map, power_cycle_ended, subst, sym, ◌∙◌, ◌≡◌}
use Rattle.std.proofs.lemmas.List.{with_items_is}
use Rattle.device.proofs.dies_of_world.LeftDies.{cycled_fits}
use Rattle.device.proofs.world.World.power_off.Goals as goal

pub invariant_of-self : goal.invariant_of-self
invariant_of-self c =
    let dies = c.self.inside.dies in
    let now : c.end_power_cycles.new.dies ≡ map power_cycle_ended dies.items =
    c.end_power_cycles.ensures ∙ ap (map power_cycle_ended) c.as_mut_slice.ensures.value in
    let long : length c.end_power_cycles.new.dies ≡ length dies.items =
    ap length now ∙ length-map dies.items power_cycle_ended in
    let is = with_items_is dies c.end_power_cycles.new.dies (long ∙ sym dies.ok.0) in
    record {
      jobs =
          sym c.fill.new.self.ok.0 ∙ c.fill.ensures.len ∙ c.self.inside.jobs.ok.0 ∙ c.self.invariant.jobs
          ∙ sym (ap length is ∙ long);
      fit =
          subst (Fit c.self.inside.config) (sym (is ∙ now))
          (cycled_fits c.self.inside.config dies.items c.self.invariant.fit);
    }
