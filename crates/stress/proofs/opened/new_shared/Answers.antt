use Rattle.std.proofs.Common.{◌∙◌, length, sym, ap}
use Rattle.std.specs.Vec.{with_items}
use Rattle.std.proofs.lemmas.List.{length-replicate}
use Rattle.ufs_spec.specs.Dies.{new_die}
use Rattle.lanes.proofs.Opened.{memory_dies_fit, memory_dies_opened}
use Rattle.stress.proofs.opened.new_shared.Goals as goal

pub open-requires : goal.open-requires
open-requires c = record {
  fit =
      memory_dies_fit c.in_ok-config.config c.in_ok-dies.dies c.as_mut_slice.result.now c.as_mut_slice.ensures.value
      c.in_ok-dies.ensures;
}

pub new-requires : goal.new-requires
new-requires c =
    memory_dies_opened c.in_ok-config.config c.in_ok-dies.dies c.as_mut_slice.result.now c.open.new.dies
    c.in_ok-device.device c.as_mut_slice.ensures.value c.in_ok-dies.ensures c.in_ok-device.ensures.same
    c.in_ok-device.ensures.described

pub returns-in-Ok-clause-idle : goal.returns-in-Ok-clause-idle
returns-in-Ok-clause-idle c = λ k d less. (c.in-Ok.ensures.lanes.1 k d less).no_job.1

pub returns-in-Ok-clause-lanes : goal.returns-in-Ok-clause-lanes
returns-in-Ok-clause-lanes c =
    let v = c.in_ok-dies.dies in
    let given = with_items v c.open.new.dies in
    let n = c.in_ok-config.config in
    c.in-Ok.ensures.lanes.0 ∙ sym given.ok.0 ∙ v.ok.0 ∙ ap length c.in_ok-dies.ensures
    ∙ length-replicate n.dies (new_die n.blocks n.pages) ∙ c.in_ok-config.ensures.dies
