use Rattle.std.proofs.Common.{◌≡◌, ◌∙◌, ℕ, sym}
use Rattle.std.specs.Prelude.{replicate}
use Rattle.ufs_spec.specs.Dies.{new_die}
use Rattle.ufs_spec.specs.declared.configs.Numbers.{Numbers}
use Rattle.lanes.proofs.Opened.{memory_dies_fit, memory_dies_opened}
use Rattle.bench.proofs.threads.served.shared.Goals as goal

sizes : (n : Numbers) (dies : ℕ) → (n.dies ≡ dies) × (n.blocks ≡ 128) × (n.pages ≡ 64) →
    replicate dies (new_die 128 64) ≡ replicate n.dies (new_die n.blocks n.pages)
sizes n dies is = λ i. replicate (sym is.0 i) (new_die (sym is.1 i) (sym is.2 i))

pub open-requires : goal.open-requires
open-requires c = record {
  fit =
      memory_dies_fit c.in_ok-config.config c.in_ok-dies.dies c.as_mut_slice.result.now c.as_mut_slice.ensures.value
      (c.in_ok-dies.ensures ∙ sizes c.in_ok-config.config c.args.dies c.in_ok-config.ensures);
}

pub new-requires : goal.new-requires
new-requires c =
    memory_dies_opened c.in_ok-config.config c.in_ok-dies.dies c.as_mut_slice.result.now c.open.new.dies
    c.in_ok-device.device c.as_mut_slice.ensures.value
    (c.in_ok-dies.ensures ∙ sizes c.in_ok-config.config c.args.dies c.in_ok-config.ensures)
    c.in_ok-device.ensures.same c.in_ok-device.ensures.described

pub returns : goal.returns
returns c = λ k d less. (c.in-Ok.ensures.lanes.1 k d less).no_job.1
