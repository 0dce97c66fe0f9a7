use Rattle.std.proofs.Common.{◌≡◌, ◌∙◌, sym}
use Rattle.std.specs.Prelude.{replicate}
use Rattle.ufs_spec.specs.Dies.{new_die}
use Rattle.ufs_spec.specs.declared.configs.Numbers.{Numbers}
use Rattle.lanes.proofs.Opened.{memory_dies_fit, memory_dies_opened}
use Rattle.memory_refused.proofs.shares.shared.Goals as goal

sizes : (n : Numbers) → (n.dies ≡ 2) × (n.blocks ≡ 20) × (n.pages ≡ 16) →
    replicate 2 (new_die 20 16) ≡ replicate n.dies (new_die n.blocks n.pages)
sizes n is = λ i. replicate (sym is.0 i) (new_die (sym is.1 i) (sym is.2 i))

pub open-requires : goal.open-requires
open-requires c = record {
  fit =
      memory_dies_fit c.in_ok-config.config c.in_ok-dies.dies c.as_mut_slice.result.now c.as_mut_slice.ensures.value
      (c.in_ok-dies.ensures ∙ sizes c.in_ok-config.config c.in_ok-config.ensures.dies);
}

pub new-requires : goal.new-requires
new-requires c =
    memory_dies_opened c.in_ok-config.config c.in_ok-dies.dies c.as_mut_slice.result.now c.open.new.dies
    c.in-Ok.device c.as_mut_slice.ensures.value
    (c.in_ok-dies.ensures ∙ sizes c.in_ok-config.config c.in_ok-config.ensures.dies) c.in-Ok.ensures.same
    c.in-Ok.ensures.described
