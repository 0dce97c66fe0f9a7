use Rattle.std.proofs.Common.{◌≡◌, All, Option, length, take}
use Rattle.ufs_spec.specs.Cells.{IsMarkBody, UnitFits}
use Rattle.ufs_spec.specs.declared.configs.Numbers.{Numbers}
use Rattle.ufs_spec.specs.declared.flash.Fence.{Fence}
use Rattle.page_tag.proofs.mark_read.units_in.Given as goal

abbrev pub invariant-loop-index : goal.invariant-loop-index
invariant-loop-index l = record {
  count : length l.units.items ≡ l.index;
  fit : All UnitFits l.units.items;
  read : (fence : Option Fence) (n : Numbers) → IsMarkBody fence n l.body → l.count ≡ length n.units.items
      → l.units.items ≡ take l.index n.units.items;
}
