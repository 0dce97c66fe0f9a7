use Rattle.std.proofs.Common.{◌≡◌, ◌≤◌, ◌++◌, drop, length, map, take}
use Rattle.ufs_spec.specs.Plain.{zero}
use Rattle.journal.proofs.HeldUnits.{with_units}
use Rattle.journal.proofs.bases.units_holding.Given as goal

-- the units are those of the numbers, those before this one hold the blocks, and the others are new
abbrev pub invariant-loop-index : goal.invariant-loop-index
invariant-loop-index l = record {
  few : length l.specs ≤ 8;
  same : l.specs ≡ l.numbers.units.items;
  held :
      l.plain ≡ with_units l.numbers
      (take l.index (map (λ v. v.items) l.blocks) ++ drop l.index (zero l.numbers).units);
}
