use Rattle.std.proofs.Common.{◌≡◌, ◌≤◌, length, map}
use Rattle.journal.proofs.ShownFacts.{ShowsBelow}
use Rattle.journal.proofs.kept.difference.Given as goal

-- the units are those of the numbers, and those before this one are shown
abbrev pub invariant-loop-index : goal.invariant-loop-index
invariant-loop-index l = record {
  few : length l.units ≤ 8;
  same : l.units ≡ l.numbers.units.items;
  below : ShowsBelow (map (λ v. v.items) l.found) l.plain l.index;
}
