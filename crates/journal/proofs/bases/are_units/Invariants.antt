use Rattle.std.proofs.Common.{◌≡◌, length, map, take}
use Rattle.journal.proofs.bases.are_units.Given as goal

-- the units before this one have their counts
abbrev pub invariant-loop-index : goal.invariant-loop-index
invariant-loop-index l =
    take l.index (map length (map (λ v. v.items) l.blocks)) ≡ take l.index (map (λ u. u.blocks) l.specs)
