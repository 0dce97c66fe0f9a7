use Rattle.std.proofs.Common.{◌≡◌}
use Rattle.journal.proofs.HeldUnits.{with_front}
use Rattle.journal.proofs.bases.fill_unit.Given as goal

-- the blocks before this one are the new ones, and all else is as it was
abbrev pub invariant-loop-address : goal.invariant-loop-address
invariant-loop-address l = l.plain ≡ with_front l.unit l.address l.blocks l.fn.plain
