use Rattle.write_cache.proofs.Common.{drop, ◌-◌}
use Rattle.write_cache.proofs.Entries.{AreAbove}
use Rattle.write_cache.proofs.pages.ring.Ring.find.Given as goal

abbrev pub invariant-loop-passed : goal.invariant-loop-passed
invariant-loop-passed l = AreAbove l.number (drop (l.reach - l.passed) l.self.entries.items)
