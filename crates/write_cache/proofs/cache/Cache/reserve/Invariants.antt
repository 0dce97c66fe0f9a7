use Rattle.write_cache.proofs.Common.{empty_claim, length, map, ◌++◌, ◌+◌, ◌≡◌, ◌≤◌}
use Rattle.ufs_spec.specs.Keys.{below}
use Rattle.write_cache.specs.Slots.{free_slots}
use Rattle.write_cache.proofs.cache.Cache.reserve.Given as goal

abbrev pub invariant-loop-index : goal.invariant-loop-index
invariant-loop-index l = record {
  more : l.self
      ≡ record l.initial.self { claims = l.initial.self.claims ++ map (empty_claim l.reader) (below l.index) };
  long : length l.self.claims ≡ length l.initial.self.claims + l.index;
  left : l.blocks ≤ free_slots l.initial.self;
}
