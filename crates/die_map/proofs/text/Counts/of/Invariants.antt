use Rattle.die_map.specs.States.{is_bad_state, is_closed_block, is_filling_block, is_free_block}
use Rattle.die_map.proofs.CountFacts.{IsCount}
use Rattle.die_map.proofs.text.Counts.of.Given as goal

-- the blocks before this one are counted
abbrev pub invariant-loop-block : goal.invariant-loop-block
invariant-loop-block l = record {
  free : IsCount is_free_block l.die l.block l.counts.free;
  filling : IsCount is_filling_block l.die l.block l.counts.filling;
  closed : IsCount is_closed_block l.die l.block l.counts.closed;
  bad : IsCount is_bad_state l.die l.block l.counts.bad;
}
