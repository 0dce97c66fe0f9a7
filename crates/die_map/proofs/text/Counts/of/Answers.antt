use Rattle.std.proofs.Common.{◌+◌, ◌<◌, ◌^◌, arith}
use Rattle.die_map.proofs.CountFacts.{count_more}
use Rattle.die_map.proofs.text.Counts.of.Goals as goal

pub loop-block-preserved : goal.loop-block-preserved
loop-block-preserved c =
    let d = c.args.die.now in
    let k = c.loop-block.block in
    let counts = c.loop-block.counts in
    let new = c.with-counts.result in
    let s = c.block_state.result in
    let before = c.loop-block.invariant in
    let told = c.with-counts.ensures in
    let room : k + 1 < 2 ^ 16 = omega (arith, c.blocks-block-end.type_inv, c.loop-block-test.true) in
    record {
      free = count_more _ d k counts.free new.free s room c.block_state.ensures before.free told.free;
      filling = count_more _ d k counts.filling new.filling s room c.block_state.ensures before.filling told.filling;
      closed = count_more _ d k counts.closed new.closed s room c.block_state.ensures before.closed told.closed;
      bad = count_more _ d k counts.bad new.bad s room c.block_state.ensures before.bad told.bad;
    }
