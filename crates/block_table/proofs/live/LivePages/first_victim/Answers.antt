use Rattle.block_table.proofs.Common.{arith, ◌*◌}
use Rattle.block_table.proofs.VictimWords.{no_victim_left}
use Rattle.block_table.proofs.live.LivePages.first_victim.Goals as goal

pub loop-group-preserved : goal.loop-group-preserved
loop-group-preserved c = c.in_default.ensures

pub returns : goal.returns
returns c =
    no_victim_left c.args.self.now c.args.blocks.now c.args.scarce c.args.count (64 * c.loop-group.group)
    (omega (arith, c.loop-group-test.false, c.groups-group-end.ensures.all)) c.loop-group.invariant
