use Rattle.block_table.proofs.Common.{is_used_from}
use Rattle.block_table.proofs.VictimWords.{word_first, word_passed}
use Rattle.block_table.proofs.live.LivePages.first_used.Goals as goal

pub returns-in-Some : goal.returns-in-Some
returns-in-Some c =
    word_first (is_used_from c.args.self.now c.args.blocks.now c.args.state c.args.start) c.loop-number.number
    c.used.result c.in-Some.bit c.used.ensures c.in-Some.ensures.some c.in-Some.ensures.within c.loop-number.invariant

pub loop-number-preserved : goal.loop-number-preserved
loop-number-preserved c =
    word_passed (is_used_from c.args.self.now c.args.blocks.now c.args.state c.args.start) c.loop-number.number
    c.used.result c.used.ensures (c.lowest_bit.ensures.none c.in_default.is) c.loop-number.invariant
