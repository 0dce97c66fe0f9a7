use Rattle.block_table.proofs.Common.{arith, is_victim_at, lives_of, ◌*◌, ◌+◌}
use Rattle.block_table.proofs.MarkedWords.{next_mark, no_mark, none_to_end, none_to_mark, tells}
use Rattle.block_table.proofs.VictimWords.{word_first, word_passed}
use Rattle.block_table.proofs.live.LivePages.first_of_group.Goals as goal

pub returns-in_default : goal.returns-in_default
returns-in_default c =
    let k = tells (lives_of c.self.inside) c.args.self.now c.args.blocks.now c.args.scarce c.self.inside.counts.items
    c.self.inside.unpinned_with c.args.count c.args.group c.marks-marks.result c.self.view_is c.requires.count_there
    c.self.invariant.whole c.self.invariant.counted c.self.invariant.by_count c.marks-marks.ensures in
    none_to_end k
    (no_mark c.marks-marks.result c.from_bit.result c.loop-from.from c.from_bit.ensures
    (c.lowest_bit.ensures.none c.in_default.is)) c.loop-from.invariant

pub returns-in-Some-lowest_bit : goal.returns-in-Some-lowest_bit
returns-in-Some-lowest_bit c =
    let k = tells (lives_of c.self.inside) c.args.self.now c.args.blocks.now c.args.scarce c.self.inside.counts.items
    c.self.inside.unpinned_with c.args.count c.args.group c.marks-marks.result c.self.view_is c.requires.count_there
    c.self.invariant.whole c.self.invariant.counted c.self.invariant.by_count c.marks-marks.ensures in
    let off = next_mark c.marks-marks.result c.from_bit.result c.loop-from.from c.in-Some.mark c.from_bit.ensures
    c.in-Some.ensures.some c.in-Some.ensures.within in
    word_first (is_victim_at c.args.self.now c.args.blocks.now c.args.scarce c.args.count)
    (c.args.group * 64 + c.in-Some.mark)
    c.victims.result c.in-Some-lowest_bit.bit c.victims.ensures c.in-Some-lowest_bit.ensures.some
    c.in-Some-lowest_bit.ensures.within
    (λ p l. none_to_mark k off c.in-Some.ensures.within c.loop-from.invariant p (omega (arith, l)))

pub loop-from-preserved : goal.loop-from-preserved
loop-from-preserved c = λ p l.
    let k = tells (lives_of c.self.inside) c.args.self.now c.args.blocks.now c.args.scarce c.self.inside.counts.items
    c.self.inside.unpinned_with c.args.count c.args.group c.marks-marks.result c.self.view_is c.requires.count_there
    c.self.invariant.whole c.self.invariant.counted c.self.invariant.by_count c.marks-marks.ensures in
    let off = next_mark c.marks-marks.result c.from_bit.result c.loop-from.from c.in-Some.mark c.from_bit.ensures
    c.in-Some.ensures.some c.in-Some.ensures.within in
    word_passed (is_victim_at c.args.self.now c.args.blocks.now c.args.scarce c.args.count)
    (c.args.group * 64 + c.in-Some.mark) c.victims.result c.victims.ensures
    (c.lowest_bit-in-loop-from.ensures.none c.in_default-lowest_bit.is)
    (λ q m. none_to_mark k off c.in-Some.ensures.within c.loop-from.invariant q (omega (arith, m))) p
    (omega (arith, l))
