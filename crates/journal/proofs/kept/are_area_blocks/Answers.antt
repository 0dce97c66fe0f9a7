use Rattle.std.proofs.Common.{arith}
use Rattle.journal.proofs.AreaBlocks.{rest_tells}
use Rattle.journal.proofs.kept.are_area_blocks.Goals as goal

pub returns-then-count-le2048 : goal.returns-then-count-le2048
returns-then-count-le2048 c =
    let some = c.if-count-eq0.false in
    let most = c.if-count-le2048.true in
    rest_tells c.args.count (omega arith) (omega arith)
