use Rattle.std.proofs.Common.{arith, length-take}
use Rattle.ufstool.proofs.Consumed.{piece_more}
use Rattle.ufstool.proofs.images.skip.Goals as goal

pub loop-left-preserved : goal.loop-left-preserved
loop-left-preserved g c =
    let most = c.in_ok-found.ensures.most in
    let taken = length-take c.min-wanted.result c.loop-left.piece in
    piece_more _ _ _ _ _ c.args.count c.loop-left.left c.in_ok-found.found c.loop-left.invariant.0.1
    c.loop-left.invariant.0.2 c.loop-left.invariant.1 c.in_ok-found.ensures.bytes most
    (omega (arith, most, taken))
