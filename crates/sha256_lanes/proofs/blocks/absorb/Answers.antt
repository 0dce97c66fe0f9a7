use Rattle.std.proofs.Common.{◌≡◌, ◌+◌, ◌*◌, ◌/◌, arith, length, refl}
use Rattle.sha2.specs.Sha256.{hash_after}
use Rattle.sha256_lanes.proofs.Tails.{next_block}
use Rattle.sha256_lanes.proofs.blocks.absorb.Goals as goal

pub whole-init : goal.whole-init
unfolding hash_after
whole-init c = λ j h. refl

pub whole-preserved : goal.whole-preserved
whole-preserved c = λ j h.
    next_block j _ _ _ c.args.a.now c.args.b.now c.args.c.now c.args.d.now c.whole.i (64 * c.whole.i)
    (64 * c.whole.i + 64) (omega arith) (omega arith) (c.whole.invariant j h) (c.compress.ensures j h)

pub returns : goal.returns
returns c = λ j h.
    let done : c.whole.i ≡ length c.args.a.now / 64 = omega arith in
    rw done at (c.whole.invariant j h)
