use Rattle.std.proofs.Common.{◌∙◌, ap, arith, length-append}
use Rattle.sha2.specs.Sha256.{initial_hash_256}
use Rattle.sha256_lanes.specs.Hashes.{Holds}
use Rattle.sha256_lanes.specs.Lanes.{lane}
use Rattle.sha256_lanes.proofs.Tails.{each_taken}
use Rattle.sha256_lanes.proofs.hashes.FourHashes.update.Goals as goal

pub returns : goal.returns
unfolding Holds
returns c = λ e f g h held. (
  omega (arith, c.keep.ensures.total, held.0, length-append e c.args.a.now),
  omega (arith, held.1, length-append e c.args.a.now),
  omega (arith, held.2, length-append e c.args.a.now, length-append f c.args.b.now),
  omega (arith, held.3, length-append e c.args.a.now, length-append g c.args.c.now),
  omega (arith, held.4, length-append e c.args.a.now, length-append h c.args.d.now),
  λ j below.
      c.keep.ensures.words j
      ∙ each_taken initial_hash_256 e f g h c.args.a.now c.args.b.now c.args.c.now c.args.d.now j _ _
      held.1 held.2 held.3 held.4 c.requires.whole c.requires.second c.requires.third c.requires.fourth
      (ap (lane j) c.rows-state.ensures ∙ held.5 j below) (c.absorb.ensures j below),
)
