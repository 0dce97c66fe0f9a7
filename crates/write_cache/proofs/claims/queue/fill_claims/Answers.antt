use Rattle.write_cache.proofs.Common.{ap, arith, claim_filled, get_or, get_or_default, length, map_over_more, ◌<◌, ◌∙◌}
use Rattle.write_cache.proofs.Common.{◌≡◌}
use Rattle.std.proofs.Common.{slice_set}
use Rattle.write_cache.proofs.claims.queue.fill_claims.Goals as goal

pub loop-claim-preserved : goal.loop-claim-preserved
loop-claim-preserved c =
    let i = c.loop-claim.claim-index in
    let f = claim_filled c.args.reader c.args.index c.args.block.now in
    let less : i < length c.loop-claim.claims = omega arith in
    let x = get_or c.loop-claim.claims i c.fill.new.self in
    let is : c.fill.new.self ≡ f x = c.fill.ensures
    ∙ ap f (get_or_default c.loop-claim.claims i _ c.fill.new.self less) in
    ap (slice_set c.loop-claim.claims i) is
    ∙ map_over_more f c.args.claims.now c.loop-claim.claims i x (omega arith) c.loop-claim.invariant
    (get_or_default c.loop-claim.claims i c.fill.new.self x less)
