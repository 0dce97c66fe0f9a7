use Rattle.write_cache.proofs.Common.{ap, arith, claim_brought, get_or, get_or_default, length, map_over_more, ◌<◌, ◌∙◌}
use Rattle.write_cache.proofs.Common.{◌≡◌}
use Rattle.std.proofs.Common.{slice_set}
use Rattle.write_cache.proofs.claims.brought.bring_all.Goals as goal

pub loop-claim-preserved : goal.loop-claim-preserved
loop-claim-preserved c =
    let i = c.loop-claim.claim-index in
    let f = claim_brought c.args.pending.now.items c.args.reader c.args.pages.now in
    let less : i < length c.loop-claim.claims = omega arith in
    let x = get_or c.loop-claim.claims i c.bring_one.new.claim in
    let is : c.bring_one.new.claim ≡ f x = c.bring_one.ensures
    ∙ ap f (get_or_default c.loop-claim.claims i _ c.bring_one.new.claim less) in
    ap (slice_set c.loop-claim.claims i) is
    ∙ map_over_more f c.args.claims.now c.loop-claim.claims i x (omega arith) c.loop-claim.invariant
    (get_or_default c.loop-claim.claims i c.bring_one.new.claim x less)
