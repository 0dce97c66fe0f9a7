use Rattle.write_cache.proofs.Common.{Claimed, List, all_claims, ap, claim_filled, deque_capacity, length, length-map}
use Rattle.write_cache.proofs.Common.{map, refl, ◌++◌, ◌∙◌, ◌≡◌}
use Rattle.write_cache.proofs.Deques.{refilled}
use Rattle.write_cache.proofs.AllClaims.{made_joined, queue_made}
use Rattle.write_cache.proofs.claims.Claims.fill.Goals as goal

pub returns : goal.returns
returns c =
    let old = c.self.inside in
    let f = claim_filled c.args.reader c.args.index c.args.block.now in
    let is = c.fill_claims.ensures ∙ ap (map f) c.make_contiguous.ensures.value in
    let long : length c.fill_claims.new.claims ≡ length old.rest.items =
    ap (λ (xs : List Claimed). length xs) is ∙ length-map old.rest.items f in
    let rest = refilled old.rest.len old.rest.items c.fill_claims.new.claims old.rest.ok.0 long ∙ is in
    queue_made (map f) (deque_capacity old.rest) _ (all_claims old.rows ++ old.rest.items) _ c.args.self.now
    c.self.view_is refl (made_joined f old.rows c.fill.new.self old.rest.items _ c.fill.ensures rest)
