use Rattle.write_cache.proofs.Common.{all_claims, claims_but, deque_capacity, is_claim_behind, ◌++◌}
use Rattle.write_cache.proofs.AllClaims.{left_joined, queue_made}
use Rattle.write_cache.proofs.claims.Claims.free_claims.Goals as goal

pub returns-clause-left : goal.returns-clause-left
returns-clause-left c =
    let old = c.self.inside in
    let goes = is_claim_behind c.args.reader c.args.count in
    let rows = c.free_claims.new.self in
    let rest = c.free_claims-2.new.claims in
    queue_made (claims_but goes) (deque_capacity old.rest) (deque_capacity rest)
    (all_claims old.rows ++ old.rest.items) (all_claims rows ++ rest.items) c.args.self.now c.self.view_is
    c.free_claims-2.ensures.claim_room
    (left_joined goes old.rows rows old.rest.items rest.items c.free_claims.ensures.left c.free_claims-2.ensures.left)
