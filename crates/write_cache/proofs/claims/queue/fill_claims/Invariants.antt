use Rattle.write_cache.proofs.Common.{claim_filled, drop, map, take, ◌++◌, ◌≡◌}
use Rattle.write_cache.proofs.claims.queue.fill_claims.Given as goal

abbrev pub invariant-loop-claim : goal.invariant-loop-claim
invariant-loop-claim l =
    l.claims
    ≡ map (claim_filled l.reader l.index l.block) (take l.claim-index l.initial.claims)
    ++ drop l.claim-index l.initial.claims
