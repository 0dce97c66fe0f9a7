use Rattle.write_cache.proofs.Common.{claim_brought, drop, map, take, ◌++◌, ◌≡◌}
use Rattle.write_cache.proofs.claims.brought.bring_all.Given as goal

abbrev pub invariant-loop-claim : goal.invariant-loop-claim
invariant-loop-claim l =
    l.claims
    ≡ map (claim_brought l.pending.items l.reader l.pages) (take l.claim-index l.initial.claims)
    ++ drop l.claim-index l.initial.claims
