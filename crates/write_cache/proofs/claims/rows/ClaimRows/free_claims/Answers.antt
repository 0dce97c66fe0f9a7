use Rattle.write_cache.proofs.Common.{Claimed, List, all_claims, ap, arith, length}
use Rattle.write_cache.proofs.AllClaims.{as_long}
use Rattle.write_cache.proofs.claims.rows.ClaimRows.free_claims.Goals as goal

pub returns-clause-as_many : goal.returns-clause-as_many
returns-clause-as_many c =
    let before = ap (λ (rows : List (List Claimed)). length (all_claims rows)) c.self.view_is in
    let long = as_long c.free_from_rows.new.rows.items c.shed.new.rows.items c.shed.ensures.left in
    let fit = c.free_from_rows.ensures.as_many in
    omega (arith, before, long, fit)
