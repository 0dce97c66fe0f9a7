use Rattle.write_cache.proofs.Common.{Claimed, List, ap, arith, length, ◌∙◌}
use Rattle.std.proofs.Common.{IsSome}
use Rattle.write_cache.proofs.AllClaims.{spare_took}
use Rattle.write_cache.proofs.claims.rows.ClaimRows.push.Goals as goal

pub returns-clause-where_it_is : goal.returns-clause-where_it_is
returns-clause-where_it_is c =
    spare_took c.begin_row.result c.args.claim c.in_ok-left.left c.args.self.now c.push_last.new.rows.items
    c.begin_row.new.rows.items c.in_ok-left.ensures.where_it_is.0
    (c.in_ok-left.ensures.where_it_is.1 ∙ c.self.view_is) c.begin_row.ensures.where_it_is

pub returns-clause-full : goal.returns-clause-full
returns-clause-full c =
    λ (back : IsSome c.begin_row.result).
    let none = c.begin_row.ensures.none_spare back in
    let rows = c.self.invariant.1 in
    let long = ap (λ (rs : List (List Claimed)). length rs) c.self.view_is in
    omega (arith, none, rows, long)
