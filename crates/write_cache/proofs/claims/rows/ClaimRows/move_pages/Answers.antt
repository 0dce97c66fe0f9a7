use Rattle.write_cache.proofs.Common.{Claimed, List, all_claims, ap, arith, length}
use Rattle.write_cache.proofs.AllClaims.{as_long}
use Rattle.write_cache.proofs.claims.rows.ClaimRows.move_pages.Goals as goal

pub returns-clause-as_many : goal.returns-clause-as_many
returns-clause-as_many c =
    let before = ap (λ (rows : List (List Claimed)). length (all_claims rows)) c.self.view_is in
    let long = as_long c.move_pages_from_rows.new.rows.items c.shed.new.rows.items c.shed.ensures.left in
    let fit = c.move_pages_from_rows.ensures.as_many in
    omega (arith, before, long, fit)

pub returns-clause-pages_fit : goal.returns-clause-pages_fit
returns-clause-pages_fit c =
    let before = ap (λ (rows : List (List Claimed)). length (all_claims rows)) c.self.view_is in
    let long = as_long c.move_pages_from_rows.new.rows.items c.shed.new.rows.items c.shed.ensures.left in
    let fit = c.move_pages_from_rows.ensures.pages_fit in
    omega (arith, before, long, fit)

pub returns-clause-free_fit : goal.returns-clause-free_fit
returns-clause-free_fit c =
    let before = ap (λ (rows : List (List Claimed)). length (all_claims rows)) c.self.view_is in
    let long = as_long c.move_pages_from_rows.new.rows.items c.shed.new.rows.items c.shed.ensures.left in
    let fit = c.move_pages_from_rows.ensures.free_fit in
    omega (arith, before, long, fit)
