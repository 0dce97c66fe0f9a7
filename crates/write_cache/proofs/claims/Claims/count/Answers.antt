use Rattle.write_cache.proofs.Common.{ClaimQueue, all_claims, ap, arith, length, ◌++◌}
use Rattle.write_cache.proofs.AllClaims.{count_joined, own_within}
use Rattle.write_cache.proofs.claims.Claims.count.Goals as goal

pub overflow_add-result : goal.overflow_add-result
overflow_add-result c =
    let rows = all_claims c.self.inside.rows in
    let rest = c.self.inside.rest.items in
    let all = ap (λ (q : ClaimQueue). length q.items) c.self.view_is in
    let within = own_within (rows ++ rest) c.args.reader in
    let parts = count_joined rows rest c.args.reader in
    let first = c.count.ensures in
    let last = c.count_claims.ensures in
    let few = c.requires in
    omega (arith, all, within, parts, first, last, few)
