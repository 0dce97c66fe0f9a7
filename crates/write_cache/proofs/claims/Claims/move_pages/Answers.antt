use Rattle.write_cache.proofs.Common.{ClaimQueue, List, Pending, all_claims, ap, append_assoc, claims_but, claims_of}
use Rattle.write_cache.proofs.Common.{deque_capacity, filter_map, is_claim_of, page_moved, sym, ◌++◌, ◌∙◌}
use Rattle.write_cache.proofs.AllClaims.{left_joined, paged_joined, queue_made}
use Rattle.write_cache.proofs.claims.Claims.move_pages.Goals as goal

pub returns-clause-left : goal.returns-clause-left
returns-clause-left c =
    let old = c.self.inside in
    let goes = is_claim_of c.args.reader in
    let rows = c.move_pages.new.self in
    let rest = c.move_pages-2.new.claims in
    queue_made (claims_but goes) (deque_capacity old.rest) (deque_capacity rest)
    (all_claims old.rows ++ old.rest.items) (all_claims rows ++ rest.items) c.args.self.now c.self.view_is
    c.move_pages-2.ensures.claim_room
    (left_joined goes old.rows rows old.rest.items rest.items c.move_pages.ensures.left c.move_pages-2.ensures.left)

pub returns-clause-moved : goal.returns-clause-moved
returns-clause-moved c =
    let rows = all_claims c.self.inside.rows in
    let rest = c.self.inside.rest.items in
    let reader = c.args.reader in
    let ps = c.args.pending.now.items in
    let f = page_moved c.args.number c.args.pages.now in
    c.move_pages-2.ensures.moved
    ∙ ap (λ (xs : List Pending). xs ++ filter_map f (claims_of rest reader)) c.move_pages.ensures.moved
    ∙ append_assoc ps (filter_map f (claims_of rows reader)) (filter_map f (claims_of rest reader))
    ∙ ap (λ (xs : List Pending). ps ++ xs) (sym (paged_joined f reader rows rest))
    ∙ ap (λ (q : ClaimQueue). ps ++ filter_map f (claims_of q.items reader)) c.self.view_is
