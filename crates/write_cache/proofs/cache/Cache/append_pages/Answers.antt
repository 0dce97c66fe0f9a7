use Rattle.write_cache.proofs.Common.{ClaimQueue, Claimed, List, Pending, WriteCache, ap, arith, claim_brought}
use Rattle.write_cache.proofs.Common.{claims_of, filter_map, length, length-map, page_moved, without_claims, ◌++◌, ◌+◌}
use Rattle.write_cache.proofs.Common.{◌∙◌, ◌≡◌}
use Rattle.write_cache.specs.Rests.{page_brought, pages_appended}
use Rattle.write_cache.specs.Rooms.{cache_of}
use Rattle.write_cache.proofs.Brought.{brought_left, brought_pages}
use Rattle.write_cache.proofs.cache.Cache.append_pages.Goals as goal

pub invariant_of-self : goal.invariant_of-self
invariant_of-self c =
    let old = c.self.inside in
    let long = ap (λ (q : ClaimQueue). length q.items) c.bring.ensures
    ∙ length-map old.claims.items (claim_brought old.pages.items c.args.reader c.args.pages.now) in
    let slots = c.self.invariant.slots in
    let many = c.move_pages.ensures.as_many in
    let frontier = c.self.invariant.frontier in
    record {
      slots = omega (arith, long, slots, many);
      fits = c.self.invariant.fits;
      room = c.move_pages.ensures.page_room ∙ c.self.invariant.room;
      claim_room = ap (λ (q : ClaimQueue). q.room) c.move_pages.ensures.left
          ∙ ap (λ (q : ClaimQueue). q.room) c.bring.ensures
          ∙ c.self.invariant.claim_room;
      free_room = grind (arith, c.self.invariant.free_room, c.move_pages.ensures.free_stays);
      frontier = omega (arith, frontier);
      numbers = grind (arith, c.requires.numbered);
      given = c.move_pages.ensures.not_newer;
    }

pub returns-clause-after : goal.returns-clause-after
returns-clause-after c =
    let old = c.self.inside in
    let reader = c.args.reader in
    let xs = c.args.pages.now in
    let n = old.last + 1 in
    let ps = old.pages.items in
    let is = ap (λ (q : ClaimQueue). q.items) c.bring.ensures in
    let left : c.move_pages.new.self.items ≡ without_claims old.claims.items reader =
    ap (λ (q : ClaimQueue). q.items) c.move_pages.ensures.left
    ∙ ap (λ (cs : List Claimed). without_claims cs reader) is
    ∙ brought_left ps reader n xs old.claims.items in
    let pages : c.move_pages.new.pending.items
    ≡ ps ++ filter_map (page_brought ps n xs) (claims_of old.claims.items reader) =
    c.move_pages.ensures.moved
    ∙ ap (λ (cs : List Claimed). ps ++ filter_map (page_moved n xs) (claims_of cs reader)) is
    ∙ ap (λ (qs : List Pending). ps ++ qs) (brought_pages ps reader n xs old.claims.items) in
    (λ i. record (cache_of old) { claims = left i; pages = pages i; last = n })
    ∙ ap (λ (z : WriteCache). pages_appended z reader xs) c.self.view_is
