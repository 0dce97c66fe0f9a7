use Rattle.write_cache.proofs.Common.{List, Pending, ap, arith, claims_of, is_claim_of, map, page_claimed, take, ◌++◌}
use Rattle.write_cache.proofs.Common.{◌∙◌}
use Rattle.write_cache.proofs.Turns.{moved_more, turned_more}
use Rattle.write_cache.proofs.claims.queue.move_claims.Goals as goal

pub loop-preserved : goal.loop-preserved
loop-preserved c =
    let f = page_claimed c.args.group.key c.args.group.number c.args.group.size in
    record {
      turning = c.move_claim.ensures.left
          ∙ turned_more (is_claim_of c.args.reader) c.loop.counter c.args.claims.now.items
          c.loop.claims.items (omega arith) c.loop.invariant.turning;
      claim_room = c.move_claim.ensures.claim_room ∙ c.loop.invariant.claim_room;
      moved = c.move_claim.ensures.moved
          ∙ ap (λ (xs : List Pending). xs ++ map f (claims_of (take 1 c.loop.claims.items) c.args.reader))
          c.loop.invariant.moved
          ∙ moved_more c.args.reader c.loop.counter f c.args.claims.now.items c.loop.claims.items
          c.args.pages.now.items (omega arith) c.loop.invariant.turning;
      page_room = c.move_claim.ensures.page_room ∙ c.loop.invariant.page_room;
      not_newer = c.move_claim.ensures.not_newer;
      as_many = c.move_claim.ensures.as_many ∙ c.loop.invariant.as_many;
    }
