use Rattle.write_cache.proofs.Common.{arith, is_claim_behind, ◌∙◌}
use Rattle.write_cache.proofs.Turns.{turned_more}
use Rattle.write_cache.proofs.claims.queue.free_claims.Goals as goal

pub loop-preserved : goal.loop-preserved
loop-preserved c = record {
  turning = c.free_claim.ensures.left
      ∙ turned_more (is_claim_behind c.args.reader c.args.count) c.loop.counter c.args.claims.now.items
      c.loop.claims.items (omega arith) c.loop.invariant.turning;
  claim_room = c.free_claim.ensures.claim_room ∙ c.loop.invariant.claim_room;
  room = c.free_claim.ensures.room ∙ c.loop.invariant.room;
  as_many = c.free_claim.ensures.as_many ∙ c.loop.invariant.as_many;
}
