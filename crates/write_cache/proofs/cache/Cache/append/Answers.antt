use Rattle.write_cache.proofs.Common.{ClaimQueue, ap, arith, ◌∙◌}
use Rattle.write_cache.proofs.cache.Cache.append.Goals as goal

pub invariant_of-self : goal.invariant_of-self
invariant_of-self c = record {
  slots = grind (arith, c.self.invariant.slots, c.move_claims.ensures.as_many);
  fits = c.self.invariant.fits;
  room = c.move_claims.ensures.page_room ∙ c.self.invariant.room;
  claim_room = ap (λ (q : ClaimQueue). q.room) c.move_claims.ensures.left ∙ c.self.invariant.claim_room;
  free_room = c.self.invariant.free_room;
  frontier = let f = c.self.invariant.frontier in omega (arith, f);
  numbers = grind (arith, c.requires);
  given = c.move_claims.ensures.not_newer;
}
