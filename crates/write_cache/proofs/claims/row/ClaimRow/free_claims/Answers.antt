use Rattle.write_cache.proofs.Common.{AreOf, Claimed, List, ap, arith, is_claim_behind, subst, sym}
use Rattle.write_cache.proofs.Common.{without_claims_behind, ◌∙◌}
use Rattle.write_cache.proofs.OwnClaims.{of_but, others_left_behind}
use Rattle.write_cache.proofs.claims.row.ClaimRow.free_claims.Goals as goal

pub invariant_of-self : goal.invariant_of-self
invariant_of-self c = (
  subst (AreOf c.self.inside.reader) (sym c.free_claims.ensures.left)
      (of_but (is_claim_behind c.args.reader c.args.count) c.self.inside.reader c.self.inside.claims.items
      c.self.invariant.0),
  grind (arith, c.self.invariant.1, c.free_claims.ensures.claim_room),
)

pub returns-else-self-reader-clause-left : goal.returns-else-self-reader-clause-left
returns-else-self-reader-clause-left c =
    sym (ap (λ (xs : List Claimed). without_claims_behind xs c.args.reader c.args.count) (sym c.self.view_is)
    ∙ others_left_behind c.self.inside.reader c.args.reader c.args.count c.self.inside.claims.items
    c.self.invariant.0 c.if-self-reader.false
    ∙ c.self.view_is)
