use Rattle.write_cache.proofs.Common.{AreOf, Claimed, List, ap, arith, claims_of, filter_map, is_claim_of, page_moved}
use Rattle.write_cache.proofs.Common.{subst, sym, without_claims, ◌++◌, ◌∙◌}
use Rattle.write_cache.proofs.OwnClaims.{of_but, others_left, others_paged}
use Rattle.write_cache.proofs.claims.row.ClaimRow.move_pages.Goals as goal

pub invariant_of-self : goal.invariant_of-self
invariant_of-self c = (
  subst (AreOf c.self.inside.reader) (sym c.move_pages.ensures.left)
      (of_but (is_claim_of c.args.reader) c.self.inside.reader c.self.inside.claims.items c.self.invariant.0),
  grind (arith, c.self.invariant.1, c.move_pages.ensures.claim_room),
)

pub returns-else-self-reader-clause-left : goal.returns-else-self-reader-clause-left
returns-else-self-reader-clause-left c =
    sym (ap (λ (xs : List Claimed). without_claims xs c.args.reader) (sym c.self.view_is)
    ∙ others_left c.self.inside.reader c.args.reader c.self.inside.claims.items c.self.invariant.0
    c.if-self-reader.false
    ∙ c.self.view_is)

pub returns-else-self-reader-clause-moved : goal.returns-else-self-reader-clause-moved
returns-else-self-reader-clause-moved c =
    let f = page_moved c.args.number c.args.pages.now in
    others_paged c.self.inside.reader c.args.reader f c.self.inside.claims.items c.args.pending.now.items
    c.self.invariant.0 c.if-self-reader.false
    ∙ ap (λ (xs : List Claimed). c.args.pending.now.items ++ filter_map f (claims_of xs c.args.reader)) c.self.view_is
