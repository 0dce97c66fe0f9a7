use Rattle.write_cache.proofs.Common.{AreOf, Claimed, List, ap, arith, claims_of, inl, inr, length, subst, sym, ◌∙◌}
use Rattle.write_cache.proofs.OwnClaims.{of_more, others_none}
use Rattle.write_cache.proofs.claims.row.ClaimRow.push.Goals as goal
use Rattle.write_cache.proofs.claims.row.ClaimRow.push.Goals.{else-claim-self-via-then-claim-self+else-len}
use Rattle.write_cache.proofs.claims.row.ClaimRow.push.Goals.{else-claim-self-via-else-claim-self}

pub invariant_of-self : goal.invariant_of-self
invariant_of-self c = (
  subst (AreOf c.self.inside.reader) (sym c.push_back_reserved.ensures.items)
      (of_more c.self.inside.reader c.self.inside.claims.items c.args.claim c.self.invariant.0 c.if-claim-self.true),
  grind (arith, c.self.invariant.1, c.push_back_reserved.ensures.capacity),
)

pub returns-else-claim-self-clause-refused : goal.returns-else-claim-self-clause-refused
returns-else-claim-self-clause-refused c =
    λ given.
    elim c.else-claim-self.branch [
      | else-claim-self-via-then-claim-self+else-len w ↦
          inr (let long = ap (λ (xs : List Claimed). length xs) c.self.view_is in
          let ok = c.self.inside.claims.ok.0 in
          omega (arith, long, ok, w))
      | else-claim-self-via-else-claim-self w ↦
          inl (ap (λ (xs : List Claimed). claims_of xs c.args.claim.reader) (sym c.self.view_is)
          ∙ others_none c.self.inside.reader c.args.claim.reader c.self.inside.claims.items c.self.invariant.0
          (λ same. w.if-claim-self.false (sym same)))
    ]
