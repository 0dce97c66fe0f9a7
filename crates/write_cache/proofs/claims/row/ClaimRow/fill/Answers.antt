use Rattle.write_cache.proofs.Common.{AreOf, Claimed, List, ap, claim_filled, length, length-map, map, refl, subst, sym}
use Rattle.write_cache.proofs.Common.{◌∙◌, ◌≡◌}
use Rattle.write_cache.proofs.Deques.{refilled}
use Rattle.write_cache.proofs.OwnClaims.{of_map, others_filled}
use Rattle.write_cache.proofs.claims.row.ClaimRow.fill.Goals as goal

pub invariant_of-self : goal.invariant_of-self
invariant_of-self c =
    let old = c.self.inside in
    let f = claim_filled c.args.reader c.args.index c.args.block.now in
    let is = c.fill_claims.ensures ∙ ap (map f) c.make_contiguous.ensures.value in
    let long : length c.fill_claims.new.claims ≡ length old.claims.items =
    ap (λ (xs : List Claimed). length xs) is ∙ length-map old.claims.items f in (
      subst (AreOf old.reader)
          (sym (refilled old.claims.len old.claims.items c.fill_claims.new.claims old.claims.ok.0 long ∙ is))
          (of_map f (λ claim. refl) old.reader old.claims.items c.self.invariant.0),
      c.self.invariant.1,
    )

pub returns-else-self-reader : goal.returns-else-self-reader
returns-else-self-reader c =
    sym (ap (map (claim_filled c.args.reader c.args.index c.args.block.now)) (sym c.self.view_is)
    ∙ others_filled c.self.inside.reader c.args.reader c.args.index c.args.block.now c.self.inside.claims.items
    c.self.invariant.0 c.if-self-reader.false
    ∙ c.self.view_is)
