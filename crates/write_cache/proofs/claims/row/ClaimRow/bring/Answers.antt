use Rattle.write_cache.proofs.Common.{AreOf, Claimed, List, ap, claim_brought, length, length-map, map, subst, sym, ◌∙◌}
use Rattle.write_cache.proofs.Common.{◌≡◌}
use Rattle.write_cache.proofs.Deques.{refilled}
use Rattle.write_cache.proofs.OwnClaims.{brought_reader, of_map, others_brought}
use Rattle.write_cache.proofs.claims.row.ClaimRow.bring.Goals as goal

pub invariant_of-self : goal.invariant_of-self
invariant_of-self c =
    let old = c.self.inside in
    let f = claim_brought c.args.pending.now.items c.args.reader c.args.pages.now in
    let is = c.bring_all.ensures ∙ ap (map f) c.make_contiguous.ensures.value in
    let long : length c.bring_all.new.claims ≡ length old.claims.items =
    ap (λ (xs : List Claimed). length xs) is ∙ length-map old.claims.items f in (
      subst (AreOf old.reader)
          (sym (refilled old.claims.len old.claims.items c.bring_all.new.claims old.claims.ok.0 long ∙ is))
          (of_map f (brought_reader c.args.pending.now.items c.args.reader c.args.pages.now) old.reader old.claims.items
          c.self.invariant.0),
      c.self.invariant.1,
    )

pub returns-else-self-reader : goal.returns-else-self-reader
returns-else-self-reader c =
    sym (ap (map (claim_brought c.args.pending.now.items c.args.reader c.args.pages.now)) (sym c.self.view_is)
    ∙ others_brought c.self.inside.reader c.args.reader c.args.pending.now.items c.args.pages.now
    c.self.inside.claims.items c.self.invariant.0 c.if-self-reader.false
    ∙ c.self.view_is)
