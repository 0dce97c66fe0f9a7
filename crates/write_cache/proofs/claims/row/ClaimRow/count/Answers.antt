use Rattle.write_cache.proofs.Common.{Claimed, List, ap, claims_of, length, sym, ◌∙◌}
use Rattle.write_cache.proofs.OwnClaims.{others_none, own_same}
use Rattle.write_cache.proofs.claims.row.ClaimRow.count.Goals as goal

pub returns-then-self-reader : goal.returns-then-self-reader
returns-then-self-reader c =
    c.len.ensures
    ∙ c.self.inside.claims.ok.0
    ∙ ap (λ (xs : List Claimed). length xs)
    (sym (own_same c.self.inside.reader c.args.reader c.self.inside.claims.items c.self.invariant.0
    c.if-self-reader.true))
    ∙ ap (λ (xs : List Claimed). length (claims_of xs c.args.reader)) c.self.view_is

pub returns-else-self-reader : goal.returns-else-self-reader
returns-else-self-reader c =
    ap (λ (xs : List Claimed). length xs)
    (sym (others_none c.self.inside.reader c.args.reader c.self.inside.claims.items c.self.invariant.0
    c.if-self-reader.false))
    ∙ ap (λ (xs : List Claimed). length (claims_of xs c.args.reader)) c.self.view_is
