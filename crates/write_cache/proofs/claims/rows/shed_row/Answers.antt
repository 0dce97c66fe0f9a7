use Rattle.write_cache.proofs.Common.{AreBare, subst, sym, ◌∙◌}
use Rattle.write_cache.proofs.AllClaims.{bare_more, same_bare}
use Rattle.write_cache.proofs.claims.rows.shed_row.Goals as goal

pub returns-in-Some-clause-bare : goal.returns-in-Some-clause-bare
returns-in-Some-clause-bare c =
    subst AreBare (sym c.push_reserved.ensures.items)
    (bare_more c.args.spare.now.items c.in-Some.row c.requires.bare
    (same_bare c.args.rows.now.items c.args.at c.in-Some.row c.index.result.now c.requires.there
    c.in-Some.ensures.value c.index.ensures (sym c.is_empty.ensures ∙ c.if-not-is_empty.false)))
