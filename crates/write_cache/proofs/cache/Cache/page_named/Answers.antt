use Rattle.write_cache.proofs.Common.{WriteCache, ap, is_named, position, sym, ◌∙◌}
use Rattle.std.specs.Prelude.{option_copied}
use Rattle.write_cache.proofs.Deques.{find_placed}
use Rattle.write_cache.proofs.cache.Cache.page_named.Goals as goal

pub returns-in_err-at : goal.returns-in_err-at
returns-in_err-at c =
    ap option_copied c.from_residual.ensures
    ∙ sym (find_placed (is_named c.args.number c.args.index) c.args.self.now.pages _ (c.in_err-at.ensures
    ∙ ap (λ (z : WriteCache). position (is_named c.args.number c.args.index) z.pages) c.self.view_is))

pub returns : goal.returns
returns c =
    c.page.ensures
    ∙ sym (find_placed (is_named c.args.number c.args.index) c.args.self.now.pages _ (c.in_ok-at.ensures
    ∙ ap (λ (z : WriteCache). position (is_named c.args.number c.args.index) z.pages) c.self.view_is))
