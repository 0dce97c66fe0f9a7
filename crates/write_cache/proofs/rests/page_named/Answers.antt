use Rattle.write_cache.proofs.Common.{ap, is_named, sym, ◌∙◌}
use Rattle.std.specs.Prelude.{option_copied}
use Rattle.write_cache.proofs.Deques.{find_placed}
use Rattle.write_cache.proofs.rests.page_named.Goals as goal

pub returns-in_err-at : goal.returns-in_err-at
returns-in_err-at c =
    ap option_copied c.from_residual.ensures
    ∙ sym (find_placed (is_named c.args.name.number c.args.name.index) c.args.pages.now.items _
    c.in_err-at.ensures)

pub returns : goal.returns
returns c =
    c.page.ensures
    ∙ sym (find_placed (is_named c.args.name.number c.args.name.index) c.args.pages.now.items _ c.in_ok-at.ensures)
