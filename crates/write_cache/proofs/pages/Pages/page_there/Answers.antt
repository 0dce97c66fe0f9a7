use Rattle.write_cache.proofs.Common.{Queue, ap, is_there, option_and_then, sym, ◌∙◌}
use Rattle.std.specs.Prelude.{find, slice_get}
use Rattle.write_cache.proofs.Deques.{find_placed}
use Rattle.write_cache.proofs.MarkedPlaces.{written_found}
use Rattle.write_cache.proofs.pages.Pages.page_there.Goals as goal

pub returns-in-Some : goal.returns-in-Some
returns-in-Some c =
    let f = c.self.inside in
    c.page_standing.ensures
    ∙ ap (option_and_then (slice_get f.pages.items)) c.standing.ensures
    ∙ sym (find_placed (is_there c.args.place) f.pages.items _
    (written_found f.written f.pages.items c.args.place c.in-Some.entry c.self.invariant.written
    (sym c.told.ensures ∙ c.in-Some.is)))
    ∙ ap (λ (z : Queue). find (is_there c.args.place) z.items) c.self.view_is
