use Rattle.write_cache.proofs.Common.{Queue, ap, arith, sym, ◌∙◌}
use Rattle.write_cache.specs.Slots.{last_page}
use Rattle.write_cache.proofs.LastPlaces.{newest_found}
use Rattle.write_cache.proofs.pages.Pages.last_page.Goals as goal

pub returns-in-Some : goal.returns-in-Some
returns-in-Some c =
    let f = c.self.inside in
    let fits = c.self.invariant.fits in
    let few = c.self.invariant.few in
    c.page_if_of.ensures
    ∙ newest_found f.positions f.landed f.pages.items c.args.key c.in-Some.at c.self.invariant.positions
    c.self.invariant.landed (omega (arith, fits, few)) (sym c.in-Some.ensures)
    ∙ ap (λ (z : Queue). last_page c.args.key z.items) c.self.view_is
