use Rattle.write_cache.proofs.Common.{Queue, ap, is_named, position, sym, ◌∙◌}
use Rattle.write_cache.proofs.Marks.{none_marked}
use Rattle.write_cache.proofs.Told.{told_rising, told_stands}
use Rattle.write_cache.proofs.pages.Pages.place_named.Goals as goal

pub find-requires : goal.find-requires
find-requires c = told_rising c.self.inside c.self.invariant

pub returns-in_err-entry : goal.returns-in_err-entry
returns-in_err-entry c =
    let f = c.self.inside in
    c.from_residual.ensures
    ∙ sym (none_marked f.landed f.front f.newest c.args.number c.args.index f.groups.entries.items f.pages.items
    c.self.invariant.runs c.in_err-entry.ensures)
    ∙ ap (λ (z : Queue). position (is_named c.args.number c.args.index) z.items) c.self.view_is

pub place_in-requires-clause-stands : goal.place_in-requires-clause-stands
place_in-requires-clause-stands c =
    told_stands c.self.inside c.in_ok-entry.entry.at c.in_ok-entry.entry.group c.self.invariant
    c.in_ok-entry.ensures.0
