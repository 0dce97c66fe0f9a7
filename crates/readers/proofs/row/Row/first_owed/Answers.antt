use Rattle.readers.proofs.Common.{RowPins, ap, arith, count_by, find, is_owed_by, is_wanted, sym, ◌<◌, ◌∙◌}
use Rattle.readers.proofs.Stays.{first_alone, none_counted, none_found, none_owed}
use Rattle.readers.proofs.row.Row.first_owed.Goals as goal

pub returns-then-self-eq0 : goal.returns-then-self-eq0
returns-then-self-eq0 c =
    let rows = c.args.blocks.now.rows in
    let test = is_owed_by rows c.args.die in
    let f = c.self.inside in
    sym (ap (λ (r : RowPins). find test r.pins) (sym c.self.view_is)
    ∙ none_found test f.pins.items (none_owed rows c.args.die f.pins.items
    (none_counted is_wanted f.pins.items (sym c.self.invariant.wanted ∙ c.if-self-eq0.true))))

pub returns-in-Some : goal.returns-in-Some
returns-in-Some c =
    let rows = c.args.blocks.now.rows in
    let f = c.self.inside in
    let counted = c.self.invariant.wanted in
    let some : 0 < count_by is_wanted f.pins.items = omega (arith, counted, c.if-self-eq0.false) in
    c.owed_alone.ensures
    ∙ first_alone rows c.args.die f.pins.items c.in-Some.first.now some c.in-Some.ensures.lookup
    (sym c.wants.ensures ∙ c.if-wants-self.true ∙ counted)
    ∙ ap (λ (r : RowPins). find (is_owed_by rows c.args.die) r.pins) c.self.view_is
