use Rattle.readers.proofs.Common.{List, RowPins, ap, find, is_owed_by, pins_in, sym, ◌∙◌}
use Rattle.readers.proofs.RowWalks.{found_behind, found_first}
use Rattle.readers.proofs.pins.Pins.first_owed.Goals as goal

pub returns-then-is_some : goal.returns-then-is_some
returns-then-is_some c =
    let f = c.self.inside in
    let test = is_owed_by c.args.blocks.now.rows c.args.die in
    found_first test (pins_in f.rows.items) f.rest.items c.args.self.now c.first_owed_in-found.result
    (c.first_owed_in-found.ensures ∙ ap (λ (rs : List RowPins). find test (pins_in rs)) c.as_slice.ensures.value)
    (sym c.is_some.ensures ∙ c.if-is_some.true) c.self.view_is

pub returns : goal.returns
returns c =
    let f = c.self.inside in
    let test = is_owed_by c.args.blocks.now.rows c.args.die in
    found_behind test (pins_in f.rows.items) f.rest.items c.args.self.now c.first_owed_in-found.result c.copied.result
    (c.first_owed_in-found.ensures ∙ ap (λ (rs : List RowPins). find test (pins_in rs)) c.as_slice.ensures.value)
    (sym c.is_some.ensures ∙ c.if-is_some.false)
    (c.copied.ensures ∙ c.owed_in.ensures ∙ ap (find test) c.as_slice-2.ensures.value) c.self.view_is
