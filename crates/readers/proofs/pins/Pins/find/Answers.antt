use Rattle.readers.proofs.Common.{List, RowPins, ap, find, is_pin_of, pins_in, sym, ◌∙◌}
use Rattle.readers.proofs.RowWalks.{found_behind, found_first}
use Rattle.readers.proofs.pins.Pins.find.Goals as goal

pub returns-then-is_some : goal.returns-then-is_some
returns-then-is_some c =
    let f = c.self.inside in
    let test = is_pin_of c.args.reader c.args.index in
    found_first test (pins_in f.rows.items) f.rest.items c.args.self.now c.find_in-found.result
    (c.find_in-found.ensures ∙ ap (λ (rs : List RowPins). find test (pins_in rs)) c.as_slice.ensures.value)
    (sym c.is_some.ensures ∙ c.if-is_some.true) c.self.view_is

pub returns : goal.returns
returns c =
    let f = c.self.inside in
    let test = is_pin_of c.args.reader c.args.index in
    found_behind test (pins_in f.rows.items) f.rest.items c.args.self.now c.find_in-found.result c.copied.result
    (c.find_in-found.ensures ∙ ap (λ (rs : List RowPins). find test (pins_in rs)) c.as_slice.ensures.value)
    (sym c.is_some.ensures ∙ c.if-is_some.false)
    (c.copied.ensures ∙ c.pin_found.ensures ∙ ap (find test) c.as_slice-2.ensures.value) c.self.view_is
