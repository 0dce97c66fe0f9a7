use Rattle.readers.proofs.Common.{RowPins, ap, find, is_pin_of, sym, ◌∙◌}
use Rattle.readers.proofs.Stays.{none_found, other_pins}
use Rattle.readers.proofs.row.Row.find.Goals as goal

pub returns-then-self-reader : goal.returns-then-self-reader
returns-then-self-reader c =
    let test = is_pin_of c.args.reader c.args.index in
    let f = c.self.inside in
    sym (ap (λ (r : RowPins). find test r.pins) (sym c.self.view_is)
    ∙ none_found test f.pins.items (other_pins f.reader c.args.reader c.args.index 0 f.next f.pins.items
    c.if-self-reader.true c.self.invariant.rises))
