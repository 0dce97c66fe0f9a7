use Rattle.readers.proofs.Common.{ap, map, row_seen, sym, wanted_now, with_pins, ◌∙◌}
use Rattle.readers.proofs.Stays.{first_wanted, none_wanted, other_pins, row_rises, row_stays}
use Rattle.readers.proofs.row.Row.want.Goals as goal

pub returns-then-starts_at : goal.returns-then-starts_at
returns-then-starts_at c =
    let r = c.args.self.now in
    c.set_first.ensures
    ∙ ap (with_pins r) (first_wanted c.args.reader c.args.index r.next r.pins
    (sym c.starts_at.ensures ∙ c.if-starts_at.true)
    (row_rises (row_seen c.self.inside) r c.args.reader c.self.view_is c.if-self-reader.true
    c.self.invariant.rises))

pub returns-else-self-reader : goal.returns-else-self-reader
returns-else-self-reader c =
    let f = c.self.inside in
    row_stays (map (wanted_now c.args.reader c.args.index)) (row_seen f) c.args.self.now c.self.view_is
    (none_wanted c.args.reader c.args.index f.pins.items
    (other_pins f.reader c.args.reader c.args.index 0 f.next f.pins.items c.if-self-reader.false
    c.self.invariant.rises))
