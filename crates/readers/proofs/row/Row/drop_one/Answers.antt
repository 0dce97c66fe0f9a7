use Rattle.readers.proofs.Common.{Pin, ap, filter, is_pin_of, let_go, not, row_seen, sym, with_pins, ◌∙◌}
use Rattle.readers.proofs.Stays.{first_dropped, first_freed, live_stays, none_gone, none_left, other_pins, row_rises}
use Rattle.readers.proofs.Stays.{row_stays}
use Rattle.readers.proofs.row.Row.drop_one.Goals as goal

pub returns-then-starts_at-clause-left : goal.returns-then-starts_at-clause-left
returns-then-starts_at-clause-left c =
    let r = c.args.self.now in
    c.drop_first.ensures.left
    ∙ ap (with_pins r) (first_dropped c.args.reader c.args.index r.next r.pins
    (sym c.starts_at.ensures ∙ c.if-starts_at.true)
    (row_rises (row_seen c.self.inside) r c.args.reader c.self.view_is c.if-self-reader.true
    c.self.invariant.rises))

pub returns-then-starts_at-clause-blocks : goal.returns-then-starts_at-clause-blocks
returns-then-starts_at-clause-blocks c =
    let r = c.args.self.now in
    c.drop_first.ensures.blocks
    ∙ first_freed c.args.reader c.args.index r.next r.pins c.args.live.now
    (sym c.starts_at.ensures ∙ c.if-starts_at.true)
    (row_rises (row_seen c.self.inside) r c.args.reader c.self.view_is c.if-self-reader.true
    c.self.invariant.rises)

pub returns-else-self-reader-clause-left : goal.returns-else-self-reader-clause-left
returns-else-self-reader-clause-left c =
    let f = c.self.inside in
    let test = is_pin_of c.args.reader c.args.index in
    row_stays (filter (λ (p : Pin). not (test p))) (row_seen f) c.args.self.now c.self.view_is
    (none_left test f.pins.items (other_pins f.reader c.args.reader c.args.index 0 f.next f.pins.items
    c.if-self-reader.false c.self.invariant.rises))

pub returns-else-self-reader-clause-blocks : goal.returns-else-self-reader-clause-blocks
returns-else-self-reader-clause-blocks c =
    let f = c.self.inside in
    let test = is_pin_of c.args.reader c.args.index in
    live_stays (let_go test) c.args.live.now (row_seen f) c.args.self.now c.self.view_is
    (none_gone test f.pins.items c.args.live.now (other_pins f.reader c.args.reader c.args.index 0 f.next
    f.pins.items c.if-self-reader.false c.self.invariant.rises))
