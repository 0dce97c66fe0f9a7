use Rattle.readers.proofs.Common.{arith, is_pin_of, length, sym, ◌<◌, ◌∙◌}
use Rattle.readers.proofs.RowWalks.{find_on, found_on}
use Rattle.readers.proofs.rows.find_in.Goals as goal

pub returns-then-is_some : goal.returns-then-is_some
returns-then-is_some c =
    let less : c.loop-row.row-index < length c.args.rows.now = omega arith in
    found_on (is_pin_of c.args.reader c.args.index) c.args.rows.now c.loop-row.row-index c.row-item.result
    c.find-found.result less
    c.row-item.is c.find-found.ensures (sym c.is_some.ensures ∙ c.if-is_some.true)
    ∙ c.loop-row.invariant

pub loop-row-preserved : goal.loop-row-preserved
loop-row-preserved c =
    let less : c.loop-row.row-index < length c.args.rows.now = omega arith in
    find_on (is_pin_of c.args.reader c.args.index) c.args.rows.now c.loop-row.row-index c.row-item.result
    c.find-found.result less
    c.row-item.is c.find-found.ensures (sym c.is_some.ensures ∙ c.if-is_some.false)
    ∙ c.loop-row.invariant
