use Rattle.readers.proofs.Common.{RowPins, ap, arith, get_or, get_or_default, length, map, map-append, refl}
use Rattle.readers.proofs.Common.{wanted_no_more, with_pins, ◌<◌, ◌∙◌, ◌≡◌}
use Rattle.readers.proofs.RowWalks.{walk_end, walk_on}
use Rattle.readers.proofs.rows.end_wants_in.Goals as goal

pub loop-row-preserved : goal.loop-row-preserved
loop-row-preserved c =
    let i = c.loop-row.row-index in
    let h = map (wanted_no_more c.args.reader c.args.index) in
    let less : i < length c.loop-row.rows = omega arith in
    let new = c.end_wants.new.self in
    let x = get_or c.loop-row.rows i new in
    let is : new ≡ with_pins x (h x.pins) = c.end_wants.ensures
    ∙ ap (λ (r : RowPins). with_pins r (h r.pins)) (get_or_default c.loop-row.rows i _ new less) in
    walk_on h (map-append (wanted_no_more c.args.reader c.args.index)) c.loop-row.rows i x new less
    (get_or_default c.loop-row.rows i new x less) (ap (λ (r : RowPins). r.pins) is)
    ∙ c.loop-row.invariant

pub returns : goal.returns
returns c =
    walk_end (map (wanted_no_more c.args.reader c.args.index)) refl c.loop-row.rows c.loop-row.row-index (omega arith)
    ∙ c.loop-row.invariant
