use Rattle.readers.proofs.Common.{RowPins, ap, arith, fold, get_or, get_or_default, length, map, map-append, moved_pin}
use Rattle.readers.proofs.Common.{pin_moves, refl, with_pins, ◌<◌, ◌∙◌, ◌≡◌}
use Rattle.readers.proofs.RowWalks.{fold_end, fold_on, walk_end, walk_on}
use Rattle.readers.proofs.rows.move_in.Goals as goal

pub loop-row-preserved : goal.loop-row-preserved
loop-row-preserved c =
    let i = c.loop-row.row-index in
    let h = map (moved_pin c.args.stored) in
    let f = pin_moves c.args.stored in
    let less : i < length c.loop-row.rows = omega arith in
    let new = c.move_to.new.self in
    let x = get_or c.loop-row.rows i new in
    let is : new ≡ with_pins x (h x.pins) = c.move_to.ensures.moved
    ∙ ap (λ (r : RowPins). with_pins r (h r.pins)) (get_or_default c.loop-row.rows i _ new less) in
    let blocks : c.move_to.new.live ≡ fold f c.loop-row.live x.pins = c.move_to.ensures.blocks
    ∙ ap (λ (r : RowPins). fold f c.loop-row.live r.pins) (get_or_default c.loop-row.rows i _ new less) in
    let there = get_or_default c.loop-row.rows i new x less in
    record {
      moved = walk_on h (map-append (moved_pin c.args.stored)) c.loop-row.rows i x new less there
          (ap (λ (r : RowPins). r.pins) is)
          ∙ c.loop-row.invariant.moved;
      blocks = fold_on f c.loop-row.rows i x new c.loop-row.live c.move_to.new.live less there blocks
          ∙ c.loop-row.invariant.blocks;
    }

pub returns-clause-moved : goal.returns-clause-moved
returns-clause-moved c =
    walk_end (map (moved_pin c.args.stored)) refl c.loop-row.rows c.loop-row.row-index (omega arith)
    ∙ c.loop-row.invariant.moved

pub returns-clause-blocks : goal.returns-clause-blocks
returns-clause-blocks c =
    fold_end (pin_moves c.args.stored) c.loop-row.rows c.loop-row.row-index c.loop-row.live (omega arith)
    ∙ c.loop-row.invariant.blocks
