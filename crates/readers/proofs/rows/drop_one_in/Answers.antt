use Rattle.readers.proofs.Common.{Pin, RowPins, ap, arith, filter, fold, get_or, get_or_default, is_pin_of, length}
use Rattle.readers.proofs.Common.{let_go, not, refl, with_pins, ◌<◌, ◌∙◌, ◌≡◌}
use Rattle.std.proofs.lemmas.List.Elements.{filter-append}
use Rattle.readers.proofs.RowWalks.{fold_end, fold_on, walk_end, walk_on}
use Rattle.readers.proofs.rows.drop_one_in.Goals as goal

pub loop-row-preserved : goal.loop-row-preserved
loop-row-preserved c =
    let i = c.loop-row.row-index in
    let stays = λ (p : Pin). not (is_pin_of c.args.reader c.args.index p) in
    let f = let_go (is_pin_of c.args.reader c.args.index) in
    let less : i < length c.loop-row.rows = omega arith in
    let new = c.drop_one.new.self in
    let x = get_or c.loop-row.rows i new in
    let is : new ≡ with_pins x (filter stays x.pins) = c.drop_one.ensures.left
    ∙ ap (λ (r : RowPins). with_pins r (filter stays r.pins)) (get_or_default c.loop-row.rows i _ new less) in
    let blocks : c.drop_one.new.live ≡ fold f c.loop-row.live x.pins = c.drop_one.ensures.blocks
    ∙ ap (λ (r : RowPins). fold f c.loop-row.live r.pins) (get_or_default c.loop-row.rows i _ new less) in
    let there = get_or_default c.loop-row.rows i new x less in
    record {
      left = walk_on (filter stays) (filter-append stays) c.loop-row.rows i x new less there
          (ap (λ (r : RowPins). r.pins) is)
          ∙ c.loop-row.invariant.left;
      blocks = fold_on f c.loop-row.rows i x new c.loop-row.live c.drop_one.new.live less there blocks
          ∙ c.loop-row.invariant.blocks;
    }

pub returns-clause-left : goal.returns-clause-left
returns-clause-left c =
    walk_end (filter (λ (p : Pin). not (is_pin_of c.args.reader c.args.index p))) refl c.loop-row.rows
    c.loop-row.row-index (omega arith)
    ∙ c.loop-row.invariant.left

pub returns-clause-blocks : goal.returns-clause-blocks
returns-clause-blocks c =
    fold_end (let_go (is_pin_of c.args.reader c.args.index)) c.loop-row.rows c.loop-row.row-index c.loop-row.live
    (omega arith)
    ∙ c.loop-row.invariant.blocks
