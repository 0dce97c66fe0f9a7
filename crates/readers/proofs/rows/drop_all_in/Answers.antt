use Rattle.readers.proofs.Common.{Pin, RowPins, ap, arith, filter, is_of_reader, length, length-append, let_go, not}
use Rattle.readers.proofs.Common.{◌+◌, ◌<◌, ◌∙◌, ◌≡◌}
use Rattle.std.proofs.lemmas.List.{length-set}
use Rattle.std.proofs.lemmas.List.Elements.{filter-append}
use Rattle.readers.proofs.RowWalks.{filled_end, filled_gone, filled_on, fold_gone, fold_on, gone_on, none_there, walk_on}
use Rattle.readers.proofs.rows.drop_all_in.Goals as goal

pub loop-at-preserved : goal.loop-at-preserved
loop-at-preserved c =
    let rs = c.loop-at.rows.items in
    let i = c.loop-at.at in
    let stays = λ (p : Pin). not (is_of_reader c.args.reader p) in
    let less : i < length rs = omega arith in
    let x = c.index_mut.result.now in
    let new = c.drop_all.new.self in
    let long = length-set rs i new in
    let as_many = c.loop-at.invariant.as_many in
    record {
      within = omega (arith, long, less);
      left = walk_on (filter stays) (filter-append stays) rs i x new less c.index_mut.ensures.value
          (ap (λ (r : RowPins). r.pins) c.drop_all.ensures.left)
          ∙ c.loop-at.invariant.left;
      blocks = fold_on (let_go (is_of_reader c.args.reader)) rs i x new c.loop-at.live c.drop_all.new.live less
          c.index_mut.ensures.value c.drop_all.ensures.blocks
          ∙ c.loop-at.invariant.blocks;
      filled = filled_on rs i new c.drop_all.result less c.drop_all.ensures.is c.if-drop_all.false
          c.loop-at.invariant.filled;
      as_many = omega (arith, long, as_many);
      rows_room = c.loop-at.invariant.rows_room;
      spare_room = c.loop-at.invariant.spare_room;
    }

pub loop-at-preserved-then-drop_all : goal.loop-at-preserved-then-drop_all
loop-at-preserved-then-drop_all c =
    let rs = c.loop-at.rows.items in
    let i = c.loop-at.at in
    let ts = c.remove.new.self.items in
    let stays = λ (p : Pin). not (is_of_reader c.args.reader p) in
    let less : i < length rs = omega arith in
    let x = c.index_mut.result.now in
    let new = c.drop_all.new.self in
    let none = none_there new.pins c.drop_all.result c.drop_all.ensures.is c.if-drop_all.true in
    let e = c.remove.ensures.by_index.2 in
    let long = length-set rs i new in
    let was = c.loop-at.rows.ok.0 in
    let now = c.remove.new.self.ok.0 in
    let removed = c.remove.ensures.len in
    let fewer : length ts + 1 ≡ length rs = omega (arith, long, was, now, removed) in
    let put = ap length c.push_reserved.ensures.items ∙ length-append c.loop-at.spare.items _ in
    let as_many = c.loop-at.invariant.as_many in
    record {
      within = omega (arith, fewer, less);
      left = gone_on (filter stays) (filter-append stays) rs ts i x new less c.index_mut.ensures.value
          (ap (λ (r : RowPins). r.pins) c.drop_all.ensures.left) none e
          ∙ c.loop-at.invariant.left;
      blocks = fold_gone (let_go (is_of_reader c.args.reader)) rs ts i x new c.loop-at.live c.drop_all.new.live less
          c.index_mut.ensures.value c.drop_all.ensures.blocks e
          ∙ c.loop-at.invariant.blocks;
      filled = filled_gone rs ts i new less e c.loop-at.invariant.filled;
      as_many = omega (arith, fewer, put, as_many);
      rows_room = c.remove.ensures.capacity ∙ c.loop-at.invariant.rows_room;
      spare_room = c.push_reserved.ensures.capacity ∙ c.loop-at.invariant.spare_room;
    }

pub returns-clause-filled : goal.returns-clause-filled
returns-clause-filled c =
    filled_end c.loop-at.rows.items c.loop-at.at (omega arith) c.loop-at.invariant.filled
