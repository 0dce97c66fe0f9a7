use Rattle.readers.proofs.Common.{List, RowPins, [], ap, if◌then◌else◌, length, pins_in, ◌++◌, ◌∙◌, ◌∷◌}
use Rattle.readers.proofs.RowWalks.{begun_more, written}
use Rattle.readers.proofs.rows.push_in.Goals as goal

pub returns-in-Some-clause-pins : goal.returns-in-Some-clause-pins
returns-in-Some-clause-pins c =
    let came = if c.push_in_last.result then c.args.pin ∷ [] else [] in
    let long = c.push_in_last.auto.rows in
    let old = c.args.rows.now in
    let first = c.as_mut_slice.ensures.value in
    ap pins_in c.push_reserved.ensures.items
    ∙ ap (λ (ts : List RowPins). pins_in (ts ++ c.begin.new.self ∷ []))
    (written old.len old.items c.push_in_last.new.rows old.ok.0 (long ∙ ap length first))
    ∙ begun_more c.args.rows.now.items c.push_in_last.new.rows c.begin.new.self c.args.pin c.push_in_last.result
    c.if-push_in_last.false
    (c.push_in_last.ensures.pins ∙ ap (λ (rs : List RowPins). pins_in rs ++ came) c.as_mut_slice.ensures.value)
    c.begin.ensures
