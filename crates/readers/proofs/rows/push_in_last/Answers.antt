use Rattle.readers.proofs.Common.{[], arith, get_or, get_or_default, if◌then◌else◌, length, ◌-◌, ◌<◌, ◌∙◌, ◌∷◌}
use Rattle.readers.proofs.RowWalks.{last_more, last_told, none_told, pushed}
use Rattle.readers.proofs.rows.push_in_last.Goals as goal

pub returns-clause-pins : goal.returns-clause-pins
returns-clause-pins c =
    let rs = c.args.rows.now in
    let i = length rs - 1 in
    let less : i < length rs = omega arith in
    let x = get_or rs i c.index-rows-count.result in
    last_more rs i x c.push.new.self (if c.push.result then c.args.pin ∷ [] else []) (omega arith)
    (get_or_default rs i c.index-rows-count.result x less)
    (pushed c.push.result x c.push.new.self c.args.pin c.push.ensures.after)

pub returns-clause-is : goal.returns-clause-is
returns-clause-is c =
    let rs = c.args.rows.now in
    let i = length rs - 1 in
    let some : 0 < length rs = omega arith in
    let less : i < length rs = omega arith in
    let x = get_or rs i c.index-rows-count.result in
    c.push.ensures.is ∙ last_told rs c.args.pin x some (get_or_default rs i c.index-rows-count.result x less)

pub returns-then-count-eq0-clause-is : goal.returns-then-count-eq0-clause-is
returns-then-count-eq0-clause-is c = none_told c.args.rows.now c.args.pin c.if-count-eq0.true
