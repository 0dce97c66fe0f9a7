use Rattle.recovery.proofs.Common.{Key, shape_of_numbers}
use Rattle.std.proofs.Common.{Global, Vec}
use Rattle.recovery.proofs.key_order.LostKeys.{lost_result}
use Rattle.recovery.proofs.keys.lost_keys.Goals as goal

pub returns : goal.returns
returns c =
    lost_result (λ (v : Vec Key Global). v.items) c.marked_keys.result (shape_of_numbers c.args.numbers.now)
    c.args.pages.now c.args.low c.in_ok-marked.marked.items c.as_slice.result.now c.in_ok-marked.ensures.each_key
    c.in_ok-marked.ensures.lost c.as_slice.ensures.value c.marked_keys.ensures
