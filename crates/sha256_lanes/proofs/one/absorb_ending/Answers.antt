use Rattle.std.proofs.Common.{◌-◌, arith, drop}
use Rattle.sha256_lanes.proofs.Tails.{blocks_more, four_of}
use Rattle.sha256_lanes.proofs.one.absorb_ending.Goals as goal

pub returns-then-count-le4 : goal.returns-then-count-le4
returns-then-count-le4 c =
    let four = four_of c.args.bytes.now _ (omega arith) (rw c.split_at.ensures.front at c.keyed_rows.ensures) in
    c.absorb_rows.ensures c.args.bytes.now (λ j lt. four j (omega arith))

pub returns : goal.returns
returns c =
    let p = c.args.bytes.now in
    let four = four_of p _ (omega arith) (rw c.split_at.ensures.front at c.keyed_rows.ensures) in
    let rest = rw c.split_at.ensures.back at c.keyed_rows-2.ensures in
    blocks_more c.args.state.now p c.absorb_rows-2.new.state _ 4 (c.args.count - 4) c.args.count
    (c.absorb_rows-2.ensures p four) (omega arith)
    (c.absorb_rows-3.ensures (drop 256 p) (λ j lt. rest j (omega arith))) (omega arith)
