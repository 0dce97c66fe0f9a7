use Rattle.std.proofs.Common.{arith}
use Rattle.sha256_lanes.proofs.KeyedRows.{keyed_to_at}
use Rattle.sha256_lanes.proofs.keyed.four_rows.Goals as goal

pub returns : goal.returns
returns c = λ j h b held.
    let s1 = c.next_row.ensures j h b held in
    let s2 = c.next_row-2.ensures j h b s1 in
    let s3 = c.next_row-3.ensures j h b (keyed_to_at b j _ _ _ _ (omega arith) s2) in
    let s4 = c.next_row-4.ensures j h b (keyed_to_at b j _ _ _ _ (omega arith) s3) in
    keyed_to_at b j _ _ _ _ (omega arith) s4
