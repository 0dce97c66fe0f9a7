use Rattle.std.proofs.Common.{arith}
use Rattle.sha256_lanes.proofs.KeyedRows.{keyed_to_at}
use Rattle.sha256_lanes.proofs.beside.steps_beside.Goals as goal

pub returns-clause-rows : goal.returns-clause-rows
returns-clause-rows c = λ j h b held.
    let s1 = c.step_beside-v.ensures.rows j h b held in
    let s2 = c.step_beside-v-2.ensures.rows j h b s1 in
    let s3 = c.step_beside-v-3.ensures.rows j h b (keyed_to_at b j _ _ _ _ (omega arith) s2) in
    let s4 = c.step_beside.ensures.rows j h b (keyed_to_at b j _ _ _ _ (omega arith) s3) in
    keyed_to_at b j _ _ _ _ (omega arith) s4
