use Rattle.std.proofs.Common.{arith}
use Rattle.sha2.proofs.Schedule256.{IsRoundsAt_at}
use Rattle.sha256_lanes.proofs.rounds.four_steps.Goals as goal

pub returns : goal.returns
returns c = λ j h b first held.
    let s1 = c.step-v.ensures j h b first held in
    let s2 = c.step-v-2.ensures j h b first s1 in
    let s3 = c.step-v-3.ensures j h b first (IsRoundsAt_at b first _ _ _ _ (omega arith) s2) in
    let s4 = c.step.ensures j h b first (IsRoundsAt_at b first _ _ _ _ (omega arith) s3) in
    IsRoundsAt_at b first _ _ _ _ (omega arith) s4
