use Rattle.std.proofs.Common.{◌∙◌, ap, arith, refl}
use Rattle.sha2.specs.Sha256.{add_state, compress, rounds}
use Rattle.sha256_lanes.proofs.KeyedRows.{keyed_to_at}
use Rattle.sha256_lanes.proofs.beside.compress_beside.Goals as goal

pub returns-clause-state : goal.returns-clause-state
unfolding compress rounds
returns-clause-state c = λ b rowed.
    let h = c.args.state.now in
    let s1 = c.steps_beside-v.ensures.rounds b h rowed refl in
    let s2 = c.steps_beside-v-2.ensures.rounds b h rowed s1 in
    let s3 = c.steps_beside-v-3.ensures.rounds b h rowed s2 in
    let s4 = c.steps_beside-v-4.ensures.rounds b h rowed s3 in
    c.added.ensures ∙ ap (add_state h) s4

pub returns-clause-rows : goal.returns-clause-rows
returns-clause-rows c = λ j h b held.
    let s1 = c.steps_beside-v.ensures.rows j h b (keyed_to_at b j _ _ _ _ (omega arith) held) in
    let s2 = c.steps_beside-v-2.ensures.rows j h b s1 in
    let s3 = c.steps_beside-v-3.ensures.rows j h b s2 in
    let s4 = c.steps_beside-v-4.ensures.rows j h b s3 in
    keyed_to_at b j _ _ _ _ (omega arith) s4
