use Rattle.std.proofs.Common.{◌≡◌, ◌*◌, arith}
use Rattle.sha256_lanes.specs.Keyed.{part}
use Rattle.sha256_lanes.proofs.KeyedRows.{first_done, keyed_at, keyed_to_at}
use Rattle.sha256_lanes.proofs.keyed.keyed_rows.Goals as goal

pub turns-init : goal.turns-init
turns-init c = λ j h. first_done (part c.args.bytes.now j) j _ _ (omega arith) (c.first_rows.ensures j h)

pub turns-preserved : goal.turns-preserved
turns-preserved c = λ j h.
    let b = part c.args.bytes.now j in
    let s1 = c.four_rows.ensures j h b (keyed_to_at b j _ _ _ _ (omega arith) (c.turns.invariant j h)) in
    let s2 = c.four_rows-in-turns.ensures j h b s1 in
    let s3 = c.four_rows-in-turns-2.ensures j h b s2 in
    let s4 = c.four_rows-in-turns-3.ensures j h b s3 in
    keyed_to_at b j _ _ _ _ (omega arith) s4

pub returns : goal.returns
returns c = λ j h.
    let done : 16 * c.turns.turn ≡ 64 = omega (arith, c.turns.auto.turn-end (omega arith)) in
    keyed_at _ _ j _ 64 done (c.turns.invariant j h).1
