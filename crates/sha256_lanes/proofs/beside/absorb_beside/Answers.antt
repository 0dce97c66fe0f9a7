use Rattle.std.proofs.Common.{◌≡◌, ◌*◌, arith}
use Rattle.sha256_lanes.specs.Keyed.{part}
use Rattle.sha256_lanes.proofs.KeyedRows.{first_done, keyed_at}
use Rattle.sha256_lanes.proofs.Tails.{part_first, part_next}
use Rattle.sha256_lanes.proofs.beside.absorb_beside.Goals as goal

pub lanes-init : goal.lanes-init
lanes-init c = (
  λ p four. part_first p c.args.state.now _ (c.compress_first.ensures.state (part p 0) (four 0 (omega arith))),
  λ j h. first_done (part c.args.bytes.now j) j _ _ (omega arith) (c.compress_first.ensures.rows j h),
)

pub lanes-preserved : goal.lanes-preserved
lanes-preserved c = (
  λ p four.
      let lane = c.lanes.lane in
      part_next c.args.state.now p c.lanes.state _ lane (c.lanes.invariant.0 p four)
      (c.compress_beside.ensures.state (part p lane) (four lane (omega arith))),
  λ j h. c.compress_beside.ensures.rows j h (part c.args.bytes.now j) (c.lanes.invariant.1 j h),
)

pub returns-clause-state : goal.returns-clause-state
returns-clause-state c = λ p four.
    let done : c.lanes.lane ≡ 4 = omega (arith, c.lanes.auto.lane-end (omega arith)) in
    rw done at (c.lanes.invariant.0 p four)

pub returns-clause-rows : goal.returns-clause-rows
returns-clause-rows c = λ j h.
    let done : 16 * c.lanes.lane ≡ 64 = omega (arith, c.lanes.auto.lane-end (omega arith)) in
    keyed_at _ _ j _ 64 done (c.lanes.invariant.1 j h).1
