use Rattle.lanes.proofs.Common.{lane_ended}
use Rattle.lanes.proofs.Ended.{done_meets}
use Rattle.lanes.proofs.Made.{call_did, call_meets}
use Rattle.lanes.proofs.calls.try_done.Goals as goal

pub put_back-requires-clause-step : goal.put_back-requires-clause-step
put_back-requires-clause-step g c =
    let die = c.args.die.now in
    call_meets g.D.Die.state c.args.seat.now.me c.seize.new.seat.me _ c.done_opened-known.new.self _
    (λ l. lane_ended l die) (c.seize.ensures.taken c.if-not-seize.false) c.slot_mut.ensures.value
    (done_meets g.D.Die.state g.D.Die.failed _ _ _ _ _ die c.args.seat.now.me.0.lane c.requires.lane
    c.done_opened-known.ensures.known c.done_opened-known.ensures.ended)

pub returns-clause-did : goal.returns-clause-did
returns-clause-did g c =
    let die = c.args.die.now in
    call_did g.D.Die.state c.args.seat.now.me c.seize.new.seat.me _ _ (λ l. lane_ended l die)
    (c.seize.ensures.taken c.if-not-seize.false) c.put_back.ensures.stepped

pub returns-then-not-seize-clause-was_out : goal.returns-then-not-seize-clause-was_out
returns-then-not-seize-clause-was_out g c = c.seize.ensures.was_out c.if-not-seize.true
