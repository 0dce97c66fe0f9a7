use Rattle.std.specs.Prelude.{None}
use Rattle.lanes.proofs.Made.{call_did, call_meets, turn_meets}
use Rattle.lanes.proofs.calls.try_turn.Goals as goal

pub put_back-requires-clause-step : goal.put_back-requires-clause-step
put_back-requires-clause-step g c =
    call_meets g.D.Die.state c.args.seat.now.me c.seize.new.seat.me _ c.turn-due.new.self _ (λ _. None)
    (c.seize.ensures.taken c.if-not-seize.false) c.slot_mut.ensures.value (turn_meets g.D.Die.state _ _ _ _
    c.requires.lane c.turn-due.ensures.stepped)

pub returns-clause-did : goal.returns-clause-did
returns-clause-did g c = call_did g.D.Die.state c.args.seat.now.me c.seize.new.seat.me _ _ (λ _. None)
    (c.seize.ensures.taken c.if-not-seize.false) c.put_back.ensures.stepped

pub returns-then-not-seize-clause-was_out : goal.returns-then-not-seize-clause-was_out
returns-then-not-seize-clause-was_out g c = c.seize.ensures.was_out c.if-not-seize.true
