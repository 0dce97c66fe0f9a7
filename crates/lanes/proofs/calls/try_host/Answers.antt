use Rattle.std.specs.Prelude.{None}
use Rattle.lanes.proofs.Made.{call_did, call_meets, host_meets}
use Rattle.lanes.proofs.Vectors.{vector_of}
use Rattle.lanes.proofs.calls.try_host.Goals as goal

pub put_back-requires-clause-step : goal.put_back-requires-clause-step
put_back-requires-clause-step g c =
    let told = vector_of c.args.bytes.now (c.is_in_memory.ensures) in
    call_meets g.D.Die.state c.args.seat.now.me c.seize.new.seat.me _ c.host-result.new.self _ (λ _. None)
    (c.seize.ensures.taken c.if-not-seize.false) c.slot_mut.ensures.value
    (host_meets g.D.Die.state _ _ c.args.bytes.now told.0 _ _ told.1 c.requires.lane c.host-result.ensures.heard)

pub returns-clause-did : goal.returns-clause-did
returns-clause-did g c =
    call_did g.D.Die.state c.args.seat.now.me c.seize.new.seat.me _ _ (λ _. None)
    (c.seize.ensures.taken c.if-not-seize.false) c.put_back.ensures.stepped

pub returns-then-not-seize-clause-was_out : goal.returns-then-not-seize-clause-was_out
returns-then-not-seize-clause-was_out g c = c.seize.ensures.was_out c.if-not-seize.true
