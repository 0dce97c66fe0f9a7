use Rattle.lanes.proofs.Common.{Did, Job, Option, lane_given, subst, sym}
use Rattle.lanes.specs.declared.view.Made.TheVariants as made
use Rattle.lanes.proofs.Made.{call_did, call_meets, take_meets}
use Rattle.lanes.proofs.calls.try_take.Goals as goal

pub put_back-requires-clause-step : goal.put_back-requires-clause-step
put_back-requires-clause-step g c =
    call_meets g.D.Die.state c.args.seat.now.me c.seize.new.seat.me _ c.take_unsealed-job.new.self _ (λ l. lane_given l
    c.take_unsealed-job.result) (c.seize.ensures.taken c.if-not-seize.false) c.slot_mut.ensures.value (take_meets
    g.D.Die.state _ _ _ _ c.args.seat.now.me.0.lane c.requires.lane c.take_unsealed-job.ensures.given)

pub returns-clause-did : goal.returns-clause-did
returns-clause-did g c =
    let was = c.args.seat.now.me in
    subst
    (λ (j : Option Job). Did g.D.Die.state was.0 (made.Take c.args.die j) (lane_given was.0.lane j)
    c.put_back.new.seat.me.0)
    (sym c.sealed.ensures)
    (call_did g.D.Die.state was c.seize.new.seat.me _ _ (λ l. lane_given l c.take_unsealed-job.result)
    (c.seize.ensures.taken c.if-not-seize.false) c.put_back.ensures.stepped)

pub returns-then-not-seize-clause-was_out : goal.returns-then-not-seize-clause-was_out
returns-then-not-seize-clause-was_out g c = c.seize.ensures.was_out c.if-not-seize.true
