use Rattle.std.specs.Prelude.{None, Some, refl}
use Rattle.ufs_spec.specs.declared.events.Output.TheVariants as output
use Rattle.lanes.proofs.Made.{call_did, call_meets, reply_meets}
use Rattle.lanes.proofs.calls.try_reply.Goals as goal

pub put_back-requires-clause-step : goal.put_back-requires-clause-step
put_back-requires-clause-step g c =
    let told = output.Reply (Some c.reply-due.new.into) in
    call_meets g.D.Die.state c.args.seat.now.me c.seize.new.seat.me _ c.reply-due.new.self _ (λ _. None)
    (c.seize.ensures.taken c.if-not-seize.false) c.slot_mut.ensures.value
    (reply_meets g.D.Die.state _ _ _ _ told _ refl c.requires.lane c.reply-due.ensures.replied
    c.reply-due.ensures.silent)

pub returns-clause-did : goal.returns-clause-did
returns-clause-did g c =
    call_did g.D.Die.state c.args.seat.now.me c.seize.new.seat.me _ _ (λ _. None)
    (c.seize.ensures.taken c.if-not-seize.false) c.put_back.ensures.stepped

pub returns-then-not-seize-clause-was_out : goal.returns-then-not-seize-clause-was_out
returns-then-not-seize-clause-was_out g c = c.seize.ensures.was_out c.if-not-seize.true
