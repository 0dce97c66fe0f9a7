use Rattle.lanes.proofs.Common.{◌∙◌}
use Rattle.lanes.proofs.Waited.{asked_more}
use Rattle.lanes.proofs.port.Port.receive.Goals as goal

pub loop-preserved-in-Did-false : goal.loop-preserved-in-Did-false
loop-preserved-in-Did-false g c =
    let before = c.loop.invariant in
    let e = c.in-Did-false.ensures in
    let none = c.in-Did-false.field-0-test in
    let first = c.args.self.now.view in
    let last = c.try_reply.new.self.view in
    let bytes = c.try_reply.new.into.items in (
      e.table ∙ before.0,
      e.nothing none ∙ before.1,
      asked_more g.D.Die.state first c.loop.self.view last c.in-Did-false.field-0 bytes before.2 none e.did,
    )
