use Rattle.lanes.proofs.Common.{◌∙◌}
use Rattle.lanes.proofs.Served.{turned_more}
use Rattle.lanes.proofs.keeper.Keeper.serve.Goals as goal

pub loop-preserved-in-Did-true : goal.loop-preserved-in-Did-true
loop-preserved-in-Did-true g c =
    let before = c.loop.invariant in
    let e = c.in-Did-true.ensures in (
      e.table ∙ before.0,
      turned_more g.D.Die.state c.args.self.now.view c.loop.self.view c.try_turn.new.self.view c.in-Did-true.field-0
          before.1 e.did,
    )

pub loop-preserved-in-Did-false : goal.loop-preserved-in-Did-false
loop-preserved-in-Did-false g c =
    let before = c.loop.invariant in
    let e = c.in-Did-false.ensures in (
      e.table ∙ before.0,
      turned_more g.D.Die.state c.args.self.now.view c.loop.self.view c.try_turn.new.self.view c.in-Did-false.field-0
          before.1 e.did,
    )
