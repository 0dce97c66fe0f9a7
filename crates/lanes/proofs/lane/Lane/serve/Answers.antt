use Rattle.lanes.proofs.Common.{ap, job_of, ◌∙◌}
use Rattle.lanes.proofs.Served.{asked_for_one, finished_one, still_idle}
use Rattle.lanes.proofs.lane.Lane.serve.Goals as goal

pub loop-preserved-in-Did-None : goal.loop-preserved-in-Did-None
loop-preserved-in-Did-None g c =
    let before = c.loop.invariant in
    let e = c.in-Did-None.ensures in
    let own = c.args.self.now in
    let here = c.loop.self in (
      e.table.2,
      e.table.0 ∙ before.1,
      e.table.3 ∙ before.2,
      λ none.
          ap job_of e.did.lane_is
          ∙ still_idle here.view.lane c.in-Did-None.field-0 c.in-Did-None.field-0-is (before.3 none),
      asked_for_one g.D.Die.state own.number here.number own.view here.view c.try_take.new.self.view
          c.in-Did-None.field-0 before.2 before.4 e.did,
    )

pub loop-preserved-in-Did-Some : goal.loop-preserved-in-Did-Some
loop-preserved-in-Did-Some g c =
    let before = c.loop.invariant in
    let e = c.in-Did-Some.ensures in
    let f = c.finish.ensures in
    let own = c.args.self.now in
    let here = c.loop.self in
    let taken = c.try_take.new.self in
    let same = e.table.3 ∙ before.2 in (
      f.ended,
      f.table.0 ∙ e.table.0 ∙ before.1,
      f.table.1 ∙ same,
      λ none. f.idle,
      finished_one g.D.Die.state own.number taken.number own.view taken.view c.finish.new.self.view same
          (asked_for_one g.D.Die.state own.number here.number own.view here.view taken.view
          c.in-Did-Some.field-0 before.2 before.4 e.did) f.did,
    )
