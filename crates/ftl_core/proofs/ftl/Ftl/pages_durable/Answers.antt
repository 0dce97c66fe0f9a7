use Rattle.ftl_core.proofs.Common.{Core, ap, drop, ◌∙◌, ◌≡◌}
use Rattle.std.proofs.Common.{slice_get}
use Rattle.ftl_core.specs.Ends.{page_landed}
use Rattle.ftl_core.proofs.group_settled.Settling.{land_first, landed_none, landed_some, next_landed}
use Rattle.ftl_core.proofs.ftl.Ftl.pages_durable.Goals as goal
use Rattle.ftl_core.proofs.ftl.Ftl.pages_durable.Goals.{in-Some, in_default}

pub loop-preserved : goal.loop-preserved
loop-preserved c =
    let was = c.loop.self in
    let left = record was { pages = drop 1 was.pages } in
    let landing : c.match-land.self ≡ land_first was =
    elim c.match-land.branch [
      | in-Some w ↦
          w.self-is ∙ w.landed.ensures
          ∙ ap (λ (z : Core). page_landed z w.in-Some.page) c.land.ensures.after
          ∙ landed_some left (slice_get was.pages 0) c.land.result w.in-Some.page c.land.ensures.where_it_is
          w.in-Some.is
      | in_default w ↦
          w.self-is ∙ c.land.ensures.after
          ∙ landed_none left (slice_get was.pages 0) c.land.result c.land.ensures.where_it_is w.in_default.not-Some
    ] in
    next_landed c.args.self.now was c.match-land.self c.loop.counter c.loop.invariant landing
