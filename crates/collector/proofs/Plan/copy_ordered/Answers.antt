use Rattle.std.proofs.Common.{◌∙◌, ap}
use Rattle.collector.proofs.LiveBelow.{after, ordered_one, with_plan}
use Rattle.collector.proofs.Plan.copy_ordered.Goals as goal

pub returns-then-self-len : goal.returns-then-self-len
returns-then-self-len c =
    with_plan c.self.inside.pages (ordered_one c.self.inside.victim c.self.inside.copies.items c.self.inside.ordered)
    ∙ ap after c.self.view_is
