use Rattle.std.proofs.Common.{◌∙◌}
use Rattle.ufsim.proofs.Counting.{bad_more, good_more}
use Rattle.ufsim.proofs.tally.Tally.add.Goals as goal

pub invariant_of-self : goal.invariant_of-self
invariant_of-self c =
    bad_more _ _ _ _ c.self.invariant c.requires.tried.0 c.requires.tried.1
    (c.requires.tried.2 ∙ c.if-not-is_good.true) c.saturating_add-self-inside.ensures
    c.saturating_add-self-inside-then-not-is_good.ensures

pub invariant_of-self-else-not-is_good : goal.invariant_of-self-else-not-is_good
invariant_of-self-else-not-is_good c =
    good_more _ _ _ c.self.invariant c.requires.tried.0 c.requires.tried.1
    (c.requires.tried.2 ∙ c.if-not-is_good.false) c.saturating_add-self-inside.ensures
