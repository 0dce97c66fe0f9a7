use Rattle.ufsim.proofs.Counting.{unread_more}
use Rattle.ufsim.proofs.tally.Tally.add_unread.Goals as goal

pub invariant_of-self : goal.invariant_of-self
invariant_of-self c = unread_more _ _ _ c.self.invariant c.saturating_add-self-inside.ensures
