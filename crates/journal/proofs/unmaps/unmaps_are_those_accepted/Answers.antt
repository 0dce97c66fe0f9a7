use Rattle.journal.proofs.UnmapLists.{same_accepted}
use Rattle.journal.proofs.unmaps.unmaps_are_those_accepted.Goals as goal

pub returns : goal.returns
returns c = λ s task unit list there long. same_accepted s task unit list there long
