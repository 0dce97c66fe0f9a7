use Rattle.power_loss.proofs.accepted_groups.ClaimedSlots.{never_overdrawn}
use Rattle.power_loss.proofs.slots_are_never_overdrawn.Goals as goal

pub returns : goal.returns
returns c = record { within = never_overdrawn }
