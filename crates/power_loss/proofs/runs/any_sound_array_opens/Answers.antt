use Rattle.power_loss.proofs.openings.EachSoundArrayOpens.{any_opens}
use Rattle.power_loss.proofs.runs.any_sound_array_opens.Goals as goal

pub returns : goal.returns
returns c = any_opens
