use Rattle.std.proofs.Common.{refl}
use Rattle.upiu.proofs.fields.asked_in.Goals as goal

pub returns : goal.returns
returns c = refl
