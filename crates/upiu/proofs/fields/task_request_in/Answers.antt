use Rattle.std.proofs.Common.{refl}
use Rattle.upiu.proofs.fields.task_request_in.Goals as goal

pub returns : goal.returns
returns c =
    refl
