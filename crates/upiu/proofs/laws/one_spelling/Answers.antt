use Rattle.ufs_spec.proofs.ReadBack.{one_message}
use Rattle.upiu.proofs.laws.one_spelling.Goals as goal

pub returns : goal.returns
returns c = one_message
