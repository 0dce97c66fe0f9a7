use Rattle.std.proofs.Common.{MatchOption, List, subst}
use Rattle.ufs_spec.specs.Frames.{Frame}
use Rattle.rpmb.specs.Requests.{AreMalformed, Asks}
use Rattle.rpmb.proofs.requests.asked_by.Goals as goal

pub returns : goal.returns
returns c =
    subst (λ (fs : List Frame). MatchOption c.request_of.result (AreMalformed fs) (λ r. Asks r fs))
    c.whole_frames.ensures c.request_of.ensures
