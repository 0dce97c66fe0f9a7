use Rattle.power_loss.proofs.die_pages.LeftoversLeaveOneArray.{left_named, left_unnamed, one_failure, one_left}
use Rattle.power_loss.proofs.runs.one_array_is_left.Goals as goal

pub returns-clause-named : goal.returns-clause-named
returns-clause-named c = λ s lefts left l p page stops there names. left_named s.array lefts stops.fit.1 left
    stops.is_left p (l, there, names)

pub returns-clause-unnamed : goal.returns-clause-unnamed
returns-clause-unnamed c = λ s lefts left p stops none. left_unnamed s.array lefts stops.fit.1 left stops.is_left p none

pub returns-clause-one : goal.returns-clause-one
returns-clause-one c = λ s lefts left other fit is its. one_left s.array lefts fit.1 left other is its

pub returns-clause-failed : goal.returns-clause-failed
returns-clause-failed c = one_failure
