use Rattle.many_stops.proofs.Common.{arith, ⊎_elim}
use Rattle.many_stops.proofs.room_left.HandedPages.{handed_or_not}
use Rattle.many_stops.proofs.room_left.MovesLeaveRoom.{move_leaves, opening_leaves}
use Rattle.many_stops.proofs.room_of_groups.groups_leave_their_room_at_each_stop.Goals as goal

pub returns-clause-opened : goal.returns-clause-opened
returns-clause-opened c = opening_leaves

pub returns-clause-each_move : goal.returns-clause-each_move
returns-clause-each_move c = move_leaves

pub returns-clause-stop : goal.returns-clause-stop
returns-clause-stop c = λ t r handed.
    ⊎_elim (λ l. omega (arith, l)) (λ o. let l = o.short in omega (arith, l)) (r.room handed).any

pub returns-clause-either : goal.returns-clause-either
returns-clause-either c = handed_or_not
