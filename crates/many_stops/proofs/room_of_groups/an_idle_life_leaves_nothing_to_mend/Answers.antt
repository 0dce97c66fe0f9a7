use Rattle.many_stops.proofs.room_left.IdleLives.{idle_stop}
use Rattle.many_stops.proofs.room_of_groups.an_idle_life_leaves_nothing_to_mend.Goals as goal

pub returns : goal.returns
returns c = record { stop = idle_stop }
