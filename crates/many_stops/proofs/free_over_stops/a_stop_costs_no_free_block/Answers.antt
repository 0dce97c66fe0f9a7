use Rattle.many_stops.proofs.free_at_stops.FreeAtStops.{found_blank, none_lost}
use Rattle.many_stops.proofs.free_at_stops.MovesKeepFree.{all_end_well, due_keeps, life_costs_none, move_keeps}
use Rattle.many_stops.proofs.free_at_stops.MovesKeepFree.{opening_keeps, stop_costs_none}
use Rattle.many_stops.proofs.free_over_stops.a_stop_costs_no_free_block.Goals as goal

pub returns-clause-opened : goal.returns-clause-opened
returns-clause-opened c = opening_keeps

pub returns-clause-each_move : goal.returns-clause-each_move
returns-clause-each_move c = move_keeps

pub returns-clause-no_failure : goal.returns-clause-no_failure
returns-clause-no_failure c = all_end_well

pub returns-clause-at_order : goal.returns-clause-at_order
returns-clause-at_order c = due_keeps

pub returns-clause-stop : goal.returns-clause-stop
returns-clause-stop c = stop_costs_none

pub returns-clause-blank : goal.returns-clause-blank
returns-clause-blank c = found_blank

pub returns-clause-none_stale : goal.returns-clause-none_stale
returns-clause-none_stale c = λ t left next s v none crash o. none_lost v crash o none s

pub returns-clause-life : goal.returns-clause-life
returns-clause-life c = life_costs_none
