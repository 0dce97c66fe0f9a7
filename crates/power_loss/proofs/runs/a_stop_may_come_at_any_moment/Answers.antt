use Rattle.power_loss.proofs.stops.LawfulLeftovers.{each_stops, stops_lawful}
use Rattle.power_loss.proofs.lives.StopsOfRuns.{run_ends, run_leaves, stop_goes, stop_of_opened}
use Rattle.power_loss.proofs.runs.a_stop_may_come_at_any_moment.Goals as goal

pub returns-clause-leaves : goal.returns-clause-leaves
returns-clause-leaves c = run_leaves

pub returns-clause-ends : goal.returns-clause-ends
returns-clause-ends c = run_ends

pub returns-clause-goes : goal.returns-clause-goes
returns-clause-goes c = stop_goes

pub returns-clause-each : goal.returns-clause-each
returns-clause-each c = each_stops

pub returns-clause-no_other : goal.returns-clause-no_other
returns-clause-no_other c = stops_lawful

pub returns-clause-again : goal.returns-clause-again
returns-clause-again c = stop_of_opened
