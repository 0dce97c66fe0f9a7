use Rattle.lanes.proofs.LateReplies.{none_late_here, none_late_seen}
use Rattle.lanes.proofs.laws.no_reply_of_an_aborted_task_is_handed_out.Goals as goal

pub returns-clause-steps : goal.returns-clause-steps
returns-clause-steps g c = λ opening start s end before between after abort reply tag is opened legal aborts none rest late.
    none_late_here g.D.Die.state opening is before between after abort reply tag none late start s end opened legal
    aborts rest

pub returns-clause-seen : goal.returns-clause-seen
returns-clause-seen g c = λ opening before between after abort reply tag is legal aborts none late.
    none_late_seen g.D.Die.state opening is before between after abort reply tag none late legal aborts
