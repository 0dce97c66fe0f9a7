use Rattle.die_map.proofs.survey.set_written.Goals as goal

pub returns-in-Ok : goal.returns-in-Ok
returns-in-Ok c = λ a. c.in-Ok.ensures.updates.0 a
