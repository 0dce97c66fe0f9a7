use Rattle.power_loss.proofs.room_to_mend.RunsWithRoom.{few_lost_go_on, lives_never_stuck, runs_never_stuck}
use Rattle.power_loss.proofs.mending_room.lives_with_room_go_on.Goals as goal

pub returns-clause-few_lost : goal.returns-clause-few_lost
returns-clause-few_lost c = few_lost_go_on

pub returns-clause-lives : goal.returns-clause-lives
returns-clause-lives c = lives_never_stuck

pub returns-clause-runs : goal.returns-clause-runs
returns-clause-runs c = runs_never_stuck
