use Rattle.power_loss.proofs.lives.LivesOfRuns.{headline, lives_of, lives_right, more}
use Rattle.power_loss.proofs.runs.a_run_keeps_the_promise.Goals as goal

pub returns-clause-more : goal.returns-clause-more
returns-clause-more c = more

pub returns-clause-lives : goal.returns-clause-lives
returns-clause-lives c = λ n array bad s t es os opened h.
    let r = lives_of opened h in (r.first, r.later, r.lives, r.ends)

pub returns-clause-right : goal.returns-clause-right
returns-clause-right c = lives_right

pub returns-clause-fit : goal.returns-clause-fit
returns-clause-fit c = headline
