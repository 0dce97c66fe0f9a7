use Rattle.heard_laws.proofs.headline.the_promise_is_read_off_the_bytes.Goals as goal
use Rattle.heard_laws.proofs.lives.HeardLives.{headline_is_heard}

pub returns : goal.returns
returns c = headline_is_heard
