use Rattle.lanes.proofs.DoneJobs.{done_left}
use Rattle.lanes.proofs.laws.a_job_that_is_done_may_be_left.Goals as goal

pub returns : goal.returns
returns c = λ failed now pages blocks before after j o few size can did.
    done_left pages blocks before few size failed now after j o can did
