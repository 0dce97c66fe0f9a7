use Rattle.ufs_handle.proofs.HandleCalls.{gives_job}
use Rattle.ufs_handle.proofs.handle.Handle.take_job.Goals as goal

pub returns : goal.returns
returns c =
    gives_job c.args.die c.args.shown.now c.take-answer.new.shown c.args.self.now.value c.put.new.self.value
    c.in_ok-held.held.value c.deref_mut.result.now c.take-answer.new.self c.take-answer.result
    c.in_ok-held.ensures.some.0 c.in_ok-held.ensures.some.1 c.deref_mut.ensures.value c.put.ensures
    c.take-answer.ensures
