use Rattle.std.proofs.Common.{◌∙◌}
use Rattle.ufstool.proofs.RpmbWritten.{request_written}
use Rattle.ufstool.proofs.rpmb.try_lines.Goals as goal

pub returns-clause-lines : goal.returns-clause-lines
returns-clause-lines g c =
    let a = c.args in
    request_written _ _ _ _ a.task a.region _ _ _ _ c.in_ok-write_sent.ensures c.in_ok-write_fetched.ensures
    c.flush.ensures.bytes (c.as_slice.ensures.value ∙ c.in_ok-frames.ensures.frames) c.response_size.ensures
