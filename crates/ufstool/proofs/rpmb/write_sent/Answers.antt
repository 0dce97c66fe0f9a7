use Rattle.ufstool.proofs.RpmbWritten.{sent_written}
use Rattle.ufstool.proofs.rpmb.write_sent.Goals as goal

pub returns : goal.returns
returns g c =
    let a = c.args in
    sent_written _ _ _ _ a.task a.region a.frames.now _ _ c.in_ok-write_asked.ensures c.in_ok-write_line.ensures
    c.in_ok-write_all.ensures.bytes c.security_out.ensures.bytes c.data_message.ensures.bytes
