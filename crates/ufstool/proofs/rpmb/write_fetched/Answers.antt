use Rattle.ufstool.proofs.RpmbWritten.{fetched_written}
use Rattle.ufstool.proofs.rpmb.write_fetched.Goals as goal

pub returns : goal.returns
returns g c =
    let a = c.args in
    fetched_written _ _ _ a.task a.region a.size c.in-Some.size _ c.in_ok-write_asked.ensures
    c.in_ok-write_all.ensures.bytes c.security_in.ensures.bytes c.in-Some.is
