use Rattle.std.proofs.Common.{[], arith}
use Rattle.rpmb.proofs.Signed.{signed_all}
use Rattle.rpmb.proofs.responses.sign.Goals as goal

pub returns-in-Some-last_mut : goal.returns-in-Some-last_mut
returns-in-Some-last_mut c = λ fs have e.
    signed_all c.args.key.now c.in-Some.key c.args.frames.now fs c.in-Some-last_mut.last.now c.frames_mac-mac.result
    c.put_mac.new.bytes c.in-Some.is have e (c.in-Some-last_mut.ensures.item.4 (omega arith) [])
    c.frames_mac-mac.ensures.of_bytes c.put_mac.ensures
