use Rattle.std.proofs.Common.{◌∙◌, ap}
use Rattle.rpmb_frame.specs.Fields.{frame_of}
use Rattle.ufs_spec.specs.Rpmb.{mac}
use Rattle.rpmb.proofs.Signed.{signed_alone}
use Rattle.rpmb.proofs.responses.signed.Goals as goal

pub returns-in-Some : goal.returns-in-Some
returns-in-Some c = λ places.
    signed_alone c.args.key.now c.in-Some.key (frame_of c.args.frame.now) c.bytes_of-bytes.result c.mac-mac.result
    c.put_mac.new.bytes c.in-Some.is places c.bytes_of-bytes.ensures
    (c.mac-mac.ensures ∙ ap (mac c.in-Some.key) c.covered.ensures.place) c.put_mac.ensures
