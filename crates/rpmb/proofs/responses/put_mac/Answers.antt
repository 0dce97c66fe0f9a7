use Rattle.rpmb.proofs.Signed.{written_between}
use Rattle.rpmb.proofs.responses.put_mac.Goals as goal

pub returns : goal.returns
returns c =
    written_between c.args.bytes.now c.copy_from_slice.new.self c.args.mac.now c.told-bytes c.told-mac
    c.copy_from_slice.ensures.after
