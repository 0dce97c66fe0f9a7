use Rattle.std.proofs.Common.{ap}
use Rattle.ufs_spec.specs.Frames.{Frame}
use Rattle.rpmb.proofs.Compared.{wrong_told}
use Rattle.rpmb.proofs.macs.has_wrong_mac.Goals as goal

pub returns-in-Some : goal.returns-in-Some
returns-in-Some c =
    wrong_told c.args.key.now c.args.frames.now c.in-Some.last.now c.read.result.key_or_mac c.frames_mac.result
    c.same_mac.result (ap (λ (f : Frame). f.key_or_mac) c.read.ensures.frame) c.frames_mac.ensures.of_frames
    c.same_mac.ensures
    c.in-Some.ensures.value
