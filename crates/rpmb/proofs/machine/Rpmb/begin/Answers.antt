use Rattle.std.proofs.Common.{◌∙◌}
use Rattle.rpmb_frame.specs.Fields.{frame_of}
use Rattle.rpmb.specs.Requests.{frames_of}
use Rattle.rpmb.proofs.Formed.{emptied_as, first_told}
use Rattle.rpmb.proofs.machine.Rpmb.begin.Goals as goal

pub returns-in-len1-up : goal.returns-in-len1-up
returns-in-len1-up c =
    c.empty_for.ensures
    ∙ (λ i. record c.args.self.now {
      registers = emptied_as c.args.self.now.registers (frame_of c.read.result) (frames_of c.args.frames.now)
          (first_told c.whole_frames.result.now (frame_of c.read.result) (frames_of c.args.frames.now)
          c.whole_frames.ensures c.in-len1-up.len_at_least c.read.ensures.frame) i;
    })
