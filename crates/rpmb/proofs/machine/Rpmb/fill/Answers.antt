use Rattle.std.proofs.Common.{◌∙◌, ◌∷◌, ◌≡◌, List}
use Rattle.rpmb_frame.specs.Fields.{frame_of}
use Rattle.ufs_spec.specs.Frames.{Frame}
use Rattle.rpmb.specs.Requests.{frames_of}
use Rattle.rpmb.proofs.Formed.{asked_as, filled_as, first_told}
use Rattle.rpmb.proofs.machine.Rpmb.fill.Goals as goal

pub returns-in-len1-up : goal.returns-in-len1-up
returns-in-len1-up c = λ region kept has.
    let f = frame_of c.read.result in
    let fs = frames_of c.args.frames.now in
    let first : (more : List Frame) × (f ∷ more ≡ fs) =
    first_told c.whole_frames.result.now f fs c.whole_frames.ensures c.in-len1-up.len_at_least
    c.read.ensures.frame in
    c.answer.ensures region kept (asked_as region c.args.code c.args.blocks.now f fs first has)
    ∙ (λ i. record c.args.self.now {
      registers = filled_as region c.args.code c.args.self.now.registers f fs first i;
    })
