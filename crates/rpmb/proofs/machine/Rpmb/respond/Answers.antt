use Rattle.std.proofs.Common.{◌∙◌, ap, option_copied, [], ℕ}
use Rattle.ufs_spec.specs.RpmbResponses.{filled_with}
use Rattle.rpmb.specs.Requests.{frames_of}
use Rattle.rpmb.proofs.Filled.{lost_asks, lost_told}
use Rattle.rpmb.proofs.machine.Rpmb.respond.Goals as goal

pub returns-in-None : goal.returns-in-None
returns-in-None c = λ region pages kept read.
    let fs = frames_of c.args.frames.now in
    c.fill.ensures region kept (lost_asks region fs c.args.code [])
    ∙ ap (λ (code : ℕ). record c.args.self.now {
      registers = filled_with region fs code c.args.self.now.registers;
    }) (lost_told region fs c.args.code pages (option_copied c.args.blocks) (ap option_copied c.in-None.is) read)
