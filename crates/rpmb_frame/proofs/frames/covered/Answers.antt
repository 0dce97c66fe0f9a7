use Rattle.std.proofs.Common.{◌∙◌, arith, drop, length-drop}
use Rattle.std.proofs.lemmas.List.{take_all}
use Rattle.rpmb_frame.proofs.Written.{covered_behind}
use Rattle.rpmb_frame.proofs.frames.covered.Goals as goal

pub returns-clause-place : goal.returns-clause-place
returns-clause-place c =
    take_all 284 (drop 228 c.args.bytes.now) (omega (arith, length-drop 228 c.args.bytes.now, c.told-bytes))

pub returns-clause-of_frame : goal.returns-clause-of_frame
returns-clause-of_frame c = λ f is e. returns-clause-place c ∙ covered_behind f c.args.bytes.now is e
