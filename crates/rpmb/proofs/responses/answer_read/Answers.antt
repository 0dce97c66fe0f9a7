use Rattle.std.proofs.Common.{◌∙◌, ap, map, sym, List, ℕ, Option}
use Rattle.ufs_spec.specs.Frames.{frame_bytes}
use Rattle.ufs_spec.specs.RpmbResponses.{data_responses, signed}
use Rattle.rpmb_frame.specs.Fields.{frame_of}
use Rattle.rpmb.proofs.DataFrames.{data_have}
use Rattle.rpmb.proofs.responses.answer_read.Goals as goal

pub returns-clause-frames : goal.returns-clause-frames
returns-clause-frames c = λ region is_key has.
    let fs = data_responses region (frame_of c.args.asked.now) c.args.code in
    c.sign_all.ensures.frames fs (data_have region (frame_of c.args.asked.now) c.args.code)
    (c.put_data.ensures.frames region has)
    ∙ ap (λ (o : Option (List ℕ)). map frame_bytes (signed o fs)) (sym is_key)
