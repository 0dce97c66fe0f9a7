use Rattle.std.proofs.Common.{◌≡◌, ◌++◌, ◌∷◌, ◌∙◌, [], ap, map, sym, false, true}
use Rattle.ufs_spec.specs.Frames.{frame_bytes}
use Rattle.ufs_spec.specs.RpmbResponses.{is_success}
use Rattle.rpmb_frame.specs.Fields.{frame_of}
use Rattle.rpmb.specs.Answers.{data_bytes}
use Rattle.rpmb.proofs.DataFrames.{data_of_all, data_of_none}
use Rattle.rpmb.proofs.responses.put_data.Goals as goal

pub returns-then-is_success-clause-frames : goal.returns-then-is_success-clause-frames
returns-then-is_success-clause-frames c = λ region has.
    let success : is_success c.args.code ≡ true = sym c.is_success.ensures ∙ c.if-is_success.true in
    c.push_data.ensures.frames
    ∙ (λ i. c.clear.ensures.items i
    ++ map (data_bytes (frame_of c.args.asked.now) c.args.code) (c.as_chunks.ensures.front i))
    ∙ data_of_all region (frame_of c.args.asked.now) c.args.code c.args.blocks.now success has

pub returns-else-is_success-clause-frames : goal.returns-else-is_success-clause-frames
returns-else-is_success-clause-frames c = λ region has.
    let failed : is_success c.args.code ≡ false = sym c.is_success.ensures ∙ c.if-is_success.false in
    c.push_reserved.ensures.items
    ∙ (λ i. c.clear.ensures.items i ++ (c.bytes_of.ensures ∙ ap frame_bytes c.data_response.ensures) i ∷ [])
    ∙ data_of_none region (frame_of c.args.asked.now) c.args.code failed
