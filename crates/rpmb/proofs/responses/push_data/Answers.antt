use Rattle.std.proofs.Common.{◌∙◌, ◌∷◌, ◌++◌, [], List, ℕ, ap, append_assoc, arith, map, sym, take}
use Rattle.std.proofs.lemmas.List.{map_more}
use Rattle.ufs_spec.specs.Frames.{frame_bytes}
use Rattle.rpmb_frame.specs.Fields.{frame_of}
use Rattle.rpmb.specs.Answers.{data_bytes}
use Rattle.rpmb.proofs.responses.push_data.Goals as goal

pub loop-block-preserved : goal.loop-block-preserved
loop-block-preserved c =
    let made = map (data_bytes (frame_of c.args.asked.now) c.args.code)
    (take c.loop-block.block-index c.args.blocks.now) in
    record {
      frames = c.push_reserved.ensures.items
          ∙ (λ i. c.loop-block.invariant.frames i
          ++ (c.bytes_of.ensures ∙ ap frame_bytes c.data_response.ensures) i ∷ [])
          ∙ append_assoc c.args.response.now.items made _
          ∙ ap (λ (l : List (List ℕ)). c.args.response.now.items ++ l)
          (sym (map_more (data_bytes (frame_of c.args.asked.now) c.args.code) c.args.blocks.now
          c.loop-block.block-index [] c.loop-block-test.true));
      few = omega arith;
      room = c.push_reserved.ensures.capacity ∙ c.loop-block.invariant.room;
    }
