use Rattle.std.proofs.Common.{◌≡◌, ◌+◌, ◌++◌, map, take, vec_capacity, vec_len}
use Rattle.rpmb_frame.specs.Fields.{frame_of}
use Rattle.rpmb.specs.Answers.{data_bytes}
use Rattle.rpmb.proofs.responses.push_data.Given as goal

-- the frames of the blocks so far are there
abbrev pub invariant-loop-block : goal.invariant-loop-block
invariant-loop-block l =
    record {
      frames : l.response.items
          ≡ l.fn.response.items ++ map (data_bytes (frame_of l.asked) l.code) (take l.block-index l.blocks);
      few : vec_len l.response ≡ vec_len l.fn.response + l.block-index;
      room : vec_capacity l.response ≡ vec_capacity l.fn.response;
    }
