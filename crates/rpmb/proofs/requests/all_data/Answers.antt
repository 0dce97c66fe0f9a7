use Rattle.std.proofs.Common.{◌∙◌, ◌*◌, ℕ, ap}
use Rattle.rpmb.proofs.DataJoined.{few_frames, many_frames}
use Rattle.rpmb.proofs.requests.all_data.Goals as goal

pub data_of_all-requires : goal.data_of_all-requires
data_of_all-requires c =
    few_frames c.whole_frames.result.now c.args.frames.now c.whole_frames.ensures c.requires

pub returns-clause-long : goal.returns-clause-long
returns-clause-long c =
    c.data_of_all.ensures.long
    ∙ ap (λ (n : ℕ). 256 * n)
    (many_frames c.whole_frames.result.now c.args.frames.now c.whole_frames.ensures)
