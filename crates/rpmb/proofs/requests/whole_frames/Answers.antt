use Rattle.std.proofs.Common.{◌∙◌, ◌/◌, ap, length, map}
use Rattle.ufs_spec.specs.Frames.{frame_in}
use Rattle.rpmb.proofs.Formed.{chunks_are}
use Rattle.rpmb.proofs.requests.whole_frames.Goals as goal

pub returns : goal.returns
returns c =
    ap (map frame_in) c.as_chunks.ensures.front ∙ chunks_are (length c.args.bytes.now / 512) c.args.bytes.now
