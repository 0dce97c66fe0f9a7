use Rattle.std.proofs.Common.{◌∙◌, [], ◌∷◌, ap}
use Rattle.std.specs.List.{flat_map}
use Rattle.ufs_spec.specs.Frames.{Frame, frame_bytes}
use Rattle.ufstool.proofs.requests.asking_frame.Goals as goal

pub returns-clause-frame : goal.returns-clause-frame
returns-clause-frame c =
    c.one_frame.ensures.frame ∙ ap (λ (f : Frame). flat_map frame_bytes (f ∷ [])) c.read_frame.ensures
