use Rattle.std.proofs.Common.{◌≡◌, ◌∙◌, IfOk, List, [], ◌∷◌, ℕ, ap, subst, sym}
use Rattle.std.specs.List.{flat_map}
use Rattle.ufs_spec.specs.Frames.{Frame, frame_bytes}
use Rattle.ufstool.specs.Requests.{requested}
use Rattle.ufstool.specs.declared.rpmb.RpmbRequest.{RpmbRequest}
use Rattle.ufstool.proofs.requests.frames_of.Goals as goal

-- the bytes of the frames of a request, and of one frame
abbrev asked : RpmbRequest → List ℕ
asked r = flat_map frame_bytes (requested r)

abbrev alone : Frame → List ℕ
alone f = flat_map frame_bytes (f ∷ [])

pub returns-in-ProgramKey-clause-frames : goal.returns-in-ProgramKey-clause-frames
returns-in-ProgramKey-clause-frames c =
    c.one_frame.ensures.frame ∙ ap alone c.key_frame.ensures ∙ ap asked (sym c.in-ProgramKey.is)

pub returns-in-ReadCounter-clause-frames : goal.returns-in-ReadCounter-clause-frames
returns-in-ReadCounter-clause-frames c =
    c.one_frame-in-ReadCounter.ensures.frame ∙ ap alone c.counter_frame.ensures ∙ ap asked (sym c.in-ReadCounter.is)

pub returns-in-ReadData-clause-frames : goal.returns-in-ReadData-clause-frames
returns-in-ReadData-clause-frames c =
    subst (λ (r : RpmbRequest). IfOk c.asking_frame.result (λ bytes. bytes.items ≡ asked r)) (sym c.in-ReadData.is)
    c.asking_frame.ensures.frame

pub returns-in-ReadResult-clause-frames : goal.returns-in-ReadResult-clause-frames
returns-in-ReadResult-clause-frames c =
    c.one_frame-in-ReadResult.ensures.frame ∙ ap alone c.plain_frame.ensures ∙ ap asked (sym c.in-ReadResult.is)
