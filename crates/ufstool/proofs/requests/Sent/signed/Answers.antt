use Rattle.std.proofs.Common.{◌∙◌, List, ℕ, ◌++◌, ap, arith, length-append, length}
use Rattle.std.specs.List.{flat_map}
use Rattle.rpmb_frame.specs.Fields.{frame_of}
use Rattle.ufs_spec.specs.Frames.{Frame, covered_bytes}
use Rattle.ufs_spec.specs.Rpmb.{mac}
use Rattle.ufstool.proofs.Sent.{all_signed, covered_of}
use Rattle.ufstool.proofs.requests.Sent.signed.Goals as goal

pub returns : goal.returns
returns c =
    λ key frames gathers widths room.
    let front : List ℕ = flat_map covered_bytes frames in
    let f : Frame = frame_of c.args.last in
    let part =
    covered_of f c.bytes_of.result c.covered.result.now widths.0 widths.1 c.bytes_of.ensures.bytes
    c.covered.ensures.place in
    let made =
    c.finish-mac.ensures key (front ++ c.covered.result.now) (c.update.ensures key front gathers.0)
    ∙ ap (λ (p : List ℕ). mac key (front ++ p)) part in
    let long = gathers.2 in
    let pushed = c.push_frame.ensures (omega (arith, long, room)) in
    let one = c.bytes_of-bytes.ensures.fits in
    let many = length-append c.args.self.«data».items c.bytes_of-bytes.result in (
      omega (arith, ap length pushed, many, one, long),
      all_signed key _ _ frames f made (pushed ∙ (λ i. gathers.1 i ++ c.bytes_of-bytes.ensures.bytes i)),
    )
