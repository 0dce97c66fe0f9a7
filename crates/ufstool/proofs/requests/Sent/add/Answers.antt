use Rattle.std.proofs.Common.{◌∙◌, List, ℕ, ◌++◌, ap, arith, subst}
use Rattle.std.specs.List.{flat_map}
use Rattle.hmac_sha256.specs.Hmac.{Holds}
use Rattle.ufs_spec.specs.Frames.{covered_bytes}
use Rattle.ufstool.proofs.Sent.{covered_of, grown, longer, one_more}
use Rattle.ufstool.proofs.requests.Sent.add.Goals as goal

pub returns : goal.returns
returns c =
    λ key frames f gathers widths is room.
    let front : List ℕ = flat_map covered_bytes frames in
    let part = covered_of f c.args.bytes.now c.covered.result.now widths.0 widths.1 is c.covered.ensures.place in
    let long = gathers.2 in
    let pushed = c.push_frame.ensures (omega (arith, long, room)) in (
      subst (Holds c.update.new.self key) (ap (λ (p : List ℕ). front ++ p) part ∙ one_more covered_bytes frames f)
          (c.update.ensures key front gathers.0),
      grown _ _ c.args.bytes.now frames f gathers.1 is pushed,
      longer _ _ c.args.bytes.now frames f long c.told-bytes pushed,
    )
