use Rattle.std.proofs.Common.{drop, map, subst, take}
use Rattle.std.specs.List.{flat_map}
use Rattle.hmac_sha256.specs.Hmac.{Holds}
use Rattle.ufs_spec.specs.Frames.{covered_bytes, frame_in}
use Rattle.rpmb_frame.proofs.CoveredFrames.{covered_more, part_more}
use Rattle.rpmb_frame.proofs.macs.frames_mac.Goals as goal

pub loop-frame-preserved : goal.loop-frame-preserved
loop-frame-preserved c =
    record {
      frames = subst (Holds c.update.new.self c.args.key.now)
          (covered_more c.args.frames.now c.loop-frame.frame-index _ c.loop-frame-test.true
          c.covered_in.ensures.of_frame)
          (c.update.ensures c.args.key.now
          (flat_map covered_bytes (map frame_in (take c.loop-frame.frame-index c.args.frames.now)))
          c.loop-frame.invariant.frames);
      bytes = subst (Holds c.update.new.self c.args.key.now)
          (part_more c.args.frames.now c.loop-frame.frame-index _ c.loop-frame-test.true
          c.covered_in.ensures.of_bytes)
          (c.update.ensures c.args.key.now (flat_map (drop 228) (take c.loop-frame.frame-index c.args.frames.now))
          c.loop-frame.invariant.bytes);
    }
