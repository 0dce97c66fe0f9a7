use Rattle.std.proofs.Common.{drop, map, take}
use Rattle.std.specs.List.{flat_map}
use Rattle.hmac_sha256.specs.Hmac.{Holds}
use Rattle.ufs_spec.specs.Frames.{covered_bytes, frame_in}
use Rattle.rpmb_frame.proofs.macs.frames_mac.Given as goal

-- the MAC has come to the frame of the index, in the words of frames and in those of bytes
abbrev pub invariant-loop-frame : goal.invariant-loop-frame
invariant-loop-frame l =
    record {
      frames : Holds l.hmac l.key (flat_map covered_bytes (map frame_in (take l.frame-index l.frames)));
      bytes : Holds l.hmac l.key (flat_map (drop 228) (take l.frame-index l.frames));
    }
