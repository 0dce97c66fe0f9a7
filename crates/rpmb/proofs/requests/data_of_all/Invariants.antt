use Rattle.std.proofs.Common.{◌≡◌, length, map, take}
use Rattle.std.specs.Prelude.{◌*◌}
use Rattle.ufs_spec.specs.Frames.{frame_in}
use Rattle.rpmb.specs.Requests.{payloads}
use Rattle.rpmb.proofs.requests.data_of_all.Given as goal

-- the data of the frames so far are there
abbrev pub invariant-loop-frame : goal.invariant-loop-frame
invariant-loop-frame l =
    record {
      items : l.«data».items ≡ payloads (map frame_in (take l.frame-index l.frames));
      long : length l.«data».items ≡ 256 * l.frame-index;
    }
