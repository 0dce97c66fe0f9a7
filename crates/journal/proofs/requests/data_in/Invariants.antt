use Rattle.std.proofs.Common.{◌≡◌, map, take}
use Rattle.ufs_spec.specs.Frames.{frame_in}
use Rattle.rpmb.specs.Requests.{payloads}
use Rattle.journal.proofs.requests.data_in.Given as goal

-- the data of the frames so far are there
abbrev pub invariant-loop-frame : goal.invariant-loop-frame
invariant-loop-frame l = l.«data».items ≡ payloads (map frame_in (take l.frame-index l.frames))
