use Rattle.std.proofs.Common.{◌≡◌, drop, map}
use Rattle.std.specs.List.{list_all}
use Rattle.rpmb_frame.specs.Fields.{frame_of}
use Rattle.ufs_spec.specs.Frames.{frame_in}
use Rattle.ufs_spec.specs.Rpmb.{agrees}
use Rattle.rpmb.proofs.requests.all_agree.Given as goal

-- whether all agree lies with the frames that were not looked at yet
abbrev pub invariant-loop-frame : goal.invariant-loop-frame
invariant-loop-frame l =
    list_all (agrees (frame_of l.first)) (map frame_in l.fn.more)
    ≡ list_all (agrees (frame_of l.first)) (map frame_in (drop l.frame-index l.more))
