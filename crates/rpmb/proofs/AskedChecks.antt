-- The checks of the definitions are those of what is asked for, by what is kept of the region.
use Rattle.std.proofs.Common.{◌≡◌, Bool, List, refl}
use Rattle.ufs_spec.specs.Frames.{Frame}
use Rattle.ufs_spec.specs.Rpmb.{Region, checks}
use Rattle.rpmb.specs.Checks.{asked_checks}
use Rattle.rpmb.specs.Kept.{IsKept}
use Rattle.rpmb.specs.Requests.{IsRequest}
use Rattle.rpmb.specs.declared.regions.RegionState.{RegionState}
use Rattle.rpmb.specs.declared.requests.Request.{Request}
use Rattle.rpmb.specs.declared.requests.Request.TheVariants as request

pub checks_asked : (s : RegionState) (region : Region) (locked : Bool) (r : Request) (f : Frame) (fs : List Frame)
    → IsKept s region → IsRequest r f → checks region locked f fs ≡ asked_checks s locked r f fs
checks_asked s region locked (request.ProgramKey key) f fs kept is = let kind = is.0 in rw (kind, kept.key) refl
checks_asked s region locked request.ReadCounter f fs kept is = rw (is, kept.key) refl
checks_asked s region locked (request.Write counter address count) f fs kept is =
    let kind = is.0 in rw (kind, is.1, is.2, is.3, kept.key, kept.counter, kept.area) refl
checks_asked s region locked (request.Read address count) f fs kept is =
    let kind = is.0 in rw (kind, is.1, is.2, kept.key, kept.area) refl
checks_asked s region locked request.ReadResult f fs kept is = rw is refl
