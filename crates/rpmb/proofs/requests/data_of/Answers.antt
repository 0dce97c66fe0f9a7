use Rattle.std.proofs.Common.{◌∙◌, [], Some, None, ap, arith, sym}
use Rattle.std.proofs.lemmas.Option.{slice_get-get_or, slice_get_past}
use Rattle.rpmb.specs.Requests.{frames_of}
use Rattle.rpmb.proofs.Formed.{data_told}
use Rattle.rpmb.proofs.requests.data_of.Goals as goal

pub returns-in-None : goal.returns-in-None
returns-in-None c =
    data_told c.whole_frames.result.now (frames_of c.args.frames.now) c.args.index None c.whole_frames.ensures
    (sym (slice_get_past c.whole_frames.result.now c.args.index c.in-None.ensures.lookup.3))

pub returns-in-Some : goal.returns-in-Some
returns-in-Some c =
    data_told c.whole_frames.result.now (frames_of c.args.frames.now) c.args.index (Some c.in-Some.frame.now)
    c.whole_frames.ensures
    (ap Some (c.in-Some.ensures.lookup.4 (omega arith) [])
    ∙ sym (slice_get-get_or c.whole_frames.result.now c.args.index [] c.in-Some.ensures.lookup.3.0))
