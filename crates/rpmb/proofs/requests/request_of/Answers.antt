use Rattle.std.proofs.Common.{◌≡◌, ◌∷◌, ◌∙◌, ◌-◌, MatchOption, List, ap, drop, length, map, subst, take}
use Rattle.rpmb.specs.Requests.{AreMalformed, Asks}
use Rattle.rpmb_frame.specs.Fields.{frame_of}
use Rattle.ufs_spec.specs.Frames.{Frame, frame_in}
use Rattle.rpmb.proofs.Parts.{first_and_more}
use Rattle.rpmb.proofs.requests.request_of.Goals as goal

pub returns-in-len1-up : goal.returns-in-len1-up
returns-in-len1-up c =
    let more = take (length c.args.frames.now - 1) (drop 1 c.args.frames.now) in
    let e : frame_of c.read.result ∷ map frame_in more ≡ map frame_in c.args.frames.now =
    (λ i. c.read.ensures.frame i ∷ map frame_in more)
    ∙ ap (map frame_in) (first_and_more c.args.frames.now c.in-len1-up.len_at_least) in
    subst (λ (fs : List Frame). MatchOption c.well_formed-in-len1-up.result (AreMalformed fs) (λ r. Asks r fs)) e
    c.well_formed-in-len1-up.ensures
