use Rattle.std.proofs.Common.{◌∙◌, ◌++◌, List, ℕ, ap, refl, slice_index_or, []}
use Rattle.rpmb.specs.Requests.{payload_in}
use Rattle.rpmb.proofs.DataJoined.{data_more}
use Rattle.journal.proofs.requests.data_in.Goals as goal

pub loop-frame-preserved : goal.loop-frame-preserved
loop-frame-preserved c =
    let frames = c.args.frames.now in
    let i = c.loop-frame.frame-index in
    let part = payload_in (slice_index_or frames i []) in
    c.in_ok-add_data.ensures
    ∙ (ap (λ (xs : List ℕ). xs ++ part) c.loop-frame.invariant
    ∙ data_more frames i part c.loop-frame-test.true refl)
