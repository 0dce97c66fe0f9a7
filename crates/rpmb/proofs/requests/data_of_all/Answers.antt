use Rattle.std.proofs.Common.{◌∙◌, ◌++◌, List, ℕ, ap, arith}
use Rattle.rpmb.proofs.DataJoined.{data_more, went_well}
use Rattle.rpmb.proofs.requests.data_of_all.Goals as goal

pub loop-frame-preserved : goal.loop-frame-preserved
loop-frame-preserved c =
    let so_far = c.loop-frame.invariant.long in
    let its = c.data_in.ensures.long in
    let low = c.loop-frame-test.true in
    let few = c.requires in
    let fits = c.try_extend_from_slice.ensures.variant.1 (omega arith) in
    let more = went_well c.try_extend_from_slice.result _ fits c.try_extend_from_slice.ensures.len in
    record {
      items =
          went_well c.try_extend_from_slice.result _ fits c.try_extend_from_slice.ensures.ok
          ∙ (ap (λ (xs : List ℕ). xs ++ c.data_in.result.now) c.loop-frame.invariant.items
          ∙ data_more c.args.frames.now c.loop-frame.frame-index c.data_in.result.now low c.data_in.ensures.payload);
      long = omega arith;
    }
