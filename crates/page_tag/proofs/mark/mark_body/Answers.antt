use Rattle.std.proofs.Common.{◌∙◌, ◌++◌, arith}
use Rattle.ufs_spec.specs.Pages.{fence_bytes, numbers_bytes}
use Rattle.page_tag.proofs.Filled.{entry_written, length-head, zero_filled-first}
use Rattle.page_tag.proofs.mark.mark_body.Goals as goal

pub loop-index-init : goal.loop-index-init
loop-index-init c = record {
  few = c.deref-unit-items.ensures.1;
  same = c.deref-unit-items.ensures.0;
  filled =
      zero_filled-first 4096 32 (fence_bytes c.args.fence ++ numbers_bytes c.args.numbers.now)
      c.copy_from_slice.new.self
      (length-head c.args.numbers.now c.args.fence) (c.copy_from_slice.ensures.after ∙ c.head_of.ensures);
}

pub loop-index-preserved : goal.loop-index-preserved
loop-index-preserved c = record {
  few = c.loop-index.invariant.few;
  same = c.loop-index.invariant.same;
  filled =
      entry_written (fence_bytes c.args.fence ++ numbers_bytes c.args.numbers.now) c.deref-unit-items.result.now
      c.loop-index.index _ _ c.loop-index.body c.copy_from_slice-in-loop-index.new.self
      (length-head c.args.numbers.now c.args.fence) c.loop-index-test.true (omega arith) c.loop-index.invariant.filled
      (c.copy_from_slice-in-loop-index.ensures.after ∙ c.entry_of.ensures);
}
