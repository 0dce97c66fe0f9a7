use Rattle.std.proofs.Common.{◌≡◌, ◌++◌, ◌≤◌, length, take}
use Rattle.std.specs.List.{flat_map}
use Rattle.ufs_spec.specs.Pages.{fence_bytes, numbers_bytes, unit_bytes, zero_filled}
use Rattle.page_tag.proofs.mark.mark_body.Given as goal

abbrev pub invariant-loop-index : goal.invariant-loop-index
invariant-loop-index l = record {
  few : length l.unit-items ≤ 8;
  same : l.unit-items ≡ l.numbers.units.items;
  filled :
      l.body
      ≡ zero_filled 4096
      (fence_bytes l.fn.fence ++ numbers_bytes l.numbers ++ flat_map unit_bytes (take l.index l.unit-items));
}
