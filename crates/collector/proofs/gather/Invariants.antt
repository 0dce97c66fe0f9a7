use Rattle.std.proofs.Common.{◌≡◌, All, map, vec_capacity}
use Rattle.block_table.specs.Lives.{spot_at}
use Rattle.collector.specs.Plans.{IsNamed, live_below, place_of}
use Rattle.collector.proofs.gather.Given as goal

abbrev pub invariant-loop-page : goal.invariant-loop-page
invariant-loop-page l = record {
  those : map place_of l.copies.items ≡ live_below l.live l.page (spot_at l.at);
  names : All (IsNamed l.places l.cache.pages) l.copies.items;
  room : vec_capacity l.copies ≡ vec_capacity l.fn.copies;
}
