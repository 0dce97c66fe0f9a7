use Rattle.write_cache.proofs.Common.{AreTold, base_behind, deque_capacity, drop, is_ready, length, rests_filled, take}
use Rattle.write_cache.proofs.Common.{waits, ◌++◌, ◌-◌, ◌≡◌}
use Rattle.write_cache.proofs.pages.fill.fill_pages.Given as goal

abbrev pub invariant-loop-at : goal.invariant-loop-at
invariant-loop-at l = record {
  long : length l.pages.items ≡ length l.initial.pages.items;
  pages_room : deque_capacity l.pages ≡ deque_capacity l.initial.pages;
  places : length l.ready ≡ length l.initial.ready;
  waiting_places : length l.waiting ≡ length l.initial.waiting;
  told : AreTold is_ready l.ready l.pages.items;
  waiting_told : AreTold waits l.waiting l.pages.items;
  filled_so_far : rests_filled l.name l.block l.initial.pages.items
      ≡ take l.from l.pages.items
      ++ rests_filled l.name (base_behind l.block l.pages.items l.filled) (drop l.from l.pages.items);
}

abbrev pub decreases-loop-at : goal.decreases-loop-at
decreases-loop-at l = length l.waiting - l.from
