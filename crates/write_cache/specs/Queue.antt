-- How the fields of the queue of pending pages are seen, and what its ring, its tables and its sets tell of the pages.
use Rattle.std.specs.Prelude.{◌≡◌, ◌≤◌, ◌<◌, ◌^◌, length, map}
use Rattle.std.specs.VecDeque.{deque_capacity}
use Rattle.write_cache.specs.declared.pages.Pages.TheInside.{Inside}
use Rattle.write_cache.specs.Kept.{Queue}
use Rattle.write_cache.specs.Newest.{IsNewest}
use Rattle.write_cache.specs.Ready.{IsSetOf, is_ready}
use Rattle.write_cache.specs.Rests.{waits}
use Rattle.write_cache.specs.Ring.{AreRuns, first_number, shown}
use Rattle.write_cache.specs.WrittenAt.{IsWrittenAt}

-- what contracts see of the pages; the ring, the tables and the sets are not seen
abbrev pub queue_of : Inside → Queue
queue_of f = record { room = f.room; items = f.pages.items; newest = f.newest }

-- there is room for as many pages as are promised, and for an entry for each; the ring tells of the pages, the tables
-- where the last page of each key stands and which page is written at each place of the dies, and the sets of places
-- which pages can be programmed now and which wait for their rest
pub record IsTold (f : Inside) : Type 0 where
  pub fits : length f.pages.items ≤ f.room
  pub few : f.room < 2 ^ 16
  pub pages_room : f.room ≤ deque_capacity f.pages
  pub groups_room : f.room ≤ deque_capacity f.groups.entries
  pub front : f.front ≡ first_number f.front f.groups.entries.items
  pub runs : AreRuns f.landed f.front f.newest f.groups.entries.items (map shown f.pages.items)
  pub landed : f.landed < 2 ^ 16
  pub positions : IsNewest f.positions f.landed f.pages.items
  pub written : IsWrittenAt f.written f.pages.items
  pub ready : IsSetOf is_ready f.room f.ready f.pages.items
  pub waiting : IsSetOf waits f.room f.waiting f.pages.items
