-- What the invariant of the queue of pages gives its calls.
use Rattle.write_cache.proofs.Common.{GroupAt, IsRising, Some, Stands, map, shown, slice_get, ℕ, ◌≡◌}
use Rattle.write_cache.specs.declared.pages.Pages.TheInside.{Inside}
use Rattle.write_cache.specs.Queue.{IsTold}
use Rattle.write_cache.proofs.Runs.{runs_rising, stands}

pub told_rising : (f : Inside) → IsTold f → IsRising f.front f.groups.entries.items
told_rising f t = runs_rising f.landed f.front f.newest f.groups.entries.items (map shown f.pages.items) t.runs

pub told_stands : (f : Inside) (at : ℕ) (g : GroupAt) → IsTold f → slice_get f.groups.entries.items at ≡ Some g →
    Stands f.landed g (map shown f.pages.items)
told_stands f at g t e =
    stands f.landed f.front f.newest at f.groups.entries.items (map shown f.pages.items) g t.runs e
