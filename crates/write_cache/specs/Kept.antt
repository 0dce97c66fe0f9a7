-- What the write cache keeps, and what its queue of pages does, as contracts see it.
use Rattle.std.specs.Prelude.{ℕ, List}
use Rattle.write_cache.specs.declared.slots.Claimed.{Claimed}
use Rattle.write_cache.specs.declared.slots.Pending.{Pending}

-- how many slots there are, the pages of pending groups in order of number and index, the slots that are claimed for
-- groups to come, the number up to which every group is durable or lost, and the greatest number that was given
pub record WriteCache : Type 0 where
  pub slots : ℕ
  pub pages : List Pending
  pub claims : List Claimed
  pub frontier : ℕ
  pub last : ℕ

-- the queue of pending pages: how many there may be, the pages in order of number and index, and the number of the page
-- that was put in last
pub record Queue : Type 0 where
  pub room : ℕ
  pub items : List Pending
  pub newest : ℕ
