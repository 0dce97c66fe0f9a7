-- What the translation layer keeps, as its contracts see it.
use Rattle.std.specs.Prelude.{ℕ, List, Option}
use Rattle.ufs_spec.specs.declared.configs.Numbers.{Numbers}
use Rattle.ufs_spec.specs.declared.flash.Key.{Key}
use Rattle.block_table.specs.Lives.{Lives}
use Rattle.collector.specs.Plans.{Collection}
use Rattle.block_table.specs.declared.BlockState.{BlockState}
use Rattle.block_table.specs.declared.rows.DieRow.{DieRow}
use Rattle.write_cache.specs.declared.slots.Claimed.{Claimed}
use Rattle.unit_map.specs.declared.Stored.{Stored}
use Rattle.ftl_core.specs.declared.books.Mending.{Mending}
use Rattle.write_cache.specs.declared.slots.Pending.{Pending}
use Rattle.readers.specs.declared.pin.Pin.{Pin}
use Rattle.ftl_core.specs.declared.books.Step.{Step}

-- what is kept: by die and block the blocks' states, by die its open block and its job, by key the place of its durable
-- content, which pages are live, the pages of pending groups in order of number and index, the slots that are claimed
-- for groups to come, the greatest number that was given, the collection that is begun, of the mending the keys with a
-- lost page, and the step under way
pub record Core : Type 0 where
  pub numbers : Numbers
  pub states : List BlockState
  pub rows : List DieRow
  pub places : List (Option Stored)
  pub live : Lives
  pub pages : List Pending
  pub claims : List Claimed
  pub frontier : ℕ
  pub last : ℕ
  pub pins : List Pin
  pub plan : Option Collection
  pub mending : Mending
  pub lost : List Key
  pub repaired : ℕ
  pub step : Option Step
  pub content : List ℕ
  pub next_mark : ℕ
