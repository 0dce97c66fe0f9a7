-- How the layer's fields are seen, and the room that they keep.
use Rattle.std.specs.Prelude.{◌≡◌, ◌≤◌, ◌+◌, ℕ, length, IfSome, Option, Some, None}
use Rattle.ftl_core.specs.declared.ftl.Ftl.TheInside.{Inside}
use Rattle.ftl_core.specs.declared.books.Step.{Step}
use Rattle.ftl_core.specs.declared.books.Step.TheVariants as step
use Rattle.ufs_spec.specs.Pages.{IsTag, greatest_number}
use Rattle.ftl_core.specs.Core.{Core}
use Rattle.ftl_core.specs.PinCounts.{ArePinsCounted}
use Rattle.readers.specs.Pins.{most_pins, without_pins}

-- of the live pages no count of pins is seen: it follows from the pins
abbrev pub core_of : Inside → Core
core_of f = record {
  numbers = f.config;
  states = f.blocks.states;
  rows = f.blocks.rows;
  places = f.places.places;
  live = without_pins f.live;
  pages = f.cache.pages;
  claims = f.cache.claims;
  frontier = f.cache.frontier;
  last = f.cache.last;
  pins = f.pins;
  plan = f.plan.plan;
  mending = f.mending;
  lost = f.lost.items;
  repaired = f.repaired;
  step = f.step;
  content = f.content;
  next_mark = f.next_mark;
}

-- a number that a group or a mark may have: from 1 to the greatest one
abbrev pub IsNumber : ℕ → Type 0
IsNumber n = (1 ≤ n) × (n ≤ greatest_number)

-- the step under way has what a page of it needs: a mark and a repair a number, a copy the tag that was read
abbrev pub IsStep : Option Step → Type 0
IsStep None = Unit {0}
IsStep (Some (step.Mark n fence)) = IsNumber n
IsStep (Some (step.Repair n key from there)) = IsNumber n
IsStep (Some (step.Copy n key from tag)) = IfSome tag IsTag

-- the parts are those of one configuration, and each pin has room
pub record IsRoomy (f : Inside) : Type 0 where
  pub blocks : f.blocks.sizes.blocks ≡ f.config.blocks
  pub block_pages : f.blocks.sizes.pages ≡ f.config.pages
  pub keys : f.places.numbers ≡ f.config
  pub slots : f.cache.slots ≡ f.config.slots
  pub first_mark : 1 ≤ f.next_mark
  pub last_mark : f.next_mark ≤ greatest_number + 1
  pub step : IsStep f.step
  pub pins : length f.pins ≤ most_pins
  pub units : length f.config.units.items ≤ 8
  pub plan_pages : f.plan.pages ≡ f.config.pages
  -- the pins of each block are counted
  pub live_dies : f.live.sizes.dies ≡ length f.blocks.rows
  pub live_blocks : f.live.sizes.blocks ≡ f.config.blocks
  pub pinned : ArePinsCounted f.live f.pins f.cache.pages
