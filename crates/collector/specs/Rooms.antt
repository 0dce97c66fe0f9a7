-- How the plan's fields are seen, and that there is room for the pages of a block.
use Rattle.std.specs.Prelude.{◌≤◌, drop, List, Option, Some, None, vec_capacity}
use Rattle.block_table.specs.Lives.{spot_at}
use Rattle.block_table.specs.declared.live.BlockAt.{BlockAt}
use Rattle.collector.specs.Plans.{Collection, Plans}
use Rattle.collector.specs.declared.Plan.TheInside.{Inside}
use Rattle.collector.specs.declared.PlannedCopy.{PlannedCopy}

-- the collection of this block with the copies that are left, if a block is being collected
abbrev pub begun : Option BlockAt → List PlannedCopy → Option Collection
begun None left = None
begun (Some at) left = Some (record { victim = spot_at at; copies = left })

-- what contracts see of a plan: the copies that were ordered before are left out
abbrev pub plans_of : Inside → Plans
plans_of f = record { pages = f.pages; plan = begun f.victim (drop f.ordered f.copies.items) }

-- the copies of a whole block fit into the list without new memory
abbrev pub HasRoom : Inside → Type 0
HasRoom f = f.pages ≤ vec_capacity f.copies
