-- Which step is due, as the code finds it, and what it makes of what is kept. Describes says what that means.
use Rattle.std.specs.Prelude.{◌≡◌, ◌&&◌, Bool, true, false, List, [], ◌∷◌, is_none, is_some, slice_get, Option, Some}
use Rattle.std.specs.Prelude.{None, not, option_map}
use Rattle.ufs_spec.specs.declared.flash.Key.{Key}
use Rattle.collector.specs.Plans as plans
use Rattle.collector.specs.Plans.{Collection, IsCollected}
use Rattle.collector.specs.declared.PlannedCopy.{PlannedCopy}
use Rattle.ftl_core.specs.declared.books.Mending.{Mending}
use Rattle.ftl_core.specs.declared.books.Mending.TheVariants as mending
use Rattle.ftl_core.specs.declared.books.Step.TheVariants as step
use Rattle.ftl_core.specs.Collects.{victim, wants_collection}
use Rattle.ftl_core.specs.Core.{Core}
use Rattle.ftl_core.specs.Moves.{has_mark_number, has_number, has_stale, mark_ordered, repair_ordered}

-- Mending

-- the next key is to be repaired, or the mark that follows the repairs is due
abbrev pub is_repair_due : Core → Option Key → Bool
is_repair_due c None = has_mark_number c
is_repair_due c (Some k) = has_number c

-- the repair of the next lost key is ordered; behind the last one the mark without a fence, which ends the mending
abbrev pub repair_turned : Core → Option Key → Core
repair_turned c None = mark_ordered c None
repair_turned c (Some k) = repair_ordered c k

-- Collection

-- the next copy is due, or the mark that follows the copies, where a number is left
abbrev pub is_next_due : Core → List PlannedCopy → Bool
is_next_due c [] = has_mark_number c
is_next_due c (x ∷ xs) = true

-- a collection is begun, and its next step is due
abbrev pub is_plan_due : Core → Option Collection → Bool
is_plan_due c None = false
is_plan_due c (Some p) = is_next_due c p.copies

-- a collection begins where room is scarce, if there is a victim, and a number for its mark
abbrev pub is_begin_due : Core → Bool
is_begin_due c = has_mark_number c && wants_collection c && is_some (victim c)

-- by collection a step is due: the next one of what is begun, or else the begin of a new collection
abbrev pub is_collection_due : Core → Option Collection → Bool
is_collection_due c None = is_begin_due c
is_collection_due c (Some p) = is_next_due c p.copies

-- the victim is to be collected from now on: its live pages are to be copied, in order
pub record IsBegun (c new : Core) : Type 0 where
  pub plan : Collection
  pub is : new ≡ record c { plan = Some plan }
  pub victim_is : victim c ≡ Some plan.victim
  pub collected : IsCollected c.live (record { numbers = c.numbers; places = c.places }) c.pages c.numbers.pages plan

-- a collection begins if one is due, else all stays
abbrev pub IsBegunIf : Core → Bool → Core → Type 0
IsBegunIf c false new = new ≡ c
IsBegunIf c true new = IsBegun c new

-- the copy waits: its page is to be read
abbrev pub copy_ordered : Core → PlannedCopy → Core
copy_ordered c x =
    record c { plan = option_map plans.copy_ordered c.plan; step = Some (step.Copy x.number x.key x.from None) }

-- the next copy is ordered; behind the last one the mark that lets the block go
abbrev pub plan_next : Core → List PlannedCopy → Core
plan_next c [] = mark_ordered c None
plan_next c (x ∷ xs) = copy_ordered c x

-- the next step of the collection is ordered, if one is begun
abbrev pub plan_turned : Core → Option Collection → Core
plan_turned c None = c
plan_turned c (Some p) = plan_next c p.copies

-- a new collection begins and its first step is ordered at once, or the next step of the begun one is
abbrev pub IsCollectionTurned : Core → Option Collection → Core → Type 0
IsCollectionTurned c None new = (begun : Core) × IsBegun c begun × (new ≡ plan_turned begun begun.plan)
IsCollectionTurned c (Some p) new = new ≡ plan_next c p.copies

-- a step of collection is ordered if one is due, else all stays
abbrev pub IsCollectionTurnedIf : Core → Bool → Core → Type 0
IsCollectionTurnedIf c false new = new ≡ c
IsCollectionTurnedIf c true new = IsCollectionTurned c c.plan new

-- All of it

-- by how far the mending is, a step is due: the first mark, then the repairs, and only then collection
abbrev pub is_step_due : Core → Mending → Bool
is_step_due c (mending.Unmarked fence) = has_mark_number c
is_step_due c mending.Repairing = is_repair_due c (slice_get c.lost c.repaired)
is_step_due c mending.Mended = is_collection_due c c.plan

-- a step may be ordered: none is under way, no block is stale, and one is due
abbrev pub is_turn_due : Core → Bool
is_turn_due c = is_none c.step && not (has_stale c) && is_step_due c c.mending

-- what one step makes of what is kept, where one is due
abbrev pub IsStepTurned : Core → Mending → Core → Type 0
IsStepTurned c (mending.Unmarked fence) new = new ≡ mark_ordered c fence
IsStepTurned c mending.Repairing new = new ≡ repair_turned c (slice_get c.lost c.repaired)
IsStepTurned c mending.Mended new = IsCollectionTurned c c.plan new

-- what a turn makes of what is kept: a step is ordered if one is due, else all stays
abbrev pub IsTurned : Core → Bool → Core → Type 0
IsTurned c false new = new ≡ c
IsTurned c true new = IsStepTurned c c.mending new
