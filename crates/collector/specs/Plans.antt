-- The collection of a block: the block, and its pages that are still to be copied (this profile).
use Rattle.std.specs.Prelude.{◌≡◌, ◌⊎◌, ℕ, Bool, List, [], ◌∷◌, All, Contains, IfSome, drop, filter, map}
use Rattle.std.specs.Prelude.{Option, None, Some, option_map}
use Rattle.ufs_spec.specs.Disk.{Spot, place_in}
use Rattle.ufs_spec.specs.Keys.{below}
use Rattle.ufs_spec.specs.Translation.{Plan as LayerPlan}
use Rattle.ufs_spec.specs.declared.flash.Key.{Key}
use Rattle.ufs_spec.specs.declared.flash.Place.{Place}
use Rattle.block_table.specs.Blocks.{Blocks}
use Rattle.block_table.specs.Lives.{Lives, is_live, victim}
use Rattle.unit_map.specs.Places.{UnitMap, stored_in}
use Rattle.unit_map.specs.declared.Stored.{Stored}
use Rattle.write_cache.specs.declared.slots.Pending.{Pending}
use Rattle.collector.specs.declared.PlanStep.{PlanStep}
use Rattle.collector.specs.declared.PlanStep.TheVariants as step
use Rattle.collector.specs.declared.PlannedCopy.{PlannedCopy}

-- the block that is collected, and the copies that are left
pub record Collection : Type 0 where
  pub victim : Spot
  pub copies : List PlannedCopy

-- how many pages of a block there is room for, and the collection that is begun, if one is
pub record Plans : Type 0 where
  pub pages : ℕ
  pub plan : Option Collection

-- where the page stands that is to be copied
abbrev pub place_of : PlannedCopy → Place
place_of x = x.from

-- the block that is collected
abbrev pub victim_of : Collection → Spot
victim_of c = c.victim

-- the plan as the translation layer has it, which knows no names
abbrev pub layer_plan : Collection → LayerPlan
layer_plan c = record { victim = c.victim; copies = map place_of c.copies }

-- the live pages of a block among its first ones, in order
abbrev pub live_below : Lives → ℕ → Spot → List Place
live_below l pages s = filter (is_live l) (map (place_in s) (below pages))

-- What stands on a page

-- what stands at the page's place is of this key and number: a durable content, or a page of a pending group
abbrev pub NamesIt : UnitMap → List Pending → PlannedCopy → Type 0
NamesIt m ps x =
    ((s : Stored) × (stored_in m.numbers m.places x.key ≡ Some s) × (s.place ≡ x.from) × (s.name.number ≡ x.number))
    ⊎ ((q : Pending) × Contains ps q × (q.written ≡ Some x.from) × (q.key ≡ x.key) × (q.number ≡ x.number))

-- no durable content stands at the place, and no page of a pending group is written there
pub record IsBare (m : UnitMap) (ps : List Pending) (p : Place) : Type 0 where
  pub durable : (k : Key) (s : Stored) → stored_in m.numbers m.places k ≡ Some s → s.place ≡ p → ⊥
  pub pending : (q : Pending) → Contains ps q → q.written ≡ Some p → ⊥

-- a page that nothing names is no page of a device, whose live pages are exactly those that are named
abbrev pub IsNamed : UnitMap → List Pending → PlannedCopy → Type 0
IsNamed m ps x = NamesIt m ps x ⊎ IsBare m ps x.from

-- What a plan is

-- the live pages among the first of the block are to be copied, in order, each under its name
pub record IsCollected (l : Lives) (m : UnitMap) (ps : List Pending) (n : ℕ) (c : Collection) : Type 0 where
  pub places : map place_of c.copies ≡ live_below l n c.victim
  pub names : All (IsNamed m ps) c.copies

-- the victim is to be collected from now on, if there is one
pub record IsPlanned (old : Plans) (l : Lives) (t : Blocks) (scarce : Bool) (m : UnitMap) (ps : List Pending)
    (new : Plans) : Type 0 where
  pub pages : new.pages ≡ old.pages
  pub victim : option_map victim_of new.plan ≡ victim l t scarce
  pub collected : IfSome new.plan (IsCollected l m ps old.pages)

-- the next step of a collection: the first copy that is left, and behind all copies the mark
abbrev pub step_of : List PlannedCopy → PlanStep
step_of [] = step.Mark
step_of (x ∷ xs) = step.Copy x

-- the step that comes next in a collection; none where no collection is begun
abbrev pub next_step : Option Collection → Option PlanStep
next_step None = None
next_step (Some c) = Some (step_of c.copies)

-- the collection once its first copy was ordered: the others are left
abbrev pub copy_ordered : Collection → Collection
copy_ordered c = record c { copies = drop 1 c.copies }
