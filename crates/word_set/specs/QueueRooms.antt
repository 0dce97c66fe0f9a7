-- How the fields of a set of the places of a queue are seen, and that its first place has a slot.
use Rattle.std.specs.Prelude.{ℕ, ◌+◌, ◌-◌, ◌<◌, ◌++◌, Bool, List, drop, if◌then◌else◌, length, nat_lt, take}
use Rattle.word_set.specs.declared.queue.QueueSet.TheInside.{Inside}

-- the slot of the place, among so many slots, where the first place has this one
abbrev pub slot_of : (size first place : ℕ) → ℕ
slot_of size first place = if nat_lt place (size - first) then first + place else place - (size - first)

-- what contracts see of the set: the slots from that of the first place on, and behind them those before it
abbrev pub places_of : Inside → List Bool
places_of f = drop f.first f.slots ++ take f.first f.slots

-- the first place has one of the slots
pub record IsTurned (f : Inside) : Type 0 where
  pub inside : f.first < length f.slots
