-- What a journal hears of a life: the bytes of each message that was taken and of each reply, and when the device
-- locks.
use Rattle.std.specs.Prelude.{◌≡◌, ℕ, Bool, List, [], ◌∷◌, Ok, Some}
use Rattle.ufs_spec.specs.Lives.{Leads}
use Rattle.ufs_spec.specs.Plain.{Plain, region_of}
use Rattle.ufs_spec.specs.Refusals.{State, locked, numbers_of}
use Rattle.ufs_spec.specs.declared.events.Event.{Event}
use Rattle.ufs_spec.specs.declared.events.Event.TheVariants as event
use Rattle.ufs_spec.specs.declared.events.Output.{Output}
use Rattle.ufs_spec.specs.declared.events.Output.TheVariants as output
use Rattle.rpmb.specs.Kept.{IsKept}
use Rattle.rpmb.specs.declared.regions.RegionState.{RegionState}
use Rattle.journal.specs.Heard.{Heard, heard, life_begun, told}
use Rattle.journal.specs.Requests.{state_at}

-- the journal hears a message that was taken, and is told a reply that was handed out; nothing else tells it anything
abbrev pub noted : Heard → Event → Output → Heard
noted j (event.Host bytes) (output.Host (Ok done)) = heard j bytes.items
noted j event.Reply (output.Reply (Some bytes)) = told j bytes.items
noted j e o = j

-- the journal knows whether the device is locked. A bench that sees how its dies fail knows it too
abbrev pub with_lock : Heard → Bool → Heard
with_lock j is_locked = record j { locked = is_locked }

-- these are the keys, the counters and the sizes of the RPMB regions of a plain device
abbrev pub AreRegionsOf : List RegionState → Plain → Type 0
AreRegionsOf states p = (number : ℕ) → IsKept (state_at states number) (region_of p number)

-- the journal of a life that begins in this state, with these regions
abbrev pub begun_in : State → List RegionState → Heard
begun_in s regions = with_lock (life_begun (numbers_of s) regions) (locked s)

-- the events lead from the first state to the last, each with its output, as in a life; and they make the second
-- journal of the first
abbrev pub Listens : State → Heard → List Event → List Output → State → Heard → Type 0
Listens s j [] [] t k = (t ≡ s) × (k ≡ j)
Listens s j (e ∷ es) (o ∷ os) t k =
    (next : State) × Leads s e o next × Listens next (with_lock (noted j e o) (locked next)) es os t k
Listens s j _ _ t k = ⊥

-- the event is no message of the host
abbrev pub IsNoMessage : Event → Type 0
IsNoMessage (event.Host bytes) = ⊥
IsNoMessage e = Unit {0}
