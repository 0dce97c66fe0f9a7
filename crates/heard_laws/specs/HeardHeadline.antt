-- The promise of power loss in words that a host can check: what its messages and the replies tell.
use Rattle.std.specs.Prelude.{◌≡◌, ℕ, ◌≤◌, List, [], ◌∷◌, length, take}
use Rattle.ufs_spec.specs.Commands.{Command}
use Rattle.ufs_spec.specs.Dies.{DieState}
use Rattle.ufs_spec.specs.Kept.{StandsFor}
use Rattle.ufs_spec.specs.Lives.{Lived, Lives, array_of, bad_of}
use Rattle.ufs_spec.specs.Plain.{Plain, after}
use Rattle.ufs_spec.specs.declared.configs.Numbers.{Numbers}
use Rattle.ufs_spec.specs.declared.events.Event.{Event}
use Rattle.ufs_spec.specs.declared.events.Output.{Output}
use Rattle.rpmb.specs.declared.regions.RegionState.{RegionState}
use Rattle.journal.specs.Entries.{CanFollow, IsAfter}
use Rattle.journal.specs.Heard.{Heard}
use Rattle.heard_laws.specs.Listening.{AreRegionsOf, Listens, begun_in}
use Rattle.heard_laws.specs.Resolving.{AreAmong, Resolves}

-- the first so many entries, and all acknowledged ones at the least, may make the next base of the base; and each
-- command among the entries could come when it did. Whoever checks a device by this (`is_kept` of the journal) calls no
-- right one wrong
pub record MayBeKept (j : Heard) (base next : Plain) : Type 0 where
  pub kept : ℕ
  pub acknowledged : j.held ≤ kept
  pub some : kept ≤ length j.entries
  pub may : IsAfter base (take kept j.entries) next
  pub can : CanFollow base j.entries

-- a stop kept what the journal heard: the entries stand for some commands, the next life begins with what the first
-- `kept` of these make of the base, and all that was acknowledged is among those
pub record IsKeptAsHeard (j : Heard) (base next : Plain) : Type 0 where
  pub commands : List Command
  pub stand : Resolves j.entries commands
  pub kept : ℕ
  pub some : kept ≤ length commands
  pub acknowledged : AreAmong j.entries j.held commands kept
  pub begins : next ≡ after base (take kept commands)
  pub checked : MayBeKept j base next

-- so it is of each journal that heard the whole life, from the regions of its base on
abbrev pub KeepsWhatWasHeard : Lived → Plain → Type 0
KeepsWhatWasHeard l next =
    (regions : List RegionState) (j : Heard) → AreRegionsOf regions l.start.base →
    Listens l.start (begun_in l.start regions) l.events l.outputs l.finish j → IsKeptAsHeard j l.start.base next

-- the first life has the base, and each later one begins with what was heard of the life before it
abbrev pub HeardChain : Plain → Lived → List Lived → Type 0
HeardChain base l [] = l.start.base ≡ base
HeardChain base l (m ∷ ls) =
    (l.start.base ≡ base) × KeepsWhatWasHeard l m.start.base × HeardChain m.start.base m ls

-- Over any number of stops each life begins with its base after a prefix of the commands of the life before it, and
-- the prefix holds each command that was acknowledged as durable. What the commands are, and which are acknowledged,
-- is read off the bytes of the host's messages and of the replies
pub record HeardHeadline (n : Numbers) (dies : List DieState) (events : List Event) (trace : List Output) : Type 0
  where
    -- what the dies stand for at the start
    pub base : Plain
    pub stands : StandsFor n (array_of dies) base
    -- the life before the first stop, and those after each stop
    pub first : Lived
    pub later : List Lived
    pub lives : Lives n (array_of dies) (bad_of dies) first later events trace
    pub chain : HeardChain base first later
