-- Lives: what happens to a device with its dies from an opening to the next stop, and over any number of
-- stops. A stop may come at any moment, inside any program or erase. The last definition is the promise
-- of the product (this profile).
use Rattle.std.specs.Prelude.{◌≡◌, ◌≢◌, ◌⊎◌, ℕ, ◌≤◌, Bool, true, List, [], ◌∷◌, ◌++◌, AllPairs, Contains, length}
use Rattle.std.specs.Prelude.{slice_get, slice_index_or, take, Option, Some, None, option_map}
use Rattle.std.specs.List.{All}
use Rattle.ufs_spec.specs.Cells.{Array, Cell, Cells, Shows}
use Rattle.ufs_spec.specs.Dies.{DieState, IsOfSize, is_bad_block, new_die, page_at}
use Rattle.ufs_spec.specs.Disk.{Crash, Erasing, Flight, Programming, Reading, Spot, Touches, flight_alone, job_of}
use Rattle.ufs_spec.specs.Disk.{page_of, spot_of}
use Rattle.ufs_spec.specs.Exchanges.{all_empty}
use Rattle.ufs_spec.specs.Keys.{IsKey, content}
use Rattle.ufs_spec.specs.Kept.{StandsFor}
use Rattle.ufs_spec.specs.Machine.{Allowed, Answer, Reply, Call, Done, OfDone, Take, OfTake, Heard, OfHost, Host}
use Rattle.ufs_spec.specs.Machine.{IsHeard, OfReply, Turn, OfTurn, observe}
use Rattle.ufs_spec.specs.Messages.{spelling}
use Rattle.ufs_spec.specs.Moves.{Ending, ReadRight, ReadWrong, WentWell, WentWrong}
use Rattle.ufs_spec.specs.Openings.{IsOpenedTranslation}
use Rattle.ufs_spec.specs.Pages.{MayBeLeft}
use Rattle.ufs_spec.specs.Plain.{Plain, after, shape_of_numbers}
use Rattle.ufs_spec.specs.Refusals.{State, numbers_of}
use Rattle.ufs_spec.specs.Translation.{is_bad}
use Rattle.ufs_spec.specs.declared.configs.Numbers.{Numbers}
use Rattle.ufs_spec.specs.declared.events.Event.{Event}
use Rattle.ufs_spec.specs.declared.events.Event.TheVariants as event
use Rattle.ufs_spec.specs.declared.events.Leftover.{Leftover}
use Rattle.ufs_spec.specs.declared.events.Leftover.TheVariants as leftover
use Rattle.ufs_spec.specs.declared.events.Output.{Output}
use Rattle.ufs_spec.specs.declared.events.Output.TheVariants as output
use Rattle.ufs_spec.specs.declared.flash.Page.{Page}
use Rattle.ufs_spec.specs.declared.flash.Place.{Place}
use Rattle.ufs_spec.specs.declared.volatile.TheConstants.Volatile.{NEW}

-- ## Leftovers

-- what a leftover says of the page there, if it names it
abbrev pub page_left : Leftover → Place → Page → Type 0
page_left (leftover.Page q page) p left = (q ≡ p) × (left ≡ page)
page_left (leftover.Block die block pages) p left =
    (spot_of p ≡ record { die = die; block = block }) × (slice_get pages.items p.page ≡ Some left)

-- a leftover names just the page, or all pages of just the block, that the job touches; a read or no job leaves nothing
abbrev pub IsLeftoverOf : Numbers → Option Flight → Leftover → Type 0
IsLeftoverOf n (Some (Programming p cell)) (leftover.Page q page) = q ≡ p
IsLeftoverOf n (Some (Erasing s)) (leftover.Block die block pages) =
    (s ≡ record { die = die; block = block }) × (length pages.items ≡ n.pages)
IsLeftoverOf n flight left = ⊥

-- the die on which a leftover is
abbrev pub die_of : Leftover → ℕ
die_of (leftover.Page q page) = q.die
die_of (leftover.Block die block pages) = die

-- a page that a leftover names is as one of them says, and a page that none names is as it was
abbrev pub IsLeft : Array → List Leftover → Array → Type 0
IsLeft array lefts after = (p : Place) →
    ((l : Leftover) × Contains lefts l × page_left l p (after p))
    ⊎ (((l : Leftover) (page : Page) → Contains lefts l → page_left l p page → ⊥) × (after p ≡ array p))

-- each leftover is that of its die's job, and no die has two, so that one list of leftovers leaves one array
abbrev pub AreLeftovers : State → List Leftover → Type 0
AreLeftovers s lefts =
    All (λ l. IsLeftoverOf (numbers_of s) (s.translation.disk.flights (die_of l)) l) lefts
    × AllPairs (λ l m. die_of l ≢ die_of m) lefts

-- each page that the leftover names is one that the job of its die may leave there: the old content, the intended one,
-- or one whose check fails
abbrev pub IsLawfulLeftover : State → Leftover → Type 0
IsLawfulLeftover s l =
    (p : Place) (page : Page) → page_left l p page →
    (intended : Cell) × Touches (s.translation.disk.flights p.die) p intended
    × MayBeLeft (s.array p) (page_of intended) page

-- ## Events

-- how a job ends that its die did as it was told
abbrev pub ended_well : Flight → Ending
ended_well (Reading reader place) = ReadRight
ended_well (Programming place cell) = WentWell
ended_well (Erasing spot) = WentWell

-- how a job ends that failed: a read leaves nothing; a program or an erase leaves what an interruption of that one job
-- may, and its leftover says which
abbrev pub IsFailure : State → ℕ → Option Flight → Option Leftover → Ending → Array → Type 0
IsFailure s die (Some (Reading reader place)) None ReadWrong left = left ≡ s.array
IsFailure s die (Some flight) (Some l) (WentWrong cells) left =
    IsLeftoverOf (numbers_of s) (Some flight) l × IsLeft s.array (l ∷ []) left
    × Crash s.array (flight_alone s.translation.disk.flights die) left × Shows left cells
IsFailure s die flight l ending left = ⊥

-- the call that tells of a job which went well; without a job of the die there is none
abbrev pub IsFinish : State → ℕ → Option Flight → Call → Type 0
IsFinish s die None call = ⊥
IsFinish s die (Some flight) call = call ≡ Done die (ended_well flight) s.array

-- the call that an event is, with what the event says of pages; a stop is none
abbrev pub IsCall : State → Event → Call → Type 0
IsCall s (event.Host bytes) call = (heard : Heard) × IsHeard bytes.items heard × (call ≡ Host heard)
IsCall s event.Reply call = call ≡ Reply
IsCall s (event.Take die) call = call ≡ Take die
IsCall s (event.Finish die) call = IsFinish s die (s.translation.disk.flights die) call
IsCall s (event.Fail die l) call =
    (ending : Ending) × (left : Array)
    × IsFailure s die (s.translation.disk.flights die) l ending left × (call ≡ Done die ending left)
IsCall s event.Turn call = call ≡ Turn
IsCall s (event.Stop lefts) call = ⊥

-- what an answer shows: a job as the die is told it, a reply as its one spelling. An ending is shown only of
-- a job that was known
abbrev pub IsShown : Answer → Output → Type 0
IsShown (OfHost result) (output.Host shown) = shown ≡ result
IsShown (OfHost result) shown = ⊥
IsShown (OfTake flight) (output.Take job) = job ≡ option_map job_of flight
IsShown (OfTake flight) shown = ⊥
IsShown (OfDone known) output.Ended = known ≡ true
IsShown (OfDone known) shown = ⊥
IsShown (OfTurn due) (output.Turn shown) = shown ≡ due
IsShown (OfTurn due) shown = ⊥
IsShown (OfReply None) (output.Reply shown) = shown ≡ None
IsShown (OfReply (Some m)) (output.Reply None) = ⊥
IsShown (OfReply (Some m)) (output.Reply (Some bytes)) = bytes.items ≡ spelling m
IsShown (OfReply reply) shown = ⊥

-- one event of a life: it may show this output, since the answer is right, and leads to the second state
pub record Leads (s : State) (e : Event) (o : Output) (t : State) : Type 0 where
  pub call : Call
  pub answer : Answer
  pub is_call : IsCall s e call
  pub is_shown : IsShown answer o
  pub right : Allowed s call answer
  pub next : t ≡ observe s call answer

-- ## One life

-- the events lead from the first state to the last, and each output is right in the state to which
-- the events before it lead
abbrev pub Life : State → List Event → List Output → State → Type 0
Life s [] [] t = t ≡ s
Life s (e ∷ es) (o ∷ os) t = (next : State) × Leads s e o next × Life next es os t
Life s _ _ t = ⊥

-- which blocks are bad in this state; the next life begins with them
abbrev pub bad_in : State → Spot → Bool
bad_in s spot = is_bad (s.translation.disk.blocks spot)

-- a life begins over the array: its base is what the array stands for, and nothing is accepted or open
pub record IsOpened (n : Numbers) (array : Array) (bad : Spot → Bool) (s : State) : Type 0 where
  pub array_now : s.array ≡ array
  pub cells : Cells
  pub shown : Shows array cells
  pub translation : IsOpenedTranslation n cells bad s.translation
  pub stands : StandsFor n array s.base
  -- the layer has the content of each key as the base has it
  pub contents : (k : _) → IsKey (shape_of_numbers n) k → s.translation.ledger.base k ≡ content s.base k
  pub none_accepted : s.accepted ≡ []
  pub no_tasks : s.tasks ≡ []
  pub no_shorts : s.shorts ≡ []
  -- what is volatile and the RPMB registers do not outlast a stop
  pub fresh : s.volatile ≡ NEW
  pub no_registers : s.registers ≡ all_empty

-- ## Stops

-- the array that a stop leaves: the leftovers fit the jobs in flight, all else stays, and it is one that
-- an interruption may leave (`Crash`)
pub record Stops (s : State) (lefts : List Leftover) (left : Array) : Type 0 where
  pub fit : AreLeftovers s lefts
  pub is_left : IsLeft s.array lefts left
  pub crash : Crash s.array s.translation.disk.flights left

-- the event is a stop: it leaves an array, and a device is opened over that array, with the same bad blocks
abbrev pub Reopens : Numbers → State → Event → Output → State → Type 0
Reopens n s (event.Stop lefts) output.Stopped t =
    (left : Array) × Stops s lefts.items left × IsOpened n left (bad_in s) t
Reopens n s e o t = ⊥

-- ## Runs

-- the event leads on in the life, or it is a stop and the next life begins after it
abbrev pub GoesOn : Numbers → State → Event → Output → State → Type 0
GoesOn n s e o t = Leads s e o t ⊎ Reopens n s e o t

-- the events show these outputs and lead from one state to the other, over any number of stops
abbrev pub Runs : Numbers → State → List Event → List Output → State → Type 0
Runs n s [] [] t = t ≡ s
Runs n s (e ∷ es) (o ∷ os) t = (next : State) × GoesOn n s e o next × Runs n next es os t
Runs n s _ _ t = ⊥

-- ## Several lives

-- how many accepted commands, from the first on, are acknowledged as durable: up to a FUA WRITE that was
-- answered GOOD, all before a SYNCHRONIZE CACHE without IMMED that was answered GOOD, up to a setting or an
-- RPMB request that was answered
abbrev pub held : State → ℕ
held s = s.translation.ledger.held

-- one life: where it began, its events, what they showed, and where it ended
pub record Lived : Type 0 where
  pub start : State
  pub events : List Event
  pub outputs : List Output
  pub finish : State

-- the life begins as opened over the array, and each of its answers is right
abbrev pub IsLived : Numbers → Array → (Spot → Bool) → Lived → Type 0
IsLived n array bad l = IsOpened n array bad l.start × Life l.start l.events l.outputs l.finish

-- the first life has the base; each later one has what the first k accepted commands of the life before it make of that
-- life's base. This k is at least `held` and at most all; one k is for units, settings and RPMB together
abbrev pub Chain : Plain → Lived → List Lived → List ℕ → Type 0
Chain base l [] [] = l.start.base ≡ base
Chain base l (m ∷ ls) (k ∷ ks) =
    (l.start.base ≡ base) × (held l.finish ≤ k) × (k ≤ length l.finish.accepted)
    × Chain (after base (take k l.finish.accepted)) m ls ks
Chain base l _ _ = ⊥

-- the events and outputs are those of the lives, cut at the stops; each life begins over what the stop before it left,
-- with the same bad blocks
abbrev pub Lives : Numbers → Array → (Spot → Bool) → Lived → List Lived → List Event → List Output → Type 0
Lives n array bad l [] es os = IsLived n array bad l × (es ≡ l.events) × (os ≡ l.outputs)
Lives n array bad l (m ∷ ls) es os =
    IsLived n array bad l
    × ((lefts : _) × (rest : List Event) × (shown : List Output) × (left : Array)
    × (es ≡ l.events ++ event.Stop lefts ∷ rest)
    × (os ≡ l.outputs ++ output.Stopped ∷ shown)
    × Stops l.finish lefts.items left
    × Lives n left (bad_in l.finish) m ls rest shown)

-- ## Dies

-- the page at each place of the dies; where there is no die every page is blank
abbrev pub array_of : List DieState → Array
array_of dies p = page_at (slice_index_or dies p.die (new_die 0 0)) p.block p.page

-- which blocks of the dies are bad
abbrev pub bad_of : List DieState → Spot → Bool
bad_of dies s = is_bad_block (slice_index_or dies s.die (new_die 0 0)) s.block

-- there are as many dies as the configuration says, each of its size
abbrev pub Fit : Numbers → List DieState → Type 0
Fit n dies = (length dies ≡ n.dies) × All (IsOfSize n.blocks n.pages) dies

-- ## The promise

-- Stopped at any moment, inside any page program or block erase and under every order of host messages, die jobs,
-- flushes and collector steps, the device that opens afterwards has its units, settings, RPMB area, key and counter
-- as after a prefix of the accepted commands, and this prefix holds every command that was acknowledged as durable.
-- Its premises are not part of it. The dies fit the configuration, and before the first life their pages are sound
-- and suit it, as new dies are. They are honest: a finished job is what was reported, a read gives what is there,
-- and nobody else writes them. An interruption touches only its page or block, and a torn page's check does not
-- match. The openings had memory and met no read fault.
pub record Headline (n : Numbers) (dies : List DieState) (events : List Event) (trace : List Output) : Type 0 where
  -- what the dies stand for at the start
  pub base : Plain
  pub stands : StandsFor n (array_of dies) base
  -- the life before the first stop, and those after each stop
  pub first : Lived
  pub later : List Lived
  -- of each stop, how many commands accepted in the life before it are there afterwards
  pub ks : List ℕ
  pub lives : Lives n (array_of dies) (bad_of dies) first later events trace
  pub chain : Chain base first later ks
