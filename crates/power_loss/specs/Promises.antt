-- What GOOD promises: one command from its COMMAND to its GOOD, with the data that were carried for it meanwhile; and a
-- short exchange that waits, from any moment to its reply (JESD220, 10.7; SBC, FUA and SYNCHRONIZE CACHE).
use Rattle.std.specs.Prelude.{◌≡◌, ℕ, ◌*◌, ◌<◌, ◌≤◌, ◌==◌, Bool, true, if◌then◌else◌, is_some, List, [], ◌∷◌, ◌++◌}
use Rattle.std.specs.Prelude.{find, length, slice_get, Option, Some, Ok}
use Rattle.std.specs.Global.{Vec}
use Rattle.ufs_spec.specs.Commands.{Write}
use Rattle.ufs_spec.specs.Exchanges.{Short, is_short_of, status_byte, task_of}
use Rattle.ufs_spec.specs.declared.exchanges.Status.TheVariants.{Good}
use Rattle.ufs_spec.specs.Lives.{Leads, Life, held}
use Rattle.ufs_spec.specs.Machine.{Allowed, Answer, Reply, Call, Heard, OfHost, Host, IsHeard, OfReply, Spelled}
use Rattle.ufs_spec.specs.Machine.{blocks_in, observe, tag_in}
use Rattle.ufs_spec.specs.Refusals.{Request, State, locked}
use Rattle.ufs_spec.specs.declared.events.Event.{Event}
use Rattle.ufs_spec.specs.declared.events.Output.{Output}
use Rattle.ufs_spec.specs.declared.messages.Message.{Message}
use Rattle.ufs_spec.specs.declared.messages.Message.TheVariants as message

-- The COMMAND

-- the COMMAND of a request, as the device hears it
abbrev pub command_message : Request → Message
command_message r = message.Command r.flags r.lun r.tag r.expected r.bytes

-- the COMMAND of a request as a call hears it, with the command that its CDB spells
abbrev pub heard_command : Request → Heard
heard_command r = Spelled (command_message r) r.cdb

-- the request's COMMAND is taken in the first state, and leads to the second
pub record IsTaken (s : State) (r : Request) (t : State) : Type 0 where
  pub bytes : Vec ℕ
  pub spelled : IsHeard bytes.items (heard_command r)
  pub right : Allowed s (Host (heard_command r)) (OfHost (Ok tt))
  pub next : t ≡ observe s (Host (heard_command r)) (OfHost (Ok tt))

-- Its data

-- a task of the tag is open
abbrev pub has_task : ℕ → State → Bool
has_task tag s = is_some (task_of tag s.tasks)

-- the data that a message carries for the task of the tag: a DATA OUT alone has any
abbrev pub data_in : ℕ → Message → List ℕ
data_in tag (message.DataOut lun other offset «data») = if other == tag then «data».items else []
data_in tag other = []

-- the data that a call carries for the task of the tag; a message that is refused carries none
abbrev pub data_of : ℕ → Call → Answer → List ℕ
data_of tag (Host (Spelled m c)) (OfHost (Ok done)) = data_in tag m
data_of tag call answer = []

-- a life in each of whose states a task of the tag is open, and the data that its DATA OUTs carry for it, in order
abbrev pub Carries : ℕ → State → List Event → List Output → State → List ℕ → Type 0
Carries tag s [] [] t bytes = (has_task tag s ≡ true) × (t ≡ s) × (bytes ≡ [])
Carries tag s (e ∷ es) (o ∷ os) t bytes =
    (has_task tag s ≡ true)
    × ((next : State) × (leads : Leads s e o next) × (rest : List ℕ)
    × (bytes ≡ data_of tag leads.call leads.answer ++ rest) × Carries tag next es os t rest)
Carries tag s _ _ t bytes = ⊥

-- Its answer

-- a reply of the tag is handed out in the first state, and leads to the second
pub record IsReplied (s : State) (tag : ℕ) (m : Message) (t : State) : Type 0 where
  pub right : Allowed s Reply (OfReply (Some m))
  pub tag_is : tag_in m ≡ tag
  pub next : t ≡ observe s Reply (OfReply (Some m))

-- a RESPONSE with status GOOD
abbrev pub IsGood : Message → Type 0
IsGood (message.Response flags lun tag response status residual sense) = status ≡ status_byte Good
IsGood other = ⊥

-- one command: its COMMAND is taken in the first state; its task stays open, and these data are carried for it; then
-- its GOOD is handed out, which leads to the second state
pub record IsAnsweredGood (s : State) (r : Request) (bytes : List ℕ) (t : State) : Type 0 where
  pub begun : State
  pub ended : State
  pub events : List Event
  pub outputs : List Output
  pub answer : Message
  pub taken : IsTaken s r begun
  pub carries : Carries r.tag begun events outputs ended bytes
  pub good : IsGood answer
  pub replied : IsReplied ended r.tag answer t

-- What it promises

-- the request's write of these blocks is held: it was accepted after the first state, at this position, which is held
-- in the second state, and it writes to the request's unit the data that were carried, which are all of these blocks
pub record IsHeldWrite (s : State) (r : Request) (address blocks : ℕ) (bytes : List ℕ) (t : State) : Type 0 where
  pub position : ℕ
  pub later : length s.accepted ≤ position
  pub is_held : position < held t
  pub there : slice_get t.accepted position ≡ Some (Write r.lun address (blocks_in blocks bytes))
  pub whole : length bytes ≡ 4096 * blocks

-- Short exchanges

-- the short exchange of the tag, if one is open
abbrev pub short_of : ℕ → State → Option Short
short_of tag s = find (is_short_of tag) s.shorts

-- a life in each of whose states a short exchange of the tag is open
abbrev pub StaysOpen : ℕ → State → List Event → List Output → State → Type 0
StaysOpen tag s [] [] t = (is_some (short_of tag s) ≡ true) × (t ≡ s)
StaysOpen tag s (e ∷ es) (o ∷ os) t =
    (is_some (short_of tag s) ≡ true) × ((next : State) × Leads s e o next × StaysOpen tag next es os t)
StaysOpen tag s _ _ t = ⊥

-- a life leads from the first state to the second
abbrev pub LeadsTo : State → State → Type 0
LeadsTo s t = (es : List Event) × (os : List Output) × Life s es os t

-- a life leads from the first state to the second, and the device was locked on the way
pub record WasLocked (s t : State) : Type 0 where
  pub state : State
  pub is_locked : locked state ≡ true
  pub before : LeadsTo s state
  pub after : LeadsTo state t
