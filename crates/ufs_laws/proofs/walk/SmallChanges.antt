-- What a call makes of the state: first a job begins or ends, or a step; and then come small changes alone. What they
-- keep is a case for each kind of them (`kept`, `layer_kept`).
use Rattle.ufs_laws.proofs.Common.{Answer, Answering, Array, Awaiting, Bool, Call, Cdb, Claim, Command, Deed, Done}
use Rattle.ufs_laws.proofs.Common.{EndJob, Flight, Frame, GiveJob, Heard, Host, Key, List, Message, Move, None, Numbers}
use Rattle.ufs_laws.proofs.Common.{OfDone, OfHost, OfReply, OfTake, OfTurn, Option, Pin, ReadState, Registers, Reply}
use Rattle.ufs_laws.proofs.Common.{Request, RpmbRequest, Sending, Short, Some, State, Take, TakeStep, Task, Translation}
use Rattle.ufs_laws.proofs.Common.{Turn, [], abort_moves, accepts, ap, area_key, begun, behind, below, blocks_expected}
use Rattle.ufs_laws.proofs.Common.{claimed_by, data_key, false, fills, filter, flat_map, given_back, group_of, if_both}
use Rattle.ufs_laws.proofs.Common.{is_durable, is_short_of, is_task_of, is_to_fill, length, lock_applied, locked, map}
use Rattle.ufs_laws.proofs.Common.{moved, moves_after, not, numbers_of, observe, plain_now, read_begun, refl}
use Rattle.ufs_laws.proofs.Common.{refused_state, replied, requested, set_deed, short_locked, subst, task_filled}
use Rattle.ufs_laws.proofs.Common.{task_locked, task_read, true, with_deed, with_moves, with_request, with_short}
use Rattle.ufs_laws.proofs.Common.{with_task, without_tasks, ℕ, ◌*◌, ◌++◌, ◌+◌, ◌∷◌, ◌≡◌}
use Rattle.std.specs.Prelude.{Ok}
use Rattle.ufs_spec.specs.FrameRequests.{first_page, page_kept, pages_named}
use Rattle.ufs_spec.specs.Machine.{acknowledges, array_after, fill_moves, hears, kept_at, registers_after}
use Rattle.ufs_spec.specs.Refusals.{brought}
use Rattle.ufs_spec.specs.Moves.{Accept, Acknowledge, Keep, LetGo, LetGoAll, Release, WantPage}
use Rattle.ufs_spec.specs.declared.scsi.Cdb.TheVariants as cdb
pub use Rattle.ufs_laws.proofs.walk.Happenings.{first, job_over, Aborts, Begins, BlockRead, Gathers, GoesOn, Happening}
pub use Rattle.ufs_laws.proofs.walk.Happenings.{IsOver, NothingMore, Refuses, Replies, ShortOver, behind_by, happened}
pub use Rattle.ufs_laws.proofs.walk.Happenings.{Completes, Differs, IsSame, Resets, Sets, Tells}
use Rattle.ufs_spec.specs.Exchanges.{all_empty}
use Rattle.ufs_spec.specs.Machine.{link_reset, volatile_reset}
use Rattle.std.proofs.lemmas.List.{map-id}
use Rattle.ufs_laws.proofs.walk.WaysOfCommands.{Beginning, Gathered, Handing, Reading, Telling, WhyBegun, begins_by}
use Rattle.ufs_laws.proofs.walk.WaysOfCommands.{Answered, Checking, Verifying, begun_as, expecting}
use Rattle.ufs_spec.specs.Begins.{wanted_at}
use Rattle.ufs_laws.proofs.walk.WaysOfData.{Accepted, AcceptsFrames, Completion, HasResult, ReadsArea, Told}
use Rattle.ufs_laws.proofs.walk.WaysOfData.{claim_of_task, completed}
use Rattle.ufs_spec.specs.declared.volatile.Volatile.{Volatile}

-- ## Small changes

pub data Change : Type 0 where
  -- a move of the translation layer
  Moves : (move : Move) → Change
  -- a command is accepted, and its group in place of claimed slots; its task does something else from now on
  Accepts : (command : Command) → (claimed : ℕ) → (f : Task → Task) → Change
  -- a task is opened, each does something else, or some are closed
  Opens : (task : Task) → Change
  Maps : (f : Task → Task) → Change
  Closes : (is : Task → Bool) → Change
  -- and short exchanges
  OpensShort : (short : Short) → Change
  MapsShorts : (f : Short → Short) → Change
  ClosesShorts : (is : Short → Bool) → Change
  -- the RPMB registers; what is volatile
  SetsRegisters : (registers : ℕ → Registers) → Change
  SetsVolatile : (volatile : Volatile) → Change

abbrev pub changed : State → Change → State
changed s (Moves move) = with_moves s (move ∷ [])
changed s (Accepts command claimed f) = record (accepts s command claimed) { tasks = map f s.tasks }
changed s (Opens task) = record s { tasks = s.tasks ++ task ∷ [] }
changed s (Maps f) = record s { tasks = map f s.tasks }
changed s (Closes is) = record s { tasks = filter (λ task. not (is task)) s.tasks }
changed s (OpensShort short) = with_short s short
changed s (MapsShorts f) = record s { shorts = map f s.shorts }
changed s (ClosesShorts is) = record s { shorts = filter (λ short. not (is short)) s.shorts }
changed s (SetsRegisters registers) = record s { registers = registers }
changed s (SetsVolatile volatile) = record s { volatile = volatile }

-- neither the beginning nor the end of a job, nor a step
abbrev pub IsQuiet : Move → Type 0
IsQuiet (GiveJob die flight) = ⊥
IsQuiet (EndJob die ending) = ⊥
IsQuiet TakeStep = ⊥
IsQuiet move = Unit {0}

-- and a group is accepted with its command alone
abbrev pub IsSmallMove : Move → Type 0
IsSmallMove (GiveJob die flight) = ⊥
IsSmallMove (EndJob die ending) = ⊥
IsSmallMove TakeStep = ⊥
IsSmallMove (Accept claimed g) = ⊥
IsSmallMove move = Unit {0}

-- it is the same task, whatever it does and whatever its request has filled
pub record SameTask (task other : Task) : Type 0 where
  pub lun : other.lun ≡ task.lun
  pub tag : other.tag ≡ task.tag
  pub expected : other.expected ≡ task.expected
  pub command : other.command ≡ task.command
  pub length : other.length ≡ task.length

abbrev pub IsSmall : Change → Type 0
IsSmall (Moves move) = IsSmallMove move
IsSmall (Accepts command claimed f) = (task : Task) → SameTask task (f task)
IsSmall (Maps f) = (task : Task) → SameTask task (f task)
IsSmall (MapsShorts f) = (short : Short) → (f short).tag ≡ short.tag
IsSmall change = Unit {0}

-- the second state is the first one after changes, each of which might come where it came
pub data Changes (May : State → Change → Type 0) : State → State → Type 0 where
  Still : {s : State} → Changes May s s
  One : {s : State} → (change : Change) → May s change → Changes May s (changed s change)
  Both : {s t u : State} → Changes May s t → Changes May t u → Changes May s u

abbrev pub Small : State → State → Type 0
Small = Changes (λ s change. IsSmall change)

-- ## What changes keep

pub record IsKept (May : State → Change → Type 0) (R : State → State → Type 0) : Type 0 where
  pub self : (s : State) → R s s
  pub both : (s t u : State) → R s t → R t u → R s u
  pub one : (s : State) (change : Change) → May s change → R s (changed s change)

pub kept : {May : State → Change → Type 0} (R : State → State → Type 0) → IsKept May R → {s t : State} →
    Changes May s t → R s t
kept R k {s} Still = k.self s
kept R k {s} (One change is) = k.one s change is
kept R k (Both {s} {t} {u} h g) = k.both s t u (kept R k h) (kept R k g)

pub weaker : {May Might : State → Change → Type 0} → ((s : State) (change : Change) → May s change → Might s change) →
    {s t : State} → Changes May s t → Changes Might s t
weaker f Still = Still
weaker f {s} (One change may) = One change (f s change may)
weaker f (Both h g) = Both (weaker f h) (weaker f g)

-- of the translation layer, quiet moves alone
pub record IsLayerKept (R : Translation → Translation → Type 0) : Type 0 where
  pub self : (t : Translation) → R t t
  pub both : (t u v : Translation) → R t u → R u v → R t v
  pub one : (t : Translation) (move : Move) → IsQuiet move → R t (moved t move)

pub small_quiet : (move : Move) → IsSmallMove move → IsQuiet move
small_quiet (GiveJob die flight) is = is
small_quiet (EndJob die ending) is = is
small_quiet TakeStep is = is
small_quiet move is = tt

pub layer_kept : (R : Translation → Translation → Type 0) → IsLayerKept R → {s t : State} → Small s t →
    R s.translation t.translation
layer_kept R k h = kept (λ (s t : State). R s.translation t.translation) (record {
  self = λ s. k.self s.translation;
  both = λ s t u h g. k.both s.translation t.translation u.translation h g;
  one = one;
}) h
  where
    one : (s : State) (change : Change) → IsSmall change → R s.translation (changed s change).translation
    one s (Moves move) is = k.one s.translation move (small_quiet move is)
    one s (Accepts c claimed f) is = k.one s.translation (Accept claimed (group_of (plain_now s) c)) tt
    one s change is = k.self s.translation

-- ## The walk

one_move : {s : State} (move : Move) → IsSmallMove move → Small s (with_moves s (move ∷ []))
one_move move is = One (Moves move) is

-- Tasks

opens : {s : State} (r : Request) (c : Option Cdb) (n : ℕ) (deed : Deed) → Small s (with_task s r c n deed)
opens r c n deed = One (Opens _) tt

pub same_task : (task : Task) (deed : Deed) (request : Option RpmbRequest) →
    SameTask task (record task { deed = deed; request = request })
same_task task deed request = record { lun = refl; tag = refl; expected = refl; command = refl; length = refl }

pub does : (tag : ℕ) (deed : Deed) (task : Task) → SameTask task (with_deed tag deed task)
does tag deed task =
    if_both (SameTask task) (is_task_of tag task) (same_task task deed task.request) (same_task task _ _)

set : {s : State} (tag : ℕ) (deed : Deed) → Small s (set_deed s tag deed)
set tag deed = One (Maps (with_deed tag deed)) (does tag deed)

-- Commands

keeps_small : (s : State) (k : ℕ → Key) (f : ℕ → Pin) (xs : List ℕ) →
    Small s (with_moves s (map (λ i. Keep (k i) (f i)) xs))
keeps_small s k f [] = Still
keeps_small s k f (x ∷ xs) =
    Both (one_move (Keep (k x) (f x)) tt) (keeps_small (with_moves s (Keep (k x) (f x) ∷ [])) k f xs)

read_small : (s : State) (r : Request) (command : Cdb) (unit address n : ℕ) →
    Small s (read_begun s r command unit address n)
read_small s r command unit address n =
    Both (keeps_small s (λ i. data_key unit (address + i)) (kept_at s r.tag unit address) (below (blocks_expected r n)))
    (opens r (Some command) n _)

begun_small : (s : State) (r : Request) (unit : ℕ) (command : Cdb) → Small s (begun s r unit command)
begun_small s r unit c = begins_by (Small s) s r unit c one
  where
    one : (b : Beginning) → WhyBegun s r unit c b → Small s (begun_as s r c b)
    one (Reading unit address n) why = read_small s r (brought r.expected c) unit address n
    one (Gathered expected count purpose n) why = Both (one_move (Claim count) tt) (opens (expecting r expected) _ n _)
    one (Answered expected n) why = opens (expecting r expected) _ n _
    one (Verifying u address n) why =
        Both (keeps_small s (λ i. data_key u (address + i)) (wanted_at s r.tag u address) (below n)) (opens r _ 0 _)
    one (Checking u address n) why =
        Both (keeps_small s (λ i. data_key u (address + i)) (kept_at s r.tag u address) (below n)) (opens r _ (4096 * n) _)
    one (Handing region n) why = Both (opens r (Some (cdb.SecurityIn region n)) _ _) (One (SetsRegisters _) tt)
    one (Telling volatile bytes) why = Both (One (SetsVolatile volatile) tt) (opens r _ _ _)
    one b why = opens r _ _ _

-- Tasks that are aborted

aborts_small : (s : State) (n : Numbers) (tasks : List Task) → Small s (with_moves s (flat_map (abort_moves n) tasks))
aborts_small s n [] = Still
aborts_small s n (task ∷ tasks) =
    Both (one_move (Release (claimed_by n task.deed task.command)) tt)
    (Both (one_move (LetGoAll task.tag) tt) (aborts_small (with_moves s (abort_moves n task)) n tasks))

without_small : (s : State) (is : Task → Bool) → Small s (without_tasks s is)
without_small s is =
    Both (aborts_small s (numbers_of s) (filter is s.tasks))
    (Both (One (Closes is) tt) (One (SetsRegisters (registers_after (filter is s.tasks) s.registers)) tt))

-- The link is reset

-- where all go none is left
pub none_left : {A : Type 0} → (xs : List A) → filter (λ (x : A). not true) xs ≡ []
none_left [] = refl
none_left (x ∷ xs) = none_left xs

pub all_go : {A : Type 0} → (xs : List A) → filter (λ (x : A). true) xs ≡ xs
all_go [] = refl
all_go (x ∷ xs) = ap (λ (rest : List _). x ∷ rest) (all_go xs)

-- all tasks are aborted
pub reset_is : (s : State) (kind : ℕ) →
    record (without_tasks s (λ task. true)) {
      shorts = [];
      volatile = volatile_reset kind s.volatile;
      registers = all_empty;
    }
    ≡ link_reset s kind
reset_is s kind i =
    record (with_moves s (flat_map (abort_moves (numbers_of s)) (all_go s.tasks i))) {
      tasks = none_left s.tasks i;
      shorts = [];
      volatile = volatile_reset kind s.volatile;
      registers = all_empty;
    }

reset_small : (s : State) (kind : ℕ) → Small s (link_reset s kind)
reset_small s kind =
    subst (Small s) (reset_is s kind)
    (subst
    (λ (shorts : List Short). Small s (record (without_tasks s (λ task. true)) {
      shorts = shorts;
      volatile = volatile_reset kind s.volatile;
      registers = all_empty;
    }))
    (none_left s.shorts)
    (Both (without_small s (λ task. true))
    (Both (One (ClosesShorts (λ short. true)) tt)
    (Both (One (SetsVolatile (volatile_reset kind s.volatile)) tt) (One (SetsRegisters all_empty) tt)))))

-- Replies

behind_small : (s : State) (task : Task) (deed : Deed) → Small s (with_moves s (moves_after task deed))
behind_small s task (Sending blocks sent) =
    Both (one_move (LetGo task.tag sent) tt) (one_move (WantPage task.tag (sent + 1)) tt)
behind_small s task (Awaiting commands) = one_move (Acknowledge commands) tt
behind_small s task deed = Still

tells_small : (s : State) (awaits : Option ℕ) → Small s (with_moves s (acknowledges awaits))
tells_small s None = Still
tells_small s (Some commands) = one_move (Acknowledge commands) tt

-- Requests of the RPMB

pub requests : (tag : ℕ) (request : RpmbRequest) (deed : Deed) (task : Task) →
    SameTask task (with_request tag request deed task)
requests tag request deed task =
    if_both (SameTask task) (is_task_of tag task) (same_task task deed (Some request)) (same_task task _ _)

request_small : {s : State} (task : Task) (region : ℕ) (frames : List Frame) (result : ℕ) (deed : Deed) →
    Small s (requested s task region frames result deed)
request_small task region frames result deed =
    Both (One (Maps _) (requests task.tag (record { region = region; frames = frames; result = result; filled = false })
    deed)) (One (SetsRegisters _) tt)

-- All data of a task

completes_small : (s : State) (task : Task) (k : Completion) → Small s (completed s task k)
completes_small s task (Told status released) = Both (one_move (Release released) tt) (set task.tag _)
completes_small s task (Accepted command claimed deed) =
    One (Accepts command claimed (with_deed task.tag deed)) (does task.tag deed)
completes_small s task (HasResult region frames result) =
    Both (one_move (Release (claim_of_task s task)) tt) (request_small task region frames result _)
completes_small s task (ReadsArea region f fs result) =
    Both (one_move (Release (claim_of_task s task)) tt)
    (Both (keeps_small (given_back s task) (λ i. area_key region (first_page f + i)) (page_kept s task.tag region f)
    (below (pages_named f))) (request_small task region (f ∷ fs) result _))
completes_small s task (AcceptsFrames region frames result command) =
    Both (One (Accepts command (claim_of_task s task) (with_request task.tag
    (record { region = region; frames = frames; result = result; filled = false }) (Awaiting (length s.accepted + 1))))
    (requests task.tag _ _)) (One (SetsRegisters _) tt)

-- Settings

set_small : (s : State) (command : Command) (short : Short) →
    Small s (with_short (accepts (with_moves s (Claim 1 ∷ [])) command 1) short)
set_small s command short =
    Both (one_move (Claim 1) tt) (Both (subst (λ (tasks : List Task). Small u
    (record (accepts u command 1) { tasks = tasks })) (map-id s.tasks) (One (Accepts command 1 (λ task. task)) (λ task.
    same_task task task.deed task.request))) (One (OpensShort short) tt))
  where
    u : State
    u = with_moves s (Claim 1 ∷ [])

-- What happens in a call

pub reads : (tag index : ℕ) (state : ReadState) (task : Task) → SameTask task (task_read tag index state task)
reads tag index state task = if_both (SameTask task) (is_task_of tag task) (same_task task _ _) (same_task task _ _)

happens_small : (s : State) (h : Happening) → Small s (happened s h)
happens_small s NothingMore = Still
happens_small s (Replies short) = One (OpensShort short) tt
happens_small s (Tells volatile short) = Both (One (SetsVolatile volatile) tt) (One (OpensShort short) tt)
happens_small s (Sets command short) = set_small s command short
happens_small s (Refuses r status) =
    Both (One (SetsVolatile (refused_state s r).volatile) tt) (opens r None 0 (Answering status 0))
happens_small s (Begins r c) = begun_small s r _ c
happens_small s (Gathers task purpose all) = set task.tag _
happens_small s (Completes task k) = completes_small s task k
happens_small s (IsSame task blocks compared) =
    Both (one_move (LetGo task.tag compared) tt)
    (Both (one_move (WantPage task.tag (compared + 1)) tt) (set task.tag _))
happens_small s (Differs task compared) = Both (one_move (LetGoAll task.tag) tt) (set task.tag _)
happens_small s (Aborts volatile is short) =
    Both (One (SetsVolatile volatile) tt) (Both (without_small _ is) (One (OpensShort short) tt))
happens_small s (Resets kind) = reset_small s kind
happens_small s (GoesOn task deed) = Both (behind_small s task task.deed) (set task.tag deed)
happens_small s (IsOver task) =
    Both (behind_small s task task.deed)
    (Both (One (Closes (is_task_of task.tag)) tt) (one_move (LetGoAll task.tag) tt))
happens_small s (ShortOver short) = Both (One (ClosesShorts (is_short_of short.tag)) tt) (tells_small _ short.awaits)
happens_small s (BlockRead tag index state) = One (Maps (task_read tag index state)) (reads tag index state)

-- The lock

pub lock_short : (s : State) (x : Short) → (short_locked s x).tag ≡ x.tag
lock_short s x = if_both (λ (y : Short). y.tag ≡ x.tag) (is_durable s x.awaits) refl refl

pub lock_small : (s : State) → Small s (lock_applied s)
lock_small s =
    if_both (Small s) (locked s)
    (Both (One (Maps (task_locked s)) (λ task. same_task task _ _)) (One (MapsShorts (short_locked s))
    (lock_short s))) Still

-- Requests that fill a register

pub fills_task : (s : State) (task : Task) → SameTask task (task_filled s task)
fills_task s task = if_both (SameTask task) (is_to_fill s task) (same_task task _ _) (same_task task _ _)

fill_moves_small : (s : State) (tasks : List Task) → Small s (with_moves s (fill_moves tasks))
fill_moves_small s [] = Still
fill_moves_small s (task ∷ tasks) =
    Both (one_move (LetGoAll task.tag) tt) (fill_moves_small (with_moves s (LetGoAll task.tag ∷ [])) tasks)

pub fills_small : (s : State) → Small s (fills s)
fills_small s =
    Both (fill_moves_small s (filter (is_to_fill s) s.tasks))
    (Both (One (Maps (task_filled s)) (fills_task s)) (One (SetsRegisters (fills s).registers) tt))

-- and then the lock is told
pub settled_small : (s : State) → Small s (lock_applied (fills s))
settled_small s = Both (fills_small s) (lock_small (fills s))

-- ## Calls

pub behind_call : (s : State) (call : Call) (answer : Answer) → Small (first s call answer) (behind s call answer)
behind_call s call answer = behind_by (Small (first s call answer)) s call answer (λ h why. happens_small _ h)

pub hears_small : (s : State) (h : Heard) → Small s (hears s h)
hears_small s h = behind_call s (Host h) (OfHost (Ok tt))

pub replied_small : (s : State) (m : Message) → Small s (replied s m)
replied_small s m = behind_call s Reply (OfReply (Some m))

-- behind what it does first, each call makes small changes alone
pub observed : (s : State) (call : Call) (answer : Answer) → Small (first s call answer) (observe s call answer)
observed s call answer = Both (behind_call s call answer) (settled_small (behind s call answer))

-- what changes and each move by itself keep, with any pages, a call keeps
pub first_kept : (R : State → State → Type 0) → ((s : State) → R s s) →
    ((s : State) (move : Move) (array : Array) → R s (record (with_moves s (move ∷ [])) { array = array })) →
    (s : State) (call : Call) (answer : Answer) → R s (first s call answer)
first_kept R self one s (Take die) (OfTake (Some flight)) = one s (GiveJob die flight) s.array
first_kept R self one s (Done die ending left) (OfDone true) = by (s.translation.disk.flights die)
  where
    by : (flight : Option Flight) → R s (job_over s die flight ending left)
    by None = self s
    by (Some flight) = one s (EndJob die ending) (array_after s flight ending left)
first_kept R self one s Turn (OfTurn due) = one s TakeStep s.array
first_kept R self one s call answer = self s

pub call_kept : (R : State → State → Type 0) → IsKept (λ s change. IsSmall change) R →
    ((s : State) (move : Move) (array : Array) → R s (record (with_moves s (move ∷ [])) { array = array })) →
    (s : State) (call : Call) (answer : Answer) → R s (behind s call answer) × R s (observe s call answer)
call_kept R k one s call answer =
    let h = first_kept R k.self one s call answer in
    (k.both s _ _ h (kept R k (behind_call s call answer)), k.both s _ _ h (kept R k (observed s call answer)))
