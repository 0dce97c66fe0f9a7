-- One promising command from its COMMAND on: what its task does in every state in which it is open.
use Rattle.ufs_spec.specs.Exchanges.{Comparing}
use Rattle.power_loss.proofs.Common.{◌≡◌, ℕ, suc, ◌+◌, ◌*◌, ◌≤◌, ◌==◌, Bool, true, false, List, [], ◌∷◌, ◌++◌, length}
use Rattle.power_loss.proofs.Common.{Some, map, slice_get, refl, sym, ap, ◌∙◌, subst, arith, nat_le, nat_lt}
use Rattle.power_loss.proofs.Common.{length-append, if_both, false≢true, Release}
use Rattle.power_loss.proofs.MachineWords.{Command, Write, Answering, Awaiting, Deed, ForWrite, Gathering, Good}
use Rattle.power_loss.proofs.MachineWords.{Purpose, ReadState, Sending, Status, Task, count_at, is_asked_in, is_task_of}
use Rattle.power_loss.proofs.MachineWords.{task_of, with_deed, write_error, accepts, blocks_in, data_for, deed_locked}
use Rattle.power_loss.proofs.MachineWords.{deed_read, durable, set_deed, task_read, with_moves, write_complete}
use Rattle.power_loss.proofs.MachineWords.{write_deed, State, locked}
use Rattle.std.specs.Prelude.{◌&&◌, if◌then◌else◌}
use Rattle.std.proofs.lemmas.Bool.{ltb-false}
use Rattle.ufs_laws.proofs.walk.SmallChanges.{does}
use Rattle.ufs_spec.proofs.Lists.{get_front}
use Rattle.power_loss.proofs.books.PagesByName.{get_last}
use Rattle.power_loss.proofs.open_tasks.FoundInLists.{found_is, found_map}
use Rattle.power_loss.proofs.books.SmallFacts.{and_true, eq_told, if_true}
use Rattle.power_loss.proofs.host_commands.HandedOutReplies.{FitsIn}

-- Promises

-- a flush that waits for all that was accepted before it; a write of these blocks, after so many accepted commands
pub data Promise : Type 0 where
  OfFlush : (first : ℕ) → Promise
  OfWrite : (first unit address blocks : ℕ) → Promise

-- a write to this place of these data, as many as its blocks
pub record IsWriteAt (first unit address blocks : ℕ) (accepted : List Command) (bytes : List ℕ)
    (position : ℕ) : Type 0 where
  pub later : first ≤ position
  pub there : slice_get accepted position ≡ Some (Write unit address (blocks_in blocks bytes))
  pub whole : length bytes ≡ 4096 * blocks

-- what is promised once so many commands are durable
abbrev pub IsMet : Promise → List Command → List ℕ → ℕ → Type 0
IsMet (OfFlush first) accepted bytes n = first ≤ n
IsMet (OfWrite first unit address blocks) accepted bytes n =
    (j : ℕ) × (suc j ≡ n) × IsWriteAt first unit address blocks accepted bytes j

-- the data are for the promised write, which has FUA
abbrev pub IsFor : Promise → Purpose → Type 0
IsFor (OfWrite first unit address blocks) (ForWrite u a b forced) =
    (u ≡ unit) × (a ≡ address) × (b ≡ blocks) × (forced ≡ true)
IsFor promise purpose = ⊥

abbrev pub NotGood : Status → Type 0
NotGood Good = ⊥
NotGood status = Unit {0}

-- the task keeps to it: it gathers just the data that were carried, waits for the promised position, or is not answered
-- GOOD
abbrev pub KeepsTo : Promise → List Command → List ℕ → Deed → Type 0
KeepsTo p accepted bytes (Gathering purpose gathered asked) = IsFor p purpose × (gathered ≡ bytes)
KeepsTo p accepted bytes (Awaiting n) = IsMet p accepted bytes n
KeepsTo p accepted bytes (Answering status carried) = NotGood status
KeepsTo p accepted bytes deed = ⊥

abbrev pub first_of : Promise → ℕ
first_of (OfFlush first) = first
first_of (OfWrite first unit address blocks) = first

pub record Tracked (p : Promise) (tag : ℕ) (bytes : List ℕ) (tasks : List Task) (accepted : List Command) : Type 0 where
  pub task : Task
  pub there : task_of tag tasks ≡ Some task
  pub keeps : KeepsTo p accepted bytes task.deed
  pub later : first_of p ≤ length accepted

abbrev pub TrackedIn : Promise → ℕ → List ℕ → State → Type 0
TrackedIn p tag bytes s = Tracked p tag bytes s.tasks s.accepted

-- Commands are accepted

pub met_more : (p : Promise) (cs more : List Command) (bytes : List ℕ) (n : ℕ) → IsMet p cs bytes n →
    IsMet p (cs ++ more) bytes n
met_more (OfFlush first) cs more bytes n h = h
met_more (OfWrite first unit address blocks) cs more bytes n h =
    (h.0, h.1, record { later = h.2.later; there = get_front cs more h.0 _ h.2.there; whole = h.2.whole })

keeps_more : (p : Promise) (cs more : List Command) (bytes : List ℕ) (deed : Deed) → KeepsTo p cs bytes deed →
    KeepsTo p (cs ++ more) bytes deed
keeps_more p cs more bytes (Awaiting n) h = met_more p cs more bytes n h
keeps_more p cs more bytes deed h = h

-- the task is the same one
pub same_tracked : (p : Promise) (tag : ℕ) (bytes : List ℕ) (tasks others : List Task) (cs : List Command)
    {ds : List Command} (more : List Command) →
    ((task : Task) → task_of tag tasks ≡ Some task → task_of tag others ≡ Some task) → ds ≡ cs ++ more →
    Tracked p tag bytes tasks cs → Tracked p tag bytes others ds
same_tracked p tag bytes tasks others cs more same e h = subst (Tracked p tag bytes others) (sym e)
    (record {
      task = h.task;
      there = same h.task h.there;
      keeps = keeps_more p cs more bytes h.task.deed h.keeps;
      later = let l = length-append cs more in omega (arith, h.later);
    })

-- Tasks do something else

pub map_tracked : (p : Promise) (tag : ℕ) (bytes : List ℕ) (f : Task →
    Task) (tasks : List Task) (cs : List Command) → ((task : Task) → (f task).tag ≡ task.tag) →
    ((task : Task) → KeepsTo p cs bytes task.deed → KeepsTo p cs bytes (f task).deed) →
    Tracked p tag bytes tasks cs → Tracked p tag bytes (map f tasks) cs
map_tracked p tag bytes f tasks cs same keep h = record {
  task = f h.task;
  there = found_map (is_task_of tag) f (λ x. ap (λ (n : ℕ). n == tag) (same x)) tasks h.task h.there;
  keeps = keep h.task h.keeps;
  later = h.later;
}

-- the task of the tag does this from now on
pub set_tracked : (p : Promise) (tag : ℕ) (bytes : List ℕ) {task : Task} (deed : Deed) (tasks : List Task)
    (cs : List Command) → task_of tag tasks ≡ Some task →
    KeepsTo p cs bytes deed → first_of p ≤ length cs → Tracked p tag bytes (map (with_deed tag deed) tasks) cs
set_tracked p tag bytes {task} deed tasks cs there keeps later =
    let is : with_deed tag deed task ≡ record task { deed = deed } =
    if_true (is_task_of tag task) (record task { deed = deed }) task (found_is (is_task_of tag) tasks task there) in
    record {
      task = record task { deed = deed };
      there = found_map (is_task_of tag) (with_deed tag deed)
          (λ x. ap (λ (n : ℕ). n == tag) (does tag deed x).tag) tasks task there ∙ ap Some is;
      keeps = keeps;
      later = later;
    }

-- a read for a READ, and the lock
read_keeps : (p : Promise) (cs : List Command) (bytes : List ℕ) (index : ℕ) (state : ReadState) (deed : Deed) →
    KeepsTo p cs bytes deed → KeepsTo p cs bytes (deed_read index state deed)
read_keeps p cs bytes index state (Sending blocks sent) h = absurd h
read_keeps p cs bytes index state (Comparing blocks compared asked) h = absurd h
read_keeps p cs bytes index state deed h = h

pub task_read_keeps : (p : Promise) (cs : List Command) (bytes : List ℕ) (tag index : ℕ) (state : ReadState)
    (task : Task) → KeepsTo p cs bytes task.deed → KeepsTo p cs bytes (task_read tag index state task).deed
task_read_keeps p cs bytes tag index state task h =
    if_both (λ (x : Task). KeepsTo p cs bytes x.deed) (is_task_of tag task)
    (read_keeps p cs bytes index state task.deed h) h

pub lock_keeps : (p : Promise) (cs : List Command) (bytes : List ℕ) (s : State) (task : Task) (deed : Deed) →
    KeepsTo p cs bytes deed → KeepsTo p cs bytes (deed_locked s task deed)
lock_keeps p cs bytes s task (Awaiting n) h = if_both (KeepsTo p cs bytes) (nat_le n (durable s)) h tt
lock_keeps p cs bytes s task deed h = h

-- Its data come

write_tracked : (p : Promise) (s : State) {task : Task} (unit address blocks : ℕ) (forced : Bool) (bytes : List ℕ) →
    task_of task.tag s.tasks ≡ Some task →
    IsFor p (ForWrite unit address blocks forced) → length bytes ≡ 4096 * blocks → first_of p ≤ length s.accepted →
    TrackedIn p task.tag bytes (write_complete s task unit address blocks forced bytes)
write_tracked (OfFlush first) s unit address blocks forced bytes there is whole later = absurd is
write_tracked (OfWrite first u a b) s {task} unit address blocks forced bytes there is whole later = by (locked s)
  where
    p : Promise
    p = OfWrite first u a b

    c : Command
    c = Write unit address (blocks_in blocks bytes)

    same : c ≡ Write u a (blocks_in b bytes)
    same = ap (λ (x : ℕ). Write x address (blocks_in blocks bytes)) is.0
        ∙ ap (λ (x : ℕ). Write u x (blocks_in blocks bytes)) is.1 ∙ ap (λ (x : ℕ). Write u a (blocks_in x bytes)) is.2

    met : IsMet p (s.accepted ++ c ∷ []) bytes (length s.accepted + 1)
    met = (
      length s.accepted,
      omega arith,
      record {
        later = later;
        there = get_last s.accepted c ∙ ap Some same;
        whole = whole ∙ ap (λ (x : ℕ). 4096 * x) is.2;
      },
    )

    waits : KeepsTo p (s.accepted ++ c ∷ []) bytes (write_deed forced (length s.accepted + 1) task.length)
    waits =
        subst (λ (f : Bool). KeepsTo p (s.accepted ++ c ∷ []) bytes (write_deed f (length s.accepted + 1) task.length))
        (sym is.3) met

    by : (d : Bool) → TrackedIn p task.tag bytes
        (if d then set_deed (with_moves s (Release blocks ∷ [])) task.tag (Answering write_error task.length)
        else set_deed (accepts s c blocks) task.tag (write_deed forced (length s.accepted + 1) task.length))
    by true = set_tracked p task.tag bytes (Answering write_error task.length) s.tasks s.accepted there tt later
    by false = set_tracked p task.tag bytes (write_deed forced (length s.accepted + 1) task.length) s.tasks
        (s.accepted ++ c ∷ []) there waits (let l = length-append s.accepted (c ∷ []) in omega arith)

-- the data are those that were asked for, so that no more come than the task has
pub data_tracked : (p : Promise) (s : State) {task : Task} (deed : Deed) (lun offset : ℕ) (bytes more : List ℕ) →
    task_of task.tag s.tasks ≡ Some task → KeepsTo p s.accepted bytes deed →
    first_of p ≤ length s.accepted → FitsIn s task deed → is_asked_in task lun offset (length more) deed ≡ true →
    TrackedIn p task.tag (bytes ++ more) (data_for s task deed more)
data_tracked (OfWrite first u a b) s {task} (Gathering (ForWrite unit address blocks forced) gathered asked) lun offset
    bytes more there keeps later fits is = by (nat_lt (length (gathered ++ more)) (4096 * blocks)) refl
  where
    p : Promise
    p = OfWrite first u a b

    all : List ℕ
    all = gathered ++ more

    same : all ≡ bytes ++ more
    same = ap (λ (xs : List ℕ). xs ++ more) keeps.1

    most : length all ≤ 4096 * blocks
    most =
        let last = and_true (asked && (task.lun == lun) && (offset == length gathered))
        (length more == count_at (4096 * blocks) (length gathered)) is in
        let count = eq_told (length more) (count_at (4096 * blocks) (length gathered)) last.1 in
        let joined = length-append gathered more in
        let short = fits.short in
        omega arith

    by : (d : Bool) → nat_lt (length all) (4096 * blocks) ≡ d →
        TrackedIn p task.tag (bytes ++ more) (if d then set_deed s task.tag (Gathering
        (ForWrite unit address blocks forced) all false) else write_complete s task unit address blocks forced all)
    by true e = set_tracked p task.tag (bytes ++ more)
        (Gathering (ForWrite unit address blocks forced) all false) s.tasks s.accepted there (keeps.0, same) later
    by false e =
        let l = ltb-false (length all) (4096 * blocks) e in
        let k = most in
        subst (λ (xs : List ℕ). TrackedIn p task.tag xs (write_complete s task unit address blocks forced all)) same
        (write_tracked p s unit address blocks forced all there keeps.0 (omega arith) later)
data_tracked p s (Gathering purpose gathered asked) lun offset bytes more there keeps later fits is = absurd keeps.0
data_tracked p s (Comparing blocks compared asked) lun offset bytes more there keeps later fits is = absurd keeps
data_tracked p s deed lun offset bytes more there keeps later fits is = absurd (false≢true is)
