-- Small changes that may come in a life: each keeps the state tied to its dies and commands, and so do all of a call.
use Rattle.power_loss.proofs.Common.{Bool, List, [], ap, arith, drop, length, map, refl, subst, suc, sym, zero, ℕ, ◌++◌}
use Rattle.power_loss.proofs.Common.{◌∙◌, ◌∷◌, ◌≡◌, ◌≤◌, filter, nat_le, Shows, CanApplyAll, Group, IsCommand, group_of}
use Rattle.power_loss.proofs.Common.{groups_of, accepted_groups, Accept, EndJob, IsAllowedMove, LetGoAll, Move, GiveJob}
use Rattle.power_loss.proofs.Common.{TakeStep, moved, CanApply, Plain, after, apply, Translation, is_mended, Numbers}
use Rattle.power_loss.proofs.Common.{if_both}
use Rattle.power_loss.proofs.MachineWords.{Command, Awaiting, Deed, Short, Task, claimed_by, deed_locked, durable}
use Rattle.power_loss.proofs.MachineWords.{fill_moves, fills, is_durable, is_to_fill, lock_applied, short_locked}
use Rattle.power_loss.proofs.MachineWords.{task_filled, task_locked, with_moves, State, locked, numbers_of, plain_now}
use Rattle.power_loss.proofs.MachineWords.{DeedFits, IsTied, ShortFits, TasksAreRight, TasksRight, claim_of}
use Rattle.ufs_laws.proofs.walk.SmallChanges.{same_task, Accepts, Both, Change, Changes, IsSmall, IsSmallMove, Maps}
use Rattle.ufs_laws.proofs.walk.SmallChanges.{MapsShorts, Moves, One, SetsRegisters, Still, changed, fills_task, kept}
use Rattle.ufs_laws.proofs.walk.SmallChanges.{lock_short}
use Rattle.power_loss.proofs.moves.MovesKeepCellsFitting.{move_fits, move_stays}
use Rattle.power_loss.proofs.open_tasks.TaskLists.{KeepsTasks, shorts_kept, tasks_kept}
use Rattle.power_loss.proofs.laid_rests.AllMoves.{laid_move}
use Rattle.power_loss.proofs.calls.TiesToDies.{Ties, fits_of, tasks_stay, ties_of, ties_stay, whole}

-- Changes that may come

-- a move may come, and a command be applied and its group accepted
abbrev pub LayerMay : State → Change → Type 0
LayerMay s (Moves move) = IsAllowedMove s.translation move
LayerMay s (Accepts command claimed f) =
    IsCommand command × CanApply (plain_now s) command × IsAllowedMove s.translation
    (Accept claimed (group_of (plain_now s) command))
LayerMay s change = Unit {0}

pub record IsRight (s : State) (change : Change) : Type 0 where
  pub small : IsSmall change
  pub layer : LayerMay s change
  -- the tasks and the short exchanges are right behind it
  pub tasks : TasksAreRight (changed s change)

-- the second state is the first one after changes that may come
abbrev pub Right : State → State → Type 0
Right = Changes IsRight

-- One command more

can_more : (p : Plain) (cs : List Command) (c : Command) → CanApplyAll p cs → IsCommand c → CanApply (after p cs) c →
    CanApplyAll p (cs ++ c ∷ [])
can_more p [] c can is one = (is, one, tt)
can_more p (d ∷ ds) c can is one = (can.0, can.1, can_more (apply p d) ds c can.2 is one)

groups_more : (p : Plain) (cs : List Command) (c : Command) → groups_of p (cs ++ c ∷ []) ≡ groups_of p cs ++ group_of
    (after p cs) c ∷ []
groups_more p [] c = refl
groups_more p (d ∷ ds) c = ap (λ (gs : List Group). group_of p d ∷ gs) (groups_more (apply p d) ds c)

drop_more : {X : Type 0} (n : ℕ) (xs : List X) (x : X) → n ≤ length xs → drop n (xs ++ x ∷ []) ≡ drop n xs ++ x ∷ []
drop_more zero xs x h = refl
drop_more (suc n) [] x h = absurd (omega arith)
drop_more (suc n) (y ∷ ys) x h = drop_more n ys x (omega arith)

-- What they keep

record LeavesGroups (t u : Translation) : Type 0 where
  groups : accepted_groups u.ledger ≡ accepted_groups t.ledger
  cells : u.disk.cells ≡ t.disk.cells

small_leaves : {t : Translation} (move : Move) → IsSmallMove move → LeavesGroups t (moved t move)
small_leaves (Accept claimed g) is = absurd is
small_leaves (GiveJob die flight) is = absurd is
small_leaves (EndJob die ending) is = absurd is
small_leaves TakeStep is = absurd is
small_leaves move is = record { groups = refl; cells = refl }

accepted_ties : {s : State} (c : Command) (claimed : ℕ) → IsTied s → IsCommand c → CanApply (plain_now s) c →
    Ties s.array s.base (s.accepted ++ c ∷ []) (moved s.translation (Accept claimed (group_of (plain_now s) c)))
accepted_ties {s} c claimed v is can = record {
  shown = v.shown;
  plain = v.base.0;
  shape = v.base.1;
  contents = v.contents;
  commands = can_more s.base s.accepted c v.commands is can;
  groups =
      let g : Group = group_of (plain_now s) c in
      drop_more s.translation.ledger.repairs s.translation.ledger.groups g v.valid.history.within
      ∙ (ap (λ (gs : List Group). gs ++ g ∷ []) v.groups ∙ sym (groups_more s.base s.accepted c));
}

change_keeps : (s : State) (change : Change) → IsRight s change → IsTied s → IsTied (changed s change)
change_keeps s (Moves move) r v =
    let leaves = small_leaves move r.small in
    whole (with_moves s (move ∷ [])) (move_fits move (fits_of v) r.layer)
    (laid_move s.translation move v.valid v.laid r.layer)
    (ties_stay (ties_of v)
    (move_stays s.translation move) (subst (Shows s.array) (sym leaves.cells) v.shown) leaves.groups) r.tasks
change_keeps s (Accepts command claimed f) r v =
    let g : Group = group_of (plain_now s) command in
    whole (changed s (Accepts command claimed f)) (move_fits (Accept claimed g) (fits_of v) r.layer.2)
    (laid_move s.translation (Accept claimed g) v.valid v.laid r.layer.2)
    (accepted_ties command claimed v r.layer.0 r.layer.1) r.tasks
change_keeps s change r v = whole (changed s change) (fits_of v) v.laid (ties_of v) r.tasks

pub right_keeps : {s t : State} → Right s t → IsTied s → IsTied t
right_keeps h = kept (λ (s t : State). IsTied s → IsTied t)
    (record { self = λ s v. v; both = λ s t u h k v. k (h v); one = change_keeps }) h

-- a move that takes no claim back
pub right_move : {s : State} (move : Move) → IsTied s → IsSmallMove move → IsAllowedMove s.translation move →
    s.translation.claims ≤ (moved s.translation move).claims → Right s (with_moves s (move ∷ []))
right_move {s} move v small may claims = One (Moves move) (record {
  small = small;
  layer = may;
  tasks = tasks_stay s s.accepted (move_stays s.translation move) claims (omega arith) v.tasks;
})

-- The lock

locked_fits : (s : State) (n : Numbers) (a : ℕ) (m : Bool) (task : Task) (deed : Deed) →
    DeedFits n a m (claimed_by n deed task.command) task.length deed →
    DeedFits n a m (claimed_by n (deed_locked s task deed) task.command) task.length (deed_locked s task deed)
locked_fits s n a m task (Awaiting commands) h =
    if_both (λ (d : Deed). DeedFits n a m (claimed_by n d task.command) task.length d)
    (nat_le commands (durable s)) h tt
locked_fits s n a m task deed h = h

locked_claims : (n : Numbers) (s : State) (task : Task) (deed : Deed) →
    claimed_by n (deed_locked s task deed) task.command ≤ claimed_by n deed task.command
locked_claims n s task (Awaiting commands) =
    if_both (λ (d : Deed). claimed_by n d task.command ≤ 0) (nat_le commands (durable s)) (omega arith) (omega arith)
locked_claims n s task deed = omega arith

short_fits : (s : State) {a : ℕ} {m : Bool} (x : Short) → ShortFits a m x → ShortFits a m (short_locked s x)
short_fits s {a} {m} x h = if_both (ShortFits a m) (is_durable s x.awaits) h
    (record { awaits = tt; reply = h.locked_reply; locked_reply = h.locked_reply })

pub lock_right : {s : State} → IsTied s → Right s (lock_applied s)
lock_right {s} v = if_both (Right s) (locked s)
    (Both (One (Maps (task_locked s)) (record { small = λ task. same_task task _ _; layer = tt; tasks = tasks }))
    (One (MapsShorts (short_locked s)) (record {
      small = lock_short s;
      layer = tt;
      tasks = shorts_kept (record { tag = lock_short s; fits = short_fits s }) tasks;
    }))) Still
  where
    n : Numbers
    n = numbers_of s

    a : ℕ
    a = length s.accepted

    m : Bool
    m = is_mended s.translation.work.mending

    tasks : TasksRight n a m s.translation.claims (map (task_locked s) s.tasks) s.shorts
    tasks = tasks_kept (record {
      tag = λ t. refl;
      fits = λ t h. locked_fits s n a m t t.deed h;
      claim = λ t. locked_claims n s t t.deed;
    }) v.tasks

-- Requests that fill a register

filling_right : (s : State) (tasks : List Task) → IsTied s → Right s (with_moves s (fill_moves tasks))
filling_right s [] v = Still
filling_right s (task ∷ tasks) v =
    let go = right_move (LetGoAll task.tag) v tt tt (omega arith) in
    Both go (filling_right (with_moves s (LetGoAll task.tag ∷ [])) tasks (right_keeps go v))

-- a task that fills a register stays the same but for its request
filled_keeps : (s : State) {n : Numbers} {a : ℕ} {m : Bool} → KeepsTasks n a m (task_filled s)
filled_keeps s {n} {a} {m} = record {
  tag = λ t. if_both (λ (x : Task). x.tag ≡ t.tag) (is_to_fill s t) refl refl;
  fits = λ t h. if_both (λ (x : Task). DeedFits n a m (claim_of n x) x.length x.deed) (is_to_fill s t) h h;
  claim = λ t. if_both (λ (x : Task). claim_of n x ≤ claim_of n t) (is_to_fill s t) (omega arith) (omega arith);
}

pub fills_right : {s : State} → IsTied s → Right s (fills s)
fills_right {s} v =
    let go = filling_right s (filter (is_to_fill s) s.tasks) v in
    let u : State = with_moves s (fill_moves (filter (is_to_fill s) s.tasks)) in
    let tied = right_keeps go v in
    let tasks = tasks_kept (filled_keeps s) tied.tasks in
    Both go
    (Both (One (Maps (task_filled s)) (record { small = fills_task s; layer = tt; tasks = tasks }))
    (One (SetsRegisters (fills s).registers) (record { small = tt; layer = tt; tasks = tasks })))

-- and then the lock is told
pub settled_right : {s : State} → IsTied s → Right s (lock_applied (fills s))
settled_right {s} v = let h = fills_right v in Both h (lock_right (right_keeps h v))
