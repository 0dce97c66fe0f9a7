-- A query: it is answered at once, or is a setting that is accepted.
use Rattle.power_loss.proofs.Common.{Bool, CanApply, Claim, IsCommand, List, None, Option, Some, [], and_parts, ap}
use Rattle.power_loss.proofs.Common.{arith, cond-false, false, false≢true, free_slots, is_mended, is_none, length}
use Rattle.power_loss.proofs.Common.{length-append, ltb-false, ltb-true, map, nat_lt, none-some, not, refl, same_Some}
use Rattle.power_loss.proofs.Common.{subst, sym, true, true≢false, ℕ, ◌&&◌, ◌++◌, ◌+◌, ◌-◌, ◌==◌, ◌∙◌, ◌∷◌, ◌≡◌, ◌≤◌}
use Rattle.power_loss.proofs.MachineWords.{Command, Task, short_reply, accepts, with_moves, with_short, State}
use Rattle.power_loss.proofs.MachineWords.{locked, mended, numbers_of, plain_now, IsTied, TasksRight}
use Rattle.std.specs.Prelude.{if◌then◌else◌}
use Rattle.std.proofs.lemmas.List.{map-id}
use Rattle.ufs_spec.proofs.ConfigFacts.{command_blocks-some}
use Rattle.ufs_spec.proofs.ParameterTable.{boot_value}
use Rattle.ufs_spec.specs.Commands.{SetBoot, SetPermanent}
use Rattle.ufs_spec.specs.Keys.{keys}
use Rattle.ufs_spec.specs.Queries.{Query, QueryLine, first_code, has_wrong_index, has_wrong_idn, has_wrong_opcode}
use Rattle.ufs_spec.specs.Queries.{has_wrong_selector, has_wrong_size, has_wrong_value, is_not_readable, is_not_writable}
use Rattle.ufs_spec.specs.Queries.{is_shut, query_line, setting_of, sets_permanent, volatile_after, was_written}
use Rattle.ufs_spec.specs.Queries.{writes_boot}
use Rattle.ufs_spec.specs.QueryAnswers.{may_set, query_done, query_failed, query_heard, query_passed, setting_accepted}
use Rattle.ufs_laws.proofs.walk.Happenings.{code_of_query}
use Rattle.ufs_laws.proofs.walk.SmallChanges.{Accepts, Both, One, same_task}
use Rattle.power_loss.proofs.calls.RightChanges.{Right, right_keeps, right_move}
use Rattle.power_loss.proofs.host_commands.AcceptedCommands.{IsComing, command_allowed}
use Rattle.power_loss.proofs.host_commands.OpenedByCommands.{IsFree, reply_right, short_right, volatile_right}
use Rattle.power_loss.proofs.open_tasks.TaskLists.{tasks_more}
use Rattle.ufs_spec.specs.declared.volatile.Volatile.{Volatile}

-- No line of the table applies

-- a line whose code is not 0 does not apply where the code is 0
line_passed : (b : Bool) (code rest : ℕ) → (code == 0) ≡ false → ((if b then code else rest) == 0) ≡ true →
    (b ≡ false) × ((rest == 0) ≡ true)
line_passed true code rest other e = absurd (true≢false (sym e ∙ other))
line_passed false code rest other e = (refl, e)

-- what the table lets through: a value in its range, and a setting only while one may come
record IsLetThrough (s : State) (q : Query) : Type 0 where
  value : has_wrong_value (numbers_of s) q ≡ false
  open_now : is_shut (may_set s) q ≡ false

let_through : (s : State) (q : Query) → (code_of_query s q == 0x00) ≡ true → (q.asked.opcode == 0) ≡ false →
    IsLetThrough s q
let_through s q code some =
    let n = numbers_of s in
    let p = plain_now s in
    let one = line_passed (has_wrong_opcode q) 0xFE _ refl code in
    let two : (first_code (lines s q) == 0) ≡ true =
    sym (ap (λ (x : ℕ). x == 0) (cond-false (q.asked.opcode == 0) 0x00 (first_code (lines s q)) some)) ∙ one.1 in
    let three = line_passed (has_wrong_idn n q) 0xFD _ refl two in
    let four = line_passed (has_wrong_index n q) 0xFC _ refl three.1 in
    let five = line_passed (has_wrong_selector n q) 0xFB _ refl four.1 in
    let six = line_passed (is_not_readable n q) 0xF6 _ refl five.1 in
    let seven = line_passed (is_not_writable n q) 0xF7 _ refl six.1 in
    let eight = line_passed (has_wrong_size q) 0xF9 _ refl seven.1 in
    let nine = line_passed (has_wrong_value n q) 0xFA _ refl eight.1 in
    let ten = line_passed (was_written p q) 0xF8 _ refl nine.1 in
    let eleven = line_passed (is_shut (may_set s) q) 0xFF _ refl ten.1 in
    record { value = nine.0; open_now = eleven.0 }
  where
    -- the lines from the third on
    lines : State → Query → List QueryLine
    lines s q =
        query_line (has_wrong_idn (numbers_of s) q) 0xFD
        ∷ query_line (has_wrong_index (numbers_of s) q) 0xFC
        ∷ query_line (has_wrong_selector (numbers_of s) q) 0xFB
        ∷ query_line (is_not_readable (numbers_of s) q) 0xF6
        ∷ query_line (is_not_writable (numbers_of s) q) 0xF7
        ∷ query_line (has_wrong_size q) 0xF9
        ∷ query_line (has_wrong_value (numbers_of s) q) 0xFA
        ∷ query_line (was_written (plain_now s) q) 0xF8
        ∷ query_line (is_shut (may_set s) q) 0xFF
        ∷ []

-- Settings

-- a setting in its range, on a mended device that is not locked and has a slot free
pub record IsSetting (s : State) (c : Command) : Type 0 where
  pub is : IsCommand c
  pub can : CanApply (plain_now s) c
  pub few : length (keys c) ≡ 1
  pub is_mended : is_mended s.translation.work.mending ≡ true
  pub unlocked : locked s ≡ false
  pub room : 1 ≤ free_slots s.translation

-- when one may come
may_told : (s : State) → may_set s ≡ true →
    (is_mended s.translation.work.mending ≡ true) × (locked s ≡ false) × (1 ≤ free_slots s.translation)
may_told s h =
    let all = and_parts (mended s && not (locked s)) (nat_lt 0 (free_slots s.translation)) h in
    let both = and_parts (mended s) (not (locked s)) all.0 in
    let room = ltb-true 0 (free_slots s.translation) all.1 in
    (both.0, true_not (locked s) both.1, omega (arith, room))
  where
    true_not : (b : Bool) → not b ≡ true → b ≡ false
    true_not true e = absurd (false≢true e)
    true_not false e = refl

open_told : (o : Option Command) (may : Bool) {c : Command} → o ≡ Some c → (not (is_none o) && not may) ≡ false →
    may ≡ true
open_told None may {c} e h = absurd (none-some c e)
open_told (Some d) true e h = refl
open_told (Some d) false e h = absurd (true≢false h)

setting_told : (s : State) (q : Query) (c : Command) → IsLetThrough s q → setting_of q ≡ Some c → IsSetting s c
setting_told s q c t e = by (writes_boot q) (sets_permanent q) refl e
  where
    may : (is_mended s.translation.work.mending ≡ true) × (locked s ≡ false) × (1 ≤ free_slots s.translation)
    may = may_told s (open_told (setting_of q) (may_set s) e t.open_now)

    boot : writes_boot q ≡ true → q.value ≤ 2
    boot k = boot_value (numbers_of s) q k t.value

    by : (a b : Bool) → writes_boot q ≡ a →
        (if a then Some (SetBoot q.value) else if b then Some SetPermanent else None) ≡ Some c → IsSetting s c
    by true b k h = subst (IsSetting s) (same_Some (SetBoot q.value) c h)
        (record { is = tt; can = (boot k, tt); few = refl; is_mended = may.0; unlocked = may.1; room = may.2 })
    by false true k h = subst (IsSetting s) (same_Some SetPermanent c h)
        (record { is = tt; can = (tt, tt); few = refl; is_mended = may.0; unlocked = may.1; room = may.2 })
    by false false k h = absurd (none-some c h)

-- the setting that a query is that succeeds
pub setting_is : (s : State) (q : Query) (c : Command) → (code_of_query s q == 0x00) ≡ true →
    (q.asked.opcode == 0) ≡ false → setting_of q ≡ Some c → IsSetting s c
setting_is s q c code some e = setting_told s q c (let_through s q code some) e

-- one slot is claimed, and taken by the group
set_right : {s : State} (c : Command) → IsTied s → IsSetting s c → Right s (accepts (with_moves s (Claim 1 ∷ [])) c 1)
set_right {s} c v h = Both one
    (subst (λ (tasks : List Task). Right u (record (accepts u c 1) { tasks = tasks })) (map-id s.tasks)
    (One (Accepts c 1 (λ task. task)) (record {
      small = λ task. same_task task task.deed task.request;
      layer = (h.is, h.can, command_allowed tied coming (omega arith));
      tasks = tasks;
    })))
  where
    u : State
    u = with_moves s (Claim 1 ∷ [])

    one : Right s (with_moves s (Claim 1 ∷ []))
    one = right_move (Claim 1) v tt h.room (omega arith)

    tied : IsTied (with_moves s (Claim 1 ∷ []))
    tied = right_keeps one v

    coming : IsComing (with_moves s (Claim 1 ∷ [])) c 1
    coming = let keys = h.few in record {
      is = h.is;
      can = h.can;
      few = omega arith;
      short = let some = command_blocks-some (numbers_of s) in omega arith;
      is_mended = h.is_mended;
      unlocked = h.unlocked;
    }

    tasks : TasksRight (numbers_of s) (length (s.accepted ++ c ∷ [])) (is_mended s.translation.work.mending)
        (s.translation.claims + 1 - 1) (map (λ task. task) s.tasks) s.shorts
    tasks = subst (λ (ts : List Task). TasksRight (numbers_of s) (length (s.accepted ++ c ∷ []))
        (is_mended s.translation.work.mending) (s.translation.claims + 1 - 1) ts s.shorts) (sym (map-id s.tasks))
        (tasks_more (let long = length-append s.accepted (c ∷ []) in omega arith) (λ k. k) (omega arith) v.tasks)

-- Queries

setting_right : {s : State} (tag : ℕ) (q : Query) (c : Command) → IsTied s → IsFree s tag → IsSetting s c →
    Right s (setting_accepted s tag q c)
setting_right {s} tag q c v free h =
    let set = set_right c v h in
    let long = length-append s.accepted (c ∷ []) in
    Both set (short_right (right_keeps set v) (record { no_task = free.no_task; no_short = free.no_short }) (record {
      awaits = (omega arith, h.is_mended);
      reply = refl;
      locked_reply = refl;
    }))

pub query_right : {s : State} (tag : ℕ) (q : Query) → IsTied s → IsFree s tag → Right s (query_heard s tag q)
query_right {s} tag q v free = by ((code_of_query s q == 0x00) && not (q.asked.opcode == 0)) refl
  where
    told : (volatile : Volatile) → Right s (with_short (record s { volatile = volatile })
        (short_reply tag (query_done (numbers_of s) (plain_now s) volatile tag q)))
    told volatile =
        let sets = volatile_right volatile v in
        Both sets (reply_right (query_done (numbers_of s) (plain_now s) volatile tag q) (right_keeps sets v)
        (record { no_task = free.no_task; no_short = free.no_short }) refl)

    passed : (o : Option Command) → setting_of q ≡ o → (code_of_query s q == 0x00) ≡ true →
        (q.asked.opcode == 0) ≡ false → Right s (query_passed s tag q o)
    passed None e code some = told (volatile_after (numbers_of s) (mended s) s.volatile q)
    passed (Some c) e code some = setting_right tag q c v free (setting_is s q c code some e)

    by : (b : Bool) → ((code_of_query s q == 0x00) && not (q.asked.opcode == 0)) ≡ b →
        Right s (if b then query_passed s tag q (setting_of q)
        else with_short s (short_reply tag (query_failed tag q (code_of_query s q))))
    by true e =
        let both = and_parts (code_of_query s q == 0x00) (not (q.asked.opcode == 0)) e in
        passed (setting_of q) refl both.0 (true_not (q.asked.opcode == 0) both.1)
      where
        true_not : (b : Bool) → not b ≡ true → b ≡ false
        true_not true e = absurd (false≢true e)
        true_not false e = refl
    by false e = reply_right (query_failed tag q (code_of_query s q)) v free refl
