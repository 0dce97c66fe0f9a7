-- A command that is accepted, its group in place of claimed slots, and slots that are given back.
use Rattle.power_loss.proofs.Common.{◌≡◌, ℕ, ◌+◌, ◌-◌, ◌≤◌, true, false, List, [], ◌∷◌, ◌++◌, Some, length, map, refl}
use Rattle.power_loss.proofs.Common.{◌∙◌, arith, length-append, IsCommand, IsPlain, group_of, Accept}
use Rattle.power_loss.proofs.Common.{IsAllowedMove, Release, CanApply, shape_of, shape_of_numbers, Translation}
use Rattle.power_loss.proofs.Common.{has_number, is_locked, is_mended, ltb-false, or_parts, shape_after}
use Rattle.power_loss.proofs.MachineWords.{Command, Answering, Deed, RpmbRequest, Status, Task, task_of, with_deed}
use Rattle.power_loss.proofs.MachineWords.{with_request, accepts, claimed_by, set_deed, with_moves, State, locked}
use Rattle.power_loss.proofs.MachineWords.{numbers_of, plain_now, DeedFits, IsTied, TasksRight, claim_of}
use Rattle.ufs_spec.specs.Configs.{command_blocks}
use Rattle.ufs_spec.specs.FrameRequests.{requested}
use Rattle.ufs_spec.specs.Frames.{Frame}
use Rattle.ufs_spec.specs.Keys.{keys}
use Rattle.ufs_spec.proofs.Facts.{le-leb}
use Rattle.ufs_laws.proofs.plain_contents.CommandsKeepPlain.{all_kept_plain}
use Rattle.ufs_laws.proofs.walk.SmallChanges.{Accepts, Both, Maps, Moves, One, SetsRegisters, does, requests}
use Rattle.power_loss.proofs.calls.RightChanges.{Right, right_keeps}
use Rattle.power_loss.proofs.commands.CommandGroups.{command_group, group_length}
use Rattle.power_loss.proofs.open_tasks.TaskLists.{task_requests, task_set}

-- Whether it may be accepted

pub not_locked : (t : Translation) → is_locked t ≡ false → has_number t ≡ true
not_locked t h = let both = or_parts _ _ h in le-leb _ _ (ltb-false _ _ both.1)

pub plain_tied : {s : State} → IsTied s → IsPlain (plain_now s)
plain_tied {s} v = all_kept_plain s.base s.accepted v.base.0 v.commands

pub shape_tied : {s : State} → IsTied s → shape_of (plain_now s) ≡ shape_of_numbers (numbers_of s)
shape_tied {s} v = shape_after s.base s.accepted v.commands ∙ v.base.1

-- the command may come now, and has no more keys than slots that are claimed for it: no more of them than a command
-- may have blocks
pub record IsComing (s : State) (c : Command) (claimed : ℕ) : Type 0 where
  pub is : IsCommand c
  pub can : CanApply (plain_now s) c
  pub few : length (keys c) ≤ claimed
  pub short : claimed ≤ command_blocks (numbers_of s)
  pub is_mended : is_mended s.translation.work.mending ≡ true
  pub unlocked : locked s ≡ false

pub command_allowed : {s : State} {c : Command} {claimed : ℕ} → IsTied s → IsComing s c claimed →
    claimed ≤ s.translation.claims → IsAllowedMove s.translation (Accept claimed (group_of (plain_now s) c))
command_allowed {s} {c} {claimed} v h has =
    let long = group_length (plain_now s) c in
    let few = h.few in
    let short = h.short in (
      h.is_mended,
      not_locked s.translation h.unlocked,
      omega (arith, long, few),
      has,
      command_group s.translation (plain_now s) c (shape_tied v) (plain_tied v) h.is h.can
          (omega (arith, few, short)),
    )

-- what a task fits with the deed behind the command
abbrev pub FitsBehind : State → Task → Deed → Type 0
FitsBehind s task deed = DeedFits (numbers_of s) (length s.accepted + 1) (is_mended s.translation.work.mending)
    (claimed_by (numbers_of s) deed task.command) task.length deed

module _ {s : State} {task : Task} {c : Command} (claimed : ℕ) (v : IsTied s)
    (there : task_of task.tag s.tasks ≡ Some task) (coming : IsComing s c claimed)
    (claim : claim_of (numbers_of s) task ≡ claimed) (has : claimed ≤ s.translation.claims) where
  abbrev more : List Command
  more = s.accepted ++ c ∷ []

  long : length more ≡ length s.accepted + 1
  long = length-append s.accepted (c ∷ [])

  behind : (deed : Deed) → FitsBehind s task deed → DeedFits (numbers_of s) (length more)
      (is_mended s.translation.work.mending) (claimed_by (numbers_of s) deed task.command) task.length deed
  behind deed fits = rw long fits

  -- its task does something else from now on
  pub accept_right : (deed : Deed) → FitsBehind s task deed → claimed_by (numbers_of s) deed task.command ≡ 0 →
      Right s (set_deed (accepts s c claimed) task.tag deed)
  accept_right deed fits none =
      One (Accepts c claimed (with_deed task.tag deed)) (record {
        small = does task.tag deed;
        layer = (coming.is, coming.can, command_allowed v coming has);
        tasks = task_set task.tag deed (omega (arith, long)) (λ h. h) there (behind deed fits) (omega arith) v.tasks;
      })

  -- or has a request too
  pub request_accepted : (region : ℕ) (frames : List Frame) (result : ℕ) (deed : Deed) → FitsBehind s task deed →
      claimed_by (numbers_of s) deed task.command ≡ 0 →
      Right s (requested (accepts s c claimed) task region frames result deed)
  request_accepted region frames result deed fits none =
      let request : RpmbRequest = record { region = region; frames = frames; result = result; filled = false } in
      let accepted = One (Accepts c claimed (with_request task.tag request deed)) (record {
        small = requests task.tag request deed;
        layer = (coming.is, coming.can, command_allowed v coming has);
        tasks = task_requests task.tag request deed (omega (arith, long)) (λ h. h) there (behind deed fits) (omega
            arith)
            v.tasks;
      }) in
      Both accepted (One (SetsRegisters (requested (accepts s c claimed) task region frames result deed).registers)
      (record { small = tt; layer = tt; tasks = (right_keeps accepted v).tasks }))

-- Slots that are given back

module _ {s : State} {task : Task} (released : ℕ) (v : IsTied s) (there : task_of task.tag s.tasks ≡ Some task)
    (claim : claim_of (numbers_of s) task ≡ released) (has : released ≤ s.translation.claims) where
  released_tasks : (d : ℕ) (deed : Deed) → s.translation.claims ≤ d + released →
      DeedFits (numbers_of s) (length s.accepted) (is_mended s.translation.work.mending)
      (claimed_by (numbers_of s) deed task.command) task.length deed →
      claimed_by (numbers_of s) deed task.command ≡ 0 →
      TasksRight (numbers_of s) (length s.accepted) (is_mended s.translation.work.mending) d
      (map (with_deed task.tag deed) s.tasks) s.shorts
  released_tasks d deed l fits none =
      task_set task.tag deed (omega arith) (λ h. h) there fits (omega arith) v.tasks

  -- and its task is answered
  pub release_right : (status : Status) →
      Right s (set_deed (with_moves s (Release released ∷ [])) task.tag (Answering status task.length))
  release_right status =
      Both
      (One (Maps (with_deed task.tag (Answering status task.length))) (record {
        small = does task.tag (Answering status task.length);
        layer = tt;
        tasks = released_tasks s.translation.claims (Answering status task.length) (omega arith) tt refl;
      }))
      (One (Moves (Release released)) (record {
        small = tt;
        layer = has;
        tasks = released_tasks (s.translation.claims - released) (Answering status task.length) (omega arith) tt refl;
      }))

  request_tasks : (d : ℕ) (request : RpmbRequest) (deed : Deed) → s.translation.claims ≤ d + released →
      DeedFits (numbers_of s) (length s.accepted) (is_mended s.translation.work.mending)
      (claimed_by (numbers_of s) deed task.command) task.length deed →
      claimed_by (numbers_of s) deed task.command ≡ 0 →
      TasksRight (numbers_of s) (length s.accepted) (is_mended s.translation.work.mending) d
      (map (with_request task.tag request deed) s.tasks) s.shorts
  request_tasks d request deed l fits none =
      task_requests task.tag request deed (omega arith) (λ h. h) there fits (omega arith) v.tasks

  -- its task has a request; its registers are still to be emptied
  pub request_kept : (request : RpmbRequest) (deed : Deed) →
      DeedFits (numbers_of s) (length s.accepted) (is_mended s.translation.work.mending)
      (claimed_by (numbers_of s) deed task.command) task.length deed →
      claimed_by (numbers_of s) deed task.command ≡ 0 →
      Right s (record (with_moves s (Release released ∷ [])) {
        tasks = map (with_request task.tag request deed)
            s.tasks;
      })
  request_kept request deed fits none =
      Both
      (One (Maps (with_request task.tag request deed)) (record {
        small = requests task.tag request deed;
        layer = tt;
        tasks = request_tasks s.translation.claims request deed (omega arith) fits none;
      }))
      (One (Moves (Release released)) (record {
        small = tt;
        layer = has;
        tasks = request_tasks (s.translation.claims - released) request deed (omega arith) fits none;
      }))
