-- A READ begins, which keeps its blocks.
use Rattle.device.proofs.Common.{Bool, Cdb, Core, Describes, DeviceCore, IsKey, IsLayerWith, None, Ok, Phase}
use Rattle.device.proofs.Common.{Plan, Request, Result, Some, State, Status, ap, arith, claims_of, data_key, div_ceil}
use Rattle.device.proofs.Common.{false, fold, greatest_command, has_room, if◌then◌else◌, length, length-made, min}
use Rattle.device.proofs.Common.{most_tasks, moved, numbers_of, refl, sends_frames, shape_of_numbers, subst, sym}
use Rattle.device.proofs.Common.{task_of, true, with_moves, ℕ, ◌+◌, ◌<◌, ◌||◌, ◌∙◌, ◌≡◌, ◌≤◌}
use Rattle.std.specs.Prelude.{◌*◌, ◌==◌}
use Rattle.ufs_spec.specs.Machine.{keeps, read_begun, read_blocks, sending}
use Rattle.ufs_spec.specs.Machine as machine
use Rattle.task_set.specs.declared.tasks.Phase.TheVariants as phase
use Rattle.ufs_spec.specs.declared.exchanges.Status.TheVariants as status
use Rattle.device.specs.declared.plans.Plan.TheVariants as plan
use Rattle.device.proofs.described.Answered.{IsBehind}
use Rattle.device.proofs.host_messages.BlocksKept.{sends}
use Rattle.device.proofs.host_messages.CommandPasses.{none_expected, some_expected}
use Rattle.device.proofs.host_messages.ReadOpened.{block_now, core_opened, read_opened, reading_at, sending_now}
use Rattle.device.proofs.host_messages.TasksBegin.{HasBegunFor, nothing_begins, opened_for, same_phase}
use Rattle.device.proofs.open_tasks.FewPins.{pin_has_room}
use Rattle.device.proofs.open_tasks.TaskOpened.{nobody}

module _ (d : DeviceCore) (s : State) (r : Request) (h : Describes d s) (free : task_of r.tag s.tasks ≡ None)
    (few : length s.tasks < most_tasks) (after : Core) where
  abbrev Begins : Result Plan Status → Phase → Type 0
  Begins todo p = HasBegunFor s r after todo p

  abbrev Opens : Result Plan Status → Phase → State → Type 0
  Opens todo p v = IsBehind (opened_for d r after todo p) v

  -- how many blocks are sent, of a READ of so many
  abbrev sent_of : ℕ → ℕ
  sent_of blocks = div_ceil (min r.expected (4096 * blocks)) 4096

  -- what is planned for it
  abbrev read_todo : (unit address blocks : ℕ) → Bool → Plan
  read_todo unit address blocks b =
      if b then plan.Nothing (4096 * blocks)
      else plan.Read (data_key unit address) (sent_of blocks) (4096 * blocks)

  -- the state behind a READ of which so many blocks are sent
  abbrev read_at : Cdb → (unit address n m : ℕ) → State
  read_at command unit address n m =
      machine.with_task (with_moves s (keeps s r.tag unit address m)) r (Some command) n
      (sending (read_blocks s unit address m) n)

  -- each block that is sent is one of the device
  abbrev pub AreKeys : (unit address blocks : ℕ) → Type 0
  AreKeys unit address blocks =
      (i : ℕ) → i < sent_of blocks → IsKey (shape_of_numbers (numbers_of s)) (data_key unit (address + i))

  pub read_begins : (command : Cdb) (unit address blocks : ℕ) (p : Phase) → sends_frames (Some command) ≡ false →
      blocks ≤ greatest_command → AreKeys unit address blocks → (b : Bool) →
      ((blocks == 0) || (r.expected == 0)) ≡ b → Begins (Ok (read_todo unit address blocks b)) p →
      Opens (Ok (read_todo unit address blocks b)) p (read_begun s r command unit address (4096 * blocks))
  read_begins command unit address blocks p quiet less keys true e begun =
      subst (IsBehind (core_opened d r after p))
      (sym (ap (read_at command unit address (4096 * blocks)) (none_expected r.expected blocks e)))
      (nothing_begins d s r h free few after command (4096 * blocks) p quiet begun)
  read_begins command unit address blocks p quiet less keys false e begun =
      subst (IsBehind (core_opened d r after p)) (sym state)
      (same_phase d r after p (phase.SendBlocks (sending_now m 0 n)) _ (begun.phase_is
      ∙ ap (λ (x : Bool). if x then phase.SendBlocks (sending_now m 0 n) else phase.Answer status.Busy 0) room)
      (read_opened d s r h free few after command n unit address m quiet sent.0 most refl layer.0 layer.1))
    where
      n : ℕ
      n = 4096 * blocks

      m : ℕ
      m = sent_of blocks

      sent : (1 ≤ m) × (m ≤ blocks)
      sent = some_expected r.expected blocks e

      most : m ≤ greatest_command
      most = let few = sent.1 in omega arith

      state : read_begun s r command unit address n ≡ reading_at s r command n unit address m
      state =
          ap (machine.with_task (with_moves s (keeps s r.tag unit address m)) r (Some command) n)
          (sends (read_blocks s unit address m) n (some_of (length-made (block_now s unit address) m)))
        where
          some_of : length (read_blocks s unit address m) ≡ m → 1 ≤ length (read_blocks s unit address m)
          some_of is = let some = sent.0 in omega arith

      -- there is room, as no block is kept twice
      room : has_room s.translation m ≡ true
      room = pin_has_room d s m h begun.differ few most

      layer : IsLayerWith after (fold moved s.translation (keeps s r.tag unit address m)) (claims_of (numbers_of s) s.tasks)
      layer =
          subst (λ (x : Bool). IsLayerWith after
          (if x then fold moved s.translation (keeps s r.tag unit address m) else s.translation)
          (claims_of (numbers_of s) s.tasks)) room
          (begun.layer (record {
            of_data = refl;
            there = keys;
            new = nobody d s r h free few;
          }))
