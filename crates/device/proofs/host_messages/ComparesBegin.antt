-- A VERIFY begins that compares its blocks, and keeps them as a READ does.
use Rattle.device.proofs.Common.{AreClaimed, Bool, Cdb, Core, Describes, DeviceCore, IsKey, IsLayerWith, None, Ok}
use Rattle.device.proofs.Common.{Phase, Plan, Request, Result, Some, State, Status, ap, claims_of, data_key, false}
use Rattle.device.proofs.Common.{fold, greatest_command, has_room, if◌then◌else◌, is_lost, length, length-made}
use Rattle.device.proofs.Common.{most_tasks, moved, numbers_of, refl, sends_frames, shape_of_numbers, subst, sym}
use Rattle.device.proofs.Common.{task_of, true, with_moves, ℕ, ◌+◌, ◌<◌, ◌==◌, ◌∙◌, ◌≡◌, ◌≤◌}
use Rattle.std.specs.Prelude.{◌*◌}
use Rattle.ufs_spec.specs.Exchanges as exchange
use Rattle.ufs_spec.specs.Machine.{keeps, read_blocks}
use Rattle.ufs_spec.specs.Machine as machine
use Rattle.ufs_spec.specs.declared.exchanges.Status.TheVariants as status
use Rattle.ftl_core.specs.Public as layer_kept
use Rattle.device.specs.Calls.{comparing_first}
use Rattle.device.specs.declared.plans.Plan.TheVariants as plan
use Rattle.device.proofs.described.Answered.{IsBehind}
use Rattle.device.proofs.host_messages.CommandPasses.{some_told}
use Rattle.device.proofs.host_messages.ReadOpened.{all_unread, block_now, blocks_opened, core_opened, none_read}
use Rattle.device.proofs.host_messages.SlotsClaimed.{asks_or_busy}
use Rattle.device.proofs.host_messages.TasksBegin.{HasBegunFor, nothing_begins, opened_for, same_phase}
use Rattle.device.proofs.open_tasks.FewPins.{pin_has_room}
use Rattle.device.proofs.open_tasks.TaskOpened.{brings_none, nobody}

module _ (d : DeviceCore) (s : State) (r : Request) (h : Describes d s) (free : task_of r.tag s.tasks ≡ None)
    (few : length s.tasks < most_tasks) (after : Core) where
  -- the state with its task
  abbrev comparing_at : Cdb → (unit address m : ℕ) → State
  comparing_at command unit address m =
      machine.with_task (with_moves s (keeps s r.tag unit address m)) r (Some command) (4096 * m)
      (exchange.Comparing (read_blocks s unit address m) 0 false)

  compare_opened : (command : Cdb) (unit address m : ℕ) → sends_frames (Some command) ≡ false → 1 ≤ m →
      m ≤ greatest_command → layer_kept.Describes after (fold moved s.translation (keeps s r.tag unit address m)) →
      AreClaimed after (claims_of (numbers_of s) s.tasks) →
      IsBehind (core_opened d r after (comparing_first m)) (comparing_at command unit address m)
  compare_opened command unit address m sends some most layer claims =
      blocks_opened d s r h free few after command (4096 * m) unit address m (comparing_first m)
      (exchange.Comparing (read_blocks s unit address m) 0 false)
      (record { wanted = λ i. refl; claimed = refl; told = tt })
      (record {
        lun = refl;
        tag = refl;
        expected = refl;
        brings = brings_none 0 (Some command) sends;
        gathers = tt;
        asked_of = tt;
        request = refl;
        asks = tt;
        fits = refl;
        doing = (
          record {
            count = length-made (block_now s unit address) m;
            compared_is = refl;
            more = some;
            total_is = refl;
            few = most;
            behind = λ i block later there. all_unread s unit address m i block there;
          },
          refl,
          λ block there. ap is_lost (all_unread s unit address m 0 block there),
        );
        read = sym (none_read s unit address m);
      })
      layer claims

  abbrev Begins : Result Plan Status → Phase → Type 0
  Begins todo p = HasBegunFor s r after todo p

  abbrev Opens : Result Plan Status → Phase → State → Type 0
  Opens todo p v = IsBehind (opened_for d r after todo p) v

  -- what is planned for it
  abbrev compare_todo : (unit address blocks : ℕ) → Bool → Plan
  compare_todo unit address blocks b = if b then plan.Nothing 0 else plan.Compare (data_key unit address) blocks

  -- and what it begins
  abbrev compare_at : Cdb → (unit address blocks : ℕ) → Bool → State
  compare_at command unit address blocks b =
      if b then machine.with_task s r (Some command) 0 (exchange.Answering status.Good 0)
      else comparing_at command unit address blocks

  pub compare_begins : (command : Cdb) (unit address blocks : ℕ) (p : Phase) →
      sends_frames (Some command) ≡ false → blocks ≤ greatest_command →
      ((i : ℕ) → i < blocks → IsKey (shape_of_numbers (numbers_of s)) (data_key unit (address + i))) → (b : Bool) →
      (blocks == 0) ≡ b → Begins (Ok (compare_todo unit address blocks b)) p →
      Opens (Ok (compare_todo unit address blocks b)) p (compare_at command unit address blocks b)
  compare_begins command unit address blocks p quiet most keys true e begun =
      nothing_begins d s r h free few after command 0 p quiet begun
  compare_begins command unit address blocks p quiet most keys false e begun =
      same_phase d r after p (comparing_first blocks) _
      (begun.phase_is ∙ ap (asks_or_busy (comparing_first blocks)) room)
      (compare_opened command unit address blocks quiet (some_told blocks e) most layer.0 layer.1)
    where
      -- there is room, as no block is kept twice
      room : has_room s.translation blocks ≡ true
      room = pin_has_room d s blocks h begun.differ few most

      layer : IsLayerWith after (fold moved s.translation (keeps s r.tag unit address blocks))
          (claims_of (numbers_of s) s.tasks)
      layer =
          subst (λ (x : Bool). IsLayerWith after
          (if x then fold moved s.translation (keeps s r.tag unit address blocks) else s.translation)
          (claims_of (numbers_of s) s.tasks)) room
          (begun.layer (record {
            of_data = refl;
            there = keys;
            new = nobody d s r h free few;
          }))
