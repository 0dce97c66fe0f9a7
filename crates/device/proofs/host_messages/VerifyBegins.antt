-- A VERIFY begins that compares nothing: it keeps its blocks and wants the pages of all of them.
use Rattle.device.proofs.Common.{All, AreClaimed, Bool, Cdb, Claims, Core, Describes, DeviceCore, HaveAnswered, IsKey}
use Rattle.device.proofs.Common.{IsLayerWith, IsShortTold, IsTold, Key, List, None, Ok, Phase, Pin, PinsDiffer}
use Rattle.device.proofs.Common.{Plan, ReadBlock, ReadingArea, Request, Result, Some, State, Status, Translation}
use Rattle.device.proofs.Common.{Unread, [], ap, before_accepted, below, claims_of, data_key, durable, false}
use Rattle.device.proofs.Common.{false≢true, fold, greatest_command, has_room, if◌then◌else◌, is_at_hand}
use Rattle.device.proofs.Common.{key_behind, keeps_for, length, length-made, list_any, locked, map, most_tasks, moved}
use Rattle.device.proofs.Common.{numbers_of, refl, sends_frames, shape_of_numbers, subst, sym, task_of, true, wanted_in}
use Rattle.device.proofs.Common.{wanted_kept, with_moves, ℕ, ◌++◌, ◌+◌, ◌<◌, ◌==◌, ◌||◌, ◌∙◌, ◌∷◌, ◌≡◌, ◌≤◌}
use Rattle.ufs_spec.specs.Begins.{keeps_wanted, wanted_at}
use Rattle.ufs_spec.specs.Machine.{read_blocks}
use Rattle.ufs_spec.specs.Exchanges as exchange
use Rattle.ufs_spec.specs.Machine as machine
use Rattle.ufs_spec.specs.Replies.{is_not_read, is_unreadable}
use Rattle.ufs_spec.specs.declared.exchanges.Status.TheVariants as status
use Rattle.ftl_core.specs.Public as layer_kept
use Rattle.ftl_core.specs.Public.{keeps_area_of}
use Rattle.task_set.specs.declared.tasks.Phase.TheVariants as phase
use Rattle.device.specs.Calls.{HasKeptAll}
use Rattle.device.specs.declared.plans.Plan.TheVariants as plan
use Rattle.device.proofs.described.Answered.{IsBehind}
use Rattle.device.proofs.host_messages.BlocksKept.{kept_are, others_found, others_wanted}
use Rattle.device.proofs.host_messages.PagesAsked.{all_wanted}
use Rattle.device.proofs.host_messages.ReadOpened.{block_now, core_opened}
use Rattle.device.proofs.host_messages.SlotsClaimed.{asks_or_busy}
use Rattle.device.proofs.host_messages.TasksBegin.{HasBegunFor, nothing_begins, opened_for, same_phase}
use Rattle.device.proofs.open_tasks.FewPins.{pin_has_room}
use Rattle.device.proofs.open_tasks.TaskOpened.{brings_none, nobody, none_wanted, open_answered, open_keeps, open_told}
use Rattle.device.proofs.open_tasks.TaskOpened.{still_claimed}

-- how far a VERIFY of so many blocks is that begins
abbrev pub verifying : ℕ → Phase
verifying blocks = phase.Verify (record { blocks = blocks; failed = false })

-- it keeps what it looks up, or there is no room for it
pub all_kept : (after : Core) (t : Translation) (claims : Claims) (tag : ℕ) (key : Key) (blocks : ℕ) (p : Phase)
    (kept : Bool) → kept ≡ has_room t blocks → PinsDiffer t.pins → p ≡ asks_or_busy (verifying blocks) kept →
    (((i : ℕ) → i < blocks → IsKey (shape_of_numbers t.numbers) (key_behind key i)) →
    list_any (keeps_for tag) t.pins ≡ false →
    layer_kept.Describes after (if kept then fold moved t (keeps_area_of t tag key blocks) else t)) →
    AreClaimed after claims → HasKeptAll after t claims tag key blocks p
all_kept after t claims tag key blocks p kept is differ phase_is described claimed = record {
  phase_is = phase_is ∙ ap (asks_or_busy (verifying blocks)) is;
  differ = differ;
  layer = λ may. (
    subst
        (λ (b : Bool). layer_kept.Describes after (if b then fold moved t (keeps_area_of t tag key blocks) else t)) is
        (described may.there may.new),
    claimed,
  );
}

-- none of the blocks that are looked up could not be read
none_unreadable : (g : ℕ → ReadBlock) → ((j : ℕ) → (g j).state ≡ Unread) → (xs : List ℕ) →
    list_any is_unreadable (map g xs) ≡ false
none_unreadable g unread [] = refl
none_unreadable g unread (x ∷ xs) =
    (λ i. is_not_read (unread x i) || list_any is_unreadable (map g xs)) ∙ none_unreadable g unread xs

module _ (d : DeviceCore) (s : State) (r : Request) (h : Describes d s) (free : task_of r.tag s.tasks ≡ None)
    (few : length s.tasks < most_tasks) (after : Core) where
  -- the layer that keeps its blocks, and the state behind it
  abbrev kept_layer : (unit address m : ℕ) → Translation
  kept_layer unit address m = fold moved s.translation (keeps_wanted s r.tag unit address m)

  abbrev verifying_at : Cdb → (unit address m : ℕ) → State
  verifying_at command unit address m =
      machine.with_task (with_moves s (keeps_wanted s r.tag unit address m)) r (Some command) 0
      (ReadingArea (read_blocks s unit address m))

  verify_opened : (command : Cdb) (unit address m : ℕ) → sends_frames (Some command) ≡ false →
      m ≤ greatest_command → layer_kept.Describes after (kept_layer unit address m) →
      AreClaimed after (claims_of (numbers_of s) s.tasks) →
      IsBehind (core_opened d r after (verifying m)) (verifying_at command unit address m)
  verify_opened command unit address m sends most layer claims = record {
    keeps =
        open_keeps d s r h free few after (kept_layer unit address m) (Some command) 0
        (ReadingArea (read_blocks s unit address m)) _ layer
        (ap (λ (t : Translation). t.numbers) are) (ap (λ (t : Translation). before_accepted t.ledger) are)
        (record {
          wanted =
              subst (λ (t : Translation). (i : ℕ) → wanted_kept t.pins r.tag i
              ≡ wanted_in i None (ReadingArea (read_blocks s unit address m))) (sym are)
              (all_wanted s.translation.pins r.tag m keeps_at (block_now s unit address) (λ j. refl) (λ j. refl)
              (λ j. refl) none (λ j. refl));
          others_want =
              subst (λ (t : Translation). (n i : ℕ) → (n == r.tag) ≡ false → wanted_kept t.pins n i
              ≡ wanted_kept s.translation.pins n i) (sym are)
              (others_wanted s.translation.pins r.tag m keeps_at (λ j. refl) (λ j. refl) none);
        })
        (still_claimed d s r h free few after 0 (ReadingArea (read_blocks s unit address m)) refl claims)
        (record {
          lun = refl;
          tag = refl;
          expected = refl;
          brings = brings_none 0 (Some command) sends;
          gathers = tt;
          asked_of = tt;
          request = refl;
          asks = tt;
          fits = refl;
          doing = record {
            total_is = refl;
            count = length-made (block_now s unit address) m;
            few = most;
            failed = none_unreadable (block_now s unit address) (λ j. refl) (below m);
          };
          read = refl;
        }) (λ e. absurd (false≢true e));
    answered =
        subst
        (λ (t : Translation). HaveAnswered (machine.with_task (record s { translation = t }) r (Some command) 0
        (ReadingArea (read_blocks s unit address m)))) (sym are)
        (open_answered d s r h free few
        (record s.translation { pins = s.translation.pins ++ map keeps_at (below m) }) (Some command) 0
        (ReadingArea (read_blocks s unit address m))
        (λ tag other index. ap (is_at_hand s.translation.work.rests)
        (others_found s.translation.pins r.tag m keeps_at (λ j. refl) (λ j. refl) none tag index other)) refl);
    told =
        subst
        (λ (t : Translation). locked (record s { translation = t }) ≡ true →
        All (IsTold (durable (record s { translation = t }))) (verifying_at command unit address m).tasks) (sym are)
        (open_told d s r h free few (Some command) 0 (ReadingArea (read_blocks s unit address m)) (λ l. tt));
    shorts_told =
        subst
        (λ (t : Translation). locked (record s { translation = t }) ≡ true →
        All (IsShortTold (durable (record s { translation = t }))) s.shorts) (sym are) h.shorts_told;
  }
    where
      keeps_at : ℕ → Pin
      keeps_at = wanted_at s r.tag unit address

      none : (i : ℕ) → wanted_kept s.translation.pins r.tag i ≡ None
      none = none_wanted d s r h free few

      are : kept_layer unit address m
          ≡ record s.translation { pins = s.translation.pins ++ map keeps_at (below m) }
      are = kept_are (λ i. data_key unit (address + i)) keeps_at (below m) s.translation

  abbrev Begins : Result Plan Status → Phase → Type 0
  Begins todo p = HasBegunFor s r after todo p

  abbrev Opens : Result Plan Status → Phase → State → Type 0
  Opens todo p v = IsBehind (opened_for d r after todo p) v

  -- what is planned for it
  abbrev verify_todo : (unit address blocks : ℕ) → Bool → Plan
  verify_todo unit address blocks b = if b then plan.Nothing 0 else plan.Verify (data_key unit address) blocks

  -- and what it begins
  abbrev verify_at : Cdb → (unit address blocks : ℕ) → Bool → State
  verify_at command unit address blocks b =
      if b then machine.with_task s r (Some command) 0 (exchange.Answering status.Good 0)
      else verifying_at command unit address blocks

  pub verify_begins : (command : Cdb) (unit address blocks : ℕ) (p : Phase) → sends_frames (Some command) ≡ false →
      blocks ≤ greatest_command →
      ((i : ℕ) → i < blocks → IsKey (shape_of_numbers (numbers_of s)) (data_key unit (address + i))) → (b : Bool) →
      Begins (Ok (verify_todo unit address blocks b)) p →
      Opens (Ok (verify_todo unit address blocks b)) p (verify_at command unit address blocks b)
  verify_begins command unit address blocks p quiet most keys true begun =
      nothing_begins d s r h free few after command 0 p quiet begun
  verify_begins command unit address blocks p quiet most keys false begun =
      same_phase d r after p (verifying blocks) _
      (begun.phase_is ∙ ap (asks_or_busy (verifying blocks)) room)
      (verify_opened command unit address blocks quiet most layer.0 layer.1)
    where
      -- there is room, as no block is kept twice
      room : has_room s.translation blocks ≡ true
      room = pin_has_room d s blocks h begun.differ few most

      layer : IsLayerWith after (kept_layer unit address blocks) (claims_of (numbers_of s) s.tasks)
      layer =
          subst (λ (x : Bool). IsLayerWith after
          (if x then kept_layer unit address blocks else s.translation)
          (claims_of (numbers_of s) s.tasks)) room
          (begun.layer (record {
            of_data = refl;
            there = keys;
            new = nobody d s r h free few;
          }))
