-- A command whose host brings data begins: without a byte it is done at once, else it claims its slots and asks for them.
use Rattle.device.specs.Describes.{BringsFor}
use Rattle.device.proofs.Common.{Answering, AreClaimed, AreFramesKept, Bool, Cdb, Claim, ComesSo, Core, Describes}
use Rattle.device.proofs.Common.{DeviceCore, ForFrames, ForUnmap, ForWrite, Gathering, Good, IsFor, IsOfList, List}
use Rattle.device.proofs.Common.{None, Ok, Phase, Plan, Purpose, ReadsAsked, Request, Result, Some, State, Status}
use Rattle.device.proofs.Common.{Wanted, [], arith, brings_frames, claims_of, eqb-true, false, false≢true}
use Rattle.device.proofs.Common.{frame_slots, frames_for, free_slots, gathers_for, has_wrong_list, if◌then◌else◌, inl}
use Rattle.device.proofs.Common.{inr, is_sender, leb-true, length, list_any, list_slots, most_tasks, nat_le, nat_tests}
use Rattle.device.proofs.Common.{not, numbers_of, refl, regions, replicate, sends_frames, subst, sym}
use Rattle.device.proofs.Common.{task_of, true, true≢false, with_claimed, with_moves, ℕ, ◌%◌, ◌<◌, ◌==◌, ◌||◌}
use Rattle.device.proofs.Common.{◌∷◌, ◌≡◌, ◌≤◌}
use Rattle.std.specs.Prelude.{◌&&◌}
use Rattle.ufs_spec.specs.Machine as machine
use Rattle.ufs_spec.specs.Plain.{zero_block}
use Rattle.ufs_spec.specs.Refusals.{is_frames}
use Rattle.ufs_spec.specs.declared.scsi.Cdb.TheVariants as cdb
use Rattle.task_set.specs.declared.tasks.Phase.TheVariants as phase
use Rattle.device.specs.Describes.{claimed_for}
use Rattle.device.specs.Frames.{region_for}
use Rattle.device.specs.declared.plans.Plan.TheVariants as plan
use Rattle.device.proofs.described.Answered.{IsBehind}
use Rattle.device.proofs.host_messages.ReadOpened.{core_with}
use Rattle.device.proofs.host_messages.SlotsClaimed.{LayerThen, none_gathered, slots_found}
use Rattle.device.proofs.host_messages.TasksBegin.{HasBegunFor, counted, nothing_begins, opened_for}
use Rattle.ufs_spec.specs.Begins.{of_write}
use Rattle.device.proofs.open_tasks.TaskOpened.{brings_none, none_claimed, opens_gathering}

-- What a task that begins to gather keeps

its_region : (purpose : Purpose) → IsFor (region_for purpose) (gathers_for (Gathering purpose [] false))
its_region (ForFrames region) = refl
its_region (ForWrite unit address blocks forced) = tt
its_region (ForUnmap unit) = tt

no_request : (purpose : Purpose) → AreFramesKept (frames_for purpose) None None
no_request (ForFrames region) = refl
no_request (ForWrite unit address blocks forced) = refl
no_request (ForUnmap unit) = refl

reads_none : (p : Phase) (purpose : Purpose) → ReadsAsked p (frames_for purpose) None
reads_none p (ForFrames region) = tt
reads_none p (ForWrite unit address blocks forced) = tt
reads_none p (ForUnmap unit) = tt

-- what is asked for as it begins
abbrev all_of : Purpose → ℕ → Wanted
all_of purpose size = record { purpose = purpose; length = size; came = 0 }

-- the command brings frames if it brings data for this purpose that are frames
abbrev Brings : Cdb → Purpose → Type 0
Brings command purpose = BringsFor (region_for purpose) (brings_frames (frames_for purpose)) (Some command)

module _ (d : DeviceCore) (s : State) (r : Request) (h : Describes d s) (free : task_of r.tag s.tasks ≡ None)
    (few : length s.tasks < most_tasks) (after : Core) where
  abbrev Begins : Result Plan Status → Phase → Type 0
  Begins todo p = HasBegunFor s r after todo p

  abbrev Opens : Result Plan Status → Phase → State → Type 0
  Opens todo p v = IsBehind (opened_for d r after todo p) v

  -- what is planned for it, where it has no byte or some
  abbrev todo : Purpose → ℕ → ℕ → Bool → Plan
  todo purpose size slots none = if none then plan.Nothing 0 else plan.Gather (all_of purpose size) slots

  -- the state behind it, likewise
  abbrev gathering : Cdb → Purpose → ℕ → ℕ → Bool → State
  gathering command purpose size slots none =
      if none then machine.with_task s r (Some command) 0 (Answering Good 0)
      else machine.with_task (with_moves s (Claim slots ∷ [])) (counted r (Ok (todo purpose size slots false)))
      (Some command) size (Gathering purpose [] false)

  gathers_begin : (command : Cdb) (purpose : Purpose) (size slots : ℕ) (p : Phase) → Brings command purpose →
      ComesSo purpose 0 size → slots ≤ free_slots s.translation →
      replicate slots zero_block ≡ claimed_for (numbers_of s) size purpose [] →
      (brings_frames (frames_for purpose) ≡ true → list_any is_sender d.tasks ≡ false) →
      Begins (Ok (todo purpose size slots false)) p →
      Opens (Ok (todo purpose size slots false)) p (gathering command purpose size slots false)
  gathers_begin command purpose size slots p brings so enough claimed alone begun =
      subst (λ (x : Phase). IsBehind (core_with d w after x (frames_for purpose) (region_for purpose))
      (gathering command purpose size slots false)) (sym its.0)
      (opens_gathering d s w h free few after (Some command) size slots purpose _ (
        its.1.0,
        subst (λ (blocks : List (List ℕ)). AreClaimed after
            (with_claimed (claims_of (numbers_of s) s.tasks) r.tag blocks)) claimed its.1.1,
      )
      (record {
        lun = refl;
        tag = refl;
        expected = refl;
        brings = brings;
        gathers = its_region purpose;
        asked_of = tt;
        request = no_request purpose;
        asks = reads_none (phase.Ask (all_of purpose size)) purpose;
        fits = refl;
        doing = (record { same = refl; came = refl; total_is = refl; so = so }, refl);
        read = refl;
      }) alone)
    where
      w : Request
      w = counted r (Ok (todo purpose size slots false))

      its : (p ≡ phase.Ask (all_of purpose size))
          × LayerThen after s.translation (claims_of (numbers_of s) s.tasks) r.tag slots true
      its =
          slots_found after s.translation (claims_of (numbers_of s) s.tasks) r.tag slots
          (phase.Ask (all_of purpose size)) p enough (none_claimed d s r h free few) begun

  -- a command that brings no frames
  quiet : (command : Cdb) (purpose : Purpose) → sends_frames (Some command) ≡ false →
      brings_frames (frames_for purpose) ≡ false → Brings command purpose
  quiet command purpose sends brings =
      subst (λ (x : Bool). BringsFor (region_for purpose) x (Some command)) (sym brings)
      (brings_none (region_for purpose) (Some command) sends)

  -- WRITE

  some_block : (blocks : ℕ) → (blocks == 0) ≡ false → 0 < blocks
  some_block blocks e = grind (arith, nat_tests)

  -- what is planned for a WRITE of which so many blocks come, none or some
  abbrev write_todo : Purpose → (size blocks : ℕ) → Bool → Plan
  write_todo purpose size blocks none = if none then plan.Drop size else plan.Gather (all_of purpose size) blocks

  -- the state behind it, likewise
  abbrev writing : Cdb → Purpose → (size blocks : ℕ) → Bool → State
  writing command purpose size blocks none =
      if none then machine.with_task s (of_write r size) (Some command) size (Answering Good size)
      else machine.with_task (with_moves s (Claim blocks ∷ [])) (of_write r size) (Some command) size
      (Gathering purpose [] false)

  pub write_begins : (unit address blocks : ℕ) (forced : Bool) (size : ℕ) (p : Phase) →
      blocks ≤ free_slots s.translation →
      Begins (Ok (write_todo (ForWrite unit address blocks forced) size blocks (blocks == 0))) p →
      Opens (Ok (write_todo (ForWrite unit address blocks forced) size blocks (blocks == 0))) p
      (writing (cdb.Write address blocks forced) (ForWrite unit address blocks forced) size blocks (blocks == 0))
  write_begins unit address blocks forced size p slots = by (blocks == 0) refl
    where
      command : Cdb
      command = cdb.Write address blocks forced

      purpose : Purpose
      purpose = ForWrite unit address blocks forced

      by : (none : Bool) → (blocks == 0) ≡ none → Begins (Ok (write_todo purpose size blocks none)) p →
          Opens (Ok (write_todo purpose size blocks none)) p (writing command purpose size blocks none)
      by true e begun = nothing_begins d s (of_write r size) h free few after command size p refl begun
      by false e begun =
          gathers_begin command purpose size blocks p (quiet command purpose refl refl)
          (0, refl, some_block blocks e) slots (none_gathered blocks) (λ brings. absurd (false≢true brings)) begun

  -- UNMAP

  -- a list that is there is a header, or a header with one descriptor
  list_told : (list : ℕ) → has_wrong_list (cdb.Unmap list) ≡ false → (list == 0) ≡ false → IsOfList list
  list_told list listed some = by (list == 0) (list == 8) (list == 24) refl refl some listed
    where
      by : (a b c : Bool) → (list == 8) ≡ b → (list == 24) ≡ c → a ≡ false → not (a || (b || (c || false))) ≡ false →
          IsOfList list
      by true b c e f none k = absurd (true≢false none)
      by false true c e f none k = inl (eqb-true list 8 e)
      by false false true e f none k = inr (eqb-true list 24 f)
      by false false false e f none k = absurd (true≢false k)

  pub list_begins : (unit list : ℕ) (p : Phase) → has_wrong_list (cdb.Unmap list) ≡ false →
      list_slots (numbers_of s) list ≤ free_slots s.translation → (none : Bool) → (list == 0) ≡ none →
      Begins (Ok (todo (ForUnmap unit) list (list_slots (numbers_of s) list) none)) p →
      Opens (Ok (todo (ForUnmap unit) list (list_slots (numbers_of s) list) none)) p
      (gathering (cdb.Unmap list) (ForUnmap unit) list (list_slots (numbers_of s) list) none)
  list_begins unit list p listed slots true e begun =
      nothing_begins d s r h free few after (cdb.Unmap list) 0 p refl begun
  list_begins unit list p listed slots false e begun =
      gathers_begin (cdb.Unmap list) (ForUnmap unit) list (list_slots (numbers_of s) list) p
      (quiet (cdb.Unmap list) (ForUnmap unit) refl refl) (refl, list_told list listed e) slots refl
      (λ brings. absurd (false≢true brings)) begun

  -- SECURITY PROTOCOL OUT

  -- one to eight frames
  pub frames_few : (n : ℕ) → not (is_frames n) ≡ false → (512 ≤ n) × (n ≤ 4096)
  frames_few n h = by (nat_le 512 n) (nat_le n 4096) refl refl h
    where
      by : (a b : Bool) → nat_le 512 n ≡ a → nat_le n 4096 ≡ b → not ((a && b) && (n % 512 == 0)) ≡ false →
          (512 ≤ n) × (n ≤ 4096)
      by true true e f k = (leb-true 512 n e, leb-true n 4096 f)
      by true false e f k = absurd (false≢true (sym k))
      by false b e f k = absurd (false≢true (sym k))

  pub asked_begins : (region n : ℕ) (p : Phase) → region < regions → not (is_frames n) ≡ false →
      list_any is_sender d.tasks ≡ false → frame_slots ≤ free_slots s.translation →
      Begins (Ok (todo (ForFrames region) n frame_slots (n == 0))) p →
      Opens (Ok (todo (ForFrames region) n frame_slots (n == 0))) p
      (gathering (cdb.SecurityOut region n) (ForFrames region) n frame_slots false)
  asked_begins region n p there long alone slots =
      subst
      (λ (none : Bool). Begins (Ok (todo (ForFrames region) n frame_slots none)) p →
      Opens (Ok (todo (ForFrames region) n frame_slots none)) p
      (gathering (cdb.SecurityOut region n) (ForFrames region) n frame_slots false))
      (sym (some n (frames_few n long).0))
      (gathers_begin (cdb.SecurityOut region n) (ForFrames region) n frame_slots p
      (record { sends = refl; in_regions = λ e. there; sends_to = λ other. refl })
      (refl, (let low = (frames_few n long).0 in omega arith), (frames_few n long).1) slots refl (λ brings. alone))
    where
      some : (n : ℕ) → 512 ≤ n → (n == 0) ≡ false
      some n low = grind (arith, nat_tests)
