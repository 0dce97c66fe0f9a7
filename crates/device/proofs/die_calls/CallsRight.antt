-- The calls of the dies and of the device itself are answered as the definitions say.
use Rattle.device.proofs.Common.{All, All-nil, AreClaimed, Array, Bool, Cell, Cells, Command, Core, Describes}
use Rattle.device.proofs.Common.{DeviceCore, Ending, Erasing, Flight, HaveAnswered, IsAnswered, IsArrayOf, IsConfig}
use Rattle.device.proofs.Common.{IsEndingOf, IsKept, IsOpened, IsShortTold, IsTied, IsTold, Job, Keeps, List, MayLeave}
use Rattle.device.proofs.Common.{None, Numbers, OfTake, OfTurn, Option, Outcome, Pin, Place, Plain, Programming}
use Rattle.device.proofs.Common.{ReadRight, ReadWrong, Reading, Shape, ShortsKept, Some, Sound, Spot, State, Take}
use Rattle.device.proofs.Common.{TakeStep, TasksKept, Translation, Turn, WentWell, WentWrong, [], ap, area_there, arith}
use Rattle.device.proofs.Common.{before_accepted, claims_of, durable, false, get_or, idle_device, if◌then◌else◌, inl}
use Rattle.device.proofs.Common.{inr, is_to_fill, length, locked, machine_at, most_tasks, moved, nat_lt, next_number}
use Rattle.device.proofs.Common.{numbers_of, page_of, refl, region_of, regions, regions_kept, said_by, shape_of_numbers}
use Rattle.device.proofs.Common.{subst, suc, sym, true, wanted_by, wanted_kept, zero, ℕ, ◌*◌, ◌==◌, ◌∙◌, ◌≡◌}
use Rattle.std.proofs.Common.{◌||◌}
use Rattle.std.specs.Prelude.{count_by, ◌-◌, ◌≤◌}
use Rattle.ufs_spec.specs.Cells.{IsCell}
use Rattle.ufs_spec.specs.Disk.{CellCrash, flight_alone}
use Rattle.ufs_spec.specs.Exchanges as exchange
use Rattle.ufs_spec.specs.Machine.{behind}
use Rattle.std.proofs.Math.ListN as lists
use Rattle.ufs_spec.specs.Keys.{said_of}
use Rattle.ufs_spec.specs.Plain.{after as after_all, empty_region, shape_of, steps_of}
use Rattle.ufs_spec.specs.declared.flash.KeyAndCounter.{KeyAndCounter}
use Rattle.rpmb.specs.Kept.{idle_machines, no_state}
use Rattle.ufs_spec.specs.Moves.{GiveJob, MayEnd, MayLeaveCells}
use Rattle.ufs_spec.specs.Pages.{greatest_number}
use Rattle.ufs_spec.specs.Translation.{MayTake, is_step_due, spots}
use Rattle.ufs_laws.proofs.array_cells.CrashedCells.{cell_crash}
use Rattle.power_loss.proofs.jobs_owed.ProgramsAndErases.{program_owed}
use Rattle.power_loss.proofs.openings.OpenedStates.{opened_state as opened_valid}
use Rattle.settings.specs.Told.{settings_now}
use Rattle.settings.specs.declared.page.Settings.{Settings}
use Rattle.ftl_core.specs.Public as layer_kept
use Rattle.device.specs.Describes.{IsGiven}
use Rattle.device.specs.Kept.{region_kept}
use Rattle.device.proofs.die_calls.EndsTold.{meant_fits}
use Rattle.device.proofs.dies_of_world.DieParts.{begun_bad}
use Rattle.device.proofs.dies_of_world.DiesFit.{named_next}
use Rattle.power_loss.proofs.area_reads.AreaStays.{opened_reads}
use Rattle.power_loss.proofs.shown_blocks.LivesShowBlocks.{opened_shows}
use Rattle.power_loss.proofs.spoken_replies.FramesStay.{opened_frames}
use Rattle.device.proofs.described.Answered.{IsBehind, answered}
use Rattle.device.proofs.described.LayerMoves.{KeepsReads, StepLeaves, layer_moves, step_leaves, unmended_fit}
use Rattle.device.proofs.described.LayerMoves.{unmended_moves, unmended_shorts}
use Rattle.device.proofs.described.Settled.{ReadsStay, kept_stays, still_answered, unmended_answered}
use Rattle.device.proofs.described.ShortExchanges.{no_short_waits}
use Rattle.device.proofs.described.Unmended.{none_waits}

-- A job is given

-- it leaves all that is kept, and locks nothing
gives : (d : DeviceCore) (s : State) (die : ℕ) (flight : Option Flight) (after : Core) → Keeps d s →
    layer_kept.Describes after (layer_kept.given s.translation die flight) → AreClaimed after (claims_of (numbers_of s) s.tasks) →
    Keeps (record d { ftl = after }) (behind s (Take die) (OfTake flight))
gives d s die None after k layer claims = layer_moves d after s s.array s.translation k layer claims
    (record { numbers = refl; before = refl; wanted = λ tag index. refl })
gives d s die (Some flight) after k layer claims =
    layer_moves d after s s.array (moved s.translation (GiveJob die flight)) k layer claims
    (record { numbers = refl; before = refl; wanted = λ tag index. refl })

-- a program that is handed out goes to a good block, which stays good
gives_locked : (s : State) (die : ℕ) (flight : Flight) → MayTake s.translation die (Some flight) →
    locked (behind s (Take die) (OfTake (Some flight))) ≡ locked s
gives_locked s die (Reading who p) may = refl
gives_locked s die (Erasing spot) may = refl
gives_locked s die (Programming p cell) may =
    let t = s.translation in
    let good = (named_next t p (program_owed t die p cell may).place.next).0 in
    ap
    (λ (is : Spot → Bool).
    nat_lt t.numbers.spare (count_by is (spots t.numbers)) || nat_lt greatest_number (next_number t.ledger))
    (λ i spot. begun_bad t.disk.blocks p good spot i)

gives_told : (s : State) (die : ℕ) (flight : Option Flight) → MayTake s.translation die flight →
    (locked s ≡ true → All (IsTold (durable s)) s.tasks) →
    locked (behind s (Take die) (OfTake flight)) ≡ true → All (IsTold (durable (behind s (Take die) (OfTake flight))))
    (behind s (Take die) (OfTake flight)).tasks
gives_told s die None may told lock = told lock
gives_told s die (Some flight) may told lock = told (sym (gives_locked s die flight may) ∙ lock)

gives_shorts_told : (s : State) (die : ℕ) (flight : Option Flight) → MayTake s.translation die flight →
    (locked s ≡ true → All (IsShortTold (durable s)) s.shorts) →
    locked (behind s (Take die) (OfTake flight)) ≡ true →
    All (IsShortTold (durable (behind s (Take die) (OfTake flight)))) (behind s (Take die) (OfTake flight)).shorts
gives_shorts_told s die None may told lock = told lock
gives_shorts_told s die (Some flight) may told lock = told (sym (gives_locked s die flight may) ∙ lock)

-- and nothing becomes due
gives_answered : (d : DeviceCore) (s : State) (die : ℕ) (flight : Option Flight) → Describes d s →
    HaveAnswered (behind s (Take die) (OfTake flight))
gives_answered d s die None h = h.answered
gives_answered d s die (Some flight) h =
    still_answered s (behind s (Take die) (OfTake (Some flight))) s.tasks
    (kept_stays s.translation (moved s.translation (GiveJob die flight)) s.tasks refl refl) refl h.answered

pub gives_right : (d : DeviceCore) (s : State) (die : ℕ) (job : Option Job) (after : Core) → Describes d s →
    layer_kept.IsTaken s.translation die job after → AreClaimed after (claims_of (numbers_of s) s.tasks) →
    IsGiven s die job (record d { ftl = after })
gives_right d s die job after h taken claims = record {
  flight = taken.job;
  shown = taken.shown;
  answered =
      answered d (record d { ftl = after }) s (Take die) (OfTake taken.job) h tt taken.right
      (record {
        keeps = gives d s die taken.job after h.kept taken.describes claims;
        answered = gives_answered d s die taken.job h;
        told = gives_told s die taken.job taken.right h.told;
        shorts_told = gives_shorts_told s die taken.job taken.right h.shorts_told;
      });
}

-- A job ends

-- what a die's own program is meant to be is what its page shows
alone_shown : (s : State) (die other : ℕ) (place : Place) (cell : Cell) → IsTied s → (b : Bool) →
    (if b then s.translation.disk.flights other else None) ≡ Some (Programming place cell) → IsCell (page_of cell) cell
alone_shown s die other place cell tied true e = tied.flights other place cell e
alone_shown s die other place cell tied false e = cc

crash_may : (s : State) (die : ℕ) (cells : Cells) (left : Array) → IsTied s → MayLeave s die (WentWrong cells) left →
    CellCrash s.translation.disk.cells (flight_alone s.translation.disk.flights die) cells
crash_may s die cells left tied leaves =
    cell_crash s.array left s.translation.disk.cells cells (flight_alone s.translation.disk.flights die) tied.shown
    leaves.1 leaves.0
    (λ other place cell e. alone_shown s die other place cell tied (other == die) e)

leaves_cells : (s : State) (die : ℕ) (ending : Ending) (left : Array) → IsTied s → MayLeave s die ending left →
    MayLeaveCells s.translation.disk die ending
leaves_cells s die ReadRight left tied leaves = tt
leaves_cells s die ReadWrong left tied leaves = tt
leaves_cells s die WentWell left tied leaves = tt
leaves_cells s die (WentWrong cells) left tied leaves = crash_may s die cells left tied leaves

-- what a job that ends leaves of the pages it leaves of what they are
pub may_end : (d : DeviceCore) (s : State) (die : ℕ) (o : Outcome) (ending : Ending) (left : Array) → Describes d s →
    IsEndingOf s.translation.disk.cells (s.translation.disk.flights die) o ending → MayLeave s die ending left →
    MayEnd s.translation.disk die (s.translation.disk.flights die) ending
may_end d s die o ending left h is leaves = (
  meant_fits s.translation.disk.cells (s.translation.disk.flights die) o ending is,
  leaves_cells s die ending left
      h.tied leaves,
)

-- A step

pub turns_right : (d : DeviceCore) (s : State) (due : Bool) (after : Core) → Describes d s →
    due ≡ is_step_due s.translation →
    layer_kept.Describes after (moved s.translation TakeStep) → AreClaimed after (claims_of (numbers_of s) s.tasks) →
    IsAnswered s Turn (OfTurn due) (record d { ftl = after })
turns_right d s due after h is layer claims =
    answered d (record d { ftl = after }) s Turn (OfTurn due) h tt is (by (step_leaves s.translation))
  where
    turned : Translation
    turned = moved s.translation TakeStep

    reads_stay : KeepsReads s.translation turned → ReadsStay s.translation turned s.tasks
    reads_stay k = kept_stays s.translation turned s.tasks k.pins k.rests

    by : StepLeaves s.translation turned → IsBehind (record d { ftl = after }) (record s { translation = turned })
    by (inl step) = record {
      keeps = layer_moves d after s s.array turned h.kept layer claims step.leaves;
      answered = still_answered s (record s { translation = turned }) s.tasks (reads_stay step.reads)
          (λ i. step.frontier i - step.leaves.before i) h.answered;
      told = λ lock. subst (λ n. All (IsTold n) s.tasks) (sym (λ i. step.frontier i - step.leaves.before i))
          (h.told (sym step.lock ∙ lock));
      shorts_told = λ lock. subst (λ n. All (IsShortTold n) s.shorts)
          (sym (λ i. step.frontier i - step.leaves.before i)) (h.shorts_told (sym step.lock ∙ lock));
    }
    by (inr repair) = record {
      keeps = unmended_moves d after s turned h.kept h.tied layer claims repair;
      answered = unmended_answered (numbers_of s) (length s.accepted) s (record s { translation = turned }) s.tasks
          (reads_stay repair.reads) (unmended_fit s h.tied repair.unmended) h.answered;
      told = λ lock. none_waits (numbers_of s) (length s.accepted)
          (turned.ledger.frontier - before_accepted turned.ledger) s.tasks
          (unmended_fit s h.tied repair.unmended);
      shorts_told = λ lock. no_short_waits (length s.accepted)
          (turned.ledger.frontier - before_accepted turned.ledger) s.shorts
          (unmended_shorts s h.tied repair.unmended);
    }

-- A device that is opened

-- the regions of a plain state of the configuration are kept as the settings of the state tell
module _ (n : Numbers) (p : Plain) (settings : Settings) (same : settings ≡ settings_now p)
    (many : length p.regions ≡ regions) (shape : shape_of p ≡ shape_of_numbers n) where
  -- one that is numbered
  numbered : (k : ℕ) → get_or (shape_of_numbers n).areas k 0 ≡ 131072 * steps_of n k →
      IsKept (region_kept settings n k) (region_of p k)
  numbered k area_is = record {
    key = ap (λ (x : KeyAndCounter). x.key) said;
    counter = ap (λ (x : KeyAndCounter). x.counter) said;
    area = (
        let its : length (region_of p k).area ≡ 131072 * steps_of n k =
        sym (area_there p k) ∙ (ap (λ (x : Shape). get_or x.areas k 0) shape ∙ area_is) in
        omega arith
        );
  }
    where
      said : said_of settings.regions k ≡ said_by (region_of p k)
      said =
          ap (λ (x : Settings). said_of x.regions k) same ∙ lists.get_or-map said_by p.regions k empty_region

  region_opened : (k : ℕ) →
      IsKept (machine_at (idle_machines (regions_kept settings n)) k).region (region_of p k)
  region_opened zero = numbered 0 refl
  region_opened (suc zero) = numbered 1 refl
  region_opened (suc (suc zero)) = numbered 2 refl
  region_opened (suc (suc (suc zero))) = numbered 3 refl
  region_opened (suc (suc (suc (suc k)))) =
      subst (IsKept no_state)
      (sym (lists.get_or-eq_default p.regions empty_region {n = suc (suc (suc (suc k)))} (omega (arith, many))))
      (record { key = refl; counter = refl; area = refl })

-- and their registers are empty
none_said : (n : Numbers) (settings : Settings) (k : ℕ) →
    (machine_at (idle_machines (regions_kept settings n)) k).registers ≡ exchange.empty_registers
none_said n settings zero = refl
none_said n settings (suc zero) = refl
none_said n settings (suc (suc zero)) = refl
none_said n settings (suc (suc (suc zero))) = refl
none_said n settings (suc (suc (suc (suc k)))) = refl

pub opens_right : (n : Numbers) (array : Array) (bad : Spot → Bool) (s : State) (layer : Core) (settings : Settings) →
    IsConfig n → IsArrayOf n array → Sound array → IsOpened n array bad s → layer_kept.Describes layer s.translation →
    AreClaimed layer (λ tag. []) → settings ≡ settings_now s.base →
    Describes (idle_device layer settings (regions_kept settings n)) s
opens_right n array bad s layer settings config inside sound opened kept none same =
    let t = s.translation in
    record {
      tied = (opened_valid n array bad s config inside sound opened).tied;
      shows = opened_shows n array bad s opened;
      waits = opened_frames n array bad s opened;
      reads = opened_reads n array bad s opened;
      kept = record {
        boot = ap (λ (x : Settings). x.boot) same
            ∙ sym (ap (λ (commands : List Command). (after_all s.base commands).boot) opened.none_accepted);
        permanent = ap (λ (x : Settings). x.is_permanent) same
            ∙ sym (ap (λ (commands : List Command). (after_all s.base commands).permanent) opened.none_accepted);
        each = refl;
        region =
            λ number.
            subst (λ (commands : List Command). IsKept (machine_at (idle_machines (regions_kept settings n)) number).region
            (region_of (after_all s.base commands) number)) (sym opened.none_accepted)
            (region_opened n s.base settings same opened.stands.2.plain.regions_count opened.stands.2.shape number);
        registers =
            λ number.
            (ap (λ (f : ℕ → exchange.Registers). f number) opened.no_registers ∙ sym (none_said n settings number));
        layer_kept = kept;
        few = subst (λ us. length us ≤ most_tasks) (sym opened.no_tasks) (omega arith);
        tasks = subst (TasksKept (before_accepted t.ledger) []) (sym opened.no_tasks) tt;
        one_sends = tt;
        wanted = λ tag index. ap (λ (pins : List Pin). wanted_kept pins tag index) opened.translation.no_pins
            ∙ sym (ap (λ us. wanted_by index (exchange.task_of tag us)) opened.no_tasks);
        claims = subst (λ us. AreClaimed layer (claims_of (numbers_of s) us)) (sym opened.no_tasks) none;
        shorts = subst (ShortsKept (numbers_of s) (before_accepted t.ledger) []) (sym opened.no_shorts) tt;
        volatile = sym opened.fresh;
      };
      answered = subst (All (λ task. is_to_fill s task ≡ false)) (sym opened.no_tasks)
          (All-nil (λ task. is_to_fill s task ≡ false));
      told = λ lock. subst (All (IsTold (durable s))) (sym opened.no_tasks) (All-nil (IsTold (durable s)));
      shorts_told = λ lock. subst (All (IsShortTold (durable s))) (sym opened.no_shorts)
          (All-nil (IsShortTold (durable s)));
    }
