-- The first life of new dies: it begins, and it begins with a mark to be programmed and nothing else to do.
pub use Rattle.ufs_laws.proofs.new_dies.NewDeviceState.{none_there}
use Rattle.ufs_laws.proofs.Common.{Array, BlockState, Bool, Due, IsOpened, MayTake, Message, None, Nothing, Numbers}
use Rattle.ufs_laws.proofs.Common.{Place, Spot, State, Translation, [], ap, content, false, flight_for, inr}
use Rattle.ufs_laws.proofs.Common.{is_step_due, mended, next_flight, refl, subst, sym, true, waiting_name, waiting_step}
use Rattle.ufs_laws.proofs.Common.{wants_on, ℕ, ◌∙◌, ◌≡◌}
use Rattle.ufs_laws.proofs.array_cells.EmptyCells as cells
use Rattle.ufs_laws.proofs.plain_contents.NewDevice.{new_plain, new_zeros}
use Rattle.ufs_laws.proofs.new_dies.NewDeviceState.{Open, first_disk, first_is, first_layer, first_state, new_ledger}
use Rattle.ufs_laws.proofs.new_dies.NewDeviceState.{no_stale, none_stale, open_in}
use Rattle.ufs_laws.proofs.array_cells.StandsForOne.{plain_one}
use Rattle.ufs_laws.proofs.pages.PageIsOneCell.{one_cell}
use Rattle.ufs_laws.proofs.answers.OnlyAnswers.{none_due}
use Rattle.ufs_laws.proofs.array_cells.StandsForSomething.{AllBlank, empty, new_sound, new_stands_for_zero}
use Rattle.ufs_laws.proofs.array_cells.StandsForSomething.{shows_nothing}
use Rattle.ufs_laws.proofs.plain_contents.PlainFromContents.{same_contents}
use Rattle.ufs_spec.proofs.PlainFacts.{new_shape}
use Rattle.ufs_spec.specs.Openings.{IsOpenedDisk, IsOpenedLedger}
use Rattle.ufs_spec.specs.Plain.{zero as zero_state}

-- It begins

abbrev zeros_over : Numbers → Array → Open
zeros_over n array = record { array = array; base = zero_state n; contents = content (zero_state n); first = λ k. None }

none : (p : Place) → empty p ≡ Nothing
none p = refl

disk_opened : (bad : Spot → Bool) → IsOpenedDisk empty None bad (first_disk bad)
disk_opened bad = record {
  cells = refl;
  finished = λ p. refl;
  blocks = cells.blocks_are empty none None bad;
  vacancies = λ s p at. refl;
  idle = λ die. refl;
  none_erasing = λ s. refl;
}

ledger_opened : (n : Numbers) (array : Array) (blocks : Spot → BlockState) →
    IsOpenedLedger n empty blocks (new_ledger (zeros_over n array))
ledger_opened n array blocks = record {
  newest = cells.no_mark empty none;
  kept = 0;
  is_kept = cells.none_kept empty none None;
  holds = λ k key. inr (cells.none_has empty none None 1 k, new_zeros n k key);
  greatest_seen = cells.top_is empty none;
  first_lost = refl;
  entries_before = λ number index p h. cells.no_page empty none p h.0 h.1 h.2;
  standing = λ number index p h. cells.no_page empty none p h.0 h.1 h.2;
  first_page = λ k key. cells.none_has empty none None 1 k;
  none_new = refl;
  none_repaired = refl;
  frontier = refl;
  marks = refl;
  none_held = refl;
}

pub opens_new : (n : Numbers) (array : Array) (bad : Spot → Bool) → AllBlank array →
    (s : State) × IsOpened n array bad s
opens_new n array bad blank = (
  first_state n bad (zeros_over n array),
  record {
    array_now = refl;
    cells = empty;
    shown = shows_nothing array blank;
    translation = record {
      numbers = refl;
      suits = cells.suit empty none n;
      disk = disk_opened bad;
      ledger = ledger_opened n array (first_disk bad).blocks;
      mending = cells.unmarked_is empty none n;
      no_plan = refl;
      no_step = refl;
      no_rests = refl;
      no_claims = refl;
      no_pins = refl;
    };
    stands = new_stands_for_zero new_shape new_plain new_zeros n array blank;
    contents = λ k key. refl;
    none_accepted = refl;
    no_tasks = refl;
    no_shorts = refl;
    fresh = refl;
    no_registers = refl;
  },
)

-- Of every beginning

module _ (n : Numbers) (array : Array) (bad : Spot → Bool) (s : State) (blank : AllBlank array)
    (h : IsOpened n array bad s) where
  pub base_is_zero : s.base ≡ zero_state n
  base_is_zero =
      plain_one one_cell same_contents n array s.base (zero_state n) (new_sound array blank) h.stands
      (new_stands_for_zero new_shape new_plain new_zeros n array blank)

  pub unmended : mended s ≡ false
  unmended = ap mended (first_is n array bad s blank h)

  -- a mark is due
  pub step_due : is_step_due s.translation ≡ true
  step_due = ap (λ (t : State). is_step_due t.translation) (first_is n array bad s blank h) ∙ due
    where
      due : is_step_due (first_layer n bad (open_in s)) ≡ true
      due = rw (no_stale n bad (open_in s)) refl

  -- no block has what is to be erased, so no die is owed a job
  pub no_job : (die : ℕ) → MayTake s.translation die None
  no_job die =
      let first = first_layer n bad (open_in s) in
      let none : next_flight first die ≡ None = rw (none_stale n bad (open_in s) die) refl in
      subst (λ (u : State). MayTake u.translation die None) (sym (first_is n array bad s blank h)) (inr (refl, none))

-- nothing else is
pub no_reply : (n : Numbers) (array : Array) (bad : Spot → Bool) (s : State) → IsOpened n array bad s → (m : Message) →
    Due s m → ⊥
no_reply n array bad s h = none_due s h.no_tasks h.no_shorts

pub no_wants : (t : Translation) (die : ℕ) → t.pins ≡ [] → t.work.step ≡ None → t.work.rests ≡ [] → wants_on t die ≡ []
no_wants t die pins step rests = rw (pins, step, rests) refl

-- whatever life begins, only what is in free blocks is erased before its first step
pub no_flight : (t : Translation) (die : ℕ) → t.work.step ≡ None → t.ledger.groups ≡ [] → t.ledger.repairs ≡ 0 →
    flight_for t die (waiting_step t t.work.step) (waiting_name t) ≡ None
no_flight t die step groups repairs = rw (step, groups, repairs) refl
