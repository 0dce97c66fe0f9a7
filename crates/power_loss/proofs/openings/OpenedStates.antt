-- A device that was opened over a sound array is in a valid state.
use Rattle.power_loss.proofs.laid_rests.LaidStay.{none_laid}
use Rattle.power_loss.proofs.Common.{◌≡◌, ℕ, zero, suc, ◌≤◌, Bool, true, List, [], ◌∷◌, Some, drop, refl, sym, ap, ◌∙◌}
use Rattle.power_loss.proofs.Common.{subst, arith, Array, Cell, IsCell, Shows, Programming, Spot, page_of, CanApplyAll}
use Rattle.power_loss.proofs.Common.{Group, IsKey, IsPlain, content, groups_of, IsNewestMark, accepted_groups}
use Rattle.power_loss.proofs.Common.{before_accepted, shape_of, shape_of_numbers, CellsSound, Sound, is_mended, Numbers}
use Rattle.power_loss.proofs.Common.{Place, config_tests, ranges, none-some, Valid}
use Rattle.power_loss.proofs.MachineWords.{IsConfig, Short, Task, IsOpened, State, numbers_of, IsArrayOf, IsTied}
use Rattle.power_loss.proofs.MachineWords.{TasksRight, ValidState}
use Rattle.ufs_laws.proofs.array_cells.StandsForOne.{cells_one, mark_one}
use Rattle.ufs_laws.proofs.pages.PageIsOneCell.{one_cell}
use Rattle.power_loss.proofs.openings.OpenedFromPages.{book_fits, cells_right, cells_within, number_fits}
use Rattle.power_loss.proofs.openings.OpenedByName.{Opened, opened}
use Rattle.power_loss.proofs.openings.OpenedIsValid.{opening_valid}
use Rattle.power_loss.proofs.die_pages.PageRulesHold.{opened_hold}
use Rattle.power_loss.proofs.calls.CallsLeaveTheDevice.{opened_inside}
use Rattle.ufs_spec.specs.Pages.{greatest_number}

-- No tasks

no_tasks : {n : Numbers} {accepted : ℕ} {mended : Bool} {claims : ℕ} (tasks : List Task) (shorts : List Short) →
    tasks ≡ [] → shorts ≡ [] → TasksRight n accepted mended claims tasks shorts
no_tasks [] [] e f = record {
  deeds = tt;
  waits = tt;
  tasks_differ = tt;
  shorts_differ = tt;
  apart = tt;
  claimed = omega arith;
}
no_tasks (task ∷ tasks) shorts e f = absurd (apart e)
  where
    apart : task ∷ tasks ≡ [] → ⊥
    apart e = cc
no_tasks [] (short ∷ shorts) e f = absurd (apart f)
  where
    apart : short ∷ shorts ≡ [] → ⊥
    apart e = cc

-- Nothing in flight

none_left : (k : ℕ) (none : List Group) → none ≡ [] → drop k none ≡ []
none_left zero none e = e
none_left (suc k) [] e = refl
none_left (suc k) (g ∷ gs) e = cc

-- The fields

module _ (n : Numbers) (array : Array) (bad : Spot → Bool) (s : State) (config : IsConfig n) (blank : IsArrayOf n array)
    (sound : Sound array) (h : IsOpened n array bad s) where
  some_pages : 1 ≤ n.pages
  some_pages = let r = (ranges n (config_tests n config).0).has_pages in omega arith

  same_cells : sound.cells ≡ h.cells
  same_cells = cells_one one_cell array sound.cells h.cells sound.shown h.shown

  cells_sound : CellsSound h.cells s.translation.ledger.newest
  cells_sound =
      let here = (subst (λ z. CellsSound z sound.newest) same_cells sound.sound) in
      let newest = subst (λ z. IsNewestMark z sound.newest) same_cells sound.is_newest in
      subst (CellsSound h.cells) (mark_one h.cells sound.newest sound.newest s.translation.ledger.newest here newest
      newest_here) here
    where
      newest_here : IsNewestMark h.cells s.translation.ledger.newest
      newest_here = h.translation.ledger.newest

  pub is_opened : Opened bad s.translation
  is_opened = opened bad some_pages (cells_right array h.shown) (cells_within h.cells blank h.shown) cells_sound
      h.translation

  pub cells_shown : Shows array s.translation.disk.cells
  cells_shown = subst (Shows array) (sym h.translation.disk.cells) h.shown

  config_is : IsConfig (numbers_of s)
  config_is = subst IsConfig (sym h.translation.numbers) config

  pub valid_is : Valid s.translation
  valid_is = opening_valid n h.cells bad s.translation some_pages (cells_right array h.shown)
      (cells_within h.cells blank h.shown) cells_sound h.translation

  flights_is : (die : ℕ) (p : Place) (cell : Cell) → s.translation.disk.flights die ≡ Some (Programming p cell) →
      IsCell (page_of cell) cell
  flights_is die p cell e = absurd (none-some _ (sym (h.translation.disk.idle die) ∙ e))

  base_is : IsPlain s.base × (shape_of s.base ≡ shape_of_numbers (numbers_of s))
  base_is = (h.stands.2.plain, h.stands.2.shape ∙ ap shape_of_numbers (sym h.translation.numbers))

  contents_is : (k : _) → IsKey (shape_of_numbers (numbers_of s)) k → s.translation.ledger.base k ≡ content s.base k
  contents_is k key = h.contents k (subst (λ z. IsKey (shape_of_numbers z) k) h.translation.numbers key)

  groups_is : accepted_groups s.translation.ledger ≡ groups_of s.base s.accepted
  groups_is = none_left s.translation.ledger.repairs s.translation.ledger.groups h.translation.ledger.none_new
      ∙ sym (ap (groups_of s.base) h.none_accepted)

  marks_is : s.translation.ledger.marks ≤ greatest_number
  marks_is = subst (λ k. k ≤ greatest_number) (sym h.translation.ledger.marks)
      (number_fits array h.cells s.translation.ledger.newest h.shown h.translation.ledger.newest)

  repaired_is : is_mended s.translation.work.mending ≡ true →
      before_accepted s.translation.ledger ≤ s.translation.ledger.frontier
  repaired_is mended =
      let top = h.translation.ledger.frontier in
      let none = h.translation.ledger.none_repaired in
      omega arith

  tied_is : IsTied s
  tied_is = record {
    config = config_is;
    shown = subst (λ z. Shows z s.translation.disk.cells) (sym h.array_now) cells_shown;
    valid = valid_is;
    laid = none_laid h.translation.no_rests;
    fits = book_fits array bad s.translation is_opened cells_shown;
    flights = flights_is;
    base = base_is;
    contents = contents_is;
    commands = subst (CanApplyAll s.base) (sym h.none_accepted) tt;
    groups = groups_is;
    tasks = no_tasks s.tasks s.shorts h.no_tasks h.no_shorts;
    marks = marks_is;
    repaired = repaired_is;
  }

  pub opened_state : ValidState s
  opened_state = record { tied = tied_is; hold = opened_hold sound h; erases = opened_inside n array bad s h }
