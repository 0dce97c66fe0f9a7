-- A life of a new device that is stopped: what opens after the stop, and what it has.
use Rattle.power_loss.proofs.Common.{◌≡◌, ◌++◌, Bool, true, false, if◌then◌else◌, List, [], ◌∷◌, refl, sym, ap, ◌∙◌}
use Rattle.power_loss.proofs.Common.{subst, inr, ⊎_elim, arith, Vec, Array, Cell, Cells, IsCell, Nothing, Shows, Spot}
use Rattle.power_loss.proofs.Common.{at_place, IsData, data_key, CellsStandFor, IsCheckRight, Plain, block_at}
use Rattle.power_loss.proofs.Common.{zero_block, Page, Place, new_shape, opened_check, at_place_cases}
use Rattle.power_loss.proofs.MachineWords.{IsNew, row, IsOpened, Life, Runs, Stops, bad_in, State, Event, Leftover}
use Rattle.power_loss.proofs.MachineWords.{Output, ValidState, MayBeOpened}
use Rattle.ufs_laws.proofs.plain_contents.NewDevice.{new_plain, new_zeros}
use Rattle.ufs_laws.proofs.array_cells.StandsForOne.{plain_one}
use Rattle.ufs_laws.proofs.pages.PageIsOneCell.{one_cell}
use Rattle.ufs_laws.proofs.array_cells.StandsForSomething.{new_sound, new_stands_for_zero, new_suits}
use Rattle.ufs_laws.proofs.plain_contents.PlainFromContents.{same_contents}
use Rattle.ufs_spec.specs.Plain.{zero}
use Rattle.power_loss.proofs.openings.EachSoundArrayOpens.{any_opens}
use Rattle.power_loss.proofs.lives.EachEventKeeps.{many_events as event_keeps_many}
use Rattle.power_loss.proofs.openings.OpenedStates.{opened_state as opened_valid}
use Rattle.power_loss.proofs.lives.LivesOfRuns.{life_runs, more}
use Rattle.power_loss.proofs.lives.StopsOfRuns.{run_leaves}
use Rattle.ufs_spec.specs.declared.events.Event.TheVariants as event
use Rattle.ufs_spec.specs.declared.events.Output.TheVariants as output

-- What pages show

pub put_shown : (array : Array) (cells : Cells) (p : Place) (page : Page) (x : Cell) → Shows array cells →
    IsCell page x → Shows (at_place array p page) (at_place cells p x)
put_shown array cells p page x shown is q = by _
  where
    by : (b : Bool) → IsCell (if b then page else array q) (if b then x else cells q)
    by true = is
    by false = shown q

-- a page that does not open may stand where nothing stood
pub torn_shown : (array : Array) (cells : Cells) {p : Place} (page : Page) → Shows array cells → cells p ≡ Nothing →
    (IsCheckRight page → ⊥) → Shows (at_place array p page) cells
torn_shown array cells {p} page shown none wrong q = ⊎_elim
    (λ h. subst (λ x. IsCell x (cells q)) (sym h.1)
    (subst (IsCell page) (sym (ap cells h.0 ∙ none)) (λ tag body o hold. wrong (opened_check _ _ _ o))))
    (λ h. subst (λ x. IsCell x (cells q)) (sym h.1) (shown q)) (at_place_cases array p page q)

-- A life of a new device

module _ (s : State) (n : IsNew s) where
  new_may : MayBeOpened row n.array
  new_may = record {
    inside = λ p out. n.blank p;
    sound = new_sound n.array n.blank;
    suits = new_suits row n.array n.blank;
  }

  pub start_zero : s.base ≡ zero row
  start_zero = plain_one one_cell same_contents row n.array s.base (zero row) new_may.sound n.opened.stands
      (new_stands_for_zero new_shape new_plain new_zeros row n.array n.blank)

  module _ (t : State) (es : List Event) (os : List Output) (lived : Life s es os t) where
    pub valid_after : ValidState t
    valid_after =
        event_keeps_many s t es os (opened_valid row n.array n.bad s refl new_may.inside new_may.sound n.opened) lived

    module _ (lefts : Vec Leftover) (left : Array) (stops : Stops t lefts.items left) where
      leaves : MayBeOpened row left
      leaves = run_leaves row n.array n.bad s t es os refl new_may n.opened
          (life_runs row s t es os lived) lefts.items left stops

      pub opens_after : (u : State) × IsOpened row left (bad_in t) u
      opens_after = any_opens row left (bad_in t) leaves.inside leaves.sound leaves.suits

      pub run_after : {u : State} → IsOpened row left (bad_in t) u → Runs row s (es ++ event.Stop lefts ∷ [])
          (os ++ output.Stopped ∷ []) u
      run_after {u} opened = more row s t u es os (event.Stop lefts) output.Stopped (life_runs row s t es os lived)
          (inr (left, stops, opened))

      -- where what is left shows cells that stand for a plain state, each device that opens over it has that state
      pub base_after : {c : Cells} {p : Plain} → Shows left c → CellsStandFor row c p → (u : State) (bad : Spot →
          Bool) → IsOpened row left bad u → u.base ≡ p
      base_after {c} {p} shows stands u bad opened =
          plain_one one_cell same_contents row left u.base p leaves.sound opened.stands (c, shows, stands)

-- the block of a new device
pub zero_found : block_at 0 0xFF (zero row) ≡ zero_block
zero_found = new_zeros row (data_key 0 0xFF) (IsData 0 0xFF (omega arith) (omega arith))
