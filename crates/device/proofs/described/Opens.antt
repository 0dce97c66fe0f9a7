-- A device over dies whose pages are sound is the one that the definitions open over them.
use Rattle.device.proofs.Common.{AreClaimed, Array, Bool, Cells, Core, Describes, DeviceCore, DieState, Fit, HasScanned}
use Rattle.device.proofs.Common.{IfOk, IsArrayOf, IsConfig, IsOpened, IsSettings, List, Numbers, RegionState, Result}
use Rattle.device.proofs.Common.{Shows, Sound, Spot, State, Suits, Translation, [], ap, arith, array_of, bad_of}
use Rattle.device.proofs.Common.{fit_inside, idle_device, ranges_of, regions_kept, settings_key, settings_ranges, subst}
use Rattle.device.proofs.Common.{suc, ◌∙◌, ◌≡◌, ◌≤◌}
use Rattle.std.proofs.lemmas.Result.{IfOk-weaker}
use Rattle.ufs_spec.specs.Cells.{AreWithin}
use Rattle.ufs_spec.specs.Kept.{Holds, IsKept, IsNewestMark}
use Rattle.ufs_spec.specs.Openings.{IsOpenedTranslation}
use Rattle.ufs_spec.specs.Sound.{CellsSound}
use Rattle.ufs_laws.proofs.array_cells.StandsForOne.{cells_one, kept_one, mark_one}
use Rattle.ufs_laws.proofs.pages.PageIsOneCell.{one_cell}
use Rattle.ufs_laws.proofs.pages.PageIsSomeCell.{some_cell}
use Rattle.power_loss.specs.Book.{CellsRight}
use Rattle.power_loss.proofs.openings.OpenedFromPages.{cells_right, cells_within}
use Rattle.settings.specs.Told.{settings_in, settings_now}
use Rattle.settings.proofs.SettingsRead.{said_again}
use Rattle.recovery.specs.Found.{IsFound, newest_found}
use Rattle.recovery.specs.Scanned.{IsFoundOn}
use Rattle.recovery.specs.declared.found.Found.{Found}
use Rattle.ftl_core.specs.Public.{Describes as IsLayer, opened}
use Rattle.device.specs.Opened.{HasFound, OpensOver, TellsSettings}
use Rattle.device.proofs.die_calls.CallsRight.{opens_right}

-- what is found suits the configuration, whatever the pages are
found_suits : (n : Numbers) (array : Array) (bad : Spot → Bool) (f : Found) →
    ((c : Cells) → Shows array c → IsFound n c bad f) → Suits n array
found_suits n array bad f found =
    let cells : Cells = λ p. (some_cell (array p)).0 in
    let shown : Shows array cells = λ p. (some_cell (array p)).1 in
    record {
      cells = cells;
      shown = shown;
      newest = newest_found f;
      is_newest = (found cells shown).basis.newest;
      suit = (found cells shown).suits;
    }

-- what is made of what was found describes any layer that is opened over it
abbrev pub OpensLayer : Numbers → Found → Core → Type 0
OpensLayer n f layer =
    (cells : Cells) (is_bad : Spot → Bool) (t : Translation) → 1 ≤ n.pages → CellsRight cells → AreWithin n cells →
    CellsSound cells t.ledger.newest → IsFound n cells is_bad f → IsOpenedTranslation n cells is_bad t →
    IsLayer layer t

module _ (n : Numbers) (array : Array) (bad : Spot → Bool) (s : State) (f : Found) (layer : Core) (config : IsConfig n)
    (inside : IsArrayOf n array) (sound : Sound array) (opened : IsOpened n array bad s)
    (found : (c : Cells) → Shows array c → IsFound n c bad f) (told : (c : Cells) → Shows array c → TellsSettings c f)
    (opens : OpensLayer n f layer) (none : AreClaimed layer (λ tag. [])) where
  found_here : IsFound n opened.cells bad f
  found_here = found opened.cells opened.shown

  same_cells : sound.cells ≡ opened.cells
  same_cells = cells_one one_cell array sound.cells opened.cells sound.shown opened.shown

  cells_sound : CellsSound opened.cells sound.newest
  cells_sound = subst (λ c. CellsSound c sound.newest) same_cells sound.sound

  newest_here : IsNewestMark opened.cells sound.newest
  newest_here = subst (λ c. IsNewestMark c sound.newest) same_cells sound.is_newest

  sound_here : CellsSound opened.cells s.translation.ledger.newest
  sound_here = subst (CellsSound opened.cells)
      (mark_one opened.cells sound.newest sound.newest s.translation.ledger.newest cells_sound newest_here
      opened.translation.ledger.newest) cells_sound

  same_newest : s.translation.ledger.newest ≡ newest_found f
  same_newest = mark_one opened.cells sound.newest s.translation.ledger.newest (newest_found f) cells_sound
      opened.translation.ledger.newest found_here.basis.newest

  same_kept : opened.translation.ledger.kept ≡ f.kept
  same_kept = kept_one opened.cells (newest_found f) opened.translation.ledger.kept f.kept
      (subst (λ m. IsKept opened.cells m opened.translation.ledger.kept) same_newest opened.translation.ledger.is_kept)
      found_here.basis.kept

  held : Holds opened.cells (newest_found f) (suc f.kept) settings_key (s.translation.ledger.base settings_key)
  held = subst (λ m. Holds opened.cells m (suc f.kept) settings_key (s.translation.ledger.base settings_key))
      same_newest
      (subst (λ k. Holds opened.cells s.translation.ledger.newest (suc k) settings_key
      (s.translation.ledger.base settings_key)) same_kept (opened.translation.ledger.holds settings_key IsSettings))

  settings_are : f.settings ≡ settings_now s.base
  settings_are =
      told opened.cells opened.shown (subst (CellsSound opened.cells) same_newest sound_here)
      (s.translation.ledger.base settings_key) held
      ∙ (ap settings_in (opened.contents settings_key IsSettings)
      ∙ said_again (settings_now s.base) (settings_ranges s.base opened.stands.2.plain))

  layer_is : IsLayer layer s.translation
  layer_is =
      let has = (ranges_of n config).has_pages in
      opens opened.cells bad s.translation (omega arith) (cells_right array opened.shown)
      (cells_within opened.cells inside opened.shown) sound_here found_here opened.translation

  pub device_opens : Describes (idle_device layer f.settings (regions_kept f.settings n)) s
  device_opens = opens_right n array bad s layer f.settings config inside sound opened layer_is none settings_are

-- what is made of what was found has it
pub has_found : (n : Numbers) (f : Found) (d : DeviceCore) (layer : Core) (regions : List RegionState) →
    d ≡ idle_device layer f.settings regions → layer ≡ opened n f → regions ≡ regions_kept f.settings n →
    HasFound n f d
has_found n f d layer regions idle is kept =
    idle
    ∙ (ap (λ (l : Core). idle_device l f.settings regions) is
    ∙ ap (idle_device (opened n f) f.settings) kept)

-- Over dies

-- what was found on dies: what is made of it is the device that the definitions open over their pages, and they suit
-- the configuration
module _ (n : Numbers) (dies : List DieState) (fit : Fit n dies) (f : Found)
    (found : (c : Cells) → Shows (array_of dies) c → IsFound n c (bad_of dies) f)
    (told : (c : Cells) → Shows (array_of dies) c → TellsSettings c f) {E : Type 0} (r : Result DeviceCore E)
    (opens : IfOk r (OpensOver n f)) where
  pub opened_described : IfOk r (λ d. (s : State) → Sound (array_of dies) →
      IsOpened n (array_of dies) (bad_of dies) s → Describes d s)
  opened_described = IfOk-weaker r _ _
      (λ d makes s. makes (array_of dies) (bad_of dies) s
      (record { inside = fit_inside n dies fit; found = found; settings = told }))
      opens

  pub opened_suits : IfOk r (λ d. Suits n (array_of dies))
  opened_suits = IfOk-weaker r _ _ (λ d makes. found_suits n (array_of dies) (bad_of dies) f found) opens

-- the same over any dies, sound or not: the device has what a scan of them finds
pub opened_scanned : (n : Numbers) (dies : List DieState) (f : Found) → IsFoundOn n dies f → {E : Type 0} →
    (r : Result DeviceCore E) → IfOk r (HasFound n f) → IfOk r (HasScanned n dies)
opened_scanned n dies f found r has = IfOk-weaker r _ _ (λ d h. (f, found, h)) has
