-- Why a device is not opened over dies in memory: no memory, or they hold another configuration.
use Rattle.device.proofs.Common.{Cells, DieState, Fit, IsOpeningFault, List, Numbers, Option, RunFaultKind, Shows}
use Rattle.device.proofs.Common.{Sound, Suits, arith, array_of, map, new_die, refl, slice_index_or, subst, sym, ℕ, ◌<◌}
use Rattle.device.proofs.Common.{◌≡◌, ◌≢◌}
use Rattle.std.proofs.Math.ListN.{get_or-map}
use Rattle.ufs_laws.proofs.array_cells.StandsForOne.{cells_one, mark_one}
use Rattle.ufs_laws.proofs.pages.PageIsOneCell.{one_cell}
use Rattle.ufs_spec.specs.Cells.{Mark}
use Rattle.ufs_spec.specs.Kept.{IsNewestMark}
use Rattle.ufs_spec.specs.Sound.{CellsSuit}
use Rattle.ufs_spec.specs.declared.events.RunFaultKind.TheVariants as kind
use Rattle.ufs_spec.specs.declared.faults.OpenFault.{OpenFault}
use Rattle.ufs_spec.specs.declared.faults.OpenFault.TheVariants as fault
use Rattle.recovery.specs.Found.{IsScanFault}
use Rattle.device.specs.Opened.{HoldAnotherConfig}

abbrev no_failures : DieState → ℕ
no_failures d = 0

-- a die in memory counts no failures
none_counted : (dies : List DieState) (die : ℕ) → slice_index_or (map no_failures dies) die 0 ≡ 0
none_counted dies die = get_or-map no_failures dies die (new_die 0 0)

none_rose : (before after : List DieState) (die : ℕ) →
    slice_index_or (map no_failures before) die 0 < slice_index_or (map no_failures after) die 0 → ⊥
none_rose before after die less =
    let zero_before = none_counted before die in
    let zero_after = none_counted after die in
    omega arith

-- what suits the numbers does so by each newest mark of sound cells
suits_by : (n : Numbers) (dies : List DieState) (sound : Sound (array_of dies)) (m : Option Mark) →
    IsNewestMark sound.cells m → Suits n (array_of dies) → CellsSuit n sound.cells m
suits_by n dies sound m newest suits =
    let c = sound.cells in
    let same : suits.cells ≡ c = cells_one one_cell (array_of dies) suits.cells c suits.shown sound.shown in
    let its : IsNewestMark c suits.newest =
    subst (λ (x : Cells). IsNewestMark x suits.newest) same suits.is_newest in
    subst (λ (x : Option Mark). CellsSuit n c x) (mark_one c sound.newest suits.newest m sound.sound its newest)
    (subst (λ (x : Cells). CellsSuit n x suits.newest) same suits.suit)

-- sound dies that suit the configuration hold no other
pub not_another : (n : Numbers) (dies : List DieState) → HoldAnotherConfig n dies → Sound (array_of dies) →
    Suits n (array_of dies) → ⊥
not_another n dies another sound suits =
    let h = another sound.cells sound.shown in h.2 (suits_by n dies sound h.0 h.1 suits)

pub opening_refused : (n : Numbers) (dies after : List DieState) (e : OpenFault) (k : RunFaultKind) → Fit n dies →
    (e ≡ fault.NoMemory → k ≡ kind.NoMemory) → (e ≢ fault.NoMemory → k ≡ kind.WrongEvent) →
    ((c : Cells) → Shows (array_of dies) c → IsScanFault n c (map no_failures dies) (map no_failures after) e) →
    IsOpeningFault n dies k
opening_refused n dies after fault.NoMemory k fit memory other why =
    subst (IsOpeningFault n dies) (sym (memory refl)) fit
opening_refused n dies after fault.OtherConfig k fit memory other why =
    subst (IsOpeningFault n dies) (sym (other differ)) (λ _. why)
  where
    differ : fault.OtherConfig ≡ fault.NoMemory → ⊥
    differ e = cc
opening_refused n dies after (fault.ReadFault p) k fit memory other why =
    subst (IsOpeningFault n dies) (sym (other differ)) (λ _ cells shown.
    absurd (none_rose dies after p.die (why cells shown)))
  where
    differ : fault.ReadFault p ≡ fault.NoMemory → ⊥
    differ e = cc
