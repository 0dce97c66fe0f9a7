-- What a scan finds on dies, in the words of its contract, clause by clause.
use Rattle.std.specs.Prelude.{◌≡◌, ◌+◌, ℕ, suc, IfErr, IfOk, List, Result, length}
use Rattle.std.specs.List.{All}
use Rattle.ufs_spec.specs.Cells.{AreWithin, Cells, Shows}
use Rattle.ufs_spec.specs.Dies.{DieState, IsOfSize}
use Rattle.ufs_spec.specs.Keys.{settings_key}
use Rattle.ufs_spec.specs.Kept.{Holds}
use Rattle.ufs_spec.specs.Lives.{array_of, bad_of}
use Rattle.ufs_spec.specs.Plain.{Plain}
use Rattle.ufs_spec.specs.Sound.{CellsSound, Sound}
use Rattle.ufs_spec.specs.declared.configs.Numbers.{Numbers}
use Rattle.ufs_spec.specs.declared.faults.OpenFault.{OpenFault}
use Rattle.settings.specs.Told.{settings_in}
use Rattle.recovery.specs.Found.{IsFound, IsScanFault, newest_found}
use Rattle.recovery.specs.Reading.{IsFaultOf, IsTable, IsTableOf, NoLower, ShowsDies}
use Rattle.recovery.specs.Stood.{AreReadSettings, IsStoodFor}
use Rattle.recovery.specs.declared.found.Found.{Found}
use Rattle.recovery.specs.declared.reading.Table.{Table}

-- it is the table of all pages of the dies
abbrev pub IsTableOver : Numbers → List DieState → Table → Type 0
IsTableOver n dies t = (c : Cells) → Shows (array_of dies) c → IsTable n c t

-- what was found on the dies; over sound ones it has the contents of the plain state that they stand for
pub record IsFoundOn (n : Numbers) (dies : List DieState) (f : Found) : Type 0 where
  pub found : (c : Cells) → Shows (array_of dies) c → IsFound n c (bad_of dies) f
  pub stands : Sound (array_of dies) → (p : Plain) × IsStoodFor n (array_of dies) f p
  pub read_settings : AreReadSettings n (array_of dies) f.contents.items f.settings
  pub settings : (c : Cells) → Shows (array_of dies) c → CellsSound c (newest_found f) → (x : List ℕ) →
      Holds c (newest_found f) (suc f.kept) settings_key x → f.settings ≡ settings_in x

-- why the scan of the dies was refused
abbrev pub IsFaultOn : Numbers → List DieState → List ℕ → List ℕ → OpenFault → Type 0
IsFaultOn n dies before after e = (c : Cells) → Shows (array_of dies) c → IsScanFault n c before after e

-- the dies have the sizes, and the numbers from the first to the one before the end
abbrev pub CanRead : Numbers → ℕ → ℕ → List DieState → Type 0
CanRead n first end dies = All (IsOfSize n.blocks n.pages) dies × (first + length dies ≡ end)

-- what a reading of these dies did, of which the first has the number
pub record HasRead (n : Numbers) (first : ℕ) (old new : List DieState) (before after : List ℕ)
    (result : Result Table OpenFault) : Type 0 where
  pub same : new ≡ old
  pub counted : NoLower before after
  pub read : IfOk result (λ t. (c : Cells) → AreWithin n c → ShowsDies first old c → IsTableOf n first (length old) c t)
  pub fault : IfErr result (IsFaultOf first before after)
