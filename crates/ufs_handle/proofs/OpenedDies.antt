-- A device that was opened over dies.
use Rattle.std.proofs.Common.{◌≡◌, ◌∙◌, List, map, sym, subst}
use Rattle.std.proofs.lemmas.List.{map-id}
use Rattle.ufs_spec.specs.Dies.{DieState}
use Rattle.ufs_spec.specs.Lives.{Fit}
use Rattle.ufs_spec.specs.declared.configs.Numbers.{Numbers}
use Rattle.device.specs.Kept.{DeviceCore}
use Rattle.ufs_handle.specs.Calls.{OpensOver}

-- a die in memory is its own state
pub fits : (n m : Numbers) (dies seen others : List DieState) → seen ≡ dies → others ≡ dies → m ≡ n →
    Fit n (map (λ (die : DieState). die) seen) → Fit m others
fits n m dies seen others as_seen same same_numbers fit =
    subst (λ (x : Numbers). Fit x others) (sym same_numbers)
    (subst (Fit n) (map-id seen ∙ as_seen ∙ sym same) fit)

pub opens : (n m : Numbers) (dies others : List DieState) (core : DeviceCore) → m ≡ n → others ≡ dies →
    OpensOver m others core → OpensOver n dies core
opens n m dies others core same_numbers same h =
    subst (λ (x : Numbers). OpensOver x dies core) same_numbers
    (subst (λ (ds : List DieState). OpensOver m ds core) same h)
