-- What the device told in a call, of the device that is held.
use Rattle.std.proofs.Common.{◌≡◌, ℕ, Option, sym, subst}
use Rattle.ufs_spec.specs.Refusals.{State}
use Rattle.ufs_spec.specs.declared.flash.Job.{Job}
use Rattle.device.specs.Describes.{Describes, IsGiven}
use Rattle.device.specs.Kept.{DeviceCore}

-- the device in its place is the one that is held
pub told_so : (P : State → Type 0) (kept core : DeviceCore) → kept ≡ core → ((s : State) → Describes kept s → P s) →
    (s : State) → Describes core s → P s
told_so P kept core same told s d = told s (subst (λ (k : DeviceCore). Describes k s) (sym same) d)

-- and what it gave is what is answered, and what it became is held
pub given_so : (die : ℕ) (kept core new after : DeviceCore) (given answer : Option Job) → kept ≡ core → new ≡ after →
    given ≡ answer → ((s : State) → Describes kept s → IsGiven s die given new) →
    (s : State) → Describes core s → IsGiven s die answer after
given_so die kept core new after given answer same becomes is told s d =
    subst (λ (o : Option Job). IsGiven s die o after) is
    (subst (λ (k : DeviceCore). IsGiven s die given k) becomes
    (told_so (λ t. IsGiven t die given new) kept core same told s d))
