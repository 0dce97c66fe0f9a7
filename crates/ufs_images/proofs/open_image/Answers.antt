use Rattle.std.proofs.Common.{◌≡◌, ℕ, List, Option, None, Some, subst, sym}
use Rattle.std.specs.Prelude.{Err, IfErr, Ok, OnErr, OnOk, Result}
use Rattle.ufs_spec.specs.Dies.{DieState}
use Rattle.ufs_spec.specs.declared.configs.Numbers.{Numbers}
use Rattle.ufs_handle.specs.Calls.{IsNotOpened, IsOpen, IsUnopened}
use Rattle.ufs_handle.specs.Exports.{IsWhyNot}
use Rattle.ufs_handle.specs.Kept.{HeldState}
use Rattle.ufs_handle.specs.Plain.{config_numbers, numbers_fault}
use Rattle.ufs_handle.specs.declared.fault.Fault.{Fault}
use Rattle.ufs_handle.specs.declared.fault.Fault.TheVariants as fault
use Rattle.ufs_handle.specs.declared.plain.PlainConfig.{PlainConfig}
use Rattle.ufs_handle.specs.declared.plain.PlainUnit.{PlainUnit}
use Rattle.ufs_images.specs.Saved.{IsImageOf, IsNoImage, OpensImage}
use Rattle.ufs_images.proofs.open_image.Goals as goal

-- why no device is opened over the dies of the image is why it is not over the image
why_not : (plain : PlainConfig) (units : List PlainUnit) (bytes : List ℕ) (dies : List DieState) (f : Fault) →
    IsImageOf plain bytes dies → IsUnopened (config_numbers plain units) dies f → IsNoImage plain units bytes f
why_not plain units bytes dies fault.Image is why = absurd why
why_not plain units bytes dies fault.NoMemory is why = tt
why_not plain units bytes dies f is why = (dies, is, why)

opened : (plain : PlainConfig) (units : List PlainUnit) (bytes : List ℕ) (dies : List DieState) (n : Numbers)
    (before after : Option HeldState) (r : Result (Unit {0}) Fault) → IsImageOf plain bytes dies →
    numbers_fault plain units ≡ None → n ≡ config_numbers plain units → OnOk r (IsOpen n dies after) →
    OnOk r (before ≡ None) → OnErr r (after ≡ before) → IfErr r (IsNotOpened n dies before) →
    OpensImage plain units bytes before r after
opened plain units bytes dies n before after (Ok done) image right made held none refused why =
    (none, right, (dies, image, subst (λ (m : Numbers). IsOpen m dies after) made held))
opened plain units bytes dies n before after (Err f) image right made held none refused why = (
  refused,
  subst (λ (w : Option Fault). IsWhyNot before w (IsNoImage plain units bytes) f) (sym right)
      (by before why),
)
  where
    by : (o : Option HeldState) → IsNotOpened n dies o f → IsWhyNot o None (IsNoImage plain units bytes) f
    by (Some h) e = e
    by None e = why_not plain units bytes dies f image (subst (λ (m : Numbers). IsUnopened m dies f) made e)

pub returns-in-Ok-read_image : goal.returns-in-Ok-read_image
returns-in-Ok-read_image c = opened c.args.plain.now c.args.units.now c.args.image.now c.in-Ok-read_image.dies.items
    c.in-Ok.config c.args.handle.now.value c.open.new.self.value c.open.result c.in-Ok-read_image.ensures.bytes
    c.in-Ok.ensures.right c.in-Ok.ensures.made c.open.ensures.opened c.open.ensures.held_none c.open.ensures.refused
    c.open.ensures.why
