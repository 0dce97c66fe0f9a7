use Rattle.std.specs.Prelude.{is_some}
use Rattle.device.proofs.Common.{Bool, Option, ap, if◌then◌else◌, numbers_of, sym, ◌==◌, ◌∙◌}
use Rattle.lun_route.specs.Luns.{lun_in}
use Rattle.ufs_spec.specs.Begins.{nothing_wrong, sense_at}
use Rattle.ufs_spec.specs.Identities.{device_type}
use Rattle.ufs_spec.specs.Refusals.{Lun, is_guarded, mended, unit_numbers_at}
use Rattle.device.specs.Attentions.{attended_at, sense_of}
use Rattle.device.proofs.described.SameDevice.{same_layer}
use Rattle.device.proofs.host_messages.Routed.{same_sense, same_there}
use Rattle.device.proofs.device.Device.target_on.Goals as goal

pub returns : goal.returns
returns c = λ s r layer bare lun named unit.
    let numbers = c.numbers.ensures.described s.translation (same_layer _ _ s.translation c.self.view_is layer) in
    let spec = c.spec_of-spec.ensures ∙ (λ i. unit_numbers_at (numbers i) (unit i)) in
    let place = c.attention_place.ensures in
    let sense =
    c.sense_told.ensures s.translation layer
    ∙ (λ i. sense_of (numbers_of s) (place i) (attended_at (numbers_of s) (bare.volatile_is i) (place i)) (mended s))
    ∙ same_sense s (lun_in c.args.route.lun)
    ∙ ap (λ (o : Option Lun). if (numbers_of s).profile == 0 then nothing_wrong else sense_at s o) (sym named) in
    let type =
    c.type_told.ensures
    ∙ (λ i. if c.is_some.ensures i then device_type (sym lun i) else 0x7F)
    ∙ ap (λ (b : Bool). if b then device_type r.lun else 0x7F) (same_there c.args.route.lun)
    ∙ ap (λ (o : Option Lun). if is_some o then device_type r.lun else 0x7F) (sym named) in
    λ i. record {
      lun = sym lun i;
      unit = unit i;
      spec = spec i;
      is_guarded = (c.is_guarded.ensures s layer bare ∙ ap (is_guarded s) spec) i;
      sense = sense i;
      device_type = type i;
    }
