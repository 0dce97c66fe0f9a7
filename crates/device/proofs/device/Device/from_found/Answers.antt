use Rattle.device.proofs.Common.{Describes, DeviceCore, List, RegionState, ap, idle_device, regions_kept, subst, sym}
use Rattle.device.proofs.Common.{◌∙◌}
use Rattle.device.proofs.described.Opens.{device_opens, has_found}
use Rattle.device.proofs.device.Device.from_found.Goals as goal

pub returns-in-Ok-idle-clause-described : goal.returns-in-Ok-idle-clause-described
returns-in-Ok-idle-clause-described c =
    λ array bad s over sound opened.
    subst (λ (d : DeviceCore). Describes d s) (sym c.in-Ok-idle.ensures)
    (subst (λ (rs : List RegionState). Describes (idle_device c.in-Ok.ftl c.args.found.settings rs) s)
    (sym (c.regions_kept-regions.ensures ∙ ap (regions_kept c.args.found.settings) c.numbers.ensures.value))
    (device_opens c.args.config array bad s c.args.found c.in-Ok.ftl c.has_no_fault.ensures over.inside sound opened
    over.found over.settings c.in-Ok.ensures.described c.in-Ok.ensures.claims))

pub returns-in-Ok-idle-clause-found : goal.returns-in-Ok-idle-clause-found
returns-in-Ok-idle-clause-found c =
    has_found c.args.config c.args.found _ c.in-Ok.ftl _ c.in-Ok-idle.ensures c.in-Ok.ensures.core
    (c.regions_kept-regions.ensures ∙ ap (regions_kept c.args.found.settings) c.numbers.ensures.value)
