use Rattle.device.proofs.Common.{DeviceCore, HasResponded, OpenTask, Some, ap, slice_get, subst, sym, ◌∙◌, ◌≡◌}
use Rattle.std.specs.Option.{option_copied}
use Rattle.device.proofs.described.Responded.{responds}
use Rattle.device.proofs.device.Device.respond.Goals as goal

pub returns-in-Some-clause-responded : goal.returns-in-Some-clause-responded
returns-in-Some-clause-responded c =
    subst
    (λ (d : DeviceCore). (task : OpenTask) → slice_get d.tasks c.args.index ≡ Some task →
    task.region ≡ c.args.region → HasResponded d.rpmb c.respond.new.self task c.args.code (option_copied c.args.«data»)) c.self.view_is
    (λ task at its.
    responds c.self.inside.set.tasks c.args.index c.args.code c.args.region c.in-Some.held.now task (option_copied c.args.«data»)
    c.self.inside.rpmb c.respond.new.self (sym (ap option_copied c.in-Some.is) ∙ c.held.ensures) at its c.respond.ensures)
