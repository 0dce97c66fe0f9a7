use Rattle.device.proofs.Common.{IsBehind, refl, subst, sym}
use Rattle.device.proofs.described.Answered.{stays}
use Rattle.device.proofs.managed.Services.{none_carried}
use Rattle.device.proofs.device.Device.carry_out.Goals as goal

pub returns-in_default : goal.returns-in_default
returns-in_default c = record {
  left = refl;
  carried =
      λ s h.
      subst (IsBehind c.args.self.now) (sym (none_carried s c.args.managing c.in_default.not-Aborts))
      (stays c.args.self.now s h);
}
