use Rattle.device.proofs.Common.{AskedFor, Ok, length, refl, subst, sym, ◌∙◌}
use Rattle.std.specs.Prelude.{Option}
use Rattle.device.specs.Hears.{IsDataHeard, compared_with}
use Rattle.device.proofs.device.Device.data_out.Goals as goal

pub returns-clause-heard : goal.returns-clause-heard
returns-clause-heard c =
    subst
    (λ (o : Option AskedFor). IsDataHeard c.args.self.now c.end_waiting.new.self c.args.tag c.args.data.now o
    (compared_with c.args.self.now c.args.lun c.args.tag c.args.offset (length c.args.data.now)) (Ok tt))
    (sym c.in-Some.is ∙ c.asked_for.ensures.what) (
      refl,
      record {
        come = c.take_data.new.self;
        has_come = c.take_data.ensures;
        filled = c.fill_register.new.self;
        has_filled = c.fill_register.ensures;
        told = c.end_waiting.ensures;
      },
    )
