use Rattle.device.proofs.Common.{Fit, HasScanned, IsOpeningFault, None, Numbers, ap, length, length-replicate, map-id}
use Rattle.device.proofs.Common.{refl, replicate, subst, sym, ◌∙◌}
use Rattle.device.proofs.dies_of_world.OpenedWorld.{IsOpenedOver, fit_same, opened_fits, opened_over, suits_over}
use Rattle.device.proofs.dies_of_world.OpenedWorld.{scanned_over, written_same}
use Rattle.device.proofs.world.World.new.Goals as goal

pub invariant_of-result : goal.invariant_of-result
invariant_of-result c =
    let same = written_same c.args.dies c.open_device.new.dies
    (c.open_device.ensures.same ∙ c.as_mut_slice.ensures.value) in
    let fit : Fit c.args.config c.args.dies.items =
    fit_same c.args.config c.as_slice.result.now c.args.dies.items c.as_slice.ensures.value
    (c.fit.ensures.fit c.if-not-fit.false) in
    record {
      jobs =
          ap length c.in-Ok-idle.ensures ∙ length-replicate c.len.result None
          ∙ (c.len.ensures ∙ c.args.dies.ok.0) ∙ sym (ap length same);
      fit = subst (Fit c.args.config) (sym same) fit;
    }

pub open_device-requires : goal.open_device-requires
open_device-requires c = record {
  fit =
      subst (λ (n : Numbers). Fit n c.as_mut_slice.result.now) (sym c.copied.ensures)
      (subst (Fit c.args.config) (sym c.as_mut_slice.ensures.value)
      (fit_same c.args.config c.as_slice.result.now c.args.dies.items c.as_slice.ensures.value
      (c.fit.ensures.fit c.if-not-fit.false)));
}

pub returns-then-not-fit-clause-refused : goal.returns-then-not-fit-clause-refused
returns-then-not-fit-clause-refused c =
    subst (IsOpeningFault c.args.config c.args.dies.items) (sym c.fault.ensures.kind)
    (λ fit. absurd (c.fit.ensures.unfit c.if-not-fit.true
    (subst (Fit c.args.config) (sym (map-id c.as_slice.result.now ∙ c.as_slice.ensures.value)) fit)))

pub returns-clause-suits : goal.returns-clause-suits
returns-clause-suits c = (
  fit_same c.args.config c.as_slice.result.now c.args.dies.items c.as_slice.ensures.value
      (c.fit.ensures.fit c.if-not-fit.false),
  suits_over c.args.config c.copied.result c.args.dies.items c.as_mut_slice.result.now c.copied.ensures
      c.as_mut_slice.ensures.value c.in-Ok.ensures.suits,
)

pub returns-clause-found : goal.returns-clause-found
returns-clause-found c =
    subst (HasScanned c.args.config c.args.dies.items) (sym c.in-Ok-new.ensures.ok)
    (scanned_over c.args.config c.copied.result c.args.dies.items c.as_mut_slice.result.now c.in-Ok.device
    c.copied.ensures c.as_mut_slice.ensures.value c.in-Ok.ensures.found)

pub returns-clause-fits : goal.returns-clause-fits
returns-clause-fits c =
    λ sound s opened.
    let same = written_same c.args.dies c.open_device.new.dies
    (c.open_device.ensures.same ∙ c.as_mut_slice.ensures.value) in
    let fit : Fit c.args.config c.args.dies.items =
    fit_same c.args.config c.as_slice.result.now c.args.dies.items c.as_slice.ensures.value
    (c.fit.ensures.fit c.if-not-fit.false) in
    opened_fits _ c.args.config c.args.dies.items s fit refl same
    (c.in-Ok-idle.ensures ∙ ap (λ count. replicate count None) (c.len.ensures ∙ c.args.dies.ok.0))
    (subst (IsOpenedOver c.args.config c.args.dies.items) (sym c.in-Ok-new.ensures.ok)
    (opened_over c.args.config c.copied.result c.args.dies.items c.as_mut_slice.result.now c.in-Ok.device
    c.copied.ensures c.as_mut_slice.ensures.value c.in-Ok.ensures.described)) sound opened

pub returns-in_default-clause-refused : goal.returns-in_default-clause-refused
returns-in_default-clause-refused c =
    subst (IsOpeningFault c.args.config c.args.dies.items) (sym c.fault-in_default.ensures.kind)
    (fit_same c.args.config c.as_slice.result.now c.args.dies.items c.as_slice.ensures.value
    (c.fit.ensures.fit c.if-not-fit.false))

pub returns-in_default-idle-clause-refused : goal.returns-in_default-idle-clause-refused
returns-in_default-idle-clause-refused c =
    subst (IsOpeningFault c.args.config c.args.dies.items) (sym c.fault-in_default-idle.ensures.kind)
    (fit_same c.args.config c.as_slice.result.now c.args.dies.items c.as_slice.ensures.value
    (c.fit.ensures.fit c.if-not-fit.false))
