use Rattle.std.proofs.Common.{◌∙◌, ap, sym, subst, refl}
use Rattle.ufs_handle.specs.Calls.{OpensOver}
use Rattle.ufs_handle.specs.Kept.{HeldState}
use Rattle.ufs_handle.proofs.OpenedDies.{fits, opens}
use Rattle.ufs_handle.proofs.Unopened.{unfit}
use Rattle.ufs_handle.proofs.held.Held.open.Goals as goal

pub open_device-requires : goal.open_device-requires
open_device-requires c = record {
  fit =
      fits c.args.config c.copied.result c.args.dies.items c.as_slice.result.now c.as_mut_slice.result.now
      c.as_slice.ensures.value c.as_mut_slice.ensures.value c.copied.ensures (c.fit.ensures.fit c.if-not-fit.false);
}

pub returns-then-not-fit-clause-refused : goal.returns-then-not-fit-clause-refused
returns-then-not-fit-clause-refused c =
    unfit c.args.config c.args.config c.args.dies.items c.as_slice.result.now c.as_slice.ensures.value refl
    (c.fit.ensures.unfit c.if-not-fit.true)

pub returns-in-Ok-new-clause-opened : goal.returns-in-Ok-new-clause-opened
returns-in-Ok-new-clause-opened c =
    subst (OpensOver c.args.config c.args.dies.items)
    (sym (ap (λ (h : HeldState). h.core) c.in-Ok-new.ensures.ok ∙ c.in-Ok.ensures.ok))
    (opens c.args.config c.copied.result c.args.dies.items c.as_mut_slice.result.now c.in_ok-device.device
    c.copied.ensures c.as_mut_slice.ensures.value c.in_ok-device.ensures.opened)
