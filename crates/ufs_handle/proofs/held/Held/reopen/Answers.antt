use Rattle.std.proofs.Common.{◌∙◌, ap}
use Rattle.ufs_handle.specs.Kept.{HeldState}
use Rattle.ufs_handle.proofs.OpenedDies.{fits, opens}
use Rattle.ufs_handle.proofs.held.Held.reopen.Goals as goal

pub open_device-requires : goal.open_device-requires
open_device-requires c = record {
  fit =
      fits c.self.inside.config c.copied.result c.self.inside.dies.items c.as_slice.result.now
      c.as_mut_slice.result.now c.as_slice.ensures.value c.as_mut_slice.ensures.value c.copied.ensures
      (c.fit.ensures.fit c.if-not-fit.false);
}

pub returns-clause-opened : goal.returns-clause-opened
returns-clause-opened c =
    opens c.args.self.now.config c.copied.result c.args.self.now.dies c.as_mut_slice.result.now
    c.in_ok-self-inside.field-0 (c.copied.ensures ∙ ap (λ (h : HeldState). h.config) c.self.view_is)
    (c.as_mut_slice.ensures.value ∙ ap (λ (h : HeldState). h.dies) c.self.view_is) c.in_ok-self-inside.ensures.opened
