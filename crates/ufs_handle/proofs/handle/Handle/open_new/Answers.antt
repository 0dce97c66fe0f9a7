use Rattle.std.proofs.Common.{◌∙◌, sym}
use Rattle.ufs_handle.proofs.Unopened.{opened_new}
use Rattle.ufs_handle.proofs.handle.Handle.open_new.Goals as goal

pub returns-in-Ok-new_dies : goal.returns-in-Ok-new_dies
returns-in-Ok-new_dies c =
    opened_new c.args.plain.now c.args.units.now c.in-Ok.config c.in-Ok-new_dies.dies.items c.args.self.now.value
    c.open.new.self.value c.open.result (sym c.is_open.ensures ∙ c.if-is_open.false) c.in-Ok.ensures.right
    c.in-Ok.ensures.made c.in-Ok-new_dies.ensures c.open.ensures.opened c.open.ensures.refused c.open.ensures.why
