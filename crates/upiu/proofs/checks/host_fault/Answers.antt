use Rattle.std.proofs.Common.{sym, ap, ◌∙◌}
use Rattle.ufs_spec.specs.Messages.{host_codes, is_among}
use Rattle.upiu.proofs.HostFault.{host_other}
use Rattle.upiu.proofs.checks.host_fault.Goals as goal

pub returns-in-None-2 : goal.returns-in-None-2
returns-in-None-2 c =
    sym
    (host_other c.args.bytes.now (sym c.in-None-2.ensures)
    (ap (is_among host_codes) (sym c.code.ensures) ∙ sym c.is_of_host.ensures ∙ c.if-is_of_host.false))
