use Rattle.std.proofs.Common.{◌∙◌, ap}
use Rattle.ufstool.specs.HostMessages.{asked_lines, data_spelled}
use Rattle.ufstool.proofs.Written.{both_written}
use Rattle.ufstool.proofs.unmap.try_lines.Goals as goal

pub returns : goal.returns
returns g c =
    let u = c.args.wanted.now in
    both_written _ _ _ _ _ _ _ _ c.in_ok-write_asked.ensures c.in_ok-write_asked-2.ensures c.flush.ensures.bytes
    (ap asked_lines c.unmap_command.ensures.bytes)
    (ap asked_lines (c.list_message.ensures.bytes ∙ ap (data_spelled u.unit u.task) c.list_bytes-list.ensures))
