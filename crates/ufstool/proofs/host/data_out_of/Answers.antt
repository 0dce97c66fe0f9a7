use Rattle.std.proofs.Common.{arith}
use Rattle.std.proofs.lemmas.List.{take-replicate}
use Rattle.ufstool.proofs.Filled.{of_fill}
use Rattle.ufstool.proofs.host.data_out_of.Goals as goal

pub returns-clause-bytes : goal.returns-clause-bytes
returns-clause-bytes c =
    of_fill c.args.unit c.args.task c.args.offset c.args.count c.args.fill _ _
    (take-replicate c.args.count 4096 c.args.fill (omega (arith, c.if-count-gt4096.false)))
    c.data_message.ensures.bytes
