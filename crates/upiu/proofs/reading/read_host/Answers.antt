use Rattle.std.proofs.Common.{sym}
use Rattle.upiu.proofs.HostFault.{host_read}
use Rattle.upiu.proofs.Spelled.{passes}
use Rattle.upiu.proofs.reading.read_host.Goals as goal

pub read_fields-requires : goal.read_fields-requires
read_fields-requires c = passes c.args.bytes.now (host_read c.args.bytes.now (sym c.in-None.ensures)).0
