use Rattle.device.proofs.Common.{List, refl, ℕ, ◌+◌}
use Rattle.std.proofs.Common.{slice_range}
use Rattle.device.proofs.host_messages.DataRight.{data_heard_as}
use Rattle.device.proofs.device.Device.host.Goals as goal

pub returns-in-Some-clause-heard : goal.returns-in-Some-clause-heard
returns-in-Some-clause-heard c =
    λ s h.
    (let sent : List ℕ = slice_range c.args.bytes.now 32 (32 + c.in-Some.said.count) in
    data_heard_as c.args.self.now c.data_out.new.self s c.in-Some.said.lun c.in-Some.said.tag c.in-Some.said.offset
    (record { items = sent }) sent c.args.bytes.now c.data_out.result h c.in-Some.ensures.read.1
    c.in-Some.ensures.read.0 refl c.data_out.ensures.heard)

pub returns-in-Some-read_command-clause-heard : goal.returns-in-Some-read_command-clause-heard
returns-in-Some-read_command-clause-heard c =
    λ s h.
    c.command.ensures.heard s c.args.bytes.now h c.in-Some-read_command.ensures.read.1
    c.in-Some-read_command.ensures.read.0
