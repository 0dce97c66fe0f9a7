use Rattle.device.proofs.Common.{Err, HostFault, Message, Ok, Result, Spells, ap, refl, subst, sym, ◌∙◌}
use Rattle.device.proofs.device.Device.hear_other.Goals as goal

fault_or : HostFault → Result Message HostFault → HostFault
fault_or other (Ok m) = other
fault_or other (Err f) = f

pub hear-requires-clause-no_data_out : goal.hear-requires-clause-no_data_out
hear-requires-clause-no_data_out c =
    λ lun tag offset sent is.
    c.requires.no_data_out lun tag offset sent
    (subst (λ (m : Message). Spells m c.args.bytes.now) is c.in-Ok.ensures.read.1)

pub hear-requires-clause-no_command : goal.hear-requires-clause-no_command
hear-requires-clause-no_command c =
    λ flags lun tag expected cdb is.
    c.requires.no_command flags lun tag expected cdb
    (subst (λ (m : Message). Spells m c.args.bytes.now) is c.in-Ok.ensures.read.1)

pub returns-in-Ok : goal.returns-in-Ok
returns-in-Ok c = record {
  refused = c.hear.ensures.refused;
  heard = λ s h. c.hear.ensures.heard s c.args.bytes.now h c.in-Ok.ensures.read.1 c.in-Ok.ensures.read.0;
}

pub told-requires-clause-first : goal.told-requires-clause-first
unfolding fault_or
told-requires-clause-first c =
    λ f is. ap (fault_or c.in-Err.fault) (sym c.in-Err.is ∙ c.read_host.ensures.first f is)

pub told-requires-clause-reserved : goal.told-requires-clause-reserved
told-requires-clause-reserved c = λ none. c.in-Err.ensures.reserved none

pub returns-in-Err : goal.returns-in-Err
returns-in-Err c = record { refused = refl; heard = c.told.ensures }
