use Rattle.std.proofs.Common.{List, sym, subst}
use Rattle.std.proofs.lemmas.List.{map-id}
use Rattle.ufs_spec.specs.Cells.{Shows}
use Rattle.ufs_spec.specs.Dies.{DieState}
use Rattle.ufs_spec.specs.Lives.{Fit, array_of}
use Rattle.ufs_handle.specs.Calls.{IsUnopened, OpensOver}
use Rattle.ufs_handle.specs.declared.fault.Fault.{Fault}
use Rattle.ufs_handle.proofs.Unopened.{unopened}
use Rattle.ufs_handle.proofs.held.open_device.Goals as goal

pub open-requires : goal.open-requires
open-requires c = record { fit = subst (Fit c.args.config) (sym (map-id c.args.dies.now)) c.requires.fit }

pub returns-in-Ok-clause-opened : goal.returns-in-Ok-clause-opened
returns-in-Ok-clause-opened c =
    subst (λ (ds : List DieState). OpensOver c.args.config ds c.in-Ok.device) (map-id c.args.dies.now)
    (record {
      described = c.in-Ok.ensures.described;
      found = c.in-Ok.ensures.found;
      suits = c.in-Ok.ensures.suits;
      fit = subst (Fit c.args.config) (sym (map-id c.args.dies.now)) c.requires.fit;
    })

pub returns-in-Err-clause-refused : goal.returns-in-Err-clause-refused
returns-in-Err-clause-refused c =
    subst (λ (f : Fault). IsUnopened c.args.config c.args.dies.now f) (sym c.fault_of.ensures)
    (unopened c.args.config c.args.dies.now c.open.new.dies c.in-Err.fault c.requires.fit
    (λ cells shows.
    c.in-Err.ensures.fault cells
    (subst (λ (ds : List DieState). Shows (array_of ds) cells) (sym (map-id c.args.dies.now)) shows)))
