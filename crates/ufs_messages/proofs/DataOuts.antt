-- A DATA OUT that was written.
use Rattle.std.proofs.Common.{ℕ, List, inl}
use Rattle.std.specs.Prelude.{Result}
use Rattle.ufs_spec.specs.declared.messages.Message.{Message}
use Rattle.ufs_handle.specs.declared.fault.Fault.{Fault}
use Rattle.ufs_messages.specs.Written.{IsDataOut, IsDataOutWith, IsWritten, SaysData}

pub written : (lun tag offset : ℕ) (sent : List ℕ) (message : Message) → SaysData sent →
    IsDataOutWith lun tag offset sent message → (answer : Result (Unit {0}) Fault) (room into : List ℕ) →
    IsWritten message answer room into → IsDataOut lun tag offset sent answer room into
written lun tag offset sent message says with_them answer room into is = inl (says, (message, with_them, is))
