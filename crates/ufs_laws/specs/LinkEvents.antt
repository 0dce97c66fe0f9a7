-- What the laws of LINK EVENT speak of.
use Rattle.std.specs.Prelude.{None, Option, ℕ}
use Rattle.ufs_laws.specs.Runs.{heard}
use Rattle.ufs_spec.specs.Machine.{Call, Host, Spelled, observe}
use Rattle.ufs_spec.specs.Refusals.{State}
use Rattle.ufs_spec.specs.declared.messages.Message.TheVariants as message
use Rattle.ufs_spec.specs.declared.scsi.Cdb.{Cdb}

-- a LINK EVENT of this kind comes
abbrev pub heard_event : (kind : ℕ) → Option Cdb → Call
heard_event kind c = Host (Spelled (message.LinkEvent kind) c)

-- the state behind one that is taken
abbrev pub after_event : State → (kind : ℕ) → State
after_event s kind = observe s (heard_event kind None) heard
