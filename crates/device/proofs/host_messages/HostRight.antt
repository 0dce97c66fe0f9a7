-- What a host's bytes are answered.
use Rattle.device.proofs.Common.{ArrayVec, Describes, DeviceCore, Err, HostFault, IsHeardAs}
use Rattle.device.proofs.Common.{List, Message, None, OnErr, OnOk, Result, Some, Spells, State, ap, at_once}
use Rattle.device.proofs.Common.{cdb_of, false, host_fault_of, message_fault, numbers_of, refl, short_answer, subst, sym}
use Rattle.device.proofs.Common.{with_short, ℕ, ◌≡◌}
use Rattle.ufs_spec.specs.Machine as machine
use Rattle.ufs_spec.specs.declared.faults.HostFault.TheVariants.{Code}
use Rattle.ufs_spec.specs.declared.messages.Asked.{Asked}
use Rattle.ufs_spec.specs.declared.messages.Message.TheVariants as message
use Rattle.task_set.specs.declared.tasks.ShortReply.TheVariants as reply
use Rattle.device.proofs.described.Answered.{stays}
use Rattle.device.proofs.host_messages.ShortsOpened.{short_heard, spelled_heard}

-- a NOP OUT opens a short exchange
pub nop_right : (d e : DeviceCore) (s : State) (bytes : List ℕ) (answer : Result Unit HostFault) → Describes d s →
    host_fault_of bytes ≡ None → OnErr answer (e ≡ d) → (tag : ℕ) → Spells (message.NopOut tag) bytes →
    answer ≡ short_answer d (numbers_of s) false tag → OnOk answer (e ≡ with_short d (at_once tag reply.NopIn)) →
    IsHeardAs s bytes answer e
nop_right d e s bytes answer h none refused tag spells told taken =
    short_heard d e s bytes (message.NopOut tag) None tag reply.NopIn answer h spells none refl refl refl told refused
    taken

-- a kind of message that a device sends has a wrong transaction code
abbrev IsOfDevice : State → Message → Type 0
IsOfDevice s m = (message_fault s m ≡ Some Code) × (cdb_of m ≡ None)

pub device_kind : (d : DeviceCore) (s : State) (bytes : List ℕ) (m : Message) → Describes d s →
    ((flags lun tag expected : ℕ) (cdb : List ℕ) → m ≡ message.Command flags lun tag expected cdb → ⊥) →
    ((lun tag offset : ℕ) («data» : ArrayVec ℕ) → m ≡ message.DataOut lun tag offset «data» → ⊥) →
    ((tag : ℕ) → m ≡ message.NopOut tag → ⊥) →
    ((lun tag function meant : ℕ) → m ≡ message.TaskRequest lun tag function meant → ⊥) →
    ((tag function : ℕ) (asked : Asked) (size value : ℕ) («data» : ArrayVec ℕ) →
    m ≡ message.QueryRequest tag function asked size value «data» → ⊥) →
    ((kind : ℕ) → m ≡ message.LinkEvent kind → ⊥) →
    Spells m bytes → host_fault_of bytes ≡ None → IsHeardAs s bytes (Err Code) d
device_kind d s bytes m h command data_out nop managing query event spells none =
    let is = by m command data_out nop managing query event in
    spelled_heard d d s s bytes m None (Err Code) h spells none (cdb_none m is.1) (ap machine.result_of (sym is.0)) refl
    (stays d s h)
  where
    cdb_none : (m : Message) → cdb_of m ≡ None → machine.IsCdbIn (cdb_of m) None
    cdb_none m is = subst (λ x. machine.IsCdbIn x None) (sym is) refl

    by : (m : Message) →
        ((flags lun tag expected : ℕ) (cdb : List ℕ) → m ≡ message.Command flags lun tag expected cdb → ⊥) →
        ((lun tag offset : ℕ) («data» : ArrayVec ℕ) → m ≡ message.DataOut lun tag offset «data» → ⊥) →
        ((tag : ℕ) → m ≡ message.NopOut tag → ⊥) →
        ((lun tag function meant : ℕ) → m ≡ message.TaskRequest lun tag function meant → ⊥) →
        ((tag function : ℕ) (asked : Asked) (size value : ℕ) («data» : ArrayVec ℕ) →
        m ≡ message.QueryRequest tag function asked size value «data» → ⊥) →
        ((kind : ℕ) → m ≡ message.LinkEvent kind → ⊥) → IsOfDevice s m
    by (message.Command flags lun tag expected cdb) command data_out nop managing query event =
        absurd (command flags lun tag expected cdb refl)
    by (message.DataOut lun tag offset «data») command data_out nop managing query event =
        absurd (data_out lun tag offset «data» refl)
    by (message.NopOut tag) command data_out nop managing query event = absurd (nop tag refl)
    by (message.TaskRequest lun tag function meant) command data_out nop managing query event =
        absurd (managing lun tag function meant refl)
    by (message.QueryRequest tag function asked size value «data») command data_out nop managing query event =
        absurd (query tag function asked size value «data» refl)
    by (message.LinkEvent kind) command data_out nop managing query event = absurd (event kind refl)
    by (message.NopIn tag) command data_out nop managing query event = (refl, refl)
    by (message.Response flags lun tag response status residual sense) command data_out nop managing query event =
        (refl, refl)
    by (message.DataIn lun tag offset «data») command data_out nop managing query event = (refl, refl)
    by (message.TaskResponse lun tag service) command data_out nop managing query event = (refl, refl)
    by (message.ReadyToTransfer lun tag offset count) command data_out nop managing query event = (refl, refl)
    by (message.QueryResponse tag function response asked size value «data») command data_out nop managing query event =
        (refl, refl)
