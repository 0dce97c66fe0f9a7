-- A message that opens a short exchange is answered as the definitions say.
use Rattle.device.proofs.Common.{Cdb, Describes, DeviceCore, Err, Host, HostFault, IsHeardAs, IsShortTold, List}
use Rattle.device.proofs.Common.{Message, None, OfHost, Ok, OnErr, OnOk, Option, Result, Short, ShortKept, ShortReply}
use Rattle.device.proofs.Common.{Spelled, Spells, State, ap, at_once, before_accepted, cdb_of, durable, heard}
use Rattle.device.proofs.Common.{host_fault_of, message_fault, numbers_of, opening_fault, refl, result_of, short_answer}
use Rattle.device.proofs.Common.{short_reply, short_said, subst, sym, true, with_short, ℕ, ◌∙◌, ◌≡◌}
use Rattle.ufs_spec.specs.Exchanges.{number_of}
use Rattle.ufs_spec.specs.Machine as machine
use Rattle.task_set.specs.Shorts.{manages}
use Rattle.ufs_spec.specs.Machine.{IsCdbIn}
use Rattle.task_set.specs.declared.tasks.Short as kept
use Rattle.device.proofs.described.Answered.{IsBehind, answered_as, stays}
use Rattle.device.proofs.described.ShortExchanges.{kept_at_once, one_more_told, one_short_more}
use Rattle.device.proofs.host_messages.CommandTags.{short_fault}

-- what is kept with one short exchange more is kept of the state with one more, where it waits for nothing that a lock
-- ends
pub short_behind : (d : DeviceCore) (s : State) (r : kept.Short) (b : Short) → IsBehind d s →
    ShortKept (numbers_of s) (before_accepted s.translation.ledger) r b → IsShortTold (durable s) b →
    IsBehind (with_short d r) (machine.with_short s b)
short_behind d s r b h kept told = record {
  keeps = record {
    boot = h.keeps.boot;
    permanent = h.keeps.permanent;
    each = h.keeps.each;
    region = h.keeps.region;
    registers = h.keeps.registers;
    layer_kept = h.keeps.layer_kept;
    few = h.keeps.few;
    tasks = h.keeps.tasks;
    one_sends = h.keeps.one_sends;
    wanted = h.keeps.wanted;
    claims = h.keeps.claims;
    shorts = one_short_more (numbers_of s) (before_accepted s.translation.ledger) d.shorts s.shorts r b h.keeps.shorts
        kept;
    volatile = h.keeps.volatile;
  };
  answered = h.answered;
  told = h.told;
  shorts_told = λ lock. one_more_told (durable s) s.shorts b told (h.shorts_told lock);
}

-- so it is of one whose reply is due at once
pub once_more : (d : DeviceCore) (s : State) (tag : ℕ) (said : ShortReply) → Describes d s →
    IsBehind (with_short d (at_once tag said))
    (machine.with_short s (short_reply (number_of (manages said) tag) (short_said (numbers_of s) tag said)))
once_more d s tag said h =
    short_behind d s (at_once tag said) (short_reply (number_of (manages said) tag) (short_said (numbers_of s) tag said))
    (stays d s h)
    (kept_at_once (numbers_of s) (before_accepted s.translation.ledger) tag said) tt

-- a message is heard with this answer, whatever the device keeps then
pub spelled_heard : (d e : DeviceCore) (s v : State) (bytes : List ℕ) (m : Message) (c : Option Cdb)
    (answer : Result Unit HostFault) → Describes d s → Spells m bytes → host_fault_of bytes ≡ None →
    IsCdbIn (cdb_of m) c → answer ≡ result_of (message_fault s m) →
    machine.behind s (Host (Spelled m c)) (OfHost answer) ≡ v → IsBehind e v → IsHeardAs s bytes answer e
spelled_heard d e s v bytes m c answer h spells none cdb right is behind = record {
  heard = Spelled m c;
  is_heard = (spells, none, cdb);
  answered = answered_as d e s v (Host (Spelled m c)) (OfHost answer) h (bytes, (spells, none, cdb)) right is behind;
}

-- the message opens a short exchange whose reply is due at once, if its tag is free and there is room
pub short_heard : (d e : DeviceCore) (s : State) (bytes : List ℕ) (m : Message) (c : Option Cdb) (tag : ℕ)
    (said : ShortReply) (answer : Result Unit HostFault) → Describes d s → Spells m bytes →
    host_fault_of bytes ≡ None → IsCdbIn (cdb_of m) c → message_fault s m ≡ opening_fault s (manages said) tag true →
    heard s m c
    ≡ machine.with_short s (short_reply (number_of (manages said) tag) (short_said (numbers_of s) tag said)) →
    answer ≡ short_answer d (numbers_of s) (manages said) tag → OnErr answer (e ≡ d) → OnOk answer (e ≡ with_short d (at_once tag said)) →
    IsHeardAs s bytes answer e
short_heard d e s bytes m c tag said answer h spells none cdb fault opens told refused taken =
    by answer (told ∙ sym (ap result_of fault ∙ short_fault d s (manages said) tag h)) refused taken
  where
    opened : State
    opened = machine.with_short s (short_reply (number_of (manages said) tag) (short_said (numbers_of s) tag said))

    by : (x : Result Unit HostFault) → x ≡ result_of (message_fault s m) → OnErr x (e ≡ d) →
        OnOk x (e ≡ with_short d (at_once tag said)) → IsHeardAs s bytes x e
    by (Ok done) right stayed more =
        spelled_heard d e s opened bytes m c (Ok done) h spells none cdb right opens
        (subst (λ (x : DeviceCore). IsBehind x opened) (sym more) (once_more d s tag said h))
    by (Err f) right stayed more =
        spelled_heard d e s s bytes m c (Err f) h spells none cdb right refl
        (subst (λ (x : DeviceCore). IsBehind x s) (sym stayed) (stays d s h))
