-- A LINK EVENT is answered as the definitions say, and ends all that is open.
use Rattle.device.proofs.Common.{All-nil, Bool, Describes, DeviceCore, Err, HostFault, IsBehind, IsHeardAs}
use Rattle.device.proofs.Common.{List, Machine, Message, None, Ok, OnErr, OnOk, RegionState, Result, Spells, State}
use Rattle.device.proofs.Common.{[], ap, heard, host_fault_of, machine_at, map, message_fault}
use Rattle.device.proofs.Common.{Numbers, Some, false, if◌then◌else◌, numbers_of, plain_now, refl, result_of, subst}
use Rattle.device.proofs.Common.{suc, sym, true, zero, ℕ, ◌==◌, ◌∙◌, ◌∷◌, ◌≡◌}
use Rattle.ufs_spec.specs.declared.faults.HostFault.TheVariants.{Code}
use Rattle.std.proofs.lemmas.List.{length-map}
use Rattle.ufs_spec.specs.Exchanges as exchange
use Rattle.ufs_spec.specs.Machine.{event_fault, link_reset, volatile_reset, without_tasks}
use Rattle.ufs_spec.specs.Plain.{region_of}
use Rattle.ufs_spec.specs.declared.messages.Message.TheVariants as message
use Rattle.ufs_laws.proofs.walk.SmallChanges.{reset_is}
use Rattle.rpmb.specs.Kept.{IsKept, forgotten}
use Rattle.device.specs.LinkEvents.{reset_core}
use Rattle.device.proofs.described.Answered.{stays}
use Rattle.device.proofs.host_messages.ShortsOpened.{spelled_heard}

-- each machine has empty registers, and keeps its region
at_forgotten : (ms : List Machine) (number : ℕ) → machine_at (map forgotten ms) number ≡ forgotten (machine_at ms number)
at_forgotten [] number = refl
at_forgotten (m ∷ ms) zero = refl
at_forgotten (m ∷ ms) (suc number) = at_forgotten ms number

-- what is kept once all tasks are aborted, and the rest is forgotten
pub reset_behind : (d : DeviceCore) (s : State) (kind : ℕ) → IsBehind d (without_tasks s (λ (task : exchange.Task). true)) →
    IsBehind (reset_core d kind) (link_reset s kind)
reset_behind d s kind h =
    subst (IsBehind (reset_core d kind)) (reset_is s kind) (record {
      keeps = record {
        boot = h.keeps.boot;
        permanent = h.keeps.permanent;
        each = length-map d.rpmb forgotten ∙ h.keeps.each;
        region =
            λ number.
            subst (λ (r : RegionState). IsKept r (region_of (plain_now s) number))
            (sym (ap (λ (m : Machine). m.region) (at_forgotten d.rpmb number))) (h.keeps.region number);
        registers = λ number. sym (ap (λ (m : Machine). m.registers) (at_forgotten d.rpmb number));
        layer_kept = h.keeps.layer_kept;
        few = h.keeps.few;
        tasks = h.keeps.tasks;
        one_sends = h.keeps.one_sends;
        wanted = h.keeps.wanted;
        claims = h.keeps.claims;
        shorts = tt;
        volatile = ap (volatile_reset kind) h.keeps.volatile;
      };
      answered = h.answered;
      told = h.told;
      shorts_told = λ lock. All-nil _;
    })

-- by the profile it is told that there is no such message, or nothing
pub code_told : (n : Numbers) (b : Bool) → b ≡ (n.profile == 0) → b ≡ true → Err Code ≡ result_of (event_fault n)
code_told n b is e = sym (ap (λ (x : Bool). result_of (if x then Some Code else None)) (sym is ∙ e))

pub none_told : (n : Numbers) (b : Bool) → b ≡ (n.profile == 0) → b ≡ false → Ok tt ≡ result_of (event_fault n)
none_told n b is e = sym (ap (λ (x : Bool). result_of (if x then Some Code else None)) (sym is ∙ e))

-- it is taken, or told that there is no such message
pub event_right : (d e : DeviceCore) (s : State) (bytes : List ℕ) (kind : ℕ) (answer : Result Unit HostFault) →
    Describes d s → Spells (message.LinkEvent kind) bytes → host_fault_of bytes ≡ None →
    answer ≡ result_of (event_fault (numbers_of s)) → OnErr answer (e ≡ d) →
    OnOk answer (IsBehind e (link_reset s kind)) → IsHeardAs s bytes answer e
event_right d e s bytes kind answer h spells none is refused taken = by answer is refused taken
  where
    said : Message
    said = message.LinkEvent kind

    by : (x : Result Unit HostFault) → x ≡ result_of (message_fault s said) → OnErr x (e ≡ d) →
        OnOk x (IsBehind e (link_reset s kind)) → IsHeardAs s bytes x e
    by (Ok done) right stayed behind =
        spelled_heard d e s (heard s said None) bytes said None (Ok done) h spells none refl right refl behind
    by (Err fault) right stayed behind =
        spelled_heard d e s s bytes said None (Err fault) h spells none refl right refl
        (subst (λ (x : DeviceCore). IsBehind x s) (sym stayed) (stays d s h))
