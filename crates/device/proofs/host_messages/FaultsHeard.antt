-- Bytes that are not read are heard as their fault, and answered with it.
use Rattle.device.proofs.Common.{Bool, Describes, DeviceCore, Err, Faulty, Host, HostFault, IsHeard, IsHeardAs, List}
use Rattle.device.proofs.Common.{Message, None, OfHost, Option, Some, Spells, State, ap, false, host_fault_of}
use Rattle.device.proofs.Common.{if◌then◌else◌, inl, inr, numbers_of, refl, sym, true, ℕ, ◌==◌, ◌∙◌, ◌≡◌}
use Rattle.std.proofs.Math.Decide.{ℕ_discrete}
use Rattle.ufs_spec.specs.Codes.{link_event_code}
use Rattle.ufs_spec.specs.Machine.{NoEvent, SpellNone, no_event_fault}
use Rattle.ufs_spec.specs.Messages.{code_of}
use Rattle.ufs_spec.specs.declared.faults.HostFault.TheVariants.{Code, Reserved}
use Rattle.device.proofs.described.Answered.{answered, stays}

module _ (d : DeviceCore) (s : State) (bytes : List ℕ) (h : Describes d s) where
  -- what is no message is told its fault, and changes nothing
  pub faults_right : (fault : HostFault) → IsHeard bytes (Faulty fault) → IsHeardAs s bytes (Err fault) d
  faults_right fault heard = record {
    heard = Faulty fault;
    is_heard = heard;
    answered = answered d d s (Host (Faulty fault)) (OfHost (Err fault)) h (bytes, heard) refl (stays d s h);
  }

  -- what has the transaction code of LINK EVENT and is none is told the fault of the profile
  event_right : (fault : HostFault) → SpellNone bytes → code_of bytes ≡ link_event_code →
      fault ≡ no_event_fault (numbers_of s) → IsHeardAs s bytes (Err fault) d
  event_right fault none is told = record {
    heard = NoEvent;
    is_heard = (none, is);
    answered =
        answered d d s (Host NoEvent) (OfHost (Err fault)) h (bytes, (none, is)) (ap Err told) (stays d s h);
  }

  -- in profile 0 that is the fault of a code that no message has
  pub code_right : (fault : HostFault) → ((numbers_of s).profile == 0) ≡ true → host_fault_of bytes ≡ None →
      code_of bytes ≡ link_event_code →
      (host_fault_of bytes ≡ None → (fault ≡ Reserved) × ((m : Message) → Spells m bytes → ⊥)) →
      IsHeardAs s bytes (Err Code) d
  code_right fault zero none is reserved =
      event_right Code (none, (reserved none).1) is
      (sym (ap (λ (b : Bool). if b then Code else Reserved) zero))

  by_fault : (fault : HostFault) (o : Option HostFault) → host_fault_of bytes ≡ o →
      ((f : HostFault) → host_fault_of bytes ≡ Some f → fault ≡ f) →
      (host_fault_of bytes ≡ None → (fault ≡ Reserved) × ((m : Message) → Spells m bytes → ⊥)) →
      (host_fault_of bytes ≡ None → code_of bytes ≡ link_event_code → ((numbers_of s).profile == 0) ≡ false) →
      IsHeardAs s bytes (Err fault) d
  by_fault fault (Some f) is first reserved other = faults_right fault (inl (is ∙ ap Some (sym (first f is))))
  by_fault fault None is first reserved other = by_code (ℕ_discrete (code_of bytes) link_event_code)
    where
      by_code : Dec (code_of bytes ≡ link_event_code) → IsHeardAs s bytes (Err fault) d
      by_code (yes e) =
          event_right fault (is, (reserved is).1) e
          ((reserved is).0 ∙ sym (ap (λ (b : Bool). if b then Code else Reserved) (other is e)))
      by_code (no n) = faults_right fault (inr ((is, (reserved is).1), n, (reserved is).0))

  -- any other fault is told as it was read
  pub read_right : (fault : HostFault) → ((f : HostFault) → host_fault_of bytes ≡ Some f → fault ≡ f) →
      (host_fault_of bytes ≡ None → (fault ≡ Reserved) × ((m : Message) → Spells m bytes → ⊥)) →
      (host_fault_of bytes ≡ None → code_of bytes ≡ link_event_code → ((numbers_of s).profile == 0) ≡ false) →
      IsHeardAs s bytes (Err fault) d
  read_right fault = by_fault fault (host_fault_of bytes) refl
