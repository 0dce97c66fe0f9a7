-- Bytes are heard as one fault, or as a message, and not as both.
use Rattle.ufs_laws.proofs.Common.{Cdb, Faulty, HostFault, IsHeard, List, Message, None, Option, Some, Spelled, inl}
use Rattle.ufs_laws.proofs.Common.{inr, sym, ℕ, ◌∙◌, ◌≡◌}
use Rattle.ufs_spec.specs.Machine.{NoEvent}

pub one_fault : (bytes : List ℕ) (f g : HostFault) → IsHeard bytes (Faulty f) → IsHeard bytes (Faulty g) → f ≡ g
one_fault bytes f g (inl h) (inl k) = let same : Some f ≡ Some g = sym h ∙ k in cc
one_fault bytes f g (inl h) (inr k) = let other : Some f ≡ None = sym h ∙ k.0.0 in absurd (cc)
one_fault bytes f g (inr h) (inl k) = let other : Some g ≡ None = sym k ∙ h.0.0 in absurd (cc)
one_fault bytes f g (inr h) (inr k) = h.2 ∙ sym k.2

pub no_fault : (bytes : List ℕ) (m : Message) (c : Option Cdb) (f : HostFault) → IsHeard bytes (Spelled m c) →
    IsHeard bytes (Faulty f) → ⊥
no_fault bytes m c f h (inl k) = let other : Some f ≡ None = sym k ∙ h.1 in cc
no_fault bytes m c f h (inr k) = k.0.1 m h.0

-- nor as bytes that have the code of LINK EVENT and spell none
pub no_event : (bytes : List ℕ) (f : HostFault) → IsHeard bytes NoEvent → IsHeard bytes (Faulty f) → ⊥
no_event bytes f h (inl k) = let other : Some f ≡ None = sym k ∙ h.0.0 in cc
no_event bytes f h (inr k) = k.1 h.1
