-- Every list of bytes is heard, as one message with its command or none, or as one fault.
use Rattle.ufs_laws.proofs.Common.{Bool, Cdb, Faulty, Heard, HostFault, IsHeard, List, Message, None, Option, Some}
use Rattle.ufs_laws.proofs.Common.{Spelled, [], ap, code_of, dec_le, dec_lt, false, false≢true, inl, inr, length, refl}
use Rattle.ufs_laws.proofs.Common.{spelling, subst, sym, true, ℕ, ℕ_discrete, ◌^◌, ◌∙◌, ◌≡◌}
use Rattle.ufs_laws.proofs.deciding.Connectives.{are_bytes, dec_and, dec_four, dec_implies, dec_seven, dec_six}
use Rattle.ufs_laws.proofs.deciding.Connectives.{dec_or, dec_three, same_bytes}
use Rattle.ufs_laws.proofs.exchanges.HeardOnce.{no_event, no_fault, one_fault}
use Rattle.ufs_spec.proofs.ReadBack.{again, message_of, one_message}
use Rattle.ufs_spec.specs.CdbFields.{spelled_cdb}
use Rattle.ufs_spec.specs.Codes.{link_event_code}
use Rattle.ufs_spec.specs.Machine.{IsCdbIn, NoEvent, SpellNone, cdb_of}
use Rattle.ufs_spec.specs.Messages.{IsByte, IsMessage, IsQuery, IsSense, IsTransferred, Spells, host_fault_of}
use Rattle.ufs_spec.specs.declared.faults.HostFault.TheVariants.{Reserved}
use Rattle.ufs_spec.specs.declared.messages.Asked.{Asked}
use Rattle.ufs_spec.specs.declared.messages.Message.TheVariants as message

-- ## What can be decided

not_dec : {P : Type 0} → Dec P → Dec (P → ⊥)
not_dec (yes p) = no (λ n. n p)
not_dec (no n) = yes n

is_true : (b : Bool) → Dec (b ≡ true)
is_true true = yes refl
is_true false = no false≢true

byte : (n : ℕ) → Dec (IsByte n)
byte n = dec_lt n (2 ^ 8)

transferred : (bytes : List ℕ) → Dec (IsTransferred bytes)
transferred bytes = dec_three (dec_le 1 (length bytes)) (dec_le (length bytes) 4096) (are_bytes bytes)

query : (asked : Asked) (size value : ℕ) → Dec (IsQuery asked size value)
query asked size value =
    dec_six (byte asked.opcode) (byte asked.idn) (byte asked.index) (byte asked.selector) (dec_lt size (2 ^ 16))
    (dec_lt value (2 ^ 32))

sense : (status : ℕ) (sense : Option (List ℕ)) → Dec (IsSense status sense)
sense status None = not_dec (ℕ_discrete status 0x02)
sense status (Some bytes) = dec_three (ℕ_discrete status 0x02) (ℕ_discrete (length bytes) 20) (are_bytes bytes)

-- whether its fields are in their sets and fit their widths
is_message : (m : Message) → Dec (IsMessage m)
is_message (message.NopOut tag) = byte tag
is_message (message.Command flags lun tag expected bytes) =
    dec_six (dec_and (byte flags) (is_true _)) (byte lun) (byte tag) (dec_lt expected (2 ^ 32))
    (ℕ_discrete (length bytes) 16) (are_bytes bytes)
is_message (message.DataOut lun tag offset «data») =
    dec_four (byte lun) (byte tag) (dec_lt offset (2 ^ 32)) (transferred «data».items)
is_message (message.TaskRequest lun tag function meant) = dec_four (byte lun) (byte tag) (byte function) (byte meant)
is_message (message.QueryRequest tag function asked size value «data») =
    dec_six (byte tag) (is_true _) (query asked size value) (dec_le (length «data».items) 4096) (are_bytes «data».items)
    (dec_implies (not_dec (ℕ_discrete asked.opcode 0x02)) (same_bytes «data».items []))
is_message (message.LinkEvent kind) = is_true _
is_message (message.NopIn tag) = byte tag
is_message (message.Response flags lun tag response status residual s) =
    dec_seven (is_true _) (byte lun) (byte tag) (is_true _) (is_true _) (dec_lt residual (2 ^ 32)) (sense status s)
is_message (message.DataIn lun tag offset «data») =
    dec_four (byte lun) (byte tag) (dec_lt offset (2 ^ 32)) (transferred «data».items)
is_message (message.TaskResponse lun tag service) = dec_three (byte lun) (byte tag) (byte service)
is_message (message.ReadyToTransfer lun tag offset count) =
    dec_four (byte lun) (byte tag) (dec_lt offset (2 ^ 32)) (dec_lt count (2 ^ 32))
is_message (message.QueryResponse tag function response asked size value «data») =
    dec_seven (byte tag) (is_true _) (byte response) (query asked size value) (dec_le (length «data».items) 4096)
    (are_bytes «data».items)
    (dec_or (dec_and (ℕ_discrete asked.opcode 0x01) (ℕ_discrete response 0x00)) (same_bytes «data».items []))

-- ## What bytes spell

spells : (m : Message) (bytes : List ℕ) → Dec (Spells m bytes)
spells m bytes = dec_and (is_message m) (same_bytes bytes (spelling m))

-- what bytes spell is what their fields name
spelled_named : (m : Message) (bytes : List ℕ) → Spells m bytes → message_of (code_of bytes) bytes ≡ m
spelled_named m bytes h = ap (λ (b : List ℕ). message_of (code_of b) b) h.1 ∙ again m h.0

cdb_in : (o : Option (List ℕ)) → (c : Option Cdb) × IsCdbIn o c
cdb_in None = (None, refl)
cdb_in (Some bytes) = (spelled_cdb bytes, refl)

-- ## What bytes are heard as

pub is_heard : (bytes : List ℕ) → (h : Heard) × IsHeard bytes h
is_heard bytes = by (host_fault_of bytes) refl
  where
    named : Message
    named = message_of (code_of bytes) bytes

    unspelled : SpellNone bytes → Dec (code_of bytes ≡ link_event_code) → (h : Heard) × IsHeard bytes h
    unspelled none (yes is) = (NoEvent, (none, is))
    unspelled none (no other) = (Faulty Reserved, inr (none, other, refl))

    checked : host_fault_of bytes ≡ None → Dec (Spells named bytes) → (h : Heard) × IsHeard bytes h
    checked e (yes h) = let c = cdb_in (cdb_of named) in (Spelled named c.0, (h, e, c.1))
    checked e (no n) = unspelled
        (e, (λ m h. n (subst (λ (x : Message). Spells x bytes) (sym (spelled_named m bytes h)) h)))
        (ℕ_discrete (code_of bytes) link_event_code)

    by : (o : Option HostFault) → host_fault_of bytes ≡ o → (h : Heard) × IsHeard bytes h
    by None e = checked e (spells named bytes)
    by (Some fault) e = (Faulty fault, inl e)

-- ## Once

one_taken : (o : Option (List ℕ)) (c d : Option Cdb) → IsCdbIn o c → IsCdbIn o d → c ≡ d
one_taken None c d h k = h ∙ sym k
one_taken (Some bytes) c d h k = h ∙ sym k

pub one_spelled : (bytes : List ℕ) (m n : Message) (c d : Option Cdb) → IsHeard bytes (Spelled m c) →
    IsHeard bytes (Spelled n d) → (m ≡ n) × (c ≡ d)
one_spelled bytes m n c d h k =
    let same : m ≡ n = one_message m n h.0.0 k.0.0 (sym h.0.1 ∙ k.0.1) in
    (same, one_taken (cdb_of n) c d (subst (λ (x : Message). IsCdbIn (cdb_of x) c) same h.2) k.2)

pub one_heard : (bytes : List ℕ) (h k : Heard) → IsHeard bytes h → IsHeard bytes k → h ≡ k
one_heard bytes (Spelled m c) (Spelled n d) h k =
    let same = one_spelled bytes m n c d h k in λ i. Spelled (same.0 i) (same.1 i)
one_heard bytes (Spelled m c) (Faulty f) h k = absurd (no_fault bytes m c f h k)
one_heard bytes (Faulty f) (Spelled m c) h k = absurd (no_fault bytes m c f k h)
one_heard bytes (Faulty f) (Faulty g) h k = ap Faulty (one_fault bytes f g h k)
one_heard bytes (Spelled m c) NoEvent h k = absurd (k.0.1 m h.0)
one_heard bytes NoEvent (Spelled m c) h k = absurd (h.0.1 m k.0)
one_heard bytes (Faulty f) NoEvent h k = absurd (no_event bytes f k h)
one_heard bytes NoEvent (Faulty f) h k = absurd (no_event bytes f h k)
one_heard bytes NoEvent NoEvent h k = refl
