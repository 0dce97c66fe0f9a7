-- The DATA OUT or the COMMAND that the bytes of a host spell is the one that their fields name.
use Rattle.std.proofs.Common.{◌≡◌, ◌∙◌, ℕ, true, List, ◌++◌, bit_and, drop, length, None, sym, ap, refl, subst}
use Rattle.std.proofs.Common.{append_assoc}
use Rattle.arrayvec.specs.ArrayVec.{ArrayVec}
use Rattle.ufs_spec.specs.Messages.{AreBytes, AreFlags, Spells, code_of, header, header_of, host_codes}
use Rattle.ufs_spec.specs.Messages.{host_fault_of, is_among, padding, segment_of, spelling, transfer, zeros}
use Rattle.ufs_spec.specs.declared.messages.Message.{Message}
use Rattle.ufs_spec.specs.declared.messages.Message.TheVariants as message
use Rattle.upiu.proofs.FromFields.{front_and_rest, segment_long, spelled_from}
use Rattle.upiu.proofs.HostFault.{host_none, host_read}
use Rattle.ufs_spec.proofs.SpellingParts.{header_size}
use Rattle.upiu.proofs.Spelled.{clear, named, passes}
use Rattle.upiu.specs.HostMessages.{command_in, command_of, data_out_in, data_out_of}
use Rattle.upiu.specs.Reading.{HasSets, IsAround, Passes, named_by, named_message}
use Rattle.upiu.specs.declared.host_messages.Command.{Command}
use Rattle.upiu.specs.declared.host_messages.DataOut.{DataOut}

-- bytes without a fault, of the kind with this transaction code
abbrev pub IsOfKind : ℕ → List ℕ → Type 0
IsOfKind kind bytes = (host_fault_of bytes ≡ None) × (code_of bytes ≡ kind)

-- a host's bytes without a fault have no early one
pub host_passes : (bytes : List ℕ) → host_fault_of bytes ≡ None → Passes bytes
host_passes bytes none = passes bytes (host_read bytes none).0

-- the header of a DATA OUT of so many bytes
abbrev pub data_header : DataOut → List ℕ
data_header d = header 0x02 0 d.lun d.tag 0 0 0 d.count (transfer d.offset d.count)

-- the data are as many as they are said to be
header_said : (bytes : List ℕ) → AreBytes bytes → Passes bytes →
    data_header (data_out_in bytes) ≡ header_of (data_out_of (data_out_in bytes) bytes)
header_said bytes small p =
    let d : DataOut = data_out_in bytes in
    ap (λ (n : ℕ). header 0x02 0 d.lun d.tag 0 0 0 n (transfer d.offset n)) (sym (segment_long bytes small p))

-- ## What is read is spelled

pub data_out_read : (bytes : List ℕ) → AreBytes bytes → IsOfKind 0x02 bytes → (d : DataOut) → d ≡ data_out_in bytes
    → (front : List ℕ) → front ≡ data_header d → IsAround front bytes → Spells (data_out_of d bytes) bytes
data_out_read bytes small kind d is front front_is around =
    let p : Passes bytes = host_passes bytes kind.0 in
    let its : front ≡ header_of (data_out_of (data_out_in bytes) bytes) =
    front_is ∙ ap data_header is ∙ header_said bytes small p in
    let same : data_out_of (data_out_in bytes) bytes ≡ named_message bytes =
    sym (ap (λ (k : ℕ). named_by k bytes) kind.1) in
    subst (λ (x : DataOut). Spells (data_out_of x bytes) bytes) (sym is)
    (spelled_from bytes small p (data_out_of (data_out_in bytes) bytes) same tt (drop 32 bytes)
    (around.0 ∙ ap (λ (xs : List ℕ). xs ++ drop 32 bytes) its) around.1)

pub command_read : (bytes : List ℕ) → AreBytes bytes → IsOfKind 0x01 bytes → (c : Command) → c ≡ command_in bytes
    → AreFlags (bit_and c.flags 0xF8) → (front : List ℕ) → front ≡ header_of (command_of c) → IsAround front bytes →
    Spells (command_of c) bytes
command_read bytes small kind c is flags front front_is around =
    let same : command_of c ≡ named_message bytes =
    ap command_of is ∙ sym (ap (λ (k : ℕ). named_by k bytes) kind.1) in
    spelled_from bytes small (host_passes bytes kind.0) (command_of c) same flags (drop 32 bytes)
    (around.0 ∙ ap (λ (xs : List ℕ). xs ++ drop 32 bytes) front_is) around.1

-- ## What is spelled is read

-- what spells a message of a host has no fault, and is of its kind
kind_of : (bytes : List ℕ) (m : Message) (kind : ℕ) → Spells m bytes → code_of (spelling m) ≡ kind →
    is_among host_codes kind ≡ true → IsOfKind kind bytes
kind_of bytes m kind spells code among =
    let is : code_of bytes ≡ kind = ap code_of spells.1 ∙ code in
    (host_none bytes (clear bytes m spells) (ap (is_among host_codes) is ∙ among), is)

-- its header comes first, and zeros follow its data
pub around_of : (bytes : List ℕ) (m : Message) → Spells m bytes → IsAround (header_of m) bytes
around_of bytes m spells =
    let last : List ℕ = zeros (padding (length (segment_of m))) in (
      front_and_rest bytes (header_of m) (segment_of m ++ last) (header_size m spells.0)
          (spells.1 ∙ append_assoc (header_of m) (segment_of m) last),
      (named bytes m spells).rest,
    )

pub data_out_kind : (bytes : List ℕ) (lun tag offset : ℕ) (sent : ArrayVec ℕ) →
    Spells (message.DataOut lun tag offset sent) bytes → IsOfKind 0x02 bytes
data_out_kind bytes lun tag offset sent spells =
    kind_of bytes (message.DataOut lun tag offset sent) 0x02 spells refl refl

pub data_out_around : (bytes : List ℕ) → AreBytes bytes → (lun tag offset : ℕ) (sent : ArrayVec ℕ) →
    Spells (message.DataOut lun tag offset sent) bytes → (d : DataOut) → d ≡ data_out_in bytes →
    (front : List ℕ) → front ≡ data_header d → IsAround front bytes
data_out_around bytes small lun tag offset sent spells d is front front_is =
    let m : Message = message.DataOut lun tag offset sent in
    let kind : IsOfKind 0x02 bytes = data_out_kind bytes lun tag offset sent spells in
    let same : m ≡ data_out_of (data_out_in bytes) bytes =
    sym (named bytes m spells).same ∙ ap (λ (k : ℕ). named_by k bytes) kind.1 in
    let its : front ≡ header_of m =
    front_is ∙ ap data_header is ∙ header_said bytes small (host_passes bytes kind.0) ∙ sym (ap header_of same) in
    subst (λ (xs : List ℕ). IsAround xs bytes) (sym its) (around_of bytes m spells)

pub command_kind : (bytes : List ℕ) (flags lun tag expected : ℕ) (cdb : List ℕ) →
    Spells (message.Command flags lun tag expected cdb) bytes → IsOfKind 0x01 bytes
command_kind bytes flags lun tag expected cdb spells =
    kind_of bytes (message.Command flags lun tag expected cdb) 0x01 spells refl refl

pub command_around : (bytes : List ℕ) (flags lun tag expected : ℕ) (cdb : List ℕ) →
    Spells (message.Command flags lun tag expected cdb) bytes → (c : Command) → c ≡ command_in bytes →
    (front : List ℕ) → front ≡ header_of (command_of c) → AreFlags (bit_and c.flags 0xF8) × IsAround front bytes
command_around bytes flags lun tag expected cdb spells c is front front_is =
    let m : Message = message.Command flags lun tag expected cdb in
    let kind : IsOfKind 0x01 bytes = command_kind bytes flags lun tag expected cdb spells in
    let same : m ≡ command_of c =
    sym (named bytes m spells).same ∙ ap (λ (k : ℕ). named_by k bytes) kind.1 ∙ ap command_of (sym is) in (
      subst HasSets same spells.0.0.1,
      subst (λ (xs : List ℕ). IsAround xs bytes) (sym (front_is ∙ sym (ap header_of same))) (around_of bytes m spells),
    )
