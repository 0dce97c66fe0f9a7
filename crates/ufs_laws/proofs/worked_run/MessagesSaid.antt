-- What the host says in the run is spelled by bytes.
use Rattle.ufs_laws.proofs.Common.{AreBytes, Bool, Cdb, HostFault, IsBlock, List, Message, None, Option, Some, []}
use Rattle.ufs_laws.proofs.Common.{and_parts, ap, append-nil, arith, code_of, if◌then◌else◌, length, length-append}
use Rattle.ufs_laws.proofs.Common.{nat_lt, not, refl, spelling, suc, the_data, the_read, the_write, true, zero, zeros}
use Rattle.ufs_laws.proofs.Common.{ℕ, ◌&&◌, ◌++◌, ◌+◌, ◌==◌, ◌||◌, ◌∙◌, ◌∷◌, ◌≡◌}
use Rattle.std.proofs.lemmas.Bool.{ltb-true}
use Rattle.ufs_laws.specs.Runs.{IsSaid}
use Rattle.ufs_spec.specs.Cdbs.{cdb_bytes}
use Rattle.ufs_spec.specs.Messages.{has_digest, has_extra_header, has_other_code, header}
use Rattle.ufs_spec.specs.Messages.{host_codes, host_fault_of, may_have, padding, segment_length, transfer}
use Rattle.ufs_spec.specs.declared.faults.HostFault.TheVariants.{Code, Digest, Ehs, Length, Short}
use Rattle.ufs_spec.specs.declared.messages.Message.TheVariants as message
use Rattle.ufs_spec.specs.declared.scsi.Cdb.TheVariants as cdb

-- Bytes that can be looked at

abbrev every_byte : List ℕ → Bool
every_byte [] = true
every_byte (x ∷ xs) = nat_lt x 256 && every_byte xs

looked_at : (xs : List ℕ) → every_byte xs ≡ true → AreBytes xs
looked_at [] e place = omega arith
looked_at (x ∷ xs) e zero = (let l = ltb-true x 256 (and_parts _ _ e).0 in omega arith)
looked_at (x ∷ xs) e (suc place) = looked_at xs (and_parts _ _ e).1 place

-- COMMANDs

abbrev write_cdb : Cdb
write_cdb = cdb.Write 0xFF 1 true

abbrev read_cdb : Cdb
read_cdb = cdb.Read 0xFF 1

pub write_said : IsSaid the_write
write_said = (
  spelling (message.Command 0x20 0 7 4096 (cdb_bytes write_cdb)),
  (
    (((omega arith, refl), omega arith, omega arith, omega arith, refl, looked_at (cdb_bytes write_cdb) refl), refl),
    refl,
    refl,
  ),
)

pub read_said : IsSaid the_read
read_said = (
  spelling (message.Command 0x40 0 8 4096 (cdb_bytes read_cdb)),
  (
    (((omega arith, refl), omega arith, omega arith, omega arith, refl, looked_at (cdb_bytes read_cdb) refl), refl),
    refl,
    refl,
  ),
)

-- DATA OUT

abbrev data_message : List ℕ → Message
data_message body = message.DataOut 0 7 0 (record { items = body })

-- the header of one with so many bytes
abbrev data_header : ℕ → List ℕ
data_header n = header 0x02 0 0 7 0 0 0 n (transfer 0 n)

-- what is wrong with bytes of which there are so many
abbrev fault_of : ℕ → List ℕ → Option HostFault
fault_of n bytes =
    if nat_lt n 32 then Some Short
    else if nat_lt 4096 (segment_length bytes) || not (may_have (code_of bytes) bytes (segment_length bytes))
    || not (n == 32 + segment_length bytes + padding (segment_length bytes)) then Some Length
    else if has_digest bytes then Some Digest
    else if has_extra_header bytes then Some Ehs
    else if has_other_code host_codes bytes then Some Code
    else None

right_header : (rest : List ℕ) → length rest ≡ 4096 → host_fault_of (data_header 4096 ++ rest) ≡ None
right_header rest long =
    let all : length (data_header 4096 ++ rest) ≡ 4128 = omega (arith, length-append (data_header 4096) rest) in
    ap (λ n. fault_of n (data_header 4096 ++ rest)) all

-- with no padding
spelled : (body : List ℕ) → length body ≡ 4096 → spelling (data_message body) ≡ data_header 4096 ++ body
spelled body long =
    ap (λ n. data_header n ++ body ++ zeros (padding n)) long ∙ ap (λ rest. data_header 4096 ++ rest) (append-nil body)

pub data_said : (body : List ℕ) → IsBlock body → IsSaid (the_data body)
data_said body h = (
  spelling (data_message body),
  (
    ((omega arith, omega arith, omega arith, (let l = h.0 in omega arith, let l = h.0 in omega arith, h.1)), refl),
    ap host_fault_of (spelled body h.0) ∙ right_header body h.0,
    refl,
  ),
)
