-- Each message is read back from its spelling, so no two messages have one spelling.
use Rattle.std.proofs.Common.{◌≡◌, ◌<◌, ◌≤◌, ◌+◌, ◌-◌, ◌^◌, ℕ, cond, ◌==◌, List, [], ◌++◌, length, take, drop}
use Rattle.std.proofs.Common.{slice_index, slice_range, Option, Some, None, refl, sym, ap, ◌∙◌, arith}
use Rattle.std.proofs.lemmas.List.{append-nil, take_all, take_at}
use Rattle.byteorder.specs.Numbers.{big_number-reads_back}
use Rattle.arrayvec.specs.ArrayVec.{ArrayVec}
use Rattle.ufs_bytes.specs.Fields.{field_at}
use Rattle.ufs_spec.specs.Messages.{IsMessage, IsSense, code_of, padding, segment_length, spelling, zeros}
use Rattle.ufs_spec.specs.declared.messages.Asked.{Asked}
use Rattle.ufs_spec.specs.declared.messages.Message.{Message}
use Rattle.ufs_spec.specs.declared.messages.Message.TheVariants.{NopOut, Command, DataOut, TaskRequest, QueryRequest}
use Rattle.ufs_spec.specs.declared.messages.Message.TheVariants.{NopIn, Response, DataIn, TaskResponse, ReadyToTransfer}
use Rattle.ufs_spec.specs.declared.messages.Message.TheVariants.{LinkEvent, QueryResponse}

-- the data segment that the header names
abbrev segment_in : List ℕ → List ℕ
segment_in bytes = slice_range bytes 32 (32 + segment_length bytes)

-- what a query asks for
abbrev asked_in : List ℕ → Asked
asked_in bytes =
    record {
      opcode = slice_index bytes 12;
      idn = slice_index bytes 13;
      index = slice_index bytes 14;
      selector = slice_index bytes 15;
    }

-- the sense data of a segment, where there is one
abbrev sense_in : ℕ → List ℕ → Option (List ℕ)
sense_in n segment = cond (n == 0) None (Some segment)

-- the message of any kind that the fields name
abbrev pub message_of : ℕ → List ℕ → Message
message_of code bytes =
    cond (code == 0x00) (NopOut (slice_index bytes 3))
    (cond (code == 0x01) (Command (slice_index bytes 1) (slice_index bytes 2) (slice_index bytes 3)
    (field_at 4 12 bytes) (slice_range bytes 16 32))
    (cond (code == 0x02)
    (DataOut (slice_index bytes 2) (slice_index bytes 3) (field_at 4 12 bytes) (record { items = segment_in bytes }))
    (cond (code == 0x04)
    (TaskRequest (slice_index bytes 2) (slice_index bytes 3) (slice_index bytes 5) (slice_index bytes 19))
    (cond (code == 0x16)
    (QueryRequest (slice_index bytes 3) (slice_index bytes 5) (asked_in bytes) (field_at 2 18 bytes)
    (field_at 4 20 bytes) (record { items = segment_in bytes }))
    (cond (code == 0x1F) (LinkEvent (slice_index bytes 5))
    (cond (code == 0x20) (NopIn (slice_index bytes 3))
    (cond (code == 0x21)
    (Response (slice_index bytes 1) (slice_index bytes 2) (slice_index bytes 3) (slice_index bytes 6)
    (slice_index bytes 7) (field_at 4 12 bytes)
    (sense_in (segment_length bytes) (segment_in bytes)))
    (cond (code == 0x22)
    (DataIn (slice_index bytes 2) (slice_index bytes 3) (field_at 4 12 bytes) (record { items = segment_in bytes }))
    (cond (code == 0x24) (TaskResponse (slice_index bytes 2) (slice_index bytes 3) (slice_index bytes 15))
    (cond (code == 0x31)
    (ReadyToTransfer (slice_index bytes 2) (slice_index bytes 3) (field_at 4 12 bytes) (field_at 4 16 bytes))
    (QueryResponse (slice_index bytes 3) (slice_index bytes 5) (slice_index bytes 6) (asked_in bytes)
    (field_at 2 18 bytes) (field_at 4 20 bytes)
    (record { items = segment_in bytes }))))))))))))

-- a segment behind 32 bytes that name its length
segment_again : (bytes segment : List ℕ) → drop 32 bytes ≡ segment ++ zeros (padding (length segment)) →
    segment_length bytes ≡ length segment
    → segment_in bytes ≡ segment
segment_again bytes segment behind size =
    let n : ℕ = length segment in
    let count : 32 + n - 32 ≡ n = omega arith in
    ap (λ (k : ℕ). slice_range bytes 32 (32 + k)) size ∙ ap (λ (k : ℕ). take k (drop 32 bytes)) count
    ∙ ap (take n) behind ∙ take_at segment (zeros (padding n)) n refl

-- E of a COMMAND
pub expected_again : (flags lun tag expected : ℕ) (cdb : List ℕ) → expected < 2 ^ 32 →
    field_at 4 12 (spelling (Command flags lun tag expected cdb)) ≡ expected
expected_again flags lun tag expected cdb fits = big_number-reads_back 4 expected (cdb ++ [] ++ []) fits

command_again : (flags lun tag expected : ℕ) (cdb : List ℕ) → expected < 2 ^ 32 → length cdb ≡ 16
    → message_of 0x01 (spelling (Command flags lun tag expected cdb)) ≡ Command flags lun tag expected cdb
command_again flags lun tag expected cdb fits sixteen =
    let number : field_at 4 12 (spelling (Command flags lun tag expected cdb)) ≡ expected =
    expected_again flags lun tag expected cdb fits in
    let same : cdb ++ [] ++ [] ≡ cdb = append-nil (cdb ++ []) ∙ append-nil cdb in
    let operation : take 16 (cdb ++ [] ++ []) ≡ cdb = ap (take 16) same ∙ take_all 16 cdb (omega arith) in
    rw (number, operation) refl

data_out_again : (lun tag offset : ℕ) («data» : ArrayVec ℕ) → offset < 2 ^ 32 → length «data».items ≤ 4096
    → message_of 0x02 (spelling (DataOut lun tag offset «data»)) ≡ DataOut lun tag offset «data»
data_out_again lun tag offset «data» fits most =
    let bytes : List ℕ = spelling (DataOut lun tag offset «data») in
    let length_in : segment_length bytes ≡ length «data».items = big_number-reads_back 2 (length «data».items)
    (drop 12 bytes) (omega arith) in
    let segment : segment_in bytes ≡ «data».items = segment_again bytes «data».items refl length_in in
    let offset_in : field_at 4 12 bytes ≡ offset = big_number-reads_back 4 offset (drop 16 bytes) fits in
    ap (λ (k : ℕ). DataOut lun tag k (record { items = segment_in bytes })) offset_in
    ∙ ap (λ (xs : List ℕ). DataOut lun tag offset (record { items = xs })) segment

query_request_again : (tag function : ℕ) (asked : Asked) (size value : ℕ) («data» : ArrayVec ℕ)
    → size < 2 ^ 16 → value < 2 ^ 32 → length «data».items ≤ 4096
    →
    message_of 0x16 (spelling (QueryRequest tag function asked size value «data»))
    ≡ QueryRequest tag function asked size value «data»
query_request_again tag function asked size value «data» fits_size fits_value most =
    let bytes : List ℕ = spelling (QueryRequest tag function asked size value «data») in
    let length_in : segment_length bytes ≡ length «data».items = big_number-reads_back 2 (length «data».items)
    (drop 12 bytes) (omega arith) in
    let segment : segment_in bytes ≡ «data».items = segment_again bytes «data».items refl length_in in
    let size_in : field_at 2 18 bytes ≡ size = big_number-reads_back 2 size (drop 20 bytes) fits_size in
    let value_in : field_at 4 20 bytes ≡ value = big_number-reads_back 4 value (drop 24 bytes) fits_value in
    ap (λ (k : ℕ). QueryRequest tag function asked k (field_at 4 20 bytes) (record { items = segment_in bytes }))
    size_in
    ∙ ap (λ (k : ℕ). QueryRequest tag function asked size k (record { items = segment_in bytes })) value_in
    ∙ ap (λ (xs : List ℕ). QueryRequest tag function asked size value (record { items = xs })) segment

query_response_again : (tag function response : ℕ) (asked : Asked) (size value : ℕ) («data» : ArrayVec ℕ)
    → size < 2 ^ 16 → value < 2 ^ 32 → length «data».items ≤ 4096
    →
    message_of 0x36 (spelling (QueryResponse tag function response asked size value «data»))
    ≡ QueryResponse tag function response asked size value «data»
query_response_again tag function response asked size value «data» fits_size fits_value most =
    let bytes : List ℕ = spelling (QueryResponse tag function response asked size value «data») in
    let length_in : segment_length bytes ≡ length «data».items = big_number-reads_back 2 (length «data».items)
    (drop 12 bytes) (omega arith) in
    let segment : segment_in bytes ≡ «data».items = segment_again bytes «data».items refl length_in in
    let size_in : field_at 2 18 bytes ≡ size = big_number-reads_back 2 size (drop 20 bytes) fits_size in
    let value_in : field_at 4 20 bytes ≡ value = big_number-reads_back 4 value (drop 24 bytes) fits_value in
    ap
    (λ (k : ℕ). QueryResponse tag function response asked k (field_at 4 20 bytes) (record { items = segment_in bytes }))
    size_in
    ∙ ap (λ (k : ℕ). QueryResponse tag function response asked size k (record { items = segment_in bytes })) value_in
    ∙ ap (λ (xs : List ℕ). QueryResponse tag function response asked size value (record { items = xs })) segment

data_in_again : (lun tag offset : ℕ) («data» : ArrayVec ℕ) → offset < 2 ^ 32 → length «data».items ≤ 4096
    → message_of 0x22 (spelling (DataIn lun tag offset «data»)) ≡ DataIn lun tag offset «data»
data_in_again lun tag offset «data» fits most =
    let bytes : List ℕ = spelling (DataIn lun tag offset «data») in
    let length_in : segment_length bytes ≡ length «data».items = big_number-reads_back 2 (length «data».items)
    (drop 12 bytes) (omega arith) in
    let segment : segment_in bytes ≡ «data».items = segment_again bytes «data».items refl length_in in
    let offset_in : field_at 4 12 bytes ≡ offset = big_number-reads_back 4 offset (drop 16 bytes) fits in
    ap (λ (k : ℕ). DataIn lun tag k (record { items = segment_in bytes })) offset_in
    ∙ ap (λ (xs : List ℕ). DataIn lun tag offset (record { items = xs })) segment

ready_again : (lun tag offset count : ℕ) → offset < 2 ^ 32 → count < 2 ^ 32
    → message_of 0x31 (spelling (ReadyToTransfer lun tag offset count)) ≡ ReadyToTransfer lun tag offset count
ready_again lun tag offset count fits_offset fits_count =
    let bytes : List ℕ = spelling (ReadyToTransfer lun tag offset count) in
    let offset_in : field_at 4 12 bytes ≡ offset = big_number-reads_back 4 offset (drop 16 bytes) fits_offset in
    let count_in : field_at 4 16 bytes ≡ count = big_number-reads_back 4 count (drop 20 bytes) fits_count in
    ap (λ (k : ℕ). ReadyToTransfer lun tag k (field_at 4 16 bytes)) offset_in
    ∙ ap (ReadyToTransfer lun tag offset) count_in

response_again : (flags lun tag response status residual : ℕ) (sense : Option (List ℕ)) → residual < 2 ^ 32 →
    IsSense status sense
    →
    message_of 0x21 (spelling (Response flags lun tag response status residual sense))
    ≡ Response flags lun tag response status residual sense
response_again flags lun tag response status residual None fits h =
    let bytes : List ℕ = spelling (Response flags lun tag response status residual None) in
    ap (λ (k : ℕ). Response flags lun tag response status k None)
    (big_number-reads_back 4 residual (drop 16 bytes) fits)
response_again flags lun tag response status residual (Some sense) fits (check, twenty, small) =
    let bytes : List ℕ = spelling (Response flags lun tag response status residual (Some sense)) in
    let length_in : segment_length bytes ≡ length sense = big_number-reads_back 2 (length sense) (drop 12 bytes)
    (omega arith) in
    let segment : segment_in bytes ≡ sense = segment_again bytes sense refl length_in in
    let number : field_at 4 12 bytes ≡ residual = big_number-reads_back 4 residual (drop 16 bytes) fits in
    ap (λ (k : ℕ). Response flags lun tag response status k (sense_in (segment_length bytes) (segment_in bytes))) number
    ∙ ap (λ (k : ℕ). Response flags lun tag response status residual (sense_in k (segment_in bytes)))
    (length_in ∙ twenty)
    ∙ ap (λ (xs : List ℕ). Response flags lun tag response status residual (Some xs)) segment

-- each message is read back from its spelling
pub again : (message : Message) → IsMessage message →
    message_of (code_of (spelling message)) (spelling message) ≡ message
again (Command flags lun tag expected cdb) h = command_again flags lun tag expected cdb h.3 h.4
again (DataOut lun tag offset «data») h = data_out_again lun tag offset «data» h.2 h.3.1
again (QueryRequest tag function asked size value «data») h =
    query_request_again tag function asked size value «data» h.2.4 h.2.5 h.3
again (Response flags lun tag response status residual sense) h =
    response_again flags lun tag response status residual sense h.5 h.6
again (DataIn lun tag offset «data») h = data_in_again lun tag offset «data» h.2 h.3.1
again (ReadyToTransfer lun tag offset count) h = ready_again lun tag offset count h.2 h.3
again (QueryResponse tag function response asked size value «data») h =
    query_response_again tag function response asked size value «data» h.3.4 h.3.5 h.4
again other h = refl

-- two messages of one spelling are one
pub one_message : (first second : Message) → IsMessage first → IsMessage second → spelling first ≡ spelling second →
    first ≡ second
one_message first second h k e = sym (again first h) ∙ ap (λ (b : List ℕ). message_of (code_of b) b) e ∙ again second k
