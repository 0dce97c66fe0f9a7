-- The message that bytes spell is the one that their fields name, and such bytes have no early fault.
use Rattle.std.proofs.Common.{◌≡◌, ◌≢◌, ◌≤◌, ◌+◌, ◌⊎◌, ℕ, Bool, true, false, cond, not, ◌==◌, ◌||◌, ◌&&◌}
use Rattle.std.proofs.Common.{nat_lt, List, [], ◌++◌, length, drop, Option, Some, None, refl}
use Rattle.std.proofs.Common.{sym, ap, ◌∙◌, subst, inl, inr, arith, append_assoc, length-append}
use Rattle.std.proofs.lemmas.Bool.{ltb-false, eqb-true, not-false, or_parts, or_from, and_from, le-ltb, lt-ltb}
use Rattle.std.proofs.lemmas.Bool.{eq-eqb, cond-false, ne_eqb, cases_eq, or_left, or_right}
use Rattle.std.proofs.lemmas.List.{drop-drop, drop_at, length-replicate}
use Rattle.byteorder.specs.Endian.{big_bytes}
use Rattle.byteorder.specs.Numbers.{big_number-reads_back}
use Rattle.ufs_spec.proofs.ReadBack.{again}
use Rattle.ufs_spec.proofs.SpellingParts.{header_size, segment_size}
use Rattle.ufs_bytes.specs.Fields.{field_at}
use Rattle.ufs_spec.specs.Messages.{IsMessage, IsSense, Spells, code_of, has_digest, has_extra_header, has_other_code}
use Rattle.ufs_spec.specs.Messages.{has_wrong_length, header_of, is_among, is_short, known_codes, may_have, padding}
use Rattle.ufs_spec.specs.Messages.{read_fault_of, segment_length, segment_of, sense_of, spelling, zeros}
use Rattle.ufs_spec.specs.declared.faults.HostFault.{HostFault}
use Rattle.ufs_spec.specs.declared.faults.HostFault.TheVariants.{Short, Length, Digest, Ehs, Code}
use Rattle.ufs_spec.specs.declared.messages.Message.{Message}
use Rattle.ufs_spec.specs.declared.messages.Message.TheVariants.{DataIn, DataOut, NopOut, QueryRequest, QueryResponse}
use Rattle.ufs_spec.specs.declared.messages.Message.TheVariants.{Response}
use Rattle.upiu.specs.Reading.{Passes, named_message}

-- a fault that is not told was not there
not_told : (b : Bool) (fault : HostFault) (rest : Option HostFault) → cond b (Some fault) rest ≡ None →
    (b ≡ false) × (rest ≡ None)
not_told true fault rest h = let no : ⊥ = cc in absurd no
not_told false fault rest h = (refl, h)

-- bytes of which no early fault is told
pub passes : (bytes : List ℕ) → read_fault_of bytes ≡ None → Passes bytes
passes bytes h =
    let short = not_told (is_short bytes) Short _ h in
    let long = not_told (has_wrong_length bytes) Length _ short.1 in
    let digest = not_told (has_digest bytes) Digest _ long.1 in
    let extra = not_told (has_extra_header bytes) Ehs _ digest.1 in
    let other = not_told (has_other_code known_codes bytes) Code _ extra.1 in
    let parts = or_parts
    (nat_lt 4096 (segment_length bytes) || not (may_have (code_of bytes) bytes (segment_length bytes))) _ long.0 in
    let first = or_parts (nat_lt 4096 (segment_length bytes)) _ parts.0 in
    record {
      segment = ltb-false _ _ first.0;
      may = not-false _ first.1;
      total = eqb-true _ _ (not-false _ parts.1);
      code = not-false _ other.0;
    }

-- bytes without these faults have none
none_told : (bytes : List ℕ) → Passes bytes → has_digest bytes ≡ false → has_extra_header bytes ≡ false →
    read_fault_of bytes ≡ None
none_told bytes p digest extra =
    let short : is_short bytes ≡ false = le-ltb (length bytes) 32 (omega (arith, p.total)) in
    let most : nat_lt 4096 (segment_length bytes) ≡ false = le-ltb 4096 (segment_length bytes) p.segment in
    let fits : not (may_have (code_of bytes) bytes (segment_length bytes)) ≡ false = ap not p.may in
    let total : not (length bytes == 32 + segment_length bytes + padding (segment_length bytes)) ≡ false = ap not
    (eq-eqb _ _ p.total) in
    let long : has_wrong_length bytes ≡ false = or_from _ _ (or_from _ _ most fits) total in
    let code : has_other_code known_codes bytes ≡ false = ap not p.code in
    cond-false _ _ _ short
    ∙ cond-false _ _ _ long
    ∙ cond-false _ _ _ digest
    ∙ cond-false _ _ _ extra
    ∙ cond-false _ _ _ code

-- ## What a spelling tells of itself

-- two bytes tell a length of at most 4096
length_told : (n : ℕ) (rest : List ℕ) → n ≤ 4096 → field_at 2 0 (big_bytes 2 n ++ rest) ≡ n
length_told n rest most = big_number-reads_back 2 n rest (omega arith)

-- the header tells how long the segment is
segment_told : (m : Message) → IsMessage m → segment_length (spelling m) ≡ length (segment_of m)
segment_told (DataOut lun tag offset «data») h =
    length_told (length «data».items) (drop 12 (spelling (DataOut lun tag offset «data»))) h.3.1
segment_told (QueryRequest tag function asked size value «data») h =
    length_told (length «data».items) (drop 12 (spelling (QueryRequest tag function asked size value «data»))) h.3
segment_told (Response flags lun tag response status residual None) h = refl
segment_told (Response flags lun tag response status residual (Some sense)) h =
    let twenty = h.6.1 in
    length_told (length sense) (drop 12 (spelling (Response flags lun tag response status residual (Some sense))))
    (omega arith)
segment_told (DataIn lun tag offset «data») h =
    length_told (length «data».items) (drop 12 (spelling (DataIn lun tag offset «data»))) h.3.1
segment_told (QueryResponse tag function response asked size value «data») h =
    length_told (length «data».items)
    (drop 12 (spelling (QueryResponse tag function response asked size value «data»))) h.4
segment_told other h = refl

-- what follows the header
behind : (m : Message) → IsMessage m →
    drop 32 (spelling m) ≡ segment_of m ++ zeros (padding (length (segment_of m)))
behind m h =
    let last : List ℕ = zeros (padding (length (segment_of m))) in
    ap (drop 32) (append_assoc (header_of m) (segment_of m) last)
    ∙ drop_at (header_of m) (segment_of m ++ last) 32 (header_size m h)

-- ## The message that bytes spell is the one that their fields name

-- a message that is spelled is the one that the fields name, and zeros follow its segment
pub record Named (message : Message) (bytes : List ℕ) : Type 0 where
  pub same : named_message bytes ≡ message
  pub rest : drop (32 + segment_length bytes) bytes ≡ zeros (length (drop (32 + segment_length bytes) bytes))

-- zeros are as many zeros as they are
as_many : (xs : List ℕ) (k : ℕ) → xs ≡ zeros k → xs ≡ zeros (length xs)
as_many xs k e = e ∙ ap zeros (sym (ap length e ∙ length-replicate k 0))

spelling_named : (m : Message) → IsMessage m → Named m (spelling m)
spelling_named m h =
    let bytes : List ℕ = spelling m in
    let n : ℕ = length (segment_of m) in
    let rest : drop (32 + segment_length bytes) bytes ≡ zeros (padding n) =
    ap (λ (k : ℕ). drop (32 + k) bytes) (segment_told m h)
    ∙ sym (drop-drop n 32 bytes)
    ∙ ap (drop n) (behind m h)
    ∙ drop_at (segment_of m) (zeros (padding n)) n refl in
    record {
      same = again m h;
      rest = as_many _ (padding n) rest;
    }

-- the message that bytes spell
pub named : (bytes : List ℕ) (message : Message) → Spells message bytes → Named message bytes
named bytes message (h, e) = subst (Named message) (sym e) (spelling_named message h)

-- ## What spells a message has no early fault

-- a transfer has as many bytes as it counts
counted : (n : ℕ) (rest : List ℕ) → 1 ≤ n → n ≤ 4096 →
    (nat_lt 0 n && (n == field_at 4 0 (big_bytes 4 n ++ rest))) ≡ true
counted n rest least most =
    and_from _ _ (lt-ltb 0 n least) (eq-eqb _ _ (sym (big_number-reads_back 4 n rest (omega arith))))

-- nothing is as long as nothing
nothing_long : (items : List ℕ) → items ≡ [] → (length items == 0) ≡ true
nothing_long items e = eq-eqb _ _ (ap length e)

-- a query request has data with the opcode 2 alone
asked_may : (opcode : ℕ) (items : List ℕ) → (opcode ≢ 0x02 → items ≡ []) →
    ((length items == 0) || (opcode == 0x02)) ≡ true
asked_may opcode items h =
    elim (cases_eq opcode 0x02) [
      | inl same ↦ or_right (length items == 0) (opcode == 0x02) (eq-eqb _ _ same)
      | inr other ↦ or_left (length items == 0) (opcode == 0x02) (nothing_long items (h other))
    ]

-- a query response has data with the opcode 1 and the response 0 alone
answered_may : (opcode response : ℕ) (items : List ℕ) → (opcode ≡ 0x01) × (response ≡ 0x00) ⊎ (items ≡ []) →
    ((length items == 0) || ((opcode == 0x01) && (response == 0x00))) ≡ true
answered_may opcode response items (inl both) =
    or_right (length items == 0) ((opcode == 0x01) && (response == 0x00))
    (and_from _ _ (eq-eqb _ _ both.0) (eq-eqb _ _ both.1))
answered_may opcode response items (inr none) =
    or_left (length items == 0) ((opcode == 0x01) && (response == 0x00)) (nothing_long items none)

-- a response has its sense data with the status 2 alone
sense_may : (status : ℕ) (sense : Option (List ℕ)) → IsSense status sense →
    (length (sense_of sense) == cond (status == 0x02) 20 0) ≡ true
sense_may status None other = ap (λ (b : Bool). 0 == cond b 20 0) (ne_eqb status 0x02 other)
sense_may status (Some sense) h =
    ap (λ (b : Bool). length sense == cond b 20 0) (eq-eqb status 0x02 h.0) ∙ eq-eqb _ _ h.1

-- a message may have its segment
segment_may : (m : Message) → IsMessage m →
    may_have (code_of (spelling m)) (spelling m) (length (segment_of m)) ≡ true
segment_may (DataOut lun tag offset «data») h =
    counted (length «data».items) (drop 20 (spelling (DataOut lun tag offset «data»))) h.3.0 h.3.1
segment_may (QueryRequest tag function asked size value «data») h = asked_may asked.opcode «data».items h.5
segment_may (Response flags lun tag response status residual sense) h = sense_may status sense h.6
segment_may (DataIn lun tag offset «data») h =
    counted (length «data».items) (drop 20 (spelling (DataIn lun tag offset «data»))) h.3.0 h.3.1
segment_may (QueryResponse tag function response asked size value «data») h =
    answered_may asked.opcode response «data».items h.6
segment_may other h = refl

code_known : (m : Message) → is_among known_codes (code_of (spelling m)) ≡ true
code_known (NopOut tag) = refl
code_known other = refl

no_digest : (m : Message) → has_digest (spelling m) ≡ false
no_digest (NopOut tag) = refl
no_digest other = refl

no_extra : (m : Message) → has_extra_header (spelling m) ≡ false
no_extra (NopOut tag) = refl
no_extra other = refl

-- how long a spelling is
spelling_long : (m : Message) → IsMessage m →
    length (spelling m) ≡ 32 + length (segment_of m) + padding (length (segment_of m))
spelling_long m h =
    let n : ℕ = length (segment_of m) in
    let last : length (zeros (padding n)) ≡ padding n = length-replicate (padding n) 0 in
    length-append (header_of m ++ segment_of m) (zeros (padding n))
    ∙ ap (λ (k : ℕ). k + length (zeros (padding n))) (length-append (header_of m) (segment_of m))
    ∙ ap (λ (k : ℕ). k + n + length (zeros (padding n))) (header_size m h)
    ∙ ap (λ (k : ℕ). 32 + n + k) last

spelling_passes : (m : Message) → IsMessage m → Passes (spelling m)
spelling_passes m h =
    let size : length (segment_of m) ≡ segment_length (spelling m) = sym (segment_told m h) in
    record {
      segment = subst (λ (k : ℕ). k ≤ 4096) size (segment_size m h);
      may = subst (λ (k : ℕ). may_have (code_of (spelling m)) (spelling m) k ≡ true) size (segment_may m h);
      total = subst (λ (k : ℕ). length (spelling m) ≡ 32 + k + padding k) size (spelling_long m h);
      code = code_known m;
    }

-- what spells a message has no early fault
pub clear : (bytes : List ℕ) (message : Message) → Spells message bytes → read_fault_of bytes ≡ None
clear bytes message (h, e) =
    ap read_fault_of e ∙ none_told (spelling message) (spelling_passes message h) (no_digest message) (no_extra message)
