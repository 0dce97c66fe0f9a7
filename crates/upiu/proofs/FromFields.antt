-- The message that the fields name is spelled, where its sets, its header and its padding are right.
use Rattle.std.proofs.Common.{◌≡◌, ◌≢◌, ◌<◌, ◌≤◌, ◌+◌, ◌-◌, ◌⊎◌, ℕ, Bool, true, cond, ◌==◌, ◌||◌, ◌&&◌}
use Rattle.std.proofs.Common.{nat_lt, List, [], ◌++◌, length, take, drop, slice_index, slice_range, Some}
use Rattle.std.proofs.Common.{None, refl, sym, ap, ◌∙◌, subst, inl, inr, arith, append_assoc, length-drop}
use Rattle.std.proofs.lemmas.Bool.{cases_lt, cases_eq, cases_Bool, ltb-true, eqb-true, eq-eqb, and_parts}
use Rattle.std.proofs.lemmas.Bool.{or_cases, ne_eqb}
use Rattle.std.proofs.lemmas.List.{take-append-drop, get_or-take, drop-drop, drop_at, length-take-le, length-take}
use Rattle.std.proofs.lemmas.List.{get_or_past, get_or-drop}
use Rattle.ufs_bytes.proofs.FieldRanges.{field_fits}
use Rattle.ufs_bytes.specs.Fields.{field_at}
use Rattle.ufs_spec.specs.Messages.{AreBytes, IsMessage, IsSense, IsTransferred, Spells, code_of, header_of}
use Rattle.ufs_spec.specs.Messages.{known_codes, may_have, padding, segment_length, segment_of, sense_of}
use Rattle.ufs_spec.specs.Messages.{spelling, zeros}
use Rattle.ufs_spec.specs.declared.messages.Message.{Message}
use Rattle.upiu.proofs.HostFault.{of_each}
use Rattle.ufs_spec.proofs.SpellingParts.{header_size}
use Rattle.upiu.specs.Reading.{HasSets, Passes, named_by, named_message, segment_in, sense_in}

-- a part of bytes is bytes
part_fits : (bytes : List ℕ) (start count : ℕ) → ((place : ℕ) → slice_index bytes place < 256) → (place : ℕ) →
    slice_index (take count (drop start bytes)) place < 256
part_fits bytes start count h place =
    elim (cases_lt place count) [
      | inl below ↦ rw (get_or-take count (drop start bytes) place 0 below, get_or-drop start bytes place 0)
          (h (start + place))
      | inr past ↦
          (let few : length (take count (drop start bytes)) ≤ place = omega
          (arith, length-take count (drop start bytes)) in
          rw (get_or_past (take count (drop start bytes)) place 0 few) (omega arith))
    ]

-- what follows a header is the segment of n bytes and the rest
segment_and_rest : (bytes : List ℕ) (n : ℕ) → drop 32 bytes ≡ slice_range bytes 32 (32 + n) ++ drop (32 + n) bytes
segment_and_rest bytes n =
    let count : 32 + n - 32 ≡ n = omega arith in
    let again : take n (drop 32 bytes) ++ drop n (drop 32 bytes) ≡ drop 32 bytes = take-append-drop n (drop 32 bytes) in
    rw (count, ← drop-drop n 32 bytes) (sym again)

-- what begins with a header is the header and what follows byte 31
pub front_and_rest : (bytes front rest : List ℕ) → length front ≡ 32 → bytes ≡ front ++ rest →
    bytes ≡ front ++ drop 32 bytes
front_and_rest bytes front rest h e =
    let same : drop 32 bytes ≡ rest = ap (drop 32) e ∙ drop_at front rest 32 h in
    e ∙ ap (λ (r : List ℕ). front ++ r) (sym same)

-- ## The fields of each kind

-- a segment of no bytes
no_segment : (bytes : List ℕ) (n : ℕ) → n ≡ 0 → slice_range bytes 32 (32 + n) ≡ []
no_segment bytes n none = ap (λ (k : ℕ). slice_range bytes 32 (32 + k)) none

-- sense data are there or not
sense_there : (n : ℕ) (segment : List ℕ) → (n ≡ 0 → segment ≡ []) → sense_of (sense_in n segment) ≡ segment
sense_there n segment h =
    elim (cases_Bool (n == 0)) [
      | inl none ↦ ap (λ (b : Bool). sense_of (cond b None (Some segment))) none ∙ sym (h (eqb-true n 0 none))
      | inr some ↦ ap (λ (b : Bool). sense_of (cond b None (Some segment))) some
    ]

-- sense data are those of the status
sense_fits : (n status : ℕ) (segment : List ℕ) → (n == cond (status == 0x02) 20 0) ≡ true → length segment ≡ n →
    AreBytes segment → IsSense status (sense_in n segment)
sense_fits n status segment may long small =
    elim (cases_eq status 0x02) [
      | inl check ↦
          (let twenty : n ≡ 20 =
          eqb-true _ _ may ∙ ap (λ (b : Bool). cond b 20 0) (eq-eqb status 0x02 check) in
          subst (λ (k : ℕ). IsSense status (sense_in k segment)) (sym twenty) (check, long ∙ twenty, small))
      | inr other ↦
          (let none : n ≡ 0 = eqb-true _ _ may ∙ ap (λ (b : Bool). cond b 20 0) (ne_eqb status 0x02 other) in
          subst (λ (k : ℕ). IsSense status (sense_in k segment)) (sym none) other)
    ]

-- a query request without the opcode 2 has no data
asked_fits : (n opcode : ℕ) (segment : List ℕ) → ((n == 0) || (opcode == 0x02)) ≡ true → (n ≡ 0 → segment ≡ []) →
    opcode ≢ 0x02 → segment ≡ []
asked_fits n opcode segment may nothing other =
    elim (or_cases (n == 0) (opcode == 0x02) may)
    [ inl none ↦ nothing (eqb-true n 0 none) | inr same ↦ absurd (other (eqb-true opcode 0x02 same)) ]

-- a query response has data with the opcode 1 and the response 0, or none
answered_fits : (n opcode response : ℕ) (segment : List ℕ) →
    ((n == 0) || ((opcode == 0x01) && (response == 0x00))) ≡ true → (n ≡ 0 → segment ≡ [])
    → (opcode ≡ 0x01) × (response ≡ 0x00) ⊎ (segment ≡ [])
answered_fits n opcode response segment may nothing =
    elim (or_cases (n == 0) ((opcode == 0x01) && (response == 0x00)) may) [
      | inl none ↦ inr (nothing (eqb-true n 0 none))
      | inr both ↦
          (let parts = and_parts (opcode == 0x01) (response == 0x00) both in
          inl (eqb-true opcode 0x01 parts.0, eqb-true response 0x00 parts.1))
    ]

-- of bytes without an early fault
module _ (bytes : List ℕ) (small : AreBytes bytes) (p : Passes bytes) where
  -- the fields of a kind fit, and its data segment is that of the bytes
  abbrev AreFit : ℕ → Type 0
  AreFit code =
      may_have code bytes (segment_length bytes) ≡ true → HasSets (named_by code bytes) → (rest : List ℕ) →
      bytes ≡ header_of (named_by code bytes) ++ rest →
      IsMessage (named_by code bytes) × (segment_of (named_by code bytes) ≡ segment_in bytes)

  nothing_in : segment_length bytes ≡ 0 → segment_in bytes ≡ []
  nothing_in = no_segment bytes (segment_length bytes)

  pub segment_long : length (segment_in bytes) ≡ segment_length bytes
  segment_long =
      let n : ℕ = segment_length bytes in
      let count : 32 + n - 32 ≡ n = omega arith in
      let long : length (drop 32 bytes) ≡ n + padding n = length-drop 32 bytes ∙ omega (arith, p.total) in
      ap (λ (k : ℕ). length (take k (drop 32 bytes))) count ∙ length-take-le n (drop 32 bytes) (omega arith)

  segment_small : AreBytes (segment_in bytes)
  segment_small = part_fits bytes 32 (32 + segment_length bytes - 32) small

  segment_at_most : length (segment_in bytes) ≤ 4096
  segment_at_most = subst (λ (k : ℕ). k ≤ 4096) (sym segment_long) p.segment

  -- a segment that a transfer may have
  transferred : (nat_lt 0 (segment_length bytes) && (segment_length bytes == field_at 4 16 bytes)) ≡ true →
      IsTransferred (segment_in bytes)
  transferred may =
      let parts = and_parts (nat_lt 0 (segment_length bytes)) _ may in
      let some : 1 ≤ segment_length bytes = ltb-true 0 (segment_length bytes) parts.0 in
      (subst (λ (k : ℕ). 1 ≤ k) (sym segment_long) some, segment_at_most, segment_small)

  -- no data
  empty : (segment_length bytes == 0) ≡ true → [] ≡ segment_in bytes
  empty may = sym (nothing_in (eqb-true (segment_length bytes) 0 may))

  operation_long : length (slice_range bytes 16 32) ≡ 16
  operation_long =
      let long : length (drop 16 bytes) ≡ length bytes - 16 = length-drop 16 bytes in
      length-take-le 16 (drop 16 bytes) (omega (arith, p.total))

  fit_00 : AreFit 0x00
  fit_00 may sets rest begins = (small 3, empty may)

  fit_01 : AreFit 0x01
  fit_01 may sets rest begins = (
    ((small 1, sets), small 2, small 3, field_fits 4 12 bytes small, operation_long, part_fits bytes 16 16 small),
    empty may,
  )

  fit_02 : AreFit 0x02
  fit_02 may sets rest begins = ((small 2, small 3, field_fits 4 12 bytes small, transferred may), refl)

  fit_04 : AreFit 0x04
  fit_04 may sets rest begins = ((small 2, small 3, small 5, small 19), empty may)

  fit_16 : AreFit 0x16
  fit_16 may sets rest begins = (
    (
      small 3,
      sets,
      (small 12, small 13, small 14, small 15, field_fits 2 18 bytes small, field_fits 4 20 bytes small),
      segment_at_most,
      segment_small,
      asked_fits (segment_length bytes) (slice_index bytes 12) (segment_in bytes) may nothing_in,
    ),
    refl,
  )

  -- its header tells of no segment
  fit_1F : AreFit 0x1F
  fit_1F may sets rest begins = (sets, sym (nothing_in (ap segment_length begins)))

  fit_20 : AreFit 0x20
  fit_20 may sets rest begins = (small 3, empty may)

  fit_21 : AreFit 0x21
  fit_21 may sets rest begins = (
    (
      sets.0,
      small 2,
      small 3,
      sets.1,
      sets.2,
      field_fits 4 12 bytes small,
      sense_fits (segment_length bytes) (slice_index bytes 7) (segment_in bytes) may segment_long segment_small,
    ),
    sense_there (segment_length bytes) (segment_in bytes) nothing_in,
  )

  fit_22 : AreFit 0x22
  fit_22 may sets rest begins = ((small 2, small 3, field_fits 4 12 bytes small, transferred may), refl)

  fit_24 : AreFit 0x24
  fit_24 may sets rest begins = ((small 2, small 3, small 15), empty may)

  fit_31 : AreFit 0x31
  fit_31 may sets rest begins = ((small 2, small 3, field_fits 4 12 bytes small, field_fits 4 16 bytes small), empty may)

  fit_36 : AreFit 0x36
  fit_36 may sets rest begins = (
    (
      small 3,
      sets,
      small 6,
      (small 12, small 13, small 14, small 15, field_fits 2 18 bytes small, field_fits 4 20 bytes small),
      segment_at_most,
      segment_small,
      answered_fits (segment_length bytes) (slice_index bytes 12) (slice_index bytes 6) (segment_in bytes) may
          nothing_in,
    ),
    refl,
  )

  fit_each : AreFit (code_of bytes)
  fit_each =
      of_each AreFit known_codes (code_of bytes) (
        fit_00,
        (
          fit_01,
          (
            fit_02,
            (
              fit_04,
              (
                fit_16,
                (fit_1F, (fit_20, (fit_21, (fit_22, (fit_24, (fit_31, (fit_36, tt))))))),
              ),
            ),
          ),
        ),
      )
      p.code

  -- ## The whole

  -- a message whose fields fit is spelled where its header is and zeros follow its segment
  spelled_whole : (m : Message) → IsMessage m → segment_of m ≡ segment_in bytes → (rest : List ℕ)
      → bytes ≡ header_of m ++ rest
      → drop (32 + segment_length bytes) bytes ≡ zeros (length (drop (32 + segment_length bytes) bytes)) →
      bytes ≡ spelling m
  spelled_whole m h same rest begins pad =
      let n : ℕ = segment_length bytes in
      let front : List ℕ = header_of m in
      let e : bytes ≡ front ++ drop 32 bytes = front_and_rest bytes front rest (header_size m h) begins in
      let after : length (drop (32 + n) bytes) ≡ padding n = length-drop (32 + n) bytes ∙ omega (arith, p.total) in
      let size : length (segment_of m) ≡ n = ap length same ∙ segment_long in
      let last : drop (32 + n) bytes ≡ zeros (padding (length (segment_of m))) =
      pad ∙ ap zeros after ∙ ap (λ (k : ℕ). zeros (padding k)) (sym size) in
      e
      ∙ ap (λ (r : List ℕ). front ++ r) (segment_and_rest bytes n)
      ∙ ap (λ (xs : List ℕ). front ++ (xs ++ drop (32 + n) bytes)) (sym same)
      ∙ ap (λ (r : List ℕ). front ++ (segment_of m ++ r)) last
      ∙ sym (append_assoc front (segment_of m) (zeros (padding (length (segment_of m)))))

  -- the message that the fields name is spelled
  pub spelled_from : (m : Message) → m ≡ named_message bytes → HasSets m → (rest : List ℕ)
      → bytes ≡ header_of m ++ rest
      → drop (32 + segment_length bytes) bytes ≡ zeros (length (drop (32 + segment_length bytes) bytes)) →
      Spells m bytes
  spelled_from m e sets rest begins pad =
      let fit = fit_each p.may (subst HasSets e sets) rest (begins ∙ ap (λ (x : Message). header_of x ++ rest) e) in
      let fits : IsMessage m = subst IsMessage (sym e) fit.0 in
      let same : segment_of m ≡ segment_in bytes = ap segment_of e ∙ fit.1 in
      (fits, spelled_whole m fits same rest begins pad)
