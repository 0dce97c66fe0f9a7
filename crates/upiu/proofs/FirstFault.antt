-- The first fault that some bytes have, of those that come before a message's fields.
use Rattle.std.proofs.Common.{◌≡◌, ◌<◌, ◌≤◌, ◌∙◌, ◌⊎◌, ◌==◌, ◌&&◌, Some, None, List, ℕ, Bool, true}
use Rattle.std.proofs.Common.{◌||◌, ◌+◌, [], ◌∷◌, nat_lt, false, not, length, sym, ap, subst, inl, inr}
use Rattle.std.proofs.lemmas.Bool.{cond-false, cond-true, le-ltb, lt-ltb, or_from}
use Rattle.ufs_spec.specs.Messages.{code_of, has_digest, has_extra_header, has_wrong_length, is_among, known_codes}
use Rattle.ufs_spec.specs.Messages.{may_have, padding, read_fault_of, segment_length}
use Rattle.ufs_bytes.specs.Fields.{field_at}
use Rattle.ufs_spec.specs.declared.faults.HostFault.TheVariants.{Short, Length, Digest, Ehs, Code}

pub short_told : (bytes : List ℕ) → length bytes < 32 → Some Short ≡ read_fault_of bytes
short_told bytes short = sym (cond-true _ _ _ (lt-ltb _ _ short))

-- of bytes that are as long as a header
module _ (bytes : List ℕ) (long : 32 ≤ length bytes) where
  pub length_told : has_wrong_length bytes ≡ true → Some Length ≡ read_fault_of bytes
  length_told wrong = sym (cond-false _ _ _ (le-ltb _ _ long) ∙ cond-true _ _ _ wrong)

  -- and of the length that it tells
  module _ (right : has_wrong_length bytes ≡ false) where
    pub digest_told : has_digest bytes ≡ true → Some Digest ≡ read_fault_of bytes
    digest_told digest =
        sym (cond-false _ _ _ (le-ltb _ _ long) ∙ cond-false _ _ _ right ∙ cond-true _ _ _ digest)

    -- and without a digest
    module _ (plain : has_digest bytes ≡ false) where
      pub extra_told : has_extra_header bytes ≡ true → Some Ehs ≡ read_fault_of bytes
      extra_told extra =
          sym
          (cond-false _ _ _ (le-ltb _ _ long) ∙ cond-false _ _ _ right ∙ cond-false _ _ _ plain
          ∙ cond-true _ _ _ extra)

      -- and without an extra header segment
      module _ (alone : has_extra_header bytes ≡ false) where
        pub code_told : is_among known_codes (code_of bytes) ≡ false → Some Code ≡ read_fault_of bytes
        code_told other =
            sym
            (cond-false _ _ _ (le-ltb _ _ long) ∙ cond-false _ _ _ right ∙ cond-false _ _ _ plain
            ∙ cond-false _ _ _ alone ∙ cond-true _ _ _ (ap not other))

        pub nothing_told : is_among known_codes (code_of bytes) ≡ true → None ≡ read_fault_of bytes
        nothing_told taken =
            sym
            (cond-false _ _ _ (le-ltb _ _ long) ∙ cond-false _ _ _ right ∙ cond-false _ _ _ plain
            ∙ cond-false _ _ _ alone ∙ cond-false _ _ _ (ap not taken))

-- a DATA OUT or DATA IN has as many bytes as it counts, if it has some
pub transfer_may : (bytes : List ℕ) (n code : ℕ) → (code ≡ 2) ⊎ (code ≡ 34) → 0 < n →
    (n == field_at 4 16 bytes) ≡ may_have code bytes n
transfer_may bytes n code (inl out) some =
    subst (λ (k : ℕ). (n == field_at 4 16 bytes) ≡ may_have k bytes n) (sym out)
    (ap (λ (b : Bool). b && (n == field_at 4 16 bytes)) (sym (lt-ltb 0 n some)))
transfer_may bytes n code (inr back) some =
    subst (λ (k : ℕ). (n == field_at 4 16 bytes) ≡ may_have k bytes n) (sym back)
    (ap (λ (b : Bool). b && (n == field_at 4 16 bytes)) (sym (lt-ltb 0 n some)))

-- a message of another kind may have any number of bytes
pub unlisted_may : (bytes : List ℕ) (n code : ℕ) → is_among (0x02 ∷ 0x22 ∷ []) code ≡ false → (code == 0x16) ≡ false
    → (code == 0x21) ≡ false → (code == 0x36) ≡ false
    → is_among (0x00 ∷ 0x01 ∷ 0x04 ∷ 0x20 ∷ 0x24 ∷ 0x31 ∷ []) code ≡ false → true ≡ may_have code bytes n
unlisted_may bytes n code a b c d e =
    sym (cond-false _ _ _ a ∙ cond-false _ _ _ b ∙ cond-false _ _ _ c ∙ cond-false _ _ _ d ∙ cond-false _ _ _ e)

-- the length that a header states, n, is wrong
module _ (bytes : List ℕ) (n : ℕ) (stated : n ≡ segment_length bytes) where
  pub too_long : 4096 < n → true ≡ has_wrong_length bytes
  too_long h =
      sym
      (ap (λ (b : Bool). (b || not (may_have (code_of bytes) bytes n)) || not (length bytes == 32 + n + padding n))
      (lt-ltb 4096 n h))
      ∙ ap
      (λ (k : ℕ). (nat_lt 4096 k || not (may_have (code_of bytes) bytes k)) || not (length bytes == 32 + k + padding k))
      stated

  pub not_had : n ≤ 4096 → not (may_have (code_of bytes) bytes n) ≡ true → true ≡ has_wrong_length bytes
  not_had h other =
      sym
      (ap (λ (b : Bool). (b || not (may_have (code_of bytes) bytes n)) || not (length bytes == 32 + n + padding n))
      (le-ltb 4096 n h)
      ∙ ap (λ (b : Bool). b || not (length bytes == 32 + n + padding n)) other)
      ∙ ap
      (λ (k : ℕ). (nat_lt 4096 k || not (may_have (code_of bytes) bytes k)) || not (length bytes == 32 + k + padding k))
      stated

  pub by_total : n ≤ 4096 → not (may_have (code_of bytes) bytes n) ≡ false →
      not (length bytes == 32 + n + padding n) ≡ has_wrong_length bytes
  by_total h right =
      sym
      (ap (λ (b : Bool). b || not (length bytes == 32 + n + padding n)) (or_from _ _ (le-ltb 4096 n h) right))
      ∙ ap
      (λ (k : ℕ). (nat_lt 4096 k || not (may_have (code_of bytes) bytes k)) || not (length bytes == 32 + k + padding k))
      stated
