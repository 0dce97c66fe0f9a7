-- What fills a register.
use Rattle.std.proofs.Common.{◌≡◌, ◌∙◌, ℕ, true, List, [], ◌∷◌, Option, Some, None, ap, map, refl, subst, sym}
use Rattle.std.proofs.Common.{◌==◌, bit_and, bit_or, inl, inr, slice_get}
use Rattle.std.proofs.lemmas.Bool.{eqb-true, or_cases}
use Rattle.std.proofs.lemmas.List.{length-replicate}
use Rattle.std.proofs.lemmas.Nat.{and_or_self}
use Rattle.ufs_spec.specs.declared.exchanges.ReadState.{ReadState}
use Rattle.ufs_spec.specs.Frames.{Frame, frame_bytes}
use Rattle.ufs_spec.specs.Rpmb.{Region, program_key, read_counter, write_data}
use Rattle.ufs_spec.specs.RpmbResponses.{counter_response, filled_with, is_success, key_response, signed, with_reads}
use Rattle.ufs_spec.specs.RpmbResponses.{write_response}
use Rattle.rpmb.specs.Answers.{HasAskedData, HasPlaces, IsRead}
use Rattle.rpmb.specs.Kept.{Machine}

pub key_filled : (m : Machine) (region : Region) (asked : Frame) (code : ℕ) (frame : List ℕ) → asked.kind ≡ program_key
    → frame ≡ frame_bytes (key_response code)
    → record m { registers = record m.registers { result = Some frame } }
    ≡ record m { registers = filled_with region (asked ∷ []) code m.registers }
key_filled m region asked code frame kind e =
    rw kind (ap (λ (f : List ℕ). record m { registers = record m.registers { result = Some f } }) e)

pub write_filled : (m : Machine) (region : Region) (asked made : Frame) (code : ℕ) (frame : List ℕ)
    → asked.kind ≡ write_data → m.region.key ≡ region.key → made ≡ write_response region asked code
    → (HasPlaces made → frame ∷ [] ≡ map frame_bytes (signed m.region.key (made ∷ [])))
    → record m { registers = record m.registers { result = Some frame } }
    ≡ record m { registers = filled_with region (asked ∷ []) code m.registers }
write_filled m region asked made code frame kind is_key e right =
    let has : HasPlaces (write_response region asked code) =
    record { stuff = length-replicate {A = ℕ} 196 0; key_or_mac = length-replicate {A = ℕ} 32 0 } in
    rw kind
    (ap (λ (l : List (List ℕ)). record m { registers = record m.registers { result = slice_get l 0 } })
    (right (subst HasPlaces (sym e) has) ∙ (λ i. map frame_bytes (signed (is_key i) (e i ∷ [])))))

pub counter_filled : (m : Machine) (region : Region) (asked made : Frame) (code : ℕ) (frame : List ℕ)
    → asked.kind ≡ read_counter → m.region.key ≡ region.key → made ≡ counter_response region asked code
    → (HasPlaces made → frame ∷ [] ≡ map frame_bytes (signed m.region.key (made ∷ [])))
    → record m { registers = record m.registers { response = frame ∷ [] } }
    ≡ record m { registers = filled_with region (asked ∷ []) code m.registers }
counter_filled m region asked made code frame kind is_key e right =
    let has : HasPlaces (counter_response region asked code) =
    record { stuff = length-replicate {A = ℕ} 196 0; key_or_mac = length-replicate {A = ℕ} 32 0 } in
    rw kind
    (ap (λ (l : List (List ℕ)). record m { registers = record m.registers { response = l } })
    (right (subst HasPlaces (sym e) has) ∙ (λ i. map frame_bytes (signed (is_key i) (e i ∷ [])))))

-- with result 6 no request did what it asked for
no_success : (code : ℕ) → is_success (bit_or code 6) ≡ true → ⊥
no_success code success =
    elim (or_cases (bit_or code 6 == 0) (bit_or code 6 == 0x80) success) [
      | inl e ↦ (let six = ap (λ n. bit_and n 6) (sym (eqb-true (bit_or code 6) 0 e)) ∙ and_or_self 6 code in cc)
      | inr e ↦ (let six = ap (λ n. bit_and n 6) (sym (eqb-true (bit_or code 6) 0x80 e)) ∙ and_or_self 6 code in cc)
    ]

-- so its answer needs no data
pub lost_asks : (region : Region) (fs : List Frame) (code : ℕ) (bytes : List ℕ)
    → HasAskedData region fs (bit_or code 6) bytes
lost_asks region [] code bytes = tt
lost_asks region (f ∷ fs) code bytes = λ kind success. absurd (no_success code success)

-- the result of a request one of whose pages could not be read
pub lost_told : (region : Region) (fs : List Frame) (code : ℕ) (pages : List ReadState) (read : Option (List ℕ))
    → read ≡ None → IsRead region fs code pages read → bit_or code 6 ≡ with_reads pages code
lost_told region fs code pages None e lost = rw lost refl
lost_told region fs code pages (Some bytes) e lost = cc
