-- The new pages of a command take the place of claims.
use Rattle.write_cache.proofs.Common.{Bool, Claimed, List, None, Option, Pending, Some, [], ap, append-nil}
use Rattle.write_cache.proofs.Common.{append_assoc, claim_brought, claims_of, cond, drop, empty_claim, false}
use Rattle.write_cache.proofs.Common.{filter-append, filter_map, get_or, is_claim_of, length, map, not, option_map}
use Rattle.write_cache.proofs.Common.{page_moved, refl, slice_get, sym, take, take_more, true, without_claims, ℕ, ◌++◌}
use Rattle.write_cache.proofs.Common.{◌+◌, ◌<◌, ◌∙◌, ◌∷◌, ◌≡◌}
use Rattle.std.specs.List.{cons_option}
use Rattle.std.proofs.lemmas.List.Elements.{filter_map-append}
use Rattle.write_cache.specs.declared.rests.NewPage.{NewPage}
use Rattle.write_cache.specs.Rests.{body_brought, claim_with, page_brought, page_of}
use Rattle.write_cache.proofs.Turns.{first_next}

-- One claim further

-- what the reader's claims become, one claim further
pub brought_more : (reader i : ℕ) (f : Claimed → Option Pending) (claims turning : List Claimed)
    (pages : List Pending) → i < length claims →
    turning ≡ drop i claims ++ without_claims (take i claims) reader →
    (pages ++ filter_map f (claims_of (take i claims) reader)) ++ filter_map f (claims_of (take 1 turning) reader)
    ≡ pages ++ filter_map f (claims_of (take (i + 1) claims) reader)
brought_more reader i f claims turning pages less is =
    append_assoc pages (filter_map f (claims_of (take i claims) reader))
    (filter_map f (claims_of (take 1 turning) reader))
    ∙ ap (λ (xs : List Pending). pages ++ xs)
    (sym (filter_map-append f (claims_of (take i claims) reader) (claims_of (take 1 turning) reader))
    ∙ ap (λ (xs : List Claimed). filter_map f xs)
    (ap (λ (xs : List Claimed). claims_of (take i claims) reader ++ claims_of xs reader)
    (first_next reader i claims turning less is)
    ∙ sym (filter-append (is_claim_of reader) (take i claims) (get_or claims i (empty_claim 0 0) ∷ []))
    ∙ ap (λ (xs : List Claimed). claims_of xs reader) (sym (take_more claims i (empty_claim 0 0) less))))

-- a claim for which the group has no page becomes none
pub none_moved : (reader number : ℕ) (xs : List NewPage) (claim : Claimed) (claims : List Claimed)
    (ps : List Pending) → take 1 claims ≡ claim ∷ [] → is_claim_of reader claim ≡ true →
    slice_get xs claim.index ≡ None →
    ps ≡ ps ++ filter_map (page_moved number xs) (claims_of (take 1 claims) reader)
none_moved reader number xs claim claims ps first mine none =
    sym (ap (λ (cs : List Claimed). ps ++ filter_map (page_moved number xs) (claims_of cs reader)) first
    ∙ ap (λ (b : Bool). ps ++ filter_map (page_moved number xs) (cond b (claim ∷ []) [])) mine
    ∙ ap (λ (o : Option NewPage). ps
    ++ cons_option (option_map (λ (x : NewPage). page_of number (length xs) claim claim.body x) o) []) none
    ∙ append-nil ps)

-- First the bytes, then the pages

module _ (ps : List Pending) (reader number : ℕ) (xs : List NewPage) where
  abbrev brought : Claimed → Claimed
  brought = claim_brought ps reader xs

  reader_with : (b : Bool) (o : Option NewPage) (claim : Claimed) →
      is_claim_of reader (cond b (claim_with ps o claim) claim) ≡ is_claim_of reader claim
  reader_with true None claim = refl
  reader_with true (Some x) claim = refl
  reader_with false o claim = refl

  -- the bytes do not change who claimed the slot
  reader_kept : (claim : Claimed) → is_claim_of reader (brought claim) ≡ is_claim_of reader claim
  reader_kept claim = reader_with (is_claim_of reader claim) (slice_get xs claim.index) claim

  one_page : (o : Option NewPage) (claim : Claimed) → slice_get xs claim.index ≡ o →
      page_moved number xs (claim_with ps o claim)
      ≡ option_map (λ (x : NewPage). page_of number (length xs) claim (body_brought ps x claim.body) x) o
  one_page None claim e =
      ap (option_map (λ (x : NewPage). page_of number (length xs) claim claim.body x)) e
  one_page (Some y) claim e =
      ap (option_map (λ (x : NewPage). page_of number (length xs) (claim_with ps (Some y) claim)
      (claim_with ps (Some y) claim).body x)) e

  -- the pages are those that the claims become at once
  pub brought_pages : (claims : List Claimed) →
      filter_map (page_moved number xs) (claims_of (map brought claims) reader)
      ≡ filter_map (page_brought ps number xs) (claims_of claims reader)
  brought_pages [] = refl
  brought_pages (claim ∷ claims) = by (is_claim_of reader claim) refl (brought_pages claims)
    where
      rest : List Claimed
      rest = claims_of (map brought claims) reader

      by : (b : Bool) → is_claim_of reader claim ≡ b →
          filter_map (page_moved number xs) rest
          ≡ filter_map (page_brought ps number xs) (claims_of claims reader) →
          filter_map (page_moved number xs) (cond (is_claim_of reader (brought claim)) (brought claim ∷ rest) rest)
          ≡ filter_map (page_brought ps number xs) (cond b (claim ∷ claims_of claims reader) (claims_of claims reader))
      by true e more =
          ap (λ (z : Bool). filter_map (page_moved number xs) (cond z (brought claim ∷ rest) rest))
          (reader_kept claim ∙ e)
          ∙ ap (λ (o : Option Pending). cons_option o (filter_map (page_moved number xs) rest))
          (ap (λ (z : Bool). page_moved number xs (cond z (claim_with ps (slice_get xs claim.index) claim) claim)) e
          ∙ one_page (slice_get xs claim.index) claim refl)
          ∙ ap (λ (qs : List Pending). cons_option (page_brought ps number xs claim) qs) more
      by false e more =
          ap (λ (z : Bool). filter_map (page_moved number xs) (cond z (brought claim ∷ rest) rest))
          (reader_kept claim ∙ e)
          ∙ more

  -- and the claims of others are left
  pub brought_left : (claims : List Claimed) →
      without_claims (map brought claims) reader ≡ without_claims claims reader
  brought_left [] = refl
  brought_left (claim ∷ claims) = by (is_claim_of reader claim) refl (brought_left claims)
    where
      rest : List Claimed
      rest = without_claims (map brought claims) reader

      by : (b : Bool) → is_claim_of reader claim ≡ b → rest ≡ without_claims claims reader →
          cond (not (is_claim_of reader (brought claim))) (brought claim ∷ rest) rest
          ≡ cond (not b) (claim ∷ without_claims claims reader) (without_claims claims reader)
      by true e more =
          ap (λ (z : Bool). cond (not z) (brought claim ∷ rest) rest) (reader_kept claim ∙ e)
          ∙ more
      by false e more =
          ap (λ (z : Bool). cond (not z) (brought claim ∷ rest) rest) (reader_kept claim ∙ e)
          ∙ ap (λ (z : Bool). cond z (claim_with ps (slice_get xs claim.index) claim) claim ∷ rest) e
          ∙ ap (λ (cs : List Claimed). claim ∷ cs) more
