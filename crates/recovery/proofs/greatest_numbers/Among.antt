-- The first pages of a list.
use Rattle.recovery.proofs.Common.{FoundPage, IsAmong, List, Some, arith, get_or, inl, inr, length, slice_get}
use Rattle.recovery.proofs.Common.{slice_get-get_or, slice_get_within, subst, ℕ, ⊎_elim, ◌+◌, ◌<◌, ◌≡◌, ◌≤◌, ◌⊎◌}
use Rattle.std.proofs.lemmas.Bool.{cases_lt}

-- what a read past the end of a list gives
abbrev pub no_page : FoundPage
no_page = record {
  place = record { die = 0; block = 0; page = 0 };
  tag = record { kind = 0; unit = 0; address = 0; number = 0; index = 0; size = 0; frontier = 0 };
}

module _ (pages : List FoundPage) where
  -- of no page there is none
  pub among_none : (e : FoundPage) → IsAmong pages 0 e → ⊥
  among_none e h = let less : h.0 < 0 = h.1 in absurd (omega arith)

  -- of one page more it is one of those before, or the last
  pub among_more : (i : ℕ) (e : FoundPage) → IsAmong pages (i + 1) e →
      IsAmong pages i e ⊎ (slice_get pages i ≡ Some e)
  among_more i e h =
      let less : h.0 < i + 1 = h.1 in
      ⊎_elim (λ (k : h.0 < i). inl (h.0, k, h.2))
      (λ (k : i ≤ h.0).
      let is : h.0 ≡ i = omega arith in
      inr (subst (λ (x : ℕ). slice_get pages x ≡ Some e) is h.2))
      (cases_lt h.0 i)

  pub among_before : (i : ℕ) (e : FoundPage) → IsAmong pages i e → IsAmong pages (i + 1) e
  among_before i e h = let less : h.0 < i = h.1 in (h.0, omega arith, h.2)

  pub among_last : (i : ℕ) (e : FoundPage) → slice_get pages i ≡ Some e → IsAmong pages (i + 1) e
  among_last i e at = (i, omega arith, at)

  -- of all pages
  pub among_all : (i : ℕ) (e : FoundPage) → slice_get pages i ≡ Some e → IsAmong pages (length pages) e
  among_all i e at = (i, slice_get_within pages i e at, at)

  -- the page at an index, as a loop over the list reads it
  pub page_at : (i : ℕ) → i < length pages → slice_get pages i ≡ Some (get_or pages i no_page)
  page_at i less = slice_get-get_or pages i no_page less
