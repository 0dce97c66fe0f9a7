-- A page of an area, of which a write has a part: the part is laid over what the page had.
use Rattle.device.proofs.Common.{List, ap, arith, drop, get_or, inl, inr, length, length-drop, length-take-le, sym}
use Rattle.device.proofs.Common.{with_part, ℕ, ◌++◌, ◌+◌, ◌-◌, ◌<◌, ◌∙◌, ◌≡◌, ◌≤◌, ◌⊎◌}
use Rattle.std.proofs.Common.{take}
use Rattle.std.proofs.lemmas.Bool.{cases_lt}
use Rattle.std.proofs.lemmas.List.{get_or-append_right, get_or-drop, get_or-take, get_or_append_left, same_lists}
use Rattle.ufs_spec.proofs.PlainFacts.{length-with_part}
use Rattle.ufs_laws.proofs.plain_contents.ListParts.{with_part-outside}

-- a place in the part that is written
inside : (at : ℕ) (new old : List ℕ) (i d : ℕ) → at + length new ≤ length old → at ≤ i → i < at + length new →
    get_or (with_part at new old) i d ≡ get_or new (i - at) d
inside at new old i d within low high =
    let front : length (take at old) ≡ at = length-take-le at old (omega arith) in
    let here : i - at < length new = omega arith in
    get_or-append_right (take at old) (new ++ drop (at + length new) old) at i d front low
    ∙ get_or_append_left new (drop (at + length new) old) d (i - at) here

-- the page begins at place `m`. From its place `lo` on it has `count` of the new bytes, from that of place `from` on:
-- as many as there are in the page
pub record LiesInPage (at many m lo from count : ℕ) : Type 0 where
  pub aligned : m + lo ≡ at + from
  pub fits : lo + count ≤ 4096
  pub there : from + count ≤ many
  pub begins : (lo ≡ 0) ⊎ (from ≡ 0)
  pub ends : (lo + count ≡ 4096) ⊎ (from + count ≡ many)

module _ (at m lo from count : ℕ) (new old : List ℕ) (within : at + length new ≤ length old)
    (whole : m + 4096 ≤ length old) (lies : LiesInPage at (length new) m lo from count) where
  abbrev part : List ℕ
  part = take count (drop from new)

  abbrev page : List ℕ → List ℕ
  page xs = take 4096 (drop m xs)

  as_long : length (with_part at new old) ≡ length old
  as_long = length-with_part at new old within

  page_long : (xs : List ℕ) → m + 4096 ≤ length xs → length (page xs) ≡ 4096
  page_long xs long = length-take-le 4096 (drop m xs) (let rest = length-drop m xs in omega arith)

  part_long : length part ≡ count
  part_long =
      length-take-le count (drop from new) (let rest = length-drop from new in let there = lies.there in omega arith)

  at_place : (xs : List ℕ) (k d : ℕ) → k < 4096 → get_or (page xs) k d ≡ get_or xs (m + k) d
  at_place xs k d low = get_or-take 4096 (drop m xs) k d low ∙ get_or-drop m xs k d

  within_page : lo + length part ≤ length (page old)
  within_page =
      let long = page_long old whole in
      let its = part_long in
      let fits = lies.fits in
      omega arith

  outside : (k d : ℕ) → k < 4096 → (m + k < at) ⊎ (at + length new ≤ m + k) → (k < lo) ⊎ (lo + length part ≤ k) →
      get_or (page (with_part at new old)) k d ≡ get_or (with_part lo part (page old)) k d
  outside k d low far apart =
      at_place (with_part at new old) k d low
      ∙ (with_part-outside at new old (m + k) d within far
      ∙ (sym (at_place old k d low) ∙ sym (with_part-outside lo part (page old) k d within_page apart)))

  before : (k d : ℕ) → k < 4096 → k < lo →
      get_or (page (with_part at new old)) k d ≡ get_or (with_part lo part (page old)) k d
  before k d low first = outside k d low (inl (by lies.begins)) (inl first)
    where
      by : (lo ≡ 0) ⊎ (from ≡ 0) → m + k < at
      by (inl none) = absurd (omega arith)
      by (inr start) = let aligned = lies.aligned in omega arith

  behind : (k d : ℕ) → k < 4096 → lo + count ≤ k →
      get_or (page (with_part at new old)) k d ≡ get_or (with_part lo part (page old)) k d
  behind k d low last = outside k d low (inr (by lies.ends)) (inr (let its = part_long in omega arith))
    where
      by : (lo + count ≡ 4096) ⊎ (from + count ≡ length new) → at + length new ≤ m + k
      by (inl full) = absurd (omega arith)
      by (inr done) = let aligned = lies.aligned in omega arith

  between : (k d : ℕ) → k < 4096 → lo ≤ k → k < lo + count →
      get_or (page (with_part at new old)) k d ≡ get_or (with_part lo part (page old)) k d
  between k d low first last =
      let aligned = lies.aligned in
      let there = lies.there in
      let its = part_long in
      let place : m + k - at ≡ from + (k - lo) = omega arith in
      at_place (with_part at new old) k d low
      ∙ (inside at new old (m + k) d within (omega arith) (omega arith)
      ∙ (ap (λ (i : ℕ). get_or new i d) place
      ∙ (sym (get_or-drop from new (k - lo) d)
      ∙ (sym (get_or-take count (drop from new) (k - lo) d (omega arith))
      ∙ sym (inside lo part (page old) k d within_page first (omega arith))))))

  each : (k d : ℕ) → k < 4096 → get_or (page (with_part at new old)) k d ≡ get_or (with_part lo part (page old)) k d
  each k d low =
      elim (cases_lt k lo) [
        | inl first ↦ before k d low first
        | inr start ↦ elim (cases_lt k (lo + count)) [
          | inl last ↦ between k d low start last
          | inr past ↦ behind k d low past
        ]
      ]

  -- so does the page that the whole list has then
  pub page_written : take 4096 (drop m (with_part at new old)) ≡ with_part lo part (page old)
  page_written =
      let long = page_long (with_part at new old) (let same = as_long in omega arith) in
      let other = length-with_part lo part (page old) within_page ∙ page_long old whole in
      same_lists (page (with_part at new old)) (with_part lo part (page old)) (long ∙ sym other)
      (λ k d lt. each k d (omega arith))
