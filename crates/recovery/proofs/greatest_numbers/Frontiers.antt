-- The greatest recorded frontier, page by page.
use Rattle.recovery.proofs.Common.{AreListed, Cells, Counts, Fence, FoundPage, IsAmong, IsFenced, IsMarksRecord, List}
use Rattle.recovery.proofs.Common.{Mark, MarkPage, Option, Place, Some, Tag, arith, fence_in, inl, inr, length, max}
use Rattle.recovery.proofs.Common.{slice_get, subst, sym, ℕ, ⊎_elim, ◌+◌, ◌<◌, ◌∙◌, ◌≡◌, ◌≤◌, ◌⊎◌}
use Rattle.ufs_spec.proofs.Facts.{at_most}
use Rattle.ufs_spec.specs.Kept.{IsRecorded}
use Rattle.recovery.proofs.greatest_numbers.Among.{among_all, among_before, among_last, among_more}

-- a page that counts, of the first ones
abbrev pub IsCounted : List FoundPage → Option Fence → ℕ → FoundPage → Type 0
IsCounted pages fence i e = IsAmong pages i e × (IsFenced fence e.tag.number → ⊥)

-- the greatest of the frontier that marks record and of those that the first pages record
pub record IsFrontier (pages : List FoundPage) (fence : Option Fence) (records i greatest : ℕ) : Type 0 where
  pub start : records ≤ greatest
  pub each : (e : FoundPage) → IsCounted pages fence i e → e.tag.frontier ≤ greatest
  pub reached : (greatest ≡ records)
      ⊎ ((e : FoundPage) × IsCounted pages fence i e × (e.tag.frontier ≡ greatest))

module _ (pages : List FoundPage) (fence : Option Fence) (records : ℕ) where
  -- a page that does not count
  pub frontier_passed : (i greatest : ℕ) (e : FoundPage) → slice_get pages i ≡ Some e → IsFenced fence e.tag.number →
      IsFrontier pages fence records i greatest → IsFrontier pages fence records (i + 1) greatest
  frontier_passed i greatest e at within h = record {
    start = h.start;
    each = λ other k. ⊎_elim (λ (before : IsAmong pages i other). h.each other (before, k.1))
        (λ (last : slice_get pages i ≡ Some other). absurd (k.1 (subst (λ (x : FoundPage). IsFenced fence x.tag.number)
        (same e other at last) within)))
        (among_more pages i other k.0);
    reached = ⊎_elim (λ (is : greatest ≡ records). inl is)
        (λ (k : (e : FoundPage) × IsCounted pages fence i e × (e.tag.frontier ≡ greatest)).
        inr (k.0, (among_before pages i k.0 k.1.0, k.1.1), k.2)) h.reached;
  }
    where
      same : (a b : FoundPage) → slice_get pages i ≡ Some a → slice_get pages i ≡ Some b → a ≡ b
      same a b l r = cc

  -- a page that counts
  pub frontier_taken : (i greatest : ℕ) (e : FoundPage) → slice_get pages i ≡ Some e →
      (IsFenced fence e.tag.number → ⊥) → IsFrontier pages fence records i greatest →
      IsFrontier pages fence records (i + 1) (max greatest e.tag.frontier)
  frontier_taken i greatest e at free h =
      let start : records ≤ greatest = h.start in
      record {
        start = omega arith;
        each = λ other k. ⊎_elim (λ (before : IsAmong pages i other).
            below_max greatest e.tag.frontier other.tag.frontier (inl (h.each other (before, k.1))))
            (λ (last : slice_get pages i ≡ Some other).
            below_max greatest e.tag.frontier other.tag.frontier (inr (same e other at last)))
            (among_more pages i other k.0);
        reached = ⊎_elim (λ (less : e.tag.frontier ≤ greatest). old (is_left greatest e.tag.frontier less))
            (λ (more : greatest < e.tag.frontier).
            inr (e, (among_last pages i e at, free), sym (is_right greatest e.tag.frontier more)))
            (at_most e.tag.frontier greatest);
      }
    where
      same : (a b : FoundPage) → slice_get pages i ≡ Some a → slice_get pages i ≡ Some b →
          b.tag.frontier ≡ a.tag.frontier
      same a b l r = cc

      below_max : (a b x : ℕ) → (x ≤ a) ⊎ (x ≡ b) → x ≤ max a b
      below_max a b x = ⊎_elim (λ (k : x ≤ a). omega arith) (λ (k : x ≡ b). omega arith)

      is_left : (a b : ℕ) → b ≤ a → max a b ≡ a
      is_left a b k = omega arith

      is_right : (a b : ℕ) → a < b → max a b ≡ b
      is_right a b k = omega arith

      old : max greatest e.tag.frontier ≡ greatest → (max greatest e.tag.frontier ≡ records)
          ⊎ ((e' : FoundPage) × IsCounted pages fence (i + 1) e' × (e'.tag.frontier ≡ max greatest e.tag.frontier))
      old is = ⊎_elim (λ (k : greatest ≡ records). inl (is ∙ k))
          (λ (k : (e' : FoundPage) × IsCounted pages fence i e' × (e'.tag.frontier ≡ greatest)).
          inr (k.0, (among_before pages i k.0 k.1.0, k.1.1), k.2 ∙ sym is)) h.reached

  -- of all pages
  pub frontier_recorded : (c : Cells) (m : Option Mark) (greatest : ℕ) → AreListed c pages → fence_in m ≡ fence →
      IsMarksRecord c records → IsFrontier pages fence records (length pages) greatest → IsRecorded c m greatest
  frontier_recorded c m greatest listed is marks h = record {
    pages = λ p t body k.
        let found = listed.all p t body k.there in
        h.each (record { place = p; tag = t }) (
          among_all pages found.0 _ found.1,
          λ (within : IsFenced fence t.number).
              k.free (subst (λ (x : Option Fence). IsFenced x t.number) (sym is) within),
        );
    marks = λ p other at. le_trans other.records records greatest (marks.0 p other at) h.start;
    reached = ⊎_elim (λ (k : greatest ≡ records). of_marks k marks.1)
        (λ (k : (e : FoundPage) × IsCounted pages fence (length pages) e × (e.tag.frontier ≡ greatest)).
        let there = listed.there k.1.0.0 k.0 k.1.0.2 in
        inr (inl (
          k.0.place,
          k.0.tag,
          there.0,
          record {
            there = there.1;
            free = λ within. k.1.1 (subst (λ (x : Option Fence). IsFenced x k.0.tag.number) is within);
          },
          k.2,
        ))) h.reached;
  }
    where
      le_trans : (a b d : ℕ) → a ≤ b → b ≤ d → a ≤ d
      le_trans a b d k l = omega arith

      of_marks : greatest ≡ records →
          ((records ≡ 0) ⊎ ((p : Place) × (other : Mark) × (c p ≡ MarkPage other) × (other.records ≡ records))) →
          (greatest ≡ 0)
          ⊎ (((p : Place) × (t : Tag) × (body : List ℕ) × Counts c m p t body × (t.frontier ≡ greatest))
          ⊎ ((p : Place) × (other : Mark) × (c p ≡ MarkPage other) × (other.records ≡ greatest)))
      of_marks k = ⊎_elim (λ (none : records ≡ 0). inl (k ∙ none))
          (λ (some : (p : Place) × (other : Mark) × (c p ≡ MarkPage other) × (other.records ≡ records)).
          inr (inr (some.0, some.1, some.2, some.3 ∙ sym k)))
