-- The greatest number seen, page by page.
use Rattle.recovery.proofs.Common.{AreListed, Cells, Fence, FoundPage, IsAmong, IsMarksRecord, List, Mark, MarkPage}
use Rattle.recovery.proofs.Common.{None, Option, Place, Some, ap, arith, fence_in, length, max, refl, slice_get, subst}
use Rattle.recovery.proofs.Common.{sym, ℕ, ⊎_elim, ◌+◌, ◌∙◌, ◌≡◌, ◌≤◌}
use Rattle.ufs_spec.specs.Openings.{IsGreatestSeen}
use Rattle.recovery.proofs.greatest_numbers.Among.{among_all, among_before, among_last, among_more}
use Rattle.recovery.specs.Greatest.{FrontiersWithin, NumbersWithin, fence_end}

-- no number of the first pages, of the marks or of the fence is above it
pub record AreBelow (pages : List FoundPage) (fence : Option Fence) (records i top : ℕ) : Type 0 where
  pub numbers : (e : FoundPage) → IsAmong pages i e → e.tag.number ≤ top
  pub frontiers : (e : FoundPage) → IsAmong pages i e → e.tag.frontier ≤ top
  pub marks : records ≤ top
  pub fence_last : fence_end fence ≤ top

-- the least such number
abbrev pub IsTopAmong : List FoundPage → Option Fence → ℕ → ℕ → ℕ → Type 0
IsTopAmong pages fence records i top =
    AreBelow pages fence records i top × ((other : ℕ) → AreBelow pages fence records i other → top ≤ other)

module _ (pages : List FoundPage) (fence : Option Fence) (records : ℕ) where
  pub top_more : (i top : ℕ) (e : FoundPage) → slice_get pages i ≡ Some e → IsTopAmong pages fence records i top →
      IsTopAmong pages fence records (i + 1) (max (max top e.tag.number) e.tag.frontier)
  top_more i top e at h = (
    record {
      numbers = λ other k. ⊎_elim (λ (before : IsAmong pages i other).
          old other.tag.number top e.tag.number e.tag.frontier (h.0.numbers other before))
          (λ (last : slice_get pages i ≡ Some other).
          subst (λ (x : FoundPage). x.tag.number ≤ max (max top e.tag.number) e.tag.frontier) (same other last)
          (number top e.tag.number e.tag.frontier))
          (among_more pages i other k);
      frontiers = λ other k. ⊎_elim (λ (before : IsAmong pages i other).
          old other.tag.frontier top e.tag.number e.tag.frontier (h.0.frontiers other before))
          (λ (last : slice_get pages i ≡ Some other).
          subst (λ (x : FoundPage). x.tag.frontier ≤ max (max top e.tag.number) e.tag.frontier) (same other last)
          (frontier top e.tag.number e.tag.frontier))
          (among_more pages i other k);
      marks = old records top e.tag.number e.tag.frontier h.0.marks;
      fence_last = old (fence_end fence) top e.tag.number e.tag.frontier h.0.fence_last;
    },
    λ other k. least top e.tag.number e.tag.frontier other
        (h.1 other (record {
          numbers = λ x l. k.numbers x (among_before pages i x l);
          frontiers = λ x l. k.frontiers x (among_before pages i x l);
          marks = k.marks;
          fence_last = k.fence_last;
        })) (k.numbers e (among_last pages i e at)) (k.frontiers e (among_last pages i e at)),
  )
    where
      same : (other : FoundPage) → slice_get pages i ≡ Some other → e ≡ other
      same other last = cc

      old : (x a b d : ℕ) → x ≤ a → x ≤ max (max a b) d
      old x a b d l = omega arith

      number : (a b d : ℕ) → b ≤ max (max a b) d
      number a b d = omega arith

      frontier : (a b d : ℕ) → d ≤ max (max a b) d
      frontier a b d = omega arith

      least : (a b d other : ℕ) → a ≤ other → b ≤ other → d ≤ other → max (max a b) d ≤ other
      least a b d other k l r = omega arith

  -- of all pages
  pub top_seen : (c : Cells) (m : Option Mark) (top : ℕ) → AreListed c pages → fence_in m ≡ fence →
      IsMarksRecord c records → IsTopAmong pages fence records (length pages) top → IsGreatestSeen c m top
  top_seen c m top listed is marks h = (
    record {
      numbers = λ p t body at.
          let found = listed.all p t body at in
          h.0.numbers (record { place = p; tag = t }) (among_all pages found.0 _ found.1);
      frontiers = λ p t body at.
          let found = listed.all p t body at in
          h.0.frontiers (record { place = p; tag = t }) (among_all pages found.0 _ found.1);
      marks = λ p other at. through other.records records top (marks.0 p other at) h.0.marks;
      fence = λ f at.
          subst (λ (x : ℕ). x ≤ top) (ap fence_end (sym is ∙ at)) h.0.fence_last;
    },
    λ other k. h.1 other (record {
      numbers = λ e l. let there = listed.there l.0 e l.2 in k.numbers e.place e.tag there.0 there.1;
      frontiers = λ e l. let there = listed.there l.0 e l.2 in k.frontiers e.place e.tag there.0 there.1;
      marks = ⊎_elim (λ (none : records ≡ 0). omega arith)
          (λ (some : (p : Place) × (one : Mark) × (c p ≡ MarkPage one) × (one.records ≡ records)).
          subst (λ (x : ℕ). x ≤ other) some.3 (k.marks some.0 some.1 some.2)) marks.1;
      fence_last = of_fence fence other (λ f at. k.fence f (is ∙ at));
    }),
  )
    where
      through : (a b d : ℕ) → a ≤ b → b ≤ d → a ≤ d
      through a b d l r = omega arith

      of_fence : (o : Option Fence) (other : ℕ) → ((f : Fence) → o ≡ Some f → f.last ≤ other) → fence_end o ≤ other
      of_fence None other l = omega arith
      of_fence (Some f) other l = l f refl

  pub top_bounded : (top limit : ℕ) → IsTopAmong pages fence records (length pages) top → NumbersWithin pages limit →
      FrontiersWithin pages limit → records ≤ limit → fence_end fence ≤ limit → top ≤ limit
  top_bounded top limit h numbers frontiers marks end = h.1 limit (record {
    numbers = λ e k. numbers k.0 e k.2;
    frontiers = λ e k. frontiers k.0 e k.2;
    marks = marks;
    fence_last = end;
  })
