-- Whether a page is needed, told by the newest page of its key, is whether the newest mark's fence has its number or a
-- page overwrites it.
use Rattle.recovery.proofs.Common.{Cells, FoundPage, IsContentPage, IsFenced, Mark, None, Option, Some, Tag, and_parts}
use Rattle.recovery.proofs.Common.{arith, false, false≢true, inl, inr, is_fenced, key_of, lt-ltb, ltb-true, not}
use Rattle.recovery.proofs.Common.{not-true, sym, true, ⊎_elim, ◌∙◌, ◌≡◌, ◌⊎◌}
use Rattle.ufs_spec.proofs.Facts.{and_false, not-false}
use Rattle.recovery.specs.Frees.{IsOverwrittenIn, is_needed, is_older}
use Rattle.recovery.proofs.key_order.NewestPages.{fenced_test, fenced_told}

module _ (c : Cells) (m : Mark) (t : Tag) where
  older_told : (o : Option FoundPage) → IsContentPage c (Some m) m.records (key_of t) o → is_older t o ≡ true →
      IsOverwrittenIn c m t
  older_told None is h = absurd (false≢true h)
  older_told (Some e) is h = (
    e.place,
    e.tag,
    is.0,
    is.1.counts.there,
    record {
      key = is.1.key;
      newer = ltb-true t.number e.tag.number h;
      recorded = let l = is.1.within in omega (arith, l);
      counts = is.1.counts.free;
    },
  )

  older_test : (o : Option FoundPage) → IsContentPage c (Some m) m.records (key_of t) o → IsOverwrittenIn c m t →
      is_older t o ≡ true
  older_test None is (q, u, other, there, over) =
      let l = is q u other (record { there = there; free = over.counts }) over.key in
      let r = over.recorded in
      absurd (omega (arith, l, r))
  older_test (Some e) is (q, u, other, there, over) =
      let r = over.recorded in
      let n = over.newer in
      let l = is.1.greatest q u other (record { there = there; free = over.counts }) over.key (omega (arith, r)) in
      lt-ltb t.number e.tag.number (omega (arith, l, n))

  -- a page that is not needed may go
  pub spare_told : (o : Option FoundPage) → IsContentPage c (Some m) m.records (key_of t) o →
      is_needed m.fence t o ≡ false → IsFenced m.fence t.number ⊎ IsOverwrittenIn c m t
  spare_told o is h =
      ⊎_elim
      (λ (off : not (is_fenced m.fence t.number) ≡ false).
      inl (fenced_told m.fence t.number (not-false (is_fenced m.fence t.number) off)))
      (λ (off : (not (is_fenced m.fence t.number) ≡ true) × (not (is_older t o) ≡ false)).
      inr (older_told o is (not-false (is_older t o) off.1)))
      (and_false (not (is_fenced m.fence t.number)) (not (is_older t o)) h)

  -- a page that is needed is neither in the fence nor overwritten
  pub needed_told : (o : Option FoundPage) → IsContentPage c (Some m) m.records (key_of t) o →
      is_needed m.fence t o ≡ true → IsFenced m.fence t.number ⊎ IsOverwrittenIn c m t → ⊥
  needed_told o is h (inl fenced) =
      let r = and_parts (not (is_fenced m.fence t.number)) (not (is_older t o)) h in
      false≢true (sym (not-true (is_fenced m.fence t.number) r.0) ∙ fenced_test m.fence t.number fenced)
  needed_told o is h (inr over) =
      let r = and_parts (not (is_fenced m.fence t.number)) (not (is_older t o)) h in
      false≢true (sym (not-true (is_older t o) r.1) ∙ older_test o is over)
