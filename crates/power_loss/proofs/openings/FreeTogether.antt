-- What is found free over sound cells may go together: what stands in for each page of it lies outside of all of it.
use Rattle.power_loss.proofs.Common.{◌≡◌, ◌≢◌, ◌⊎◌, ℕ, zero, suc, ◌+◌, ◌≤◌, Bool, true, false, List, Option, Some, None}
use Rattle.power_loss.proofs.Common.{refl, sym, ap, ◌∙◌, subst, inl, inr, ⊎_elim, arith, cases_Bool, true≢false}
use Rattle.power_loss.proofs.Common.{AreWithin, Cell, Cells, GroupPage, Mark, MarkPage, Nothing, key_of, BlockState}
use Rattle.power_loss.proofs.Common.{Closed, Free, Spot, spot_of, IsFenced, CellsSound, SamePage, AreFirstBlocks}
use Rattle.power_loss.proofs.Common.{HasStandIn, IsSpare, Overwrites, Numbers, Place, Tag, page_not_nothing, HasName}
use Rattle.power_loss.proofs.Common.{Name, name_of}
use Rattle.power_loss.specs.FreeBlocks.{AreFoundFree, HasCopyOutside, IsItOrFoundFree, IsOverwrittenIn, MayGoWith}
use Rattle.power_loss.specs.FreeBlocks.{block_by, blocks_by}
use Rattle.ufs_laws.proofs.array_cells.NewestFound.{holds, is_fenced}
use Rattle.ufs_spec.specs.Kept.{Holds}
use Rattle.ufs_spec.specs.Openings.{IsFree, IsItOrFreeBefore}
use Rattle.power_loss.proofs.openings.BlocksByAge.{inside_spot, rank, rank_else, end, below_end}
use Rattle.power_loss.proofs.openings.PagesThatMayGo.{spare_goes, spare_less, is_overwritten}

free_by_block : (b f : Bool) → block_by b f ≡ Free → (b ≡ false) × (f ≡ true)
free_by_block true f e = cc
free_by_block false true e = (refl, refl)
free_by_block false false e = cc

closed_by_block : (b f : Bool) → block_by b f ≡ Closed → (b ≡ false) × (f ≡ false)
closed_by_block true f e = cc
closed_by_block false true e = cc
closed_by_block false false e = (refl, refl)

module _ (n : Numbers) (c : Cells) (within : AreWithin n c) (m : Option Mark) (sound : CellsSound c m)
    (bad free : Spot → Bool) (x : AreFoundFree c m bad free) where
  -- the page has to be kept, but for its copies
  record IsKeptBy (mark : Mark) (t : Tag) : Type 0 where
    shown : IsFenced mark.fence t.number → ⊥
    newest : IsOverwrittenIn c mark t → ⊥

  kept_alike : {mark : Mark} {t : Tag} (u : Tag) {body other : List ℕ} → SamePage t body u other → IsKeptBy mark t →
      IsKeptBy mark u
  kept_alike {mark} u same k = record {
    shown = λ f. k.shown (subst (IsFenced mark.fence) (sym same.1) f);
    newest = λ o.
        let over = o.4 in
        let l = over.newer in
        let e = same.1 in
        k.newest (
          o.0,
          o.1,
          o.2,
          o.3,
          record {
            key = over.key ∙ sym same.0;
            newer = omega arith;
            recorded = over.recorded;
            counts = over.counts;
          },
        );
  }

  -- a page of the same name is a copy, since the cells are sound
  same_page : {p q : Place} {t : Tag} {body : List ℕ} → c p ≡ GroupPage t body → (k : HasName c (name_of t) q) →
      SamePage t body k.0 k.1
  same_page {p} {q} {t} {body} there k =
      sound.pages p q t k.0 body k.1 there k.2 (sym (ap (λ (x : Name). x.number) k.3))
      (inl (sym (ap (λ (x : Name). x.index) k.3)))

  abbrev IsOut : Spot → Type 0
  IsOut s = free s ≡ true

  -- going from copy to copy to later blocks ends outside of the free ones
  copy_outside : (fuel : ℕ) (mark : Mark) (p : Place) (t : Tag) (body : List ℕ) → m ≡ Some mark →
      c p ≡ GroupPage t body → IsKeptBy mark t → free (spot_of p) ≡ true →
      end n c within ≤ rank n c within (spot_of p) + fuel → HasCopyOutside c IsOut t
  copy_outside zero mark p t body is there kept h far =
      let low = below_end n c within (spot_of p) (inside_spot n c within p (page_not_nothing _ _ _ there)) in
      absurd (omega arith)
  copy_outside (suc fuel) mark p t body is there kept h far =
      by (λ q u other there kept h far. copy_outside fuel mark q u other is there kept h far)
      (subst (λ (z : Option Mark × Cell).
      MayGoWith c z.0 (IsItOrFoundFree c free (spot_of p)) z.1) (λ i. (is i, there i))
      (x.goes (spot_of p) h p refl (page_not_nothing _ _ _ there)))
    where
      Deeper : Type 0
      Deeper = (q : Place) (u : Tag) (other : List ℕ) → c q ≡ GroupPage u other → IsKeptBy mark u →
          free (spot_of q) ≡ true → end n c within ≤ rank n c within (spot_of q) + fuel → HasCopyOutside c IsOut u

      next : Deeper → (k : HasCopyOutside c (IsItOrFoundFree c free (spot_of p)) t) (b : Bool) →
          free (spot_of k.0) ≡ b → HasCopyOutside c IsOut t
      next deeper k false e = (k.0, k.1, λ out. true≢false (sym out ∙ e))
      next deeper k true e =
          let later = rank_else n c within (spot_of k.0) (spot_of p) (λ at. k.2 (inl at))
          (λ older. k.2 (inr (e, older))) (inside_spot n c within p (page_not_nothing _ _ _ there)) in
          let z = deeper k.0 k.1.0 k.1.1 k.1.2 (kept_alike k.1.0 (same_page there k.1) kept) e (omega arith) in
          (z.0, (z.1.0, z.1.1, z.1.2, z.1.3 ∙ k.1.3), z.2)

      by : Deeper → MayGoWith c (Some mark) (IsItOrFoundFree c free (spot_of p)) (GroupPage t body) →
          HasCopyOutside c IsOut t
      by deeper (inl f) = absurd (kept.shown f)
      by deeper (inr (inl o)) = absurd (kept.newest o)
      by deeper (inr (inr k)) = next deeper k (free (spot_of k.0)) refl

  copied_out : (mark : Mark) (p : Place) (t : Tag) (body : List ℕ) → m ≡ Some mark → c p ≡ GroupPage t body →
      IsKeptBy mark t → HasCopyOutside c IsOut t
  copied_out mark p t body is there kept = ⊎_elim
      (λ h. copy_outside (end n c within) mark p t body is there kept h (omega arith))
      (λ h. (p, (t, body, there, refl), λ out. true≢false (sym out ∙ h)))
      (cases_Bool (free (spot_of p)))

  -- what overwrites a page has a copy outside of the free blocks, or is overwritten by such a page
  overwritten_out : (mark : Mark) (t : Tag) (body : List ℕ) → m ≡ Some mark → IsOverwrittenIn c mark t →
      HasStandIn c mark IsOut t body
  overwritten_out mark t body is o = by (holds n c within (Some mark) (suc mark.records) (key_of t)).1
    where
      over : Overwrites mark o.1 t
      over = o.4

      by : {content : List ℕ} → Holds c (Some mark) (suc mark.records) (key_of t) content →
          HasStandIn c mark IsOut t body
      by (inr none) =
          let l = none.0 o.0 o.1 o.2 (record { there = o.3; free = over.counts }) over.key in
          let r = over.recorded in
          absurd (omega arith)
      by {content} (inl (q, u, newest)) =
          let l = newest.greatest o.0 o.1 o.2 (record { there = o.3; free = over.counts }) over.key
          (let r = over.recorded in omega arith) in
          let up = over.newer in
          let bound = newest.within in
          let kept : IsKeptBy mark u = record {
            shown = newest.counts.free;
            newest = λ z.
                let w : Overwrites mark z.1 u = z.4 in
                let a = newest.greatest z.0 z.1 z.2 (record { there = z.3; free = w.counts }) (w.key ∙ newest.key)
                (let r = w.recorded in omega arith) in
                let b = w.newer in
                omega arith;
          } in
          let k = copied_out mark q u content is newest.counts.there kept in
          let same = same_page newest.counts.there k.1 in
          let number = same.1 in
          record {
            place = k.0;
            tag = k.1.0;
            other = k.1.1;
            there = k.1.2;
            outside = k.2;
            instead = inr record {
              key = sym same.0 ∙ newest.key;
              newer = omega arith;
              recorded = omega arith;
              counts = λ f. newest.counts.free (subst (IsFenced mark.fence) (sym same.1) f);
            };
          }

  page_spare : (mark : Mark) (p : Place) (t : Tag) (body : List ℕ) → m ≡ Some mark → c p ≡ GroupPage t body →
      IsSpare c (Some mark) IsOut (GroupPage t body)
  page_spare mark p t body is there = ⊎_elim (λ f. inl f)
      (λ shown. inr (⊎_elim (λ o. overwritten_out mark t body is o)
      (λ none. copy (copied_out mark p t body is there (record { shown = shown; newest = none })))
      (is_overwritten n c within mark t))) (is_fenced mark.fence t.number)
    where
      copy : HasCopyOutside c IsOut t → HasStandIn c mark IsOut t body
      copy k = record {
        place = k.0;
        tag = k.1.0;
        other = k.1.1;
        there = k.1.2;
        outside = k.2;
        instead = inl (same_page there k.1);
      }

  cell_spare : (newest : Option Mark) (p : Place) (cell : Cell) → m ≡ newest → c p ≡ cell → cell ≢ Nothing →
      MayGoWith c newest (IsItOrFoundFree c free (spot_of p)) cell → IsSpare c newest IsOut cell
  cell_spare None p cell is there some h = absurd h
  cell_spare (Some mark) p Nothing is there some h = absurd h
  cell_spare (Some mark) p (MarkPage other) is there some h = h
  cell_spare (Some mark) p (GroupPage t body) is there some h = page_spare mark p t body is there

  -- the blocks are those of an opening
  pub first_blocks : AreFirstBlocks c m bad (blocks_by bad free)
  first_blocks = record {
    were_bad = λ s e. ap (λ b. block_by b (free s)) e;
    were_good = λ s e. good (free s) (ap (λ b. block_by b (free s)) e);
    spare = λ p h some.
        let f = free_by_block (bad (spot_of p)) (free (spot_of p)) h in
        spare_less m IsOut (IsFree (blocks_by bad free)) (c p) (λ q is out. (free_by_block (bad (spot_of q))
        (free (spot_of q)) out).1) (cell_spare m p (c p) refl refl some (x.goes (spot_of p) f.1 p refl some));
    oldest_first = λ s h.
        let f = closed_by_block (bad s) (free s) h in
        let k = x.stays s f.0 f.1 in (
          k.0,
          k.1,
          k.2,
          λ may. k.3 (spare_goes m (IsItOrFreeBefore c (blocks_by bad free) s) (IsItOrFoundFree c free s) (c k.0)
              (λ q is z. ⊎_elim (λ it. inl it)
              (λ y. inr (λ j. block_by (x.good (spot_of q) y.0 j) (y.0 j), y.1)) z) may),
        );
  }
    where
      good : {y : BlockState} (f : Bool) → y ≡ block_by false f → (y ≡ Free) ⊎ (y ≡ Closed)
      good true e = inl e
      good false e = inr e
