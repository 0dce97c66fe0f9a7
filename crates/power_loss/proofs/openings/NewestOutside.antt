-- The newest page of a key stands outside of the blocks that are free when a life begins, or a copy of it does.
use Rattle.power_loss.proofs.Common.{◌≡◌, ◌≢◌, ℕ, ◌<◌, Bool, List, Option, Some, None, refl, sym, ap, ◌∙◌, subst, inl}
use Rattle.power_loss.proofs.Common.{inr, ⊎_elim, arith, Cells, GroupPage, Mark, BlockState, Free, Spot, spot_of}
use Rattle.power_loss.proofs.Common.{IsFenced, fence_in, recorded_in, SamePage, AreFirstBlocks, IsSpare, Key, Place}
use Rattle.power_loss.proofs.Common.{Tag, page_not_nothing}
use Rattle.power_loss.proofs.openings.OpenedPages.{free_or_not}
use Rattle.ufs_spec.specs.Kept.{Counts, IsNewest}
use Rattle.ufs_spec.specs.Openings.{IsFree}

-- a copy of the page outside of the free blocks
abbrev pub StandsOutside : Cells → (Spot → BlockState) → Tag → List ℕ → Type 0
StandsOutside c blocks t body =
    (q : Place) × (u : Tag) × (other : List ℕ)
    × (c q ≡ GroupPage u other) × SamePage t body u other × (blocks (spot_of q) ≢ Free)

module _ (c : Cells) (m : Option Mark) (bad : Spot → Bool) (blocks : Spot → BlockState)
    (x : AreFirstBlocks c m bad blocks) where
  module _ (bound : ℕ) (k : Key) (p : Place) (t : Tag) (body : List ℕ) (newest : IsNewest c m bound k p t body)
      (up : recorded_in m < bound) where
    not_spare : (mark : Mark) → m ≡ Some mark → IsSpare c (Some mark) (IsFree blocks) (GroupPage t body) →
        StandsOutside c blocks t body
    not_spare mark is (inl f) = absurd (newest.counts.free (subst (λ z. IsFenced z t.number) (sym (ap fence_in is)) f))
    not_spare mark is (inr s) = ⊎_elim (λ same. (s.place, s.tag, s.other, s.there, same, s.outside))
        (λ over.
        let counts : Counts c m s.place s.tag s.other = record {
          there = s.there;
          free = λ f. over.counts (subst (λ z. IsFenced z s.tag.number) (ap fence_in is) f);
        } in
        let same = ap recorded_in is in
        let far = over.recorded in
        let l = newest.greatest s.place s.tag s.other counts (over.key ∙ newest.key) (omega arith) in
        let n = over.newer in
        absurd (omega arith)) s.instead

    in_free : (mark : Option Mark) → m ≡ mark → IsSpare c mark (IsFree blocks) (GroupPage t body) →
        StandsOutside c blocks t body
    in_free None is h = absurd h
    in_free (Some mark) is h = not_spare mark is h

    pub newest_outside : StandsOutside c blocks t body
    newest_outside = ⊎_elim
        (λ free. in_free m refl (subst (IsSpare c m (IsFree blocks)) newest.counts.there
        (x.spare p free (page_not_nothing _ _ _ newest.counts.there))))
        (λ out. (p, t, body, newest.counts.there, (refl, refl, refl, refl, refl), out))
        (free_or_not (blocks (spot_of p)))
