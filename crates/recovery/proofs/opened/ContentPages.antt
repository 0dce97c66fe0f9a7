-- The page that has a key's content, found among all pages, is the one that stands under the name with which an opened
-- layer has the key.
use Rattle.recovery.proofs.Common.{Bool, Cells, CellsSound, Counts, FoundPage, GroupPage, IsFenced, IsNewest}
use Rattle.recovery.proofs.Common.{IsNotHigher, Key, List, Mark, None, Option, Place, Some, Spot, Tag, ap, arith}
use Rattle.recovery.proofs.Common.{block_by, blocks_by, cases_Bool, false, fence_in, inl, inr, key_of, refl, spot_of}
use Rattle.recovery.proofs.Common.{subst, suc, sym, true, ℕ, ⊎_elim, ◌∙◌, ◌≡◌, ◌≢◌}
use Rattle.ufs_spec.specs.Disk.{Bad, BlockState, Closed, Filling, Free}
use Rattle.ufs_spec.specs.Translation.{is_free, name_of}
use Rattle.ufs_spec.specs.Openings.{HasName, IsFirst, StandsAt}
use Rattle.ufs_spec.specs.declared.layer.Name.{Name}
use Rattle.ufs_spec.proofs.Equalities.{place_is}
use Rattle.recovery.proofs.opened.OutsidePages.{IsPageOutside}
use Rattle.recovery.specs.Opened.{IsPageOf}

-- two places of which none is higher are the same
pub same_place : (p q : Place) → IsNotHigher p q → IsNotHigher q p → p ≡ q
same_place p q h g = place_is p q (omega (arith, h, g)) (omega (arith, h, g)) (omega (arith, h, g))

named : (t : Tag) (number index : ℕ) → t.number ≡ number → t.index ≡ index →
    name_of t ≡ record { number = number; index = index }
named t number index e f i = record { number = e i; index = f i }

free_same : {x y : BlockState} → is_free x ≡ is_free y → y ≢ Free → x ≢ Free
free_same {x} {y} e out free = out (told y (sym e ∙ ap is_free free))
  where
    told : (y : BlockState) → is_free y ≡ true → y ≡ Free
    told Free e = refl
    told (Filling next) e = cc
    told Closed e = cc
    told Bad e = cc

module _ (c : Cells) (m : Option Mark) (sound : CellsSound c m) (bad free : Spot → Bool)
    (good : (s : Spot) → free s ≡ true → bad s ≡ false) where
  out_of_free : (s : Spot) → free s ≡ false → blocks_by bad free s ≢ Free
  out_of_free s e h = told (bad s) (sym (ap (λ f. block_by (bad s) f) e) ∙ h)
    where
      told : (b : Bool) → block_by b false ≡ Free → ⊥
      told true h = cc
      told false h = cc

  free_of_out : (s : Spot) → blocks_by bad free s ≢ Free → free s ≡ false
  free_of_out s h = ⊎_elim (λ e. absurd (h (λ i. block_by (good s e i) (e i)))) (λ e. e) (cases_Bool (free s))

  -- of two newest pages of a key both have one number, and so one index
  same_number : (bound : ℕ) (k : Key) (p q : Place) (t u : Tag) (body other : List ℕ) →
      IsNewest c m bound k p t body → IsNewest c m bound k q u other → t.number ≡ u.number
  same_number bound k p q t u body other h g =
      let low = h.greatest q u other g.counts g.key g.within in
      let high = g.greatest p t body h.counts h.key h.within in
      omega (arith, low, high)

  same_index : (k : Key) (p q : Place) (t u : Tag) (body other : List ℕ) → c p ≡ GroupPage t body →
      c q ≡ GroupPage u other → key_of t ≡ k → key_of u ≡ k → t.number ≡ u.number → t.index ≡ u.index
  same_index k p q t u body other h g e f same = (sound.pages p q t u body other h g same (inr (e ∙ sym f))).2

  same_key : (p q : Place) (t u : Tag) (body other : List ℕ) → c p ≡ GroupPage t body → c q ≡ GroupPage u other →
      t.number ≡ u.number → t.index ≡ u.index → key_of t ≡ key_of u
  same_key p q t u body other h g same index = (sound.pages p q t u body other h g same (inl index)).0

  module _ (k : Key) (p : Place) (t : Tag) (body : List ℕ) (counts : Counts c m p t body) (key : key_of t ≡ k)
      (out : free (spot_of p) ≡ false)
      (lowest : (q : Place) (u : Tag) (other : List ℕ) → free (spot_of q) ≡ false → Counts c m q u other →
      key_of u ≡ k → u.number ≡ t.number → IsNotHigher p q) where
    -- a page of the same name counts as this one does, and has its key
    no_lower : (q : Place) → free (spot_of q) ≡ false → HasName c (name_of t) q → IsNotHigher p q
    no_lower q there h =
        let number : h.0.number ≡ t.number = ap (λ (x : Name). x.number) h.3 in
        let index : h.0.index ≡ t.index = ap (λ (x : Name). x.index) h.3 in
        lowest q h.0 h.1 there
        (record { there = h.2; free = λ x. counts.free (subst (IsFenced (fence_in m)) number x) })
        (same_key q p h.0 t h.1 body h.2 counts.there number index ∙ key)
        number

    stands_there : (o : Option Place) → StandsAt c (blocks_by bad free) (name_of t) o → o ≡ Some p
    stands_there None h = absurd (h p (t, body, counts.there, refl))
    stands_there (Some q) h = ⊎_elim (λ k. absurd (out_of_free (spot_of p) out k.1))
        (λ k. ap Some (same_place q p k.1 (no_lower q
        (free_of_out (spot_of q) (free_same k.0 (out_of_free (spot_of p) out))) h.0)))
        (h.1 p (t, body, counts.there, refl))

  pub is_page_of : (standing : ℕ → ℕ → Option Place) →
      ((number index : ℕ) → StandsAt c (blocks_by bad free) (record { number = number; index = index })
      (standing number index)) → (kept : ℕ) (k : Key) (e : Option FoundPage) (name : Option Name) →
      IsPageOutside free c m kept k e →
      IsFirst c m kept k name → IsPageOf standing e name
  is_page_of standing stands kept k None None h g = tt
  is_page_of standing stands kept k None (Some name) h (p, t, body, newest, is) =
      let l = h p t body newest.counts newest.key in let w = newest.within in absurd (omega (arith, l, w))
  is_page_of standing stands kept k (Some e) None (body, newest, out, lowest) g =
      let l = g e.place e.tag body newest.counts newest.key in let w = newest.within in absurd (omega (arith, l, w))
  is_page_of standing stands kept k (Some e) (Some name) (body, newest, out, lowest) (p, t, other, first, is) =
      let number = same_number (suc kept) k e.place p e.tag t body other newest first in
      let index = same_index k e.place p e.tag t body other newest.counts.there first.counts.there newest.key first.key
      number in
      let numbered : t.number ≡ name.number = ap (λ (x : Name). x.number) is in
      let indexed : t.index ≡ name.index = ap (λ (x : Name). x.index) is in
      let at : standing e.tag.number e.tag.index ≡ Some e.place =
      stands_there k e.place e.tag body newest.counts newest.key out lowest (standing e.tag.number e.tag.index)
      (stands e.tag.number e.tag.index) in (
        (λ i. record { number = sym (number ∙ numbered) i; index = sym (index ∙ indexed) i }),
        (λ i. standing ((sym (number ∙ numbered)) i) ((sym (index ∙ indexed)) i)) ∙ at,
      )
