-- What is the newest outside of the free blocks is the newest of all.
use Rattle.recovery.proofs.Common.{AreWithin, Bool, Cell, Cells, CellsSound, Counts, FoundPage, GroupPage, HasNone}
use Rattle.recovery.proofs.Common.{Holds, IsContentPage, IsFenced, IsKept, IsNewest, IsNewestMark, IsNotHigher, Key}
use Rattle.recovery.proofs.Common.{List, Mark, None, Nothing, Numbers, Option, Place, Some, Spot, Tag, ap, arith}
use Rattle.recovery.proofs.Common.{block_by, blocks_by, cases_Bool, false, fence_in, if◌then◌else◌, inl, inr, key_of}
use Rattle.recovery.proofs.Common.{outside, spot_of, subst, suc, sym, ℕ, ⊎_elim, ◌<◌, ◌∙◌, ◌≡◌, ◌≢◌, ◌≤◌, ◌⊎◌}
use Rattle.ufs_spec.specs.Disk.{Free}
use Rattle.ufs_spec.specs.Kept.{recorded_in}
use Rattle.ufs_spec.proofs.Facts.{at_most}
use Rattle.ufs_laws.proofs.array_cells.NewestFound.{holds}
use Rattle.power_loss.specs.FreeBlocks.{AreFoundFree}
use Rattle.power_loss.proofs.openings.FreeTogether.{first_blocks}
use Rattle.power_loss.proofs.openings.NewestOutside.{newest_outside}

-- what the newest mark records is kept
pub recorded_kept : (c : Cells) (m : Option Mark) (kept : ℕ) → IsNewestMark c m → IsKept c m kept →
    recorded_in m ≤ kept
recorded_kept c None kept newest is = omega arith
recorded_kept c (Some m) kept newest is =
    let a = is.recorded.marks newest.0.0 m newest.0.1 in
    let b = is.above in
    omega arith

-- What stands outside of the free blocks

module _ (free : Spot → Bool) (c : Cells) where
  out_here : (p : Place) → free (spot_of p) ≡ false → outside free c p ≡ c p
  out_here p e = ap (λ (b : Bool). if b then Nothing else c p) e

  pub outside_there : (p : Place) (x : Cell) → x ≢ Nothing → outside free c p ≡ x →
      (free (spot_of p) ≡ false) × (c p ≡ x)
  outside_there p x some h = ⊎_elim
      (λ e. absurd (some (sym h ∙ ap (λ (b : Bool). if b then Nothing else c p) e)))
      (λ e. (e, sym (out_here p e) ∙ h)) (cases_Bool (free (spot_of p)))

  counts_there : (m : Option Mark) (p : Place) (t : Tag) (body : List ℕ) → Counts (outside free c) m p t body →
      Counts c m p t body
  counts_there m p t body h = record {
    there = (outside_there p (GroupPage t body) (some_page t body) h.there).1;
    free = h.free;
  }
    where
      some_page : (t : Tag) (body : List ℕ) → GroupPage t body ≢ Nothing
      some_page t body e = cc

  pub counts_outside : (m : Option Mark) (p : Place) (t : Tag) (body : List ℕ) → free (spot_of p) ≡ false →
      Counts c m p t body → Counts (outside free c) m p t body
  counts_outside m p t body out h = record { there = out_here p out ∙ h.there; free = h.free }

-- the page that has the key's content, said of all cells: the newest, at the lowest of its places outside of the free
-- blocks
abbrev pub IsPageOutside : (Spot → Bool) → Cells → Option Mark → ℕ → Key → Option FoundPage → Type 0
IsPageOutside free c m kept k None = HasNone c m (suc kept) k
IsPageOutside free c m kept k (Some e) =
    (body : List ℕ)
    × IsNewest c m (suc kept) k e.place e.tag body
    × (free (spot_of e.place) ≡ false)
    × ((q : Place) (u : Tag) (other : List ℕ) → free (spot_of q) ≡ false → Counts c m q u other → key_of u ≡ k →
    u.number ≡ e.tag.number → IsNotHigher e.place q)

module _ (n : Numbers) (c : Cells) (within : AreWithin n c) (m : Option Mark) (sound : CellsSound c m)
    (bad free : Spot → Bool) (x : AreFoundFree c m bad free) (kept : ℕ) (up : recorded_in m ≤ kept) where
  not_free : (s : Spot) → blocks_by bad free s ≢ Free → free s ≡ false
  not_free s h = ⊎_elim (λ e. absurd (h (λ i. block_by (x.good s e i) (e i)))) (λ e. e) (cases_Bool (free s))

  -- the newest page of a key has a place outside of the free blocks
  record Newest (k : Key) : Type 0 where
    number : ℕ
    place : Place
    tag : Tag
    body : List ℕ
    counts : Counts (outside free c) m place tag body
    key : key_of tag ≡ k
    same : tag.number ≡ number
    bound : number < suc kept
    above : (q : Place) (u : Tag) (other : List ℕ) → Counts c m q u other → key_of u ≡ k → u.number < suc kept →
        u.number ≤ number

  newest_of : (k : Key) → Newest k ⊎ HasNone c m (suc kept) k
  newest_of k = by (holds n c within m (suc kept) k).1
    where
      by : {content : List ℕ} → Holds c m (suc kept) k content → Newest k ⊎ HasNone c m (suc kept) k
      by (inr none) = inr none.0
      by {content} (inl (p, t, h)) =
          let o = newest_outside c m bad (blocks_by bad free) (first_blocks n c within m sound bad free x) (suc kept) k
          p t content h (omega arith) in
          let same = o.4 in
          inl record {
            number = t.number;
            place = o.0;
            tag = o.1;
            body = o.2;
            counts = counts_outside free c m o.0 o.1 o.2 (not_free (spot_of o.0) o.5)
                (record { there = o.3; free = λ f. h.counts.free (subst (IsFenced (fence_in m)) (sym same.1) f) });
            key = sym same.0 ∙ h.key;
            same = sym same.1;
            bound = h.within;
            above = h.greatest;
          }

  pub page_outside : (k : Key) (e : Option FoundPage) → IsContentPage (outside free c) m kept k e →
      IsPageOutside free c m kept k e
  page_outside k None none = λ p t body counts key. ⊎_elim (λ l. l)
      (λ low. ⊎_elim
      (λ w.
      let z = none w.place w.tag w.body w.counts w.key in
      let s = w.same in
      let b = w.bound in
      absurd (omega arith))
      (λ all. absurd (let z = all p t body counts key in omega arith)) (newest_of k)) (at_most (suc kept) t.number)
  page_outside k (Some e) (body, newest, lowest) =
      let there = outside_there free c e.place (GroupPage e.tag body) (some_page e.tag body) newest.counts.there in (
        body,
        record {
          counts = counts_there free c m e.place e.tag body newest.counts;
          key = newest.key;
          within = newest.within;
          greatest = λ q u other counts key low. ⊎_elim
              (λ w.
              let s = w.same in
              let b = w.bound in
              let a = w.above q u other counts key low in
              let g = newest.greatest w.place w.tag w.body w.counts w.key (omega arith) in
              omega arith)
              (λ all. let z = all q u other counts key in absurd (omega arith)) (newest_of k);
        },
        there.0,
        λ q u other out counts key same. lowest q u other (counts_outside free c m q u other out counts) key same,
      )
    where
      some_page : (t : Tag) (body : List ℕ) → GroupPage t body ≢ Nothing
      some_page t body e = cc
