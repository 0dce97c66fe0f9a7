-- What a scan finds is what the definitions open over the same pages.
use Rattle.recovery.proofs.Common.{AreLost, Bool, Cells, CellsSound, Fence, Found, FoundPage, IsContentPage, IsFound}
use Rattle.recovery.proofs.Common.{IsIndex, IsKept, IsNewestMark, Key, List, Mark, None, Numbers, Option, Some, Spot}
use Rattle.recovery.proofs.Common.{ap, arith, blocks_by, fence_in, greatest_number, index_known, newest_found, outside}
use Rattle.recovery.proofs.Common.{refl, shape_of_numbers, slice_get, subst, sym, ℕ, ◌∙◌, ◌≡◌, ◌≤◌}
use Rattle.ufs_spec.specs.Disk.{Ready, Stale, Untouched, Vacancy}
use Rattle.ufs_spec.specs.Kept.{recorded_in}
use Rattle.ufs_spec.specs.Openings.{IsAtMost, IsFirstFence, IsGreatestSeen, IsMendingAt, IsOpenedTranslation}
use Rattle.ufs_spec.specs.Openings.{IsVacancyAt, StandsAt, lost_from, number_of}
use Rattle.ufs_spec.specs.Translation.{Translation, Unmarked}
use Rattle.ufs_laws.proofs.array_cells.StandsForOne.{kept_one, mark_one}
use Rattle.recovery.specs.Found.{IsVacancyFound}
use Rattle.recovery.specs.Listed.{AreInRange}
use Rattle.recovery.specs.Opened.{IsFenceFound, IsPageOf, IsVacancyOf, OpensFound}
use Rattle.recovery.specs.declared.keys.FoundBlock.{FoundBlock}
use Rattle.recovery.specs.declared.keys.FoundBlock.TheVariants as block
use Rattle.power_loss.specs.FreeBlocks.{AreFoundFree}
use Rattle.power_loss.proofs.openings.FreeAlone.{blocks_one}
use Rattle.power_loss.proofs.openings.FreeTogether.{first_blocks}
use Rattle.recovery.proofs.opened.ContentPages.{is_page_of}
use Rattle.recovery.proofs.opened.OutsidePages.{page_outside, recorded_kept}
use Rattle.recovery.proofs.opened.LostLists.{lost_differ, lost_one}

-- Numbers

top_one : (c : Cells) (m : Option Mark) (x y : ℕ) → IsGreatestSeen c m x → IsGreatestSeen c m y → x ≡ y
top_one c m x y h g = let l = h.1 y g.0 in let r = g.1 x h.0 in omega (arith, l, r)

-- a newest mark's numbers are in range
marked : (c : Cells) (m : Option Mark) → AreInRange c → IsNewestMark c m → (number_of m ≤ greatest_number) ×
    (recorded_in m ≤ greatest_number)
marked c None range newest = (omega arith, omega arith)
marked c (Some m) range newest = range.marks newest.0.0 m newest.0.1

-- no number that was seen is above the greatest
seen_at_most : (c : Cells) (m : Option Mark) → AreInRange c → CellsSound c m → IsNewestMark c m →
    IsAtMost c m greatest_number
seen_at_most c m range sound newest = record {
  numbers = λ p t body e. (range.pages p t body e).0;
  frontiers = λ p t body e. (range.pages p t body e).1;
  marks = λ p other e. (range.marks p other e).1;
  fence = λ f e. subst (λ (x : ℕ). x ≤ greatest_number) (sound.fence f e) (marked c m range newest).1;
}

-- Mending

-- the fence of the first mark is over the lost numbers
fence_found : (f : Found) (m : Option Mark) (low top : ℕ) (fence : Option Fence) → low ≡ f.first_lost →
    top ≡ f.greatest_seen → IsFirstFence m low top fence → IsFenceFound f fence
fence_found f m low top None first last h = tt
fence_found f m low top (Some fence) first last h = (h.0 ∙ first, h.1 ∙ last)

-- Vacancies

-- a block in which nothing opens has no page that opens
untouched_one : (c : Cells) (s : Spot) (v : Vacancy) → IsVacancyAt c s Untouched → IsVacancyAt c s v → v ≡ Untouched
untouched_one c s Untouched none there = refl
untouched_one c s Stale none there = absurd (there.2 (none there.0 there.1))
untouched_one c s Ready none there = absurd there

stale_one : (c : Cells) (s : Spot) (v : Vacancy) → IsVacancyAt c s Stale → IsVacancyAt c s v → v ≡ Stale
stale_one c s Untouched some there = absurd (some.2 (there some.0 some.1))
stale_one c s Stale some there = refl
stale_one c s Ready some there = absurd there

-- a free block has the vacancy that was found
vacancy_there : (c : Cells) (s : Spot) (b : FoundBlock) (v : Vacancy) → IsVacancyFound c s b → IsVacancyAt c s v →
    IsVacancyOf b v
vacancy_there c s block.Free v found there = untouched_one c s v found there
vacancy_there c s block.Stale v found there = stale_one c s v found there
vacancy_there c s block.Closed v found there = tt
vacancy_there c s block.Bad v found there = tt

module _ (n : Numbers) (c : Cells) (bad : Spot → Bool) (f : Found) (t : Translation)
    (sound : CellsSound c t.ledger.newest) (found : IsFound n c bad f) (opened : IsOpenedTranslation n c bad t) where
  pub same_newest : newest_found f ≡ t.ledger.newest
  same_newest = mark_one c t.ledger.newest (newest_found f) t.ledger.newest sound found.basis.newest
      opened.ledger.newest

  kept_there : IsKept c t.ledger.newest f.kept
  kept_there = subst (λ m. IsKept c m f.kept) same_newest found.basis.kept

  pub same_kept : f.kept ≡ opened.ledger.kept
  same_kept = kept_one c t.ledger.newest f.kept opened.ledger.kept kept_there opened.ledger.is_kept

  top_there : IsGreatestSeen c t.ledger.newest f.greatest_seen
  top_there = subst (λ m. IsGreatestSeen c m f.greatest_seen) same_newest found.greatest_seen

  same_top : f.greatest_seen ≡ t.ledger.greatest_seen
  same_top = top_one c t.ledger.newest f.greatest_seen t.ledger.greatest_seen top_there opened.ledger.greatest_seen

  same_low : f.first_lost ≡ t.ledger.first_lost
  same_low = found.first_lost ∙ (λ i. lost_from (fence_in (same_newest i)) (same_kept i)) ∙ sym opened.ledger.first_lost

  -- the blocks that were found free are those of the opening
  free_there : AreFoundFree c t.ledger.newest bad found.basis.free
  free_there = subst (λ m. AreFoundFree c m bad found.basis.free) same_newest found.basis.free_right

  same_blocks : t.disk.blocks ≡ blocks_by bad found.basis.free
  same_blocks = λ i s. blocks_one n c found.basis.within t.ledger.newest bad t.disk.blocks
      (blocks_by bad found.basis.free) opened.disk.blocks
      (first_blocks n c found.basis.within t.ledger.newest sound bad found.basis.free free_there) s i

  standing_there : (number index : ℕ) → StandsAt c (blocks_by bad found.basis.free)
      (record { number = number; index = index }) (t.ledger.standing number index)
  standing_there number index = subst (λ blocks. StandsAt c blocks (record { number = number; index = index })
      (t.ledger.standing number index)) same_blocks (opened.ledger.standing number index)

  content_there : (k : Key) (i : ℕ) → IsIndex (shape_of_numbers n) k i →
      (e : Option FoundPage) × (slice_get f.contents.items i ≡ Some e)
      × IsPageOf t.ledger.standing e (t.ledger.first_page k)
  content_there k i index =
      let r = found.contents k i index in
      let page : IsContentPage (outside found.basis.free c) t.ledger.newest opened.ledger.kept k r.0 =
      subst (λ x. IsContentPage (outside found.basis.free c) t.ledger.newest x k r.0) same_kept
      (subst (λ m. IsContentPage (outside found.basis.free c) m f.kept k r.0) same_newest r.2) in (
        r.0,
        r.1,
        is_page_of c t.ledger.newest sound bad found.basis.free free_there.good t.ledger.standing standing_there
            opened.ledger.kept k r.0 (t.ledger.first_page k)
            (page_outside n c found.basis.within t.ledger.newest sound bad found.basis.free free_there
            opened.ledger.kept
            (recorded_kept c t.ledger.newest opened.ledger.kept opened.ledger.newest opened.ledger.is_kept) k r.0 page)
            (opened.ledger.first_page k (index_known (shape_of_numbers n) k i index)),
      )

  lost_there : AreLost c t.ledger.first_lost t.ledger.greatest_seen f.lost.items
  lost_there = subst (λ x. AreLost c x t.ledger.greatest_seen f.lost.items) same_low
      (subst (λ x. AreLost c f.first_lost x f.lost.items) same_top found.lost)

  mending_due : (fence : Option Fence) (lost : List Key) → t.work.mending ≡ Unmarked fence lost →
      (lost ≡ f.lost.items) × IsFenceFound f fence
  mending_due fence lost is =
      let due = subst (IsMendingAt n c t.ledger.newest t.ledger.first_lost t.ledger.greatest_seen) is opened.mending in (
        lost_one c t.ledger.first_lost t.ledger.greatest_seen lost f.lost.items due.2 lost_there,
        fence_found f t.ledger.newest t.ledger.first_lost t.ledger.greatest_seen fence (sym same_low) (sym same_top)
            due.1,
      )

  pub found_opens : OpensFound n f t
  found_opens = record {
    newest = same_newest;
    marks = opened.ledger.marks ∙ ap number_of (sym same_newest);
    marks_within = (marked c (newest_found f) found.in_range found.basis.newest).0;
    greatest_seen = same_top;
    seen_within = top_there.1 greatest_number
        (seen_at_most c t.ledger.newest found.in_range sound opened.ledger.newest);
    first_lost = same_low;
    contents = content_there;
    lost = mending_due;
    differ = lost_differ c f.first_lost f.greatest_seen f.lost.items found.lost;
    as_many = found.as_many;
    blocks = λ i s at.
        let r = found.blocks i s at in (
          r.0,
          r.1,
          ap (λ blocks. blocks s) same_blocks ∙ sym r.2,
          vacancy_there c s r.0 (t.disk.vacancies s) r.3 (opened.disk.vacancies s),
        );
  }
