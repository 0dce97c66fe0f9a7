-- Over sound dies what was found tells the plain state that the dies stand for.
use Rattle.recovery.proofs.Common.{Array, Bool, Cells, CellsSound, Found, FoundPage, GroupPage, Holds, IsCell, IsFound}
use Rattle.recovery.proofs.Common.{IsIndex, IsKept, Key, List, Mark, None, Numbers, Option, Place, Shows, Some, Spot}
use Rattle.recovery.proofs.Common.{index_known, inl, inr, newest_found, one_cell, refl, shape_of_numbers, slice_get}
use Rattle.recovery.proofs.Common.{subst, suc, ℕ, ◌≡◌}
use Rattle.ufs_spec.specs.Cells.{IsPlace, Opens}
use Rattle.ufs_spec.specs.Dies.{blank_page}
use Rattle.ufs_spec.specs.Keys.{content}
use Rattle.ufs_spec.specs.Kept.{CellsStandFor, StandsFor}
use Rattle.ufs_spec.specs.Plain.{Plain, zero_block}
use Rattle.ufs_spec.specs.Sound.{Sound}
use Rattle.ufs_laws.proofs.array_cells.StandsForOne.{cells_one, content_one, kept_one, mark_one}
use Rattle.ufs_laws.proofs.array_cells.StandsForSomething.{ContentsArePlain, ContentsAreThere, stands_for_something}
use Rattle.ufs_laws.proofs.plain_contents.PlainFromContents.{contents_there, state_is_plain}
use Rattle.recovery.proofs.opened.OutsidePages.{IsPageOutside, page_outside, recorded_kept}
use Rattle.recovery.specs.Stood.{HasContent, IsStoodFor}

are_plain : ContentsArePlain
are_plain = state_is_plain

are_there : ContentsAreThere
are_there = λ s f contents whole k is_key. contents_there s f contents k is_key

module _ (array : Array) (c : Cells) (m : Option Mark) (kept : ℕ) (shown : Shows array c) (sound : CellsSound c m)
    (k : Key) (x : List ℕ) (holds : Holds c m (suc kept) k x) where
  -- the page that has the key's content up to the kept number has what is held there
  has_content : (free : Spot → Bool) (e : Option FoundPage) → IsPageOutside free c m kept k e → HasContent array e x
  has_content free None none = content_one c m (suc kept) k x zero_block sound holds (inr (none, refl))
  has_content free (Some e) page =
      let cell : IsCell (array e.place) (GroupPage e.tag page.0) =
      subst (IsCell (array e.place)) page.1.counts.there (shown e.place) in
      subst (Opens (array e.place) e.tag)
      (content_one c m (suc kept) k page.0 x sound (inl (e.place, e.tag, page.1)) holds) cell.0

module _ (n : Numbers) (array : Array) (c : Cells) (bad : Spot → Bool) (f : Found) (p : Plain) (shown : Shows array c)
    (found : IsFound n c bad f) (st : CellsStandFor n c p) (sound : CellsSound c (newest_found f)) where
  same_newest : st.newest ≡ newest_found f
  same_newest = mark_one c (newest_found f) st.newest (newest_found f) sound st.is_newest found.basis.newest

  kept_there : IsKept c (newest_found f) st.kept
  kept_there = subst (λ m. IsKept c m st.kept) same_newest st.is_kept

  same_kept : st.kept ≡ f.kept
  same_kept = kept_one c (newest_found f) st.kept f.kept kept_there found.basis.kept

  contents : (k : Key) (i : ℕ) → IsIndex (shape_of_numbers n) k i →
      (e : Option FoundPage) × (slice_get f.contents.items i ≡ Some e) × HasContent array e (content p k)
  contents k i index =
      let r = found.contents k i index in
      let held = st.holds k (index_known (shape_of_numbers n) k i index) in (
        r.0,
        r.1,
        has_content array c (newest_found f) f.kept shown sound k (content p k)
            (subst (λ m. Holds c m (suc f.kept) k (content p k)) same_newest
            (subst (λ y. Holds c st.newest (suc y) k (content p k)) same_kept held)) found.basis.free r.0
            (page_outside n c found.basis.within (newest_found f) sound bad found.basis.free found.basis.free_right
            f.kept (recorded_kept c (newest_found f) f.kept found.basis.newest found.basis.kept) k r.0 r.2),
      )

-- over sound dies there is the plain state that they stand for, and it is told
pub found_stands : (n : Numbers) (array : Array) (bad : Spot → Bool) (f : Found) →
    ((p : Place) → (IsPlace n p → ⊥) → array p ≡ blank_page) →
    ((c : Cells) → Shows array c → IsFound n c bad f) → Sound array → (p : Plain) × IsStoodFor n array f p
found_stands n array bad f outside found s = (stood.0, record { stands = stood.1; contents = told })
  where
    here : IsFound n s.cells bad f
    here = found s.cells s.shown

    stood : (p : Plain) × StandsFor n array p
    stood = stands_for_something are_plain are_there n array outside s
        (record {
          cells = s.cells;
          shown = s.shown;
          newest = newest_found f;
          is_newest = here.basis.newest;
          suit = here.suits;
        })

    same : s.cells ≡ stood.1.0
    same = cells_one one_cell array s.cells stood.1.0 s.shown stood.1.1

    newest : s.newest ≡ newest_found f
    newest = mark_one s.cells s.newest s.newest (newest_found f) s.sound s.is_newest here.basis.newest

    sound : CellsSound stood.1.0 (newest_found f)
    sound = subst (λ c. CellsSound c (newest_found f)) same (subst (CellsSound s.cells) newest s.sound)

    told : (k : Key) (i : ℕ) → IsIndex (shape_of_numbers n) k i →
        (e : Option FoundPage) × (slice_get f.contents.items i ≡ Some e) × HasContent array e (content stood.0 k)
    told = contents n array stood.1.0 bad f stood.0 stood.1.1 (found stood.1.0 stood.1.1) stood.1.2 sound
