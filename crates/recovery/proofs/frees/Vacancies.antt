-- What the list of the blocks with a page that opens says of a block is what the cells say of it.
use Rattle.recovery.proofs.Common.{AreListed, AreMarksListed, AreWithin, Bool, Cell, Cells, FoundMark, FoundPage}
use Rattle.recovery.proofs.Common.{GroupPage, List, MarkPage, Nothing, Numbers, Some, Spot, ap, block_of, false}
use Rattle.recovery.proofs.Common.{found_block, inl, inr, length, mark_not_nothing, refl, slice_get, slice_get_within}
use Rattle.recovery.proofs.Common.{spot_number, spot_of, true, ℕ, ◌≡◌, ◌⊎◌}
use Rattle.ufs_spec.specs.Disk.{Stale, Untouched}
use Rattle.ufs_spec.specs.Openings.{IsVacancyAt}
use Rattle.recovery.specs.Found.{IsVacancyFound}
use Rattle.recovery.specs.Frees.{AreOpening, block_number}
use Rattle.recovery.proofs.frees.Latests.{inside, page_inside, page_some}
use Rattle.recovery.proofs.frees.Spots.{IsInside, one_spot}

module _ (n : Numbers) (c : Cells) (within : AreWithin n c) (pages : List FoundPage) (marks : List FoundMark)
    (listed : AreListed c pages) (marked : AreMarksListed c marks) (opening : List Bool)
    (are : AreOpening n.blocks pages (length pages) marks (length marks) opening) (s : Spot) (is : IsInside n s) where
  -- a page or a mark that was read lies in it
  stale_there : slice_get opening (spot_number n.blocks s) ≡ Some true → IsVacancyAt c s Stale
  stale_there h = by (are.opens (spot_number n.blocks s) h)
    where
      by : ((i : ℕ) × (e : FoundPage) × (slice_get pages i ≡ Some e) × (block_of n.blocks e ≡ spot_number n.blocks s))
          ⊎ ((i : ℕ) × (e : FoundMark) × (slice_get marks i ≡ Some e)
          × (block_number n.blocks e.place ≡ spot_number n.blocks s)) → IsVacancyAt c s Stale
      by (inl (i, e, at, same)) = (
        e.place,
        one_spot n (spot_of e.place) s (page_inside n c within pages listed i e at) is same,
        page_some n c within pages listed i e at,
      )
      by (inr (i, e, at, same)) =
          let r = marked.there i e at in
          let some = mark_not_nothing (c e.place) r.0 r.1 in
          (e.place, one_spot n (spot_of e.place) s (inside n c within e.place some) is same, some)

  -- none does, so each page of it is nothing
  untouched_there : slice_get opening (spot_number n.blocks s) ≡ Some false → IsVacancyAt c s Untouched
  untouched_there h p here = by (c p) refl
    where
      by : (x : Cell) → c p ≡ x → c p ≡ Nothing
      by Nothing e = e
      by (GroupPage t body) e =
          let r = listed.all p t body e in
          let page : FoundPage = record { place = p; tag = t } in
          absurd ((are.holds_none (spot_number n.blocks s) h).0 r.0 page (slice_get_within pages r.0 page r.1) r.1
          (ap (spot_number n.blocks) here))
      by (MarkPage m) e =
          let r = marked.all p m e in
          let mark : FoundMark = record { place = p; number = m.number; records = m.records } in
          absurd ((are.holds_none (spot_number n.blocks s) h).1 r.0 mark (slice_get_within marks r.0 mark r.1) r.1
          (ap (spot_number n.blocks) here))

  pub vacancy_found : (free opens bad : Bool) → slice_get opening (spot_number n.blocks s) ≡ Some opens →
      IsVacancyFound c s (found_block free opens bad)
  vacancy_found free opens true h = tt
  vacancy_found true true false h = stale_there h
  vacancy_found true false false h = untouched_there h
  vacancy_found false opens false h = tt
