-- What holds of each table that was read off pages: its numbers have their ranges, and it has each block.
use Rattle.recovery.proofs.Common.{Array, Bool, Cells, DieState, Fit, FoundPage, GroupPage, IsCell, IsTable, List, Mark}
use Rattle.recovery.proofs.Common.{MarkPage, Numbers, Place, Shows, Some, Table, ap, arith, bad_of, greatest_number}
use Rattle.recovery.proofs.Common.{length, length-map, map, spots, subst, sym, ℕ, ⊎_elim, ◌∙◌, ◌≡◌, ◌≤◌}
use Rattle.std.proofs.Common.{slice_get}
use Rattle.ufs_laws.proofs.pages.PageIsSomeCell.{some_cell}
use Rattle.recovery.specs.Listed.{AreInRange}

-- what the pages are, whatever they are
pub shown_cells : (array : Array) → (c : Cells) × Shows array c
shown_cells array = ((λ p. (some_cell (array p)).0), (λ p. (some_cell (array p)).1))

abbrev pub IsTableOf : Numbers → Array → Table → Type 0
IsTableOf n array t = (c : Cells) → Shows array c → IsTable n c t

-- what pages that open say is in its range
pub shown_in_range : (array : Array) (c : Cells) → Shows array c → AreInRange c
shown_in_range array c shown = record {
  pages = λ p t body is.
      let cell : IsCell (array p) (GroupPage t body) = subst (IsCell (array p)) is (shown p) in
      (cell.0.tag_right.number_given.1, cell.0.tag_right.frontier_fits);
  marks = λ p m is.
      let cell : IsCell (array p) (MarkPage m) = subst (IsCell (array p)) is (shown p) in
      (cell.1.tag_right.number_given.1, cell.1.tag_right.frontier_fits);
}

pub frontiers_fit : (n : Numbers) (array : Array) (t : Table) → IsTableOf n array t → (i : ℕ) (e : FoundPage) →
    slice_get t.pages.items i ≡ Some e → e.tag.frontier ≤ greatest_number
frontiers_fit n array t h i e at = let x = shown_cells array in ((h x.0 x.1).pages.tags i e at).0.frontier_fits

pub records_fit : (n : Numbers) (array : Array) (t : Table) → IsTableOf n array t → t.recorded ≤ greatest_number
records_fit n array t h =
    let x = shown_cells array in
    ⊎_elim
    (λ zero. omega (arith, zero))
    (λ r. within r.0 r.1 r.2 r.3)
    (h x.0 x.1).recorded.1
  where
    within : (p : Place) (m : Mark) → (shown_cells array).0 p ≡ MarkPage m → m.records ≡ t.recorded →
        t.recorded ≤ greatest_number
    within p m is same =
        let cell : IsCell (array p) (MarkPage m) = subst (IsCell (array p)) is ((shown_cells array).1 p) in
        let fits = cell.1.tag_right.frontier_fits in
        omega (arith, fits, same)

-- which blocks are bad, told of dies that are as they were
pub bads_of : {D : Type 0} (state : D → DieState) (n m : Numbers) (old new : List D) (bads : List Bool) → n ≡ m →
    Fit m (map state old) → map state new ≡ map state old →
    (length new ≡ n.dies → bads ≡ map (bad_of (map state new)) (spots n)) →
    bads ≡ map (bad_of (map state old)) (spots n)
bads_of state n m old new bads is fit same told =
    told (sym (length-map new state) ∙ (ap length same ∙ (fit.0 ∙ ap (λ (x : Numbers). x.dies) (sym is))))
    ∙ ap (λ (dies : List DieState). map (bad_of dies) (spots n)) same
