-- What a stop leaves of pages, and what it leaves of cells.
use Rattle.power_loss.proofs.Common.{◌≡◌, ◌⊎◌, ℕ, List, Option, Some, subst, inl, inr, ⊎_elim, Array, Cell, Cells}
use Rattle.power_loss.proofs.Common.{DataHold, GroupPage, IsCell, MarkPage, Nothing, Opens, Shows, mark_tag, CellCrash}
use Rattle.power_loss.proofs.Common.{Crash, Flight, Programming, Touches, page_of, MayBeLeft, Place, Tag, opened_check}
use Rattle.power_loss.proofs.Common.{torn_is_nothing as wrong_is_nothing}
use Rattle.ufs_laws.proofs.pages.BlankPages.{blank_opens_not}
use Rattle.ufs_laws.proofs.pages.PageIsOneCell.{mark_holds, one_cell}
use Rattle.ufs_laws.proofs.pages.SealedOnce.{one_body, one_tag}
use Rattle.ufs_laws.proofs.array_cells.CrashedCells.{intended_shows as intended_of}

-- what a page of a group or a mark opens to keeps the rules of its kind
pub cell_holds : (cell : Cell) → IsCell (page_of cell) cell → (t : Tag) (body : List ℕ) → Opens (page_of cell) t body →
    DataHold t body
cell_holds Nothing is t body h = absurd (blank_opens_not t body h)
cell_holds (GroupPage u other) is t body h =
    let tag : u ≡ t = one_tag (page_of (GroupPage u other)) u t other body is.0 h in
    let same : other ≡ body = one_body (page_of (GroupPage u other)) u t other body is.0 h in
    subst (λ x. DataHold x body) tag (subst (DataHold u) same is.1)
cell_holds (MarkPage m) is t body h =
    let tag : mark_tag m ≡ t = one_tag (page_of (MarkPage m)) (mark_tag m) t is.0 body is.1 h in
    let same : is.0 ≡ body = one_body (page_of (MarkPage m)) (mark_tag m) t is.0 body is.1 h in
    subst (λ x. DataHold x body) tag (subst (DataHold (mark_tag m)) same (mark_holds m is.0 is.2))

-- Arrays

-- the data of each page that opens keep the rules of its kind
abbrev pub AllHold : Array → Type 0
AllHold array = (p : Place) (t : Tag) (body : List ℕ) → Opens (array p) t body → DataHold t body

-- each page in flight shows the cell that it is meant to be
abbrev pub FliesRight : (ℕ → Option Flight) → Type 0
FliesRight flights = (die : ℕ) (p : Place) (cell : Cell) → flights die ≡ Some (Programming p cell) →
    IsCell (page_of cell) cell

module _ (array : Array) (cells : Cells) (flights : ℕ → Option Flight) (left : Array) (shown : Shows array cells)
    (right : FliesRight flights) (crash : Crash array flights left) where
  intended_right : (p : Place) (intended : Cell) → Touches (flights p.die) p intended →
      IsCell (page_of intended) intended
  intended_right p intended h = intended_of (flights p.die) p intended (right p.die) h

  module _ (c : Cells) (shows : Shows left c) where
    unchanged : (p : Place) → left p ≡ array p → c p ≡ cells p
    unchanged p e = one_cell (array p) (c p) (cells p) (subst (λ page. IsCell page (c p)) e (shows p)) (shown p)

    touched : (p : Place) (intended : Cell) → Touches (flights p.die) p intended → MayBeLeft (array p)
        (page_of intended) (left p) → (c p ≡ cells p) ⊎ ((x : Cell) × Touches (flights p.die) p x ×
        ((c p ≡ x) ⊎ (c p ≡ Nothing)))
    touched p intended h (inl e) = inl (unchanged p e)
    touched p intended h (inr (inl e)) =
        inr (
          intended,
          h,
          inl (one_cell (page_of intended) (c p) intended (subst (λ page. IsCell page (c p)) e
              (shows p)) (intended_right p intended h)),
        )
    touched p intended h (inr (inr wrong)) = inr (intended, h, inr (wrong_is_nothing (left p) (c p) wrong (shows p)))

    -- the cells that are left are what an interruption may leave of cells
    pub cell_crash : CellCrash cells flights c
    cell_crash p = ⊎_elim (λ e. inl (unchanged p e)) (λ x. touched p x.0 x.1 x.2) (crash p)

  held_at : AllHold array → (p : Place) (intended : Cell) → Touches (flights p.die) p intended → MayBeLeft (array p)
      (page_of intended) (left p) → {t : Tag} {body : List ℕ} → Opens (left p) t body → DataHold t body
  held_at hold p intended h (inl e) {t} {body} o = hold p t body (subst (λ page. Opens page t body) e o)
  held_at hold p intended h (inr (inl e)) {t} {body} o = cell_holds intended (intended_right p intended h) t body
      (subst (λ page. Opens page t body) e o)
  held_at hold p intended h (inr (inr wrong)) o = absurd (wrong (opened_check _ _ _ o))

  -- the data of pages that are left keep the rules of their kind
  pub left_holds : AllHold array → AllHold left
  left_holds hold p t body o = ⊎_elim (λ e. hold p t body (subst (λ page. Opens page t body) e o))
      (λ x. held_at hold p x.0 x.1 x.2 o) (crash p)
