-- What an interruption may leave of pages, and of what they are.
pub use Rattle.ufs_spec.proofs.SealedPages.{torn_is_nothing}
use Rattle.ufs_laws.proofs.Common.{Array, Bool, Cell, Cells, Erasing, Flight, IsCell, Nothing, Numbers, Option, Page}
use Rattle.ufs_laws.proofs.Common.{Place, Programming, Shows, Some, Spot, and_parts, ap, cond, false, if◌then◌else◌}
use Rattle.ufs_laws.proofs.Common.{inl, inr, page_of, refl, spot_of, subst, sym, true, ℕ, ⊎_elim, ◌∙◌, ◌≡◌, ◌⊎◌}
use Rattle.ufs_spec.specs.Cells.{same_place}
use Rattle.ufs_spec.specs.Dies.{blank_page}
use Rattle.ufs_spec.specs.Disk.{CellCrash, Crash, Touches, at_place, same_spot}
use Rattle.ufs_spec.specs.Machine.{in_block}
use Rattle.ufs_spec.specs.Pages.{MayBeLeft}
use Rattle.ufs_laws.proofs.pages.BlankPages.{nothing_is_blank}
use Rattle.ufs_laws.proofs.pages.PageIsOneCell.{one_cell}
use Rattle.ufs_spec.proofs.Equalities.{place_told, spot_told}
use Rattle.ufs_spec.proofs.SealedPages.{torn_is_nothing}

-- Places and spots that are the same

-- Old or new

pub old_left : (array : Array) (flights : ℕ → Option Flight) → Crash array flights array
old_left array flights p = inl refl

-- what may become of one page
abbrev MayBecome : Array → (ℕ → Option Flight) → Place → Page → Type 0
MayBecome array flights p page =
    (page ≡ array p) ⊎
    ((intended : Cell) × Touches (flights p.die) p intended × MayBeLeft (array p) (page_of intended) page)

program_left : (array : Array) (flights : ℕ → Option Flight) (place : Place) (cell : Cell) (page : Page) →
    flights place.die ≡ Some (Programming place cell)
    → MayBeLeft (array place) (page_of cell) page → (q : Place) (b : Bool) → same_place q place ≡ b →
    MayBecome array flights q (cond b page (array q))
program_left array flights place cell page e left q false differ = inl refl
program_left array flights place cell page e left q true same =
    let at : place ≡ q = sym (place_told q place same) in
    subst (λ (p : Place). MayBecome array flights p page) at
    (inr (cell, subst (λ (f : Option Flight). Touches f place cell) (sym e) (refl, refl), left))

-- the page of a program may be the new one, or one whose check fails
pub page_left : (array : Array) (flights : ℕ → Option Flight) (place : Place) (cell : Cell) (page : Page) →
    flights place.die ≡ Some (Programming place cell)
    → MayBeLeft (array place) (page_of cell) page → Crash array flights (at_place array place page)
page_left array flights place cell page e left q =
    program_left array flights place cell page e left q (same_place q place) refl

erase_left : (array : Array) (flights : ℕ → Option Flight) (spot : Spot) (page : Page) →
    flights spot.die ≡ Some (Erasing spot)
    → (q : Place) → MayBeLeft (array q) blank_page page → (b : Bool) → (b ≡ true → spot_of q ≡ spot) →
    MayBecome array flights q (cond b page (array q))
erase_left array flights spot page e q left false at = inl refl
erase_left array flights spot page e q left true at =
    let here : spot_of q ≡ spot = at refl in
    let flies : flights q.die ≡ Some (Erasing spot) = ap (λ (s : Spot). flights s.die) here ∙ e in
    inr (Nothing, subst (λ (f : Option Flight). Touches f q Nothing) (sym flies) (sym here, refl), left)

-- the pages of an erase may all be blank
pub block_left : (array : Array) (flights : ℕ → Option Flight) (spot : Spot) → flights spot.die ≡ Some (Erasing spot)
    → Crash array flights (λ p. if same_spot (spot_of p) spot then blank_page else array p)
block_left array flights spot e q =
    erase_left array flights spot blank_page e q (inr (inl refl)) (same_spot (spot_of q) spot)
    (spot_told (spot_of q) spot)

pub pages_left : (n : Numbers) (array : Array) (flights : ℕ → Option Flight) (spot : Spot) →
    flights spot.die ≡ Some (Erasing spot)
    → Crash array flights (λ p. if in_block n spot p then blank_page else array p)
pages_left n array flights spot e q =
    erase_left array flights spot blank_page e q (inr (inl refl)) (in_block n spot q)
    (λ h. spot_told (spot_of q) spot (and_parts _ _ h).0)

pub untouched : (array : Array) (flights : ℕ → Option Flight) (left : Array) → Crash array flights left
    → (p : Place) → ((intended : Cell) → Touches (flights p.die) p intended → ⊥) → left p ≡ array p
untouched array flights left crash p none = ⊎_elim (λ h. h) (λ h. absurd (none h.0 h.1)) (crash p)

-- A crash of pages is one of cells

-- every cell that a flight programs is what its page shows
abbrev pub ShowCells : (ℕ → Option Flight) → Type 0
ShowCells flights =
    (die : ℕ) (place : Place) (cell : Cell) → flights die ≡ Some (Programming place cell) → IsCell (page_of cell) cell

-- so is each intended cell
pub intended_shows : (o : Option Flight) (p : Place) (intended : Cell) →
    ((place : Place) (cell : Cell) → o ≡ Some (Programming place cell) → IsCell (page_of cell) cell)
    → Touches o p intended → IsCell (page_of intended) intended
intended_shows (Some (Programming place cell)) p intended show h =
    subst (λ (x : Cell). IsCell (page_of x) x) (sym h.1) (show place cell refl)
intended_shows (Some (Erasing spot)) p intended show h =
    subst (λ (x : Cell). IsCell (page_of x) x) (sym h.1) nothing_is_blank
intended_shows other p intended show h = absurd h

same_cell : (page other : Page) (x y : Cell) → IsCell page x → IsCell other y → page ≡ other → x ≡ y
same_cell page other x y h k e = one_cell other x y (subst (λ (p : Page). IsCell p x) e h) k

-- what may become of one cell
abbrev BecomesCell : Cells → (ℕ → Option Flight) → Place → Cell → Type 0
BecomesCell cells flights p x =
    (x ≡ cells p) ⊎ ((intended : Cell) × Touches (flights p.die) p intended × ((x ≡ intended) ⊎ (x ≡ Nothing)))

touched_cell : (before left : Page) (cells : Cells) (flights : ℕ → Option Flight) (p : Place) (x intended : Cell) →
    IsCell before (cells p) → IsCell left x
    → IsCell (page_of intended) intended → Touches (flights p.die) p intended →
    MayBeLeft before (page_of intended) left → BecomesCell cells flights p x
touched_cell before left cells flights p x intended h k i touches (inl old) =
    inl (same_cell left before x (cells p) k h old)
touched_cell before left cells flights p x intended h k i touches (inr (inl new)) =
    inr (intended, touches, inl (same_cell left (page_of intended) x intended k i new))
touched_cell before left cells flights p x intended h k i touches (inr (inr torn)) =
    inr (intended, touches, inr (torn_is_nothing left x torn k))

pub cell_crash : (array left : Array) (cells after : Cells) (flights : ℕ → Option Flight) → Shows array cells →
    Shows left after → Crash array flights left
    → ShowCells flights → CellCrash cells flights after
cell_crash array left cells after flights shown shown_left crash show p =
    ⊎_elim
    {C = BecomesCell cells flights p (after p)}
    (λ e. inl (same_cell (left p) (array p) (after p) (cells p) (shown_left p) (shown p) e))
    (λ h. touched_cell (array p) (left p) cells flights p (after p) h.0 (shown p) (shown_left p)
    (intended_shows (flights p.die) p h.0 (show p.die) h.1) h.1 h.2)
    (crash p)
