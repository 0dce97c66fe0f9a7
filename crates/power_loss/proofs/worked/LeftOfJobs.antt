-- What a program and an erase may leave is lawful; and what a torn page shows.
use Rattle.power_loss.proofs.Common.{◌≡◌, ◌⊎◌, ℕ, zero, suc, List, [], ◌∷◌, Some, slice_get, sym, ap, ◌∙◌, subst, inl}
use Rattle.power_loss.proofs.Common.{inr, ⊎_elim, All-head, All-tail, Vec, Cell, Erasing, IsCell, MayBeLeft, Nothing}
use Rattle.power_loss.proofs.Common.{Programming, Touches, page_of, IsCheckRight, Page, Place, none-some, opened_check}
use Rattle.power_loss.proofs.Common.{same_Some}
use Rattle.power_loss.proofs.MachineWords.{IsLawfulLeftover, State, blank_page}
use Rattle.std.specs.List.{All}
use Rattle.power_loss.specs.StoppedWrites.{AreTorn}
use Rattle.ufs_spec.specs.declared.events.Leftover.TheVariants as leftover

abbrev pub IsBlankOrTorn : Page → Type 0
IsBlankOrTorn page = (page ≡ blank_page) ⊎ (IsCheckRight page → ⊥)

pub torn_cell : {page : Page} → (IsCheckRight page → ⊥) → IsCell page Nothing
torn_cell wrong = λ tag body o hold. wrong (opened_check _ _ _ o)

pub each_page : (P : Page → Type 0) (pages : List Page) (i : ℕ) {page : Page} → All P pages →
    slice_get pages i ≡ Some page → P page
each_page P [] i {page} all e = absurd (none-some page e)
each_page P (x ∷ xs) zero {page} all e = subst P (same_Some x page e) (All-head P x xs all)
each_page P (x ∷ xs) (suc i) all e = each_page P xs i (All-tail P x xs all) e

-- what the job of a die may leave at a place
abbrev MayStand : State → Place → Page → Type 0
MayStand s p page =
    (intended : Cell) × Touches (s.translation.disk.flights p.die) p intended
    × MayBeLeft (s.array p) (page_of intended) page

-- a program leaves what may be left of its page
pub page_lawful : (s : State) (p : Place) (cell : Cell) (page : Page) →
    s.translation.disk.flights p.die ≡ Some (Programming p cell) → MayBeLeft (s.array p) (page_of cell) page →
    IsLawfulLeftover s (leftover.Page p page)
page_lawful s p cell page flies may q left h =
    subst (MayStand s q) (sym h.1)
    (subst (λ r. MayStand s r page) h.0 (cell, subst (λ f. Touches f p cell) (sym flies) ((λ i. p), (λ i. cell)), may))

-- an erase leaves pages that are blank or torn
pub block_lawful : (s : State) (die block : ℕ) (pages : Vec Page) →
    s.translation.disk.flights die ≡ Some (Erasing (record { die = die; block = block })) → AreTorn pages.items →
    IsLawfulLeftover s (leftover.Block die block pages)
block_lawful s die block pages erases all p page h = (
  Nothing,
  subst (λ f. Touches f p Nothing) (sym (ap s.translation.disk.flights (ap (λ x. x.die) h.0) ∙ erases))
      (sym h.0, (λ i. Nothing)),
  ⊎_elim (λ e. inr (inl e)) (λ bad. inr (inr bad)) (each_page IsBlankOrTorn pages.items p.page all h.1),
)
