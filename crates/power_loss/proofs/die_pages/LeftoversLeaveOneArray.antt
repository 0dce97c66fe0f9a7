-- Leftovers leave one array: no two of them name a page, and each page that none names stays.
use Rattle.power_loss.proofs.Common.{◌≡◌, ℕ, List, [], ◌∷◌, Option, Some, None, refl, sym, ap, ◌∙◌, subst, ⊎_elim}
use Rattle.power_loss.proofs.Common.{Contains, same_Some, Array, Cells, Shows, Erasing, Flight, Programming, Reading}
use Rattle.power_loss.proofs.Common.{Spot, Ending, ReadWrong, WentWrong, Page, Place}
use Rattle.power_loss.proofs.MachineWords.{IsFailure, IsLeft, die_of, page_left, State, Leftover}
use Rattle.ufs_laws.proofs.array_cells.StandsForOne.{cells_one}
use Rattle.ufs_laws.proofs.pages.PageIsOneCell.{one_cell}
use Rattle.ufs_spec.specs.declared.events.Leftover.TheVariants as leftover
use Rattle.power_loss.proofs.stops.LeftoverLists.{Apart, one_apart, one_leftover}

-- One leftover

pub named_die : (l : Leftover) (p : Place) (page : Page) → page_left l p page → die_of l ≡ p.die
named_die (leftover.Page q left) p page h = ap (λ (r : Place). r.die) h.0
named_die (leftover.Block die block pages) p page h = sym (ap (λ (s : Spot). s.die) h.0)

named_once : (l : Leftover) (p : Place) {x y : Page} → page_left l p x → page_left l p y → x ≡ y
named_once (leftover.Page q left) p h k = h.1 ∙ sym k.1
named_once (leftover.Block die block pages) p {x} {y} h k = same_Some x y (sym h.1 ∙ k.1)

-- Several

module _ (array : Array) (lefts : List Leftover) (pairs : Apart lefts) where
  -- what IsLeft says of a place
  abbrev Named : Place → Page → Type 0
  Named p page = (l : Leftover) × Contains lefts l × page_left l p page

  abbrev Unnamed : Place → Type 0
  Unnamed p = (l : Leftover) (page : Page) → Contains lefts l → page_left l p page → ⊥

  named_alike : (p : Place) {x y : Page} → Named p x → Named p y → x ≡ y
  named_alike p {x} {y} h k =
      let same : h.0 ≡ k.0 = one_leftover lefts h.0 k.0 pairs h.1 k.1
      (named_die h.0 p x h.2 ∙ sym (named_die k.0 p y k.2)) in
      named_once k.0 p (subst (λ (l : Leftover). page_left l p x) same h.2) k.2

  pub left_named : (left : Array) → IsLeft array lefts left → (p : Place) {page : Page} → Named p page → left p ≡ page
  left_named left is p {page} h = ⊎_elim (λ (k : Named p (left p)). named_alike p k h)
      (λ (k : Unnamed p × (left p ≡ array p)). absurd (k.0 h.0 page h.1 h.2)) (is p)

  pub left_unnamed : (left : Array) → IsLeft array lefts left → (p : Place) → Unnamed p → left p ≡ array p
  left_unnamed left is p none = ⊎_elim (λ (k : Named p (left p)). absurd (none k.0 (left p) k.1 k.2))
      (λ (k : Unnamed p × (left p ≡ array p)). k.1) (is p)

  pub one_left : (left other : Array) → IsLeft array lefts left → IsLeft array lefts other → left ≡ other
  one_left left other is its i p = ⊎_elim (λ (k : Named p (other p)). left_named left is p k)
      (λ (k : Unnamed p × (other p ≡ array p)). left_unnamed left is p k.0 ∙ sym k.1) (its p) i

-- A failed job

wrong_alike : (s : State) (l : Leftover) {left other : Array} (c d : Cells) → IsLeft s.array (l ∷ []) left →
    IsLeft s.array (l ∷ []) other → Shows left c → Shows other d → (WentWrong c ≡ WentWrong d) × (left ≡ other)
wrong_alike s l {left} {other} c d h k shown other_shown =
    let same : left ≡ other = one_left s.array (l ∷ []) (one_apart l) left other h k in (
      ap WentWrong (cells_one one_cell other c d (subst (λ (array : Array). Shows array c) same shown) other_shown),
      same,
    )

pub one_failure : (s : State) (die : ℕ) (flight : Option Flight) (l : Option Leftover) (ending next : Ending)
    (left other : Array) →
    IsFailure s die flight l ending left → IsFailure s die flight l next other → (ending ≡ next) × (left ≡ other)
one_failure s die (Some (Reading reader place)) None ReadWrong ReadWrong left other h k = (refl, h ∙ sym k)
one_failure s die (Some (Programming place cell)) (Some l) (WentWrong c) (WentWrong d) left other h k =
    wrong_alike s l c d h.1 k.1 h.3 k.3
one_failure s die (Some (Erasing spot)) (Some l) (WentWrong c) (WentWrong d) left other h k =
    wrong_alike s l c d h.1 k.1 h.3 k.3
one_failure s die (Some (Reading reader place)) (Some l) (WentWrong c) next left other h k = absurd h.0
one_failure s die (Some (Reading reader place)) None ReadWrong next left other h k = absurd k
one_failure s die (Some (Programming place cell)) (Some l) (WentWrong c) next left other h k = absurd k
one_failure s die (Some (Erasing spot)) (Some l) (WentWrong c) next left other h k = absurd k
one_failure s die flight l ending next left other h k = absurd h
