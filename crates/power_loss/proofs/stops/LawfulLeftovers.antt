-- Lawful leftovers that fit the jobs in flight, of any number of dies, are left by a stop; and a stop leaves no others.
use Rattle.power_loss.proofs.Common.{◌≡◌, ◌⊎◌, ℕ, zero, suc, List, [], ◌∷◌, Option, Some, slice_get, refl, sym, ◌∙◌}
use Rattle.power_loss.proofs.Common.{subst, inl, inr, ⊎_elim, All-contains, All-nil, Contains, Array, Cell, Nothing}
use Rattle.power_loss.proofs.Common.{Crash, Erasing, Flight, Programming, Touches, page_of, spot_of, MayBeLeft, Numbers}
use Rattle.power_loss.proofs.Common.{Page, Place, none-some, place_cases, spot_cases}
use Rattle.power_loss.proofs.MachineWords.{AreLeftovers, IsLawfulLeftover, IsLeft, IsLeftoverOf, Stops, die_of}
use Rattle.power_loss.proofs.MachineWords.{page_left, State, numbers_of, Leftover}
use Rattle.ufs_laws.proofs.array_cells.CrashedCells.{old_left}
use Rattle.power_loss.proofs.stops.LeftoverLists.{contained_cases, first_contained, later_contained, none_apart}
use Rattle.power_loss.proofs.stops.LeftoverLists.{none_contained}
use Rattle.power_loss.proofs.die_pages.LeftoversLeaveOneArray.{left_named, named_die}
use Rattle.ufs_spec.specs.declared.events.Leftover.TheVariants as leftover

-- Whether a leftover names a page

abbrev IsNamed : Leftover → Place → Type 0
IsNamed l p = (page : Page) × page_left l p page

abbrev IsNotNamed : Leftover → Place → Type 0
IsNotNamed l p = (page : Page) → page_left l p page → ⊥

page_in : (pages : List Page) (i : ℕ) → ((page : Page) × (slice_get pages i ≡ Some page)) ⊎ ((page : Page) →
    slice_get pages i ≡ Some page → ⊥)
page_in [] i = inr (λ page e. none-some page e)
page_in (x ∷ xs) zero = inl (x, refl)
page_in (x ∷ xs) (suc i) = page_in xs i

is_named : (l : Leftover) (p : Place) → IsNamed l p ⊎ IsNotNamed l p
is_named (leftover.Page q page) p = ⊎_elim (λ e. inl (page, (e.1, refl))) (λ n. inr (λ x h. n.1 h.0)) (place_cases _ _)
is_named (leftover.Block die block pages) p = ⊎_elim
    (λ e. ⊎_elim (λ h. inl (h.0, (e.1, h.1))) (λ none. inr (λ page h. none page h.1)) (page_in pages.items p.page))
    (λ n. inr (λ page h. n.1 h.0)) (spot_cases (spot_of p) (record { die = die; block = block }))

-- Whether one of several names it

abbrev Named : List Leftover → Place → Type 0
Named lefts p = (l : Leftover) × Contains lefts l × IsNamed l p

abbrev Unnamed : List Leftover → Place → Type 0
Unnamed lefts p = (l : Leftover) (page : Page) → Contains lefts l → page_left l p page → ⊥

none_names : (l : Leftover) (ls : List Leftover) (p : Place) → IsNotNamed l p → Unnamed ls p → Unnamed (l ∷ ls) p
none_names l ls p none rest m page there h = ⊎_elim (λ is. none page (subst (λ x. page_left x p page) is h))
    (λ later. rest m page later h) (contained_cases {l = l} ls {m = m} there)

chosen : (lefts : List Leftover) {p : Place} → Named lefts p ⊎ Unnamed lefts p
chosen [] = inr (λ l page h. absurd (none_contained h))
chosen (l ∷ ls) {p = p} = ⊎_elim (λ h. inl (l, first_contained ls, h))
    (λ none. ⊎_elim (λ h. inl (h.0, later_contained ls h.1, h.2)) (λ rest. inr (none_names l ls p none rest))
    (chosen ls)) (is_named l p)

-- The array that leftovers leave

pick : (lefts : List Leftover) {p : Place} → Named lefts p ⊎ Unnamed lefts p → Page → Page
pick lefts (inl h) old = h.2.0
pick lefts (inr none) old = old

pub left_by : Array → List Leftover → Array
left_by array lefts p = pick lefts {p = p} (chosen lefts) (array p)

-- what may become of a page: it stays, or is one that the job of its die may leave
abbrev MayBecome : Array → (ℕ → Option Flight) → Place → Page → Type 0
MayBecome array flights p page =
    (page ≡ array p) ⊎ ((intended : Cell) × Touches (flights p.die) p intended ×
    MayBeLeft (array p) (page_of intended) page)

module _ (array : Array) (lefts : List Leftover) where
  left_at : (p : Place) (x : Named lefts p ⊎ Unnamed lefts p) → ((l : Leftover) × Contains lefts l × page_left l p
      (pick lefts x (array p))) ⊎ (Unnamed lefts p × (pick lefts x (array p) ≡ array p))
  unfolding pick
  left_at p (inl h) = inl (h.0, h.1, h.2.1)
  left_at p (inr none) = inr (none, refl)

  pub is_left_by : IsLeft array lefts (left_by array lefts)
  unfolding left_by
  is_left_by p = left_at p (chosen lefts)

  module _ (flights : ℕ → Option Flight)
      (lawful : (l : Leftover) → Contains lefts l → (p : Place) (page : Page) → page_left l p page →
      (intended : Cell) × Touches (flights p.die) p intended × MayBeLeft (array p) (page_of intended) page) where
    crash_at : (p : Place) (x : Named lefts p ⊎ Unnamed lefts p) → MayBecome array flights p (pick lefts x (array p))
    unfolding pick
    crash_at p (inl h) = inr (lawful h.0 h.1 p h.2.0 h.2.1)
    crash_at p (inr none) = inl refl

    pub crash_by : Crash array flights (left_by array lefts)
    unfolding left_by
    crash_by p = crash_at p (chosen lefts)

-- A stop

pub each_stops : (s : State) (lefts : List Leftover) → AreLeftovers s lefts → ((l : Leftover) → Contains lefts l →
    IsLawfulLeftover s l) → (left : Array) × Stops s lefts left
each_stops s lefts fit lawful = (
  left_by s.array lefts,
  record {
    fit = fit;
    is_left = is_left_by s.array lefts;
    crash = crash_by s.array lefts s.translation.disk.flights lawful;
  },
)

-- a stop may leave all as it was
pub none_left : {s : State} → Stops s [] s.array
none_left {s} = record {
  fit = (All-nil _, none_apart);
  is_left = λ p. inr ((λ l page there h. absurd (none_contained there)), refl);
  crash = old_left s.array s.translation.disk.flights;
}

-- And no others

-- a job touches each page that a leftover of it names
pub named_touches : (n : Numbers) (f : Option Flight) (l : Leftover) (p : Place) (page : Page) → IsLeftoverOf n f l →
    page_left l p page → (intended : Cell) × Touches f p intended
named_touches n (Some (Programming q cell)) (leftover.Page r x) p page fit h = (cell, (sym fit ∙ h.0, refl))
named_touches n (Some (Erasing spot)) (leftover.Block die block pages) p page fit h = (Nothing, (fit.0 ∙ sym h.0, refl))
named_touches n f l p page fit h = absurd fit

module _ (s : State) (lefts : List Leftover) (left : Array) (stops : Stops s lefts left) where
  abbrev Flies : ℕ → Option Flight
  Flies = s.translation.disk.flights

  touches : {l : Leftover} (p : Place) (page : Page) → Contains lefts l → page_left l p page →
      (intended : Cell) × Touches (Flies p.die) p intended
  touches {l} p page there h = named_touches (numbers_of s) (Flies p.die) l p page
      (subst (λ die. IsLeftoverOf (numbers_of s) (Flies die) l) (named_die l p page h)
      (All-contains (λ x. IsLeftoverOf (numbers_of s) (Flies (die_of x)) x) lefts l stops.fit.0 there)) h

  abbrev LeftAs : Place → Page → Type 0
  LeftAs p page = (intended : Cell) × Touches (Flies p.die) p intended × MayBeLeft (s.array p) (page_of intended) page

  pub stops_lawful : (l : Leftover) → Contains lefts l → IsLawfulLeftover s l
  stops_lawful l there p page h =
      let is : left p ≡ page = left_named s.array lefts stops.fit.1 left stops.is_left p (l, there, h) in
      ⊎_elim (λ old. let t = touches p page there h in (t.0, t.1, inl (sym is ∙ old))) (λ k. subst (LeftAs p) is k)
      (stops.crash p)
