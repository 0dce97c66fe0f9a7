-- Jobs in flight: whether some die has a job of a kind, and which kinds there are.
use Rattle.ftl_core.proofs.Common.{Bool, Cell, Flight, ForNobody, ForRest, ForStep, ForTask, GroupPage, IsFlight}
use Rattle.ftl_core.proofs.Common.{IsStepCell, List, None, Numbers, OpenBlock, Option, Place, Reader, Some, Spot, Step}
use Rattle.ftl_core.proofs.Common.{Tag, [], ap, arith, below, cases_lt, false, inl, inr, list_any, list_any-append}
use Rattle.ftl_core.proofs.Common.{next_place, refl, repairs_in, spot_at, subst, suc, sym, true, true≢false, two_ways}
use Rattle.ftl_core.proofs.Common.{zero, ℕ, ⊎_elim, ◌<◌, ◌||◌, ◌∙◌, ◌∷◌, ◌≡◌, ◌≤◌, ◌⊎◌}
use Rattle.ufs_spec.specs.Disk as disk
use Rattle.block_table.specs.declared.rows.Flight.TheVariants as flight

-- Some die

one_more : (dies : ℕ) (test : ℕ → Bool) → list_any test (below (suc dies)) ≡ (list_any test (below dies) || test dies)
one_more dies test =
    list_any-append test (below dies) (dies ∷ [])
    ∙ ap (λ (b : Bool). list_any test (below dies) || b) (last (test dies))
  where
    last : (b : Bool) → (b || false) ≡ b
    last true = refl
    last false = refl

pub some_here : (dies die : ℕ) (p : ℕ → Bool) → die < dies → p die ≡ true → list_any p (below dies) ≡ true
some_here zero die p there h = absurd (omega arith)
some_here (suc dies) die p there h = one_more dies p ∙ step (λ low. some_here dies die p low h) (cases_lt die dies)
  where
    right : (a b : Bool) → b ≡ true → (a || b) ≡ true
    right true b e = refl
    right false b e = e

    step : (die < dies → list_any p (below dies) ≡ true) → (die < dies) ⊎ (dies ≤ die) →
        (list_any p (below dies) || p dies) ≡ true
    step before (inl low) = ap (λ (b : Bool). b || p dies) (before low)
    step before (inr high) = let same : dies ≡ die = omega arith in right (list_any p (below dies)) (p dies)
        (ap p same ∙ h)

pub some_told : (dies : ℕ) (p : ℕ → Bool) → list_any p (below dies) ≡ true → (d : ℕ) × (d < dies) × (p d ≡ true)
some_told zero p h = cc
some_told (suc dies) p h = step (some_told dies p) (list_any p (below dies)) refl (sym (one_more dies p) ∙ h)
  where
    step : (list_any p (below dies) ≡ true → (d : ℕ) × (d < dies) × (p d ≡ true)) → (b : Bool) →
        list_any p (below dies) ≡ b → (list_any p (below dies) || p dies) ≡ true →
        (d : ℕ) × (d < suc dies) × (p d ≡ true)
    step before true e k = let found = before e in let low = found.1 in (found.0, omega arith, found.2)
    step before false e k = (dies, omega arith, sym (ap (λ (b : Bool). b || p dies) e) ∙ k)

-- where no die has such a job, none outside the numbers has it either
pub none_flies : (n : ℕ) (flights : ℕ → Option disk.Flight) (is : Option disk.Flight → Bool) → is None ≡ false →
    ((e : ℕ) → n ≤ e → flights e ≡ None) → list_any (λ e. is (flights e)) (below n) ≡ false → (e : ℕ) →
    is (flights e) ≡ false
none_flies n flights is idle above none e = ⊎_elim low (λ l. ap is (above e l) ∙ idle) (cases_lt e n)
  where
    low : e < n → is (flights e) ≡ false
    low l = ⊎_elim
        (λ h. absurd (true≢false (sym (some_here n e (λ d. is (flights d)) l h) ∙ none)))
        (λ h. h)
        (two_ways (is (flights e)))

-- The kinds of jobs

-- what holds of each job of a book and of the definitions that are one job
module _ (n : Numbers) (step : Option Step) (die : ℕ) (filling : Option OpenBlock)
    (P : Option Flight → Option disk.Flight → Type 0)
    (none : P None None)
    (reads : (place : Place) (tag index : ℕ) →
    P (Some (flight.Read place (ForTask tag index))) (Some (disk.Reading (ForTask tag index) place)))
    (reads_on : (place : Place) → P (Some (flight.Read place ForStep)) (Some (disk.Reading ForStep place)))
    (gone : (place : Place) → P (Some (flight.Read place ForNobody)) (Some (disk.Reading ForNobody place)))
    (rests : (place : Place) (number index : ℕ) →
    P (Some (flight.Read place (ForRest number index))) (Some (disk.Reading (ForRest number index) place)))
    (pages : (o : OpenBlock) (cell : Cell) → filling ≡ Some o → IsStepCell step cell →
    P (Some (flight.Step (next_place die o))) (Some (disk.Programming (next_place die o) cell)))
    (groups : (o : OpenBlock) (tag : Tag) (body : List ℕ) → filling ≡ Some o → repairs_in step ≡ 0 →
    P (Some (flight.Group (next_place die o) tag.number tag.index))
    (Some (disk.Programming (next_place die o) (GroupPage tag body))))
    (erases : (block : ℕ) → block < n.blocks →
    P (Some (flight.Erase block)) (Some (disk.Erasing (spot_at die block)))) where
  read_cases : (place : Place) (r : Reader) → P (Some (flight.Read place r)) (Some (disk.Reading r place))
  read_cases place (ForTask tag index) = reads place tag index
  read_cases place ForStep = reads_on place
  read_cases place ForNobody = gone place
  read_cases place (ForRest number index) = rests place number index

  pub flight_cases : (f : Option Flight) (g : Option disk.Flight) → IsFlight n step die filling f g → P f g
  flight_cases None None h = none
  flight_cases (Some (flight.Read place r)) (Some (disk.Reading who p)) h =
      subst (λ (z : Place × Reader). P (Some (flight.Read place r)) (Some (disk.Reading z.1 z.0)))
      (λ i. (sym h.0 i, sym h.1 i)) (read_cases place r)
  flight_cases (Some (flight.Step place)) (Some (disk.Programming p cell)) h =
      subst (λ (z : Place × Place). P (Some (flight.Step z.0)) (Some (disk.Programming z.1 cell)))
      (λ i. (h.1.2 i, (h.1.2 ∙ sym h.0) i)) (pages h.1.0 cell h.1.1 h.2)
  flight_cases (Some (flight.Group place number n)) (Some (disk.Programming p (GroupPage tag body))) h =
      subst (λ (z : Place × ℕ × ℕ × Place). P (Some (flight.Group z.0 z.1 z.2))
      (Some (disk.Programming z.3 (GroupPage tag body))))
      (λ i. (h.1.2 i, h.2 i, h.3 i, (h.1.2 ∙ sym h.0) i)) (groups h.1.0 tag body h.1.1 h.4)
  flight_cases (Some (flight.Erase block)) (Some (disk.Erasing s)) h =
      subst (λ (z : Spot). P (Some (flight.Erase block)) (Some (disk.Erasing z))) (sym h.0) (erases block h.1)
  flight_cases f g h = absurd h
