-- What a stop at any moment of a valid life shows, cell by cell.
pub use Rattle.ufs_spec.proofs.CellKinds.{one_mark as same_mark}
use Rattle.power_loss.proofs.Common.{◌≡◌, ◌≢◌, ℕ, ◌<◌, ◌≤◌, ◌⊎◌, true, false, List, Option, Some, None, refl, sym, ap}
use Rattle.power_loss.proofs.Common.{◌∙◌, subst, inl, inr, ⊎_elim, arith, AreWithin, Cell, Cells, GroupPage, IsPlace}
use Rattle.power_loss.proofs.Common.{Mark, MarkPage, Nothing, CellCrash, Disk, Erasing, Flight, Programming, Reading}
use Rattle.power_loss.proofs.Common.{Touches, spot_of, MarkStep, Translation, Place, Tag, mark_not_nothing, one_mark}
use Rattle.power_loss.proofs.Common.{page_not_nothing, true≢false, IsKnown, book, StepKindRight, Valid}
use Rattle.power_loss.proofs.books.LayerParts.{StopLeaves}

-- A cell that a stop leaves

opened_by : (f : Option Flight) {p : Place} (old : Cell) {x intended : Cell} → x ≢ Nothing → Touches f p intended →
    (x ≡ intended) ⊎ (x ≡ Nothing) → f ≡ Some (Programming p x)
opened_by f old some touches (inr e) = absurd (some e)
opened_by (Some (Programming q cell)) old some touches (inl e) = λ i. Some (Programming (touches.0 i)
    (sym (e ∙ touches.1) i))
opened_by (Some (Erasing s)) old some touches (inl e) = absurd (some (e ∙ touches.1))
opened_by f old some touches (inl e) = absurd touches

-- a page that opens was there or was in flight
pub opened : (d : Disk) {c : Cells} (p : Place) {x : Cell} → CellCrash d.cells d.flights c → x ≢ Nothing → c p ≡ x →
    (d.cells p ≡ x) ⊎ (d.flights p.die ≡ Some (Programming p x))
opened d p crash some h = ⊎_elim (λ e. inl (sym e ∙ h))
    (λ e.
    inr (opened_by (d.flights p.die) (d.cells p) some e.1 (⊎_elim (λ k. inl (sym h ∙ k)) (λ k. inr (sym h ∙ k)) e.2)))
    (crash p)

pub page_from : (d : Disk) {c : Cells} (p : Place) {t : Tag} {body : List ℕ} → CellCrash d.cells d.flights c →
    c p ≡ GroupPage t body → (d.cells p ≡ GroupPage t body) ⊎ (d.flights p.die ≡ Some
    (Programming p (GroupPage t body)))
page_from d p {t} {body} crash h = opened d p crash (page_not_nothing _ _ _ refl) h

pub mark_from : (d : Disk) (c : Cells) (p : Place) {m : Mark} → CellCrash d.cells d.flights c → c p ≡ MarkPage m →
    (d.cells p ≡ MarkPage m) ⊎ (d.flights p.die ≡ Some (Programming p (MarkPage m)))
mark_from d c p {m} crash h = opened d p crash (mark_not_nothing _ _ refl) h

-- where a job writes, nothing was
pub blank_there : {t : Translation} (p : Place) {cell : Cell} → Valid t → t.disk.flights p.die ≡ Some
    (Programming p cell) → t.disk.cells p ≡ Nothing
blank_there p {cell} v job = v.blocks.blank p p.page (v.flights.programs p.die p cell job).next (omega arith)

-- a touched page was blank, or its block is being erased
touched : {t : Translation} (f : Option Flight) (p : Place) (intended : Cell) → Valid t → t.disk.flights p.die ≡ f →
    Touches f p intended → (t.disk.cells p ≡ Nothing) ⊎ (t.disk.erasing (spot_of p) ≡ true)
touched None p intended v job touches = absurd touches
touched (Some (Reading reader place)) p intended v job touches = absurd touches
touched (Some (Programming q cell)) p intended v job touches =
    inl (blank_there p v (job ∙ λ i. Some (Programming (touches.0 i) cell)))
touched {t} (Some (Erasing s)) p intended v job touches =
    inr (subst (λ z. t.disk.erasing z ≡ true) touches.0 (v.flights.erases p.die s job).counted)

module _ {t : Translation} {c : Cells} (v : Valid t) (crash : StopLeaves t c) where
  -- a page where no erase is near stays
  pub stays : {p : Place} {x : Cell} → x ≢ Nothing → t.disk.cells p ≡ x → t.disk.erasing (spot_of p) ≡ false → c p ≡ x
  stays {p} some here out = ⊎_elim (λ e. e ∙ here)
      (λ e. ⊎_elim (λ k. absurd (some (sym here ∙ k))) (λ k. absurd (true≢false (sym k ∙ out)))
      (touched (t.disk.flights p.die) p e.0 v refl e.1)) (crash p)

  pub page_stays : {p : Place} {tag : Tag} {body : List ℕ} → t.disk.cells p ≡ GroupPage tag body →
      t.disk.erasing (spot_of p) ≡ false → c p ≡ GroupPage tag body
  page_stays here out = stays (page_not_nothing _ _ _ refl) here out

  pub mark_stays : (p : Place) (m : Mark) → t.disk.cells p ≡ MarkPage m → t.disk.erasing (spot_of p) ≡ false →
      c p ≡ MarkPage m
  mark_stays p m here out = stays (mark_not_nothing _ _ refl) here out

  -- Pages are known

  pub known : (p : Place) (tag : Tag) (body : List ℕ) → c p ≡ GroupPage tag body → IsKnown (book t) tag body
  known p tag body h =
      ⊎_elim (λ e. v.pages.known p tag body e) (λ e. v.flights.known p.die p tag body e) (page_from t.disk p crash h)

  pub recorded : (p : Place) (tag : Tag) (body : List ℕ) → c p ≡ GroupPage tag body → tag.frontier ≤ t.ledger.frontier
  recorded p tag body h = ⊎_elim (λ e. v.pages.recorded p tag body e) (λ e. v.flights.recorded p.die p tag body e)
      (page_from t.disk p crash h)

-- Nothing stands outside

untouched_outside : {t : Translation} (f : Option Flight) {p : Place} {intended x : Cell} → Valid t →
    (IsPlace t.numbers p → ⊥) → t.disk.flights p.die ≡ f → Touches f p intended → (x ≡ intended) ⊎ (x ≡ Nothing) →
    x ≡ Nothing
untouched_outside f v out job touches (inr e) = e
untouched_outside None v out job touches (inl e) = absurd touches
untouched_outside (Some (Reading reader place)) v out job touches (inl e) = absurd touches
untouched_outside {t} (Some (Programming q cell)) {p} v out job touches (inl e) =
    absurd (out (subst (IsPlace t.numbers) touches.0 (v.flights.programs p.die q cell job).place))
untouched_outside (Some (Erasing s)) v out job touches (inl e) = e ∙ touches.1

pub within : (t : Translation) (c : Cells) → Valid t → StopLeaves t c → AreWithin t.numbers c
within t c v crash p out = ⊎_elim (λ e. e ∙ v.pages.within p out)
    (λ e. untouched_outside (t.disk.flights p.die) v out refl e.1 e.2) (crash p)

-- the mark in flight has a number above all that stand
pub flying_above : {t : Translation} {die : ℕ} (p : Place) {m : Mark} → Valid t → t.disk.flights die ≡ Some
    (Programming p (MarkPage m)) → (q : Place) (other : Mark) → t.disk.cells q ≡ MarkPage other →
    other.number < m.number
flying_above {t} {die} p {m} v job q other h =
    let f = v.flights.mark die p m job in
    let s : StepKindRight (book t) t.ledger.marks t.disk.cells t.work.mending t.work.plan (MarkStep m.number m.fence) =
    v.step.kind (record { kind = MarkStep m.number m.fence; there = f.there }) f.step_is in
    s.above q other h

pub same_program : {p q : Place} {x y : Cell} → Some (Programming p x) ≡ Some (Programming q y) → x ≡ y
same_program e = cc

pub marks_differ : {t : Translation} (c : Cells) → Valid t → StopLeaves t c → ((p q : Place) (m other : Mark) →
    t.disk.cells p ≡ MarkPage m → t.disk.cells q ≡ MarkPage other → m.number ≡ other.number → m ≡ other) →
    (p q : Place) (m other : Mark) → c p ≡ MarkPage m → c q ≡ MarkPage other → m.number ≡ other.number → m ≡ other
marks_differ {t} c v crash same p q m other h l n = go (mark_from t.disk c p crash h) (mark_from t.disk c q crash l)
  where
    go : (t.disk.cells p ≡ MarkPage m) ⊎ (t.disk.flights p.die ≡ Some (Programming p (MarkPage m))) →
        (t.disk.cells q ≡ MarkPage other) ⊎ (t.disk.flights q.die ≡ Some (Programming q (MarkPage other))) → m ≡ other
    go (inl a) (inl b) = same p q m other a b n
    go (inl a) (inr b) = absurd (let x = flying_above q v b p m a in omega arith)
    go (inr a) (inl b) = absurd (let x = flying_above p v a q other b in omega arith)
    go (inr a) (inr b) =
        let d = v.flights.one_mark p.die q.die p q m other a b in
        one_mark m other (same_program (sym a ∙ ap t.disk.flights d ∙ b))
