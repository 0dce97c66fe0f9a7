-- What moves leave of the programs in flight while nothing but the mending is under way.
use Rattle.power_loss.proofs.Common.{Bool, Cell, CopyStep, Filling, Flight, GroupPage, List, MarkStep, MayTake, Name}
use Rattle.power_loss.proofs.Common.{None, Option, Place, Programming, Reader, Reading, RepairStep, Some, Step}
use Rattle.power_loss.proofs.Common.{StepKind, StepKindRight, Tag, Translation, Valid, Want, [], ap, arith, at_die}
use Rattle.power_loss.proofs.Common.{at_die_is, below, book, cell_of_entry, false, false≢true, flies_mark, flies_name}
use Rattle.power_loss.proofs.Common.{if◌then◌else◌, inl, inr, is_kind_of, is_mended, name_of, name_self, none-some}
use Rattle.power_loss.proofs.Common.{program_unread, refl, same_Some, same_name, slice_get_within, spot_of, step_after}
use Rattle.power_loss.proofs.Common.{step_cell, step_flies, subst, sym, taken, true, waiting_name, without_reader, ℕ}
use Rattle.power_loss.proofs.Common.{⊎_elim, ◌+◌, ◌<◌, ◌∙◌, ◌≡◌, ◌≢◌, ◌⊎◌}
use Rattle.ufs_spec.proofs.Equalities.{name_told}
use Rattle.ufs_spec.specs.Ledger.{accepted_groups, before_accepted, entry_of}
use Rattle.ufs_spec.specs.Translation.{want_of_kind}
use Rattle.power_loss.specs.MendingRoom.{ArePinsOffFree, MendsAlone, flies_kind}
use Rattle.power_loss.proofs.books.FrontierClimbs.{get_drop}
use Rattle.power_loss.proofs.collected_blocks.FewestLivePages.{in_any}
use Rattle.power_loss.proofs.jobs_owed.ProgramsAndErases.{StepOwed, name_owed, program_owed, step_owed}
use Rattle.power_loss.proofs.jobs_owed.WhatWaits.{name_of_group}
use Rattle.power_loss.proofs.jobs.StandsSecurely.{free_is_not_filling}
use Rattle.power_loss.proofs.room_to_mend.PinsOffFree.{none_freed, pins_stay}
use Rattle.power_loss.proofs.ordered_lists.ElementsAndOrders.{in_below}

-- Programs in flight

-- what a die programs is the page of its own place, on one of the device's dies
home_of : {t : Translation} (die : ℕ) {p : Place} {cell : Cell} → Valid t →
    t.disk.flights die ≡ Some (Programming p cell) → die < t.numbers.dies
home_of {t} die {p} {cell} v h =
    let r = v.flights.programs die p cell h in
    let e = r.at_home in
    let l = r.place.die in
    omega (arith, e, l)

kind_flies : (t : Translation) (kind : StepKind) (die : ℕ) → die < t.numbers.dies →
    flies_kind kind (t.disk.flights die) ≡ true → step_flies t kind ≡ true
kind_flies t (MarkStep number fence) die l h =
    in_any (λ d. flies_mark (t.disk.flights d)) die (below t.numbers.dies) (in_below t.numbers.dies die l) h
kind_flies t (CopyStep name from) die l h =
    in_any (λ d. flies_name name (t.disk.flights d)) die (below t.numbers.dies) (in_below t.numbers.dies die l) h
kind_flies t (RepairStep name from) die l h =
    in_any (λ d. flies_name name (t.disk.flights d)) die (below t.numbers.dies) (in_below t.numbers.dies die l) h

-- a page that ended is the page of the step, which is over then
pub name_over : (tag : Tag) (body : List ℕ) (p : Place) (kind : StepKind) →
    flies_kind kind (Some (Programming p (GroupPage tag body))) ≡ true → is_kind_of (name_of tag) kind ≡ true
name_over tag body p (MarkStep number fence) h = absurd (false≢true h)
name_over tag body p (CopyStep name from) h =
    ap (same_name (name_of tag)) (name_told name (name_of tag) h) ∙ name_self (name_of tag)
name_over tag body p (RepairStep name from) h =
    ap (same_name (name_of tag)) (name_told name (name_of tag) h) ∙ name_self (name_of tag)

pub step_over : (name : Name) {s : Option Step} (step : Step) → s ≡ Some step → is_kind_of name step.kind ≡ true →
    step_after name s ≡ None
step_over name step is of = ap (step_after name) is ∙ ap (λ b. if b then None else Some step) of

-- the page of a step is programmed as the page of that step
entry_flies : (t : Translation) (name : Name) (p : Place) {cell : Cell} (e : _) → entry_of t.ledger name ≡ Some e →
    cell_of_entry name (entry_of t.ledger name) t.ledger.frontier ≡ cell →
    flies_name name (Some (Programming p cell)) ≡ true
entry_flies t name p e at is =
    ap (λ c. flies_name name (Some (Programming p c)))
    (sym is ∙ ap (λ z. cell_of_entry name z t.ledger.frontier) at)
    ∙ name_self name

cell_flies : (t : Translation) (kind : StepKind) (p : Place) {cell : Cell} →
    StepKindRight (book t) t.ledger.marks t.disk.cells t.work.mending t.work.plan kind → step_cell t kind ≡ cell →
    flies_kind kind (Some (Programming p cell)) ≡ true
cell_flies t (MarkStep number fence) p r is = ap (λ c. flies_mark (Some (Programming p c))) (sym is)
cell_flies t (CopyStep name from) p r is = entry_flies t name p r.1.0 r.1.1 is
cell_flies t (RepairStep name from) p r is = entry_flies t name p r.2.0 r.2.1 is

-- no group waits before the device is mended
no_name_waits : {t : Translation} (name : Name) → Valid t → is_mended t.work.mending ≡ false →
    waiting_name t ≡ Some name → ⊥
no_name_waits {t} name v un h =
    let k = name_of_group (before_accepted t.ledger) (accepted_groups t.ledger) name (name_owed t name h).behind in
    let at = sym (get_drop t.ledger.groups t.ledger.repairs k.at) ∙ k.is in
    let within = slice_get_within t.ledger.groups (t.ledger.repairs + k.at) k.group at in
    let all = (v.history.mending un).0 in
    omega (arith, within, all)

pub read_is_no_program : {reader : Reader} {q p : Place} {cell : Cell} →
    Some (Reading reader q) ≡ Some (Programming p cell) → ⊥
read_is_no_program e = cc

-- each program in flight was one before
abbrev pub AreFewer : (ℕ → Option Flight) → (ℕ → Option Flight) → Type 0
AreFewer flights now =
    (die : ℕ) (p : Place) (cell : Cell) → now die ≡ Some (Programming p cell) →
    flights die ≡ Some (Programming p cell)

pub begun_fewer : (flights : ℕ → Option Flight) (die : ℕ) (o : Option Flight) →
    ((p : Place) (cell : Cell) → o ≡ Some (Programming p cell) → ⊥) → AreFewer flights (at_die flights die o)
begun_fewer flights die o none d p cell h = ⊎_elim (λ k. absurd (none p cell k.1)) (λ k. k.1)
    (at_die_is flights die o d (Some (Programming p cell)) h)

pub ended_fewer : (flights : ℕ → Option Flight) (die : ℕ) → AreFewer flights (at_die flights die None)
ended_fewer flights die = begun_fewer flights die None (λ p cell h. none-some (Programming p cell) h)

pub gone_fewer : (flights : ℕ → Option Flight) (reads : Reader → Bool) →
    AreFewer flights (λ die. without_reader reads (flights die))
gone_fewer flights reads die p cell h = program_unread reads (flights die) p cell h

abbrev pub Readable : Option Step → Type 0
Readable s = (step : Step) → s ≡ Some step → step.there ≡ false → (want : Want) × (want_of_kind step.kind ≡ Some want)

pub none_readable : {s : Option Step} → s ≡ None → Readable s
none_readable none step is absent = absurd (none-some step (sym none ∙ is))

-- Nothing but the mending

pub fewer : {t : Translation} (u : Translation) → MendsAlone t → ArePinsOffFree u → u.work.rests ≡ [] →
    u.work.step ≡ t.work.step → AreFewer t.disk.flights u.disk.flights → MendsAlone u
fewer {t} u alone pins rests same programs = record {
  pins = pins;
  no_rests = rests;
  readable = λ step is absent. alone.readable step (sym same ∙ is) absent;
  of_step = λ die p cell is.
      let r = alone.of_step die p cell (programs die p cell is) in
      (r.0, same ∙ r.1, r.2);
  one_die = λ die other p q cell more is e.
      alone.one_die die other p q cell more (programs die p cell is) (programs other q more e);
}

-- where no die programs a page
pub unflown : (u : Translation) → ArePinsOffFree u → u.work.rests ≡ [] → Readable u.work.step →
    ((die : ℕ) (p : Place) (cell : Cell) → u.disk.flights die ≡ Some (Programming p cell) → ⊥) → MendsAlone u
unflown u pins rests readable none = record {
  pins = pins;
  no_rests = rests;
  readable = readable;
  of_step = λ die p cell is. absurd (none die p cell is);
  one_die = λ die other p q cell more is e. absurd (none die p cell is);
}

-- the end of the one program in flight leaves none
pub none_flown : {t : Translation} (die : ℕ) (p : Place) (cell : Cell) → Valid t → MendsAlone t →
    t.disk.flights die ≡ Some (Programming p cell) → (d : ℕ) (q : Place) (other : Cell) →
    at_die t.disk.flights p.die None d ≡ Some (Programming q other) → ⊥
none_flown {t} die p cell v alone e d q other h = ⊎_elim (λ k. none-some (Programming q other) k.1)
    (λ k. k.0 (sym (alone.one_die die d p q cell other e k.1) ∙ sym (v.flights.programs die p cell e).at_home))
    (at_die_is t.disk.flights p.die None d (Some (Programming q other)) h)

-- what a die begins to program is the page of the step that waits
pub program_begins : {t : Translation} (die : ℕ) (p : Place) (cell : Cell) → Valid t →
    is_mended t.work.mending ≡ false → MendsAlone t → MayTake t die (Some (Programming p cell)) →
    MendsAlone (taken t die (Programming p cell))
program_begins {t} die p cell v un alone may = ⊎_elim (λ h. with (step_owed t t.work.step cell refl h))
    (λ h. absurd (no_name_waits h.1.0 v un h.1.1)) (program_owed t die p cell may).is
  where
    with : StepOwed t cell → MendsAlone (taken t die (Programming p cell))
    with s = record {
      pins = pins_stay t.pins
          (none_freed t.disk.blocks (spot_of p) (Filling p.page) (λ e. free_is_not_filling e refl)) alone.pins;
      no_rests = alone.no_rests;
      readable = alone.readable;
      of_step = λ d q other h. ⊎_elim
          (λ k. (s.step, s.under_way, subst (λ f. flies_kind s.step.kind f ≡ true) k.1 its_page))
          (λ k. alone.of_step d q other k.1)
          (at_die_is t.disk.flights die (Some (Programming p cell)) d (Some (Programming q other)) h);
      one_die = λ d e q r other more h k. one d e q r other more
          (at_die_is t.disk.flights die (Some (Programming p cell)) d (Some (Programming q other)) h)
          (at_die_is t.disk.flights die (Some (Programming p cell)) e (Some (Programming r more)) k);
    }
      where
        its_page : flies_kind s.step.kind (Some (Programming p cell)) ≡ true
        its_page = cell_flies t s.step.kind p (v.step.kind s.step s.under_way) s.is

        none_before : (d : ℕ) (q : Place) (other : Cell) → t.disk.flights d ≡ Some (Programming q other) → ⊥
        none_before d q other h =
            let r = alone.of_step d q other h in
            let same = same_Some r.0 s.step (sym r.1 ∙ s.under_way) in
            false≢true (sym s.flies ∙ kind_flies t s.step.kind d (home_of d v h)
            (ap (flies_kind s.step.kind) h
            ∙ ap (λ (x : Step). flies_kind x.kind (Some (Programming q other))) (sym same) ∙ r.2))

        one : (d e : ℕ) (q r : Place) (other more : Cell) →
            ((d ≡ die) × (Some (Programming p cell) ≡ Some (Programming q other)))
            ⊎ ((d ≢ die) × (t.disk.flights d ≡ Some (Programming q other))) →
            ((e ≡ die) × (Some (Programming p cell) ≡ Some (Programming r more)))
            ⊎ ((e ≢ die) × (t.disk.flights e ≡ Some (Programming r more))) → d ≡ e
        one d e q r other more (inl h) (inl k) = h.0 ∙ sym k.0
        one d e q r other more (inr h) k = absurd (none_before d q other h.1)
        one d e q r other more h (inr k) = absurd (none_before e r more k.1)
