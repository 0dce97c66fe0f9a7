-- A program that begins in a block that is being filled keeps a life valid, where what it writes is right.
use Rattle.power_loss.proofs.Common.{Cell, Entry, Erasing, Fence, FlightsRight, GroupPage, IsKnown, IsLaterMark}
use Rattle.power_loss.proofs.Common.{IsOverwritten, IsOwnMark, Key, List, Mark, MarkFlightRight, MarkPage, MarksRight}
use Rattle.power_loss.proofs.Common.{Mending, MendingRight, Nothing, Option, Place, Plan, PlanRight, ProgramRight}
use Rattle.power_loss.proofs.Common.{Programming, Some, Spot, StandsIn, Tag, Translation, Unmarked, Valid, at_die}
use Rattle.power_loss.proofs.Common.{at_die_is, book, inl, inr, refl, subst, sym, ℕ, ⊎_elim, ◌∙◌, ◌≡◌, ◌≤◌, ◌⊎◌}
use Rattle.power_loss.proofs.kept_pages.ReadsStay.{program_reads, reads_fewer}
use Rattle.power_loss.proofs.books.LayerParts.{MendingOf}

-- it is not mending, or does no longer wait for its first mark
abbrev pub IsMarkedOnce : Mending → Type 0
IsMarkedOnce (Unmarked fence lost) = ⊥
IsMarkedOnce mending = Unit {0}

pub record CellRight (t : Translation) (cell : Cell) : Type 0 where
  pub something : cell ≡ Nothing → ⊥
  pub known : (tag : Tag) (body : List ℕ) → cell ≡ GroupPage tag body → IsKnown (book t) tag body
  pub recorded : (tag : Tag) (body : List ℕ) → cell ≡ GroupPage tag body → tag.frontier ≤ t.ledger.frontier
  pub mark : (m : Mark) → cell ≡ MarkPage m → MarkFlightRight t.numbers t.ledger.marks t.work.step m
  pub alone : (m : Mark) → cell ≡ MarkPage m → (die : ℕ) (q : Place) (other : Mark) →
      t.disk.flights die ≡ Some (Programming q (MarkPage other)) → ⊥
  pub unmarked : (fence : Option Fence) (lost : List Key) → t.work.mending ≡ Unmarked fence lost →
      (m : Mark) × (cell ≡ MarkPage m) × IsOwnMark (book t) t.ledger.newest t.ledger.marks fence m
  pub later : (m newest : Mark) → cell ≡ MarkPage m → t.ledger.newest ≡ Some newest → IsMarkedOnce t.work.mending →
      IsLaterMark (book t) t.ledger.frontier newest m
  pub flown : (m : Mark) → cell ≡ MarkPage m → (pl : Plan) → t.work.plan ≡ Some pl → (n i : ℕ) (e : Entry) (q : Place) →
      StandsIn (book t) t.ledger.standing pl.victim n i e q → IsOverwritten (book t) n e.item.key m.records

same_program : {p q : Place} {cell other : Cell} → Some (Programming p cell) ≡ Some (Programming q other) →
    (p ≡ q) × (cell ≡ other)
same_program {p} {q} {cell} {other} e = (place e, this e)
  where
    place : Some (Programming p cell) ≡ Some (Programming q other) → p ≡ q
    place e = cc

    this : Some (Programming p cell) ≡ Some (Programming q other) → cell ≡ other
    this e = cc

pub is_this : (t : Translation) {die : ℕ} {p : Place} {cell : Cell} {d : ℕ} {q : Place} {other : Cell} →
    at_die t.disk.flights die (Some (Programming p cell)) d ≡ Some (Programming q other) →
    ((d ≡ die) × (p ≡ q) × (cell ≡ other)) ⊎ (t.disk.flights d ≡ Some (Programming q other))
is_this t {die} {p} {cell} {d} {q} {other} h = ⊎_elim
    (λ (k : (d ≡ die) × (Some (Programming p cell) ≡ Some (Programming q other))). let r = same_program
    k.1 in inl (k.0, r.0, r.1)) (λ k. inr k.1)
    (at_die_is t.disk.flights die (Some (Programming p cell)) d (Some (Programming q other)) h)

module _ (t : Translation) (die : ℕ) (p : Place) (cell : Cell) (v : Valid t)
    (place : ProgramRight t.numbers t.disk.blocks die p) (c : CellRight t cell) where
  begun_flights : FlightsRight (book t) t.ledger.frontier t.ledger.marks t.disk.blocks t.disk.erasing
      (at_die t.disk.flights die (Some (Programming p cell))) t.work.step
  begun_flights = record {
    programs = λ d q other h. ⊎_elim
        (λ (k : (d ≡ die) × (p ≡ q) × (cell ≡ other)). subst (λ z. ProgramRight t.numbers t.disk.blocks z q) (sym k.0)
        (subst (ProgramRight t.numbers t.disk.blocks die) k.1 place)) (λ k. v.flights.programs d q other k)
        (is_this t h);
    erases = λ d s h. ⊎_elim
        (λ (k : (d ≡ die) × (Some (Programming p cell) ≡ Some (Erasing s))). absurd (no_erase s k.1))
        (λ k. v.flights.erases d s k.1)
        (at_die_is t.disk.flights die (Some (Programming p cell)) d (Some (Erasing s)) h);
    something = λ d q h. ⊎_elim (λ k. c.something k.2) (λ k. v.flights.something d q k) (is_this t h);
    known = λ d q tag body h. ⊎_elim (λ k. c.known tag body k.2) (λ k. v.flights.known d q tag body k) (is_this t h);
    recorded = λ d q tag body h. ⊎_elim (λ k. c.recorded tag body k.2) (λ k. v.flights.recorded d q tag body k)
        (is_this t h);
    mark = λ d q m h. ⊎_elim (λ k. c.mark m k.2) (λ k. v.flights.mark d q m k) (is_this t h);
    one_mark = λ d e q r m other h g. one d e q r m other (is_this t h) (is_this t g);
  }
    where
      no_erase : (s : Spot) → Some (Programming p cell) ≡ Some (Erasing s) → ⊥
      no_erase s e = cc

      one : (d e : ℕ) (q r : Place) (m other : Mark) → ((d ≡ die) × (p ≡ q) × (cell ≡ MarkPage m))
          ⊎ (t.disk.flights d ≡ Some (Programming q (MarkPage m))) →
          ((e ≡ die) × (p ≡ r) × (cell ≡ MarkPage other)) ⊎ (t.disk.flights e ≡ Some (Programming r (MarkPage other))) →
          d ≡ e
      one d e q r m other (inl h) (inl g) = h.0 ∙ sym g.0
      one d e q r m other (inl h) (inr g) = absurd (c.alone m h.2 e r other g)
      one d e q r m other (inr h) (inl g) = absurd (c.alone other g.2 d q m h)
      one d e q r m other (inr h) (inr g) = v.flights.one_mark d e q r m other h g

  begun_marks : {newest : Mark} → t.ledger.newest ≡ Some newest → IsMarkedOnce t.work.mending → MarksRight (book t)
      t.ledger.frontier t.ledger.marks t.disk.cells t.disk.finished t.disk.blocks t.disk.erasing t.disk.flights newest →
      MarksRight (book t) t.ledger.frontier t.ledger.marks t.disk.cells t.disk.finished t.disk.blocks t.disk.erasing
      (at_die t.disk.flights die (Some (Programming p cell))) newest
  begun_marks {newest} is once r =
      let flies : (d : ℕ) (q : Place) (m : Mark) →
      at_die t.disk.flights die (Some (Programming p cell)) d ≡ Some (Programming q (MarkPage m)) →
      IsLaterMark (book t) t.ledger.frontier newest m =
      λ d q m h. ⊎_elim (λ k. c.later m newest k.2 is once) (λ k. r.flies d q m k) (is_this t h) in
      assumption

  begun_mending : (w : Mending) → t.work.mending ≡ w → MendingOf t w →
      MendingRight (book t) (record t.disk { flights = at_die t.disk.flights die (Some (Programming p cell)) }) t.ledger
      t.work.plan t.work.step w
  begun_mending (Unmarked fence lost) e u = record {
    opening = u.opening;
    opened = u.opened;
    fence_right = u.fence_right;
    lost_right = u.lost_right;
    none_new = u.none_new;
    still = u.still;
    same = u.same;
    flies = λ d q other h. ⊎_elim
        (λ (k : (d ≡ die) × (p ≡ q) × (cell ≡ other)). let m = c.unmarked fence lost e in (m.0, sym k.2 ∙ m.1, m.2))
        (λ k. u.flies d q other k) (is_this t h);
    spare = u.spare;
    unfinished = u.unfinished;
    no_plan = u.no_plan;
  }
  begun_mending w e m = record {
    mark = m.mark;
    is = m.is;
    right = begun_marks m.is (subst IsMarkedOnce (sym e) tt) m.right;
    more = m.more;
  }

  begun_plan : PlanRight (book t) t.ledger.frontier t.ledger.standing t.disk.blocks
      (at_die t.disk.flights die (Some (Programming p cell))) t.work.mending t.work.step t.work.plan
  begun_plan = record {
    mended = v.plan.mended;
    one = λ pl e.
        let r = v.plan.one pl e in
        record {
          state = r.state;
          copied = r.copied;
          flown = λ d q m h. ⊎_elim (λ k. c.flown m k.2 pl e) (λ k. r.flown d q m k) (is_this t h);
        };
  }

  pub begins : Valid (record t {
    disk = record t.disk { flights = at_die t.disk.flights die (Some (Programming p cell)) };
  })
  begins = assumption (
    begun_flights,
    begun_mending t.work.mending refl v.mending,
    begun_plan,
    reads_fewer (program_reads t.disk.flights die p cell) v.reads,
  )
