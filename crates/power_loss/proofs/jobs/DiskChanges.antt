-- A change of the disk that keeps what stands safely keeps a life valid: each page is as it was, or nothing, or left by
-- a program that failed; and what is in flight was in flight.
use Rattle.power_loss.proofs.Common.{◌≡◌, ◌≢◌, ℕ, suc, ◌<◌, ◌≤◌, Bool, true, false, ◌⊎◌, All, List, [], Option, Some}
use Rattle.power_loss.proofs.Common.{None, refl, cases_Bool, HasKey, IsSpare, IsThereOrSpare, MayBeErased, sym, ap, ◌∙◌}
use Rattle.power_loss.proofs.Common.{subst, inl, inr, ⊎_elim, arith, All-nil, Cell, Cells, GroupPage, Mark, MarkPage}
use Rattle.power_loss.proofs.Common.{Nothing, Bad, Closed, Disk, Erasing, Flight, Free, Programming, Spot, spot_of}
use Rattle.power_loss.proofs.Common.{Name, CopyStep, MarkStep, Mended, Mending, Plan, Repairing, Step, StepKind}
use Rattle.power_loss.proofs.Common.{Translation, Unmarked, Want, wants_of_step, is_mended, Fence, Key, Place, Tag}
use Rattle.power_loss.proofs.Common.{mark_not_nothing, page_not_nothing, Book, book, last_number, AreNumbered}
use Rattle.power_loss.proofs.Common.{BlocksRight, EraseRight, FlightsRight, IsLastRepair, IsOpenedOrOwn, IsNeededPage}
use Rattle.power_loss.proofs.Common.{IsOwnMark, IsToCopy, MarkFlightRight, MarksRight, MendingRight, PagesRight}
use Rattle.power_loss.proofs.Common.{PlanRight, ProgramRight, ReadsRight, StepKindRight, StepRight, ToReadRight, Valid}
use Rattle.power_loss.proofs.Common.{Stale, VacanciesRight, recorded_in}
use Rattle.power_loss.proofs.books.LayerParts.{MarksOf, MendingOf, OwnMarkOf, UnmarkedOf}
use Rattle.power_loss.proofs.jobs.NoneStale.{HadStep, stale_stays}
use Rattle.power_loss.proofs.jobs.StandsSecurely.{Keeps, all_safe, free_is_not_bad, mark_stands_moves, secure_moves}
use Rattle.power_loss.proofs.jobs.StandsSecurely.{true_is_not_false}
use Rattle.power_loss.proofs.kept_pages.PagesStay.{HeldStay}
use Rattle.power_loss.proofs.kept_pages.ReadsStay.{needed_keeps, to_read_stay}

-- a program that failed left its page there
pub record IsFresh (t : Translation) (e : Disk) (q : Place) : Type 0 where
  pub die : ℕ
  pub flies : t.disk.flights die ≡ Some (Programming q (e.cells q))
  pub unfinished : e.finished q ≡ false
  pub bad : e.blocks (spot_of q) ≡ Bad
  pub stays : e.erasing (spot_of q) ≡ false
  pub blank : t.disk.cells q ≡ Nothing

abbrev pub IsLeft : Translation → Disk → Place → Type 0
IsLeft t e q = (e.cells q ≡ t.disk.cells q) ⊎ ((e.cells q ≡ Nothing) ⊎ IsFresh t e q)

pub record Change (t : Translation) (e : Disk) : Type 0 where
  pub keeps : Keeps t.disk e
  pub left : (q : Place) → IsLeft t e q
  pub ended : (q : Place) → e.finished q ≡ true → t.disk.finished q ≡ true
  pub unended : (q : Place) → e.finished q ≡ false →
      (t.disk.finished q ≡ false) ⊎ ((e.cells q ≡ Nothing) ⊎ IsFresh t e q)
  pub blocks : BlocksRight t.numbers e.cells e.finished e.blocks e.erasing
  pub vacancies : VacanciesRight e.cells e.blocks e.vacancies e.erasing
  pub flew : (die : ℕ) (p : Place) (cell : Cell) → e.flights die ≡ Some (Programming p cell) → t.disk.flights die ≡ Some
      (Programming p cell)
  pub programs : (die : ℕ) (p : Place) (cell : Cell) → e.flights die ≡ Some (Programming p cell) →
      ProgramRight t.numbers e.blocks die p
  pub erases : (die : ℕ) (s : Spot) → e.flights die ≡ Some (Erasing s) → EraseRight e.blocks e.erasing die s
  pub freed : (s : Spot) → e.blocks s ≡ Free → t.disk.blocks s ≡ Free
  pub stale : (s : Spot) → e.blocks s ≡ Free → e.vacancies s ≡ Stale → t.disk.vacancies s ≡ Stale
  pub spent : (s : Spot) → e.erasing s ≡ true → (t.disk.blocks s ≡ Free) ⊎ (t.disk.erasing s ≡ true)
  pub victims : (s : Spot) → (t.disk.blocks s ≡ Closed) ⊎ (t.disk.blocks s ≡ Bad) →
      (e.blocks s ≡ Closed) ⊎ (e.blocks s ≡ Bad)
  pub reads : ReadsRight e.cells e.finished e.erasing e.flights

-- a page that is nothing was nothing, or lay in a block whose pages may go
abbrev pub IsGone : Translation → Disk → Type 0
IsGone t e = (p : Place) → e.cells p ≡ Nothing →
    (t.disk.cells p ≡ Nothing) ⊎ MayBeErased t.disk.blocks t.disk.erasing (spot_of p)

-- the step under way behind it, and the greatest mark number
pub record Follows (t : Translation) (e : Disk) (marks : ℕ) (step : Option Step) : Type 0 where
  pub more : t.ledger.marks ≤ marks
  pub right : StepRight (book t) marks e.cells t.work.mending t.work.plan step
  pub mark : (die : ℕ) (p : Place) (m : Mark) → e.flights die ≡ Some (Programming p (MarkPage m)) →
      MarkFlightRight t.numbers marks step m
  pub repair : IsLastRepair (book t) t.work.step → IsLastRepair (book t) step
  pub copy : (name : Name) (p : Place) (there : Bool) → t.work.step ≡ Some
      (record { kind = CopyStep name p; there = there }) →
      step ≡ Some (record { kind = CopyStep name p; there = there })
  -- it goes on with the one that was under way
  pub had : HadStep t.work.step step
  -- it needs no other read
  pub wants : (wants_of_step step ≡ wants_of_step t.work.step) ⊎ (wants_of_step step ≡ [])

page_left : {t : Translation} {e : Disk} {q : Place} {tag : Tag} {body : List ℕ} → IsLeft t e q →
    e.cells q ≡ GroupPage tag body → (t.disk.cells q ≡ GroupPage tag body) ⊎ ((e.finished q ≡ false) ×
    ((die : ℕ) × (t.disk.flights die ≡ Some (Programming q (GroupPage tag body)))))
page_left (inl h) k = inl (sym h ∙ k)
page_left (inr (inl h)) k = absurd (page_not_nothing _ _ _ k h)
page_left {q} (inr (inr f)) k = inr (f.unfinished, (f.die, f.flies ∙ ap (λ x. Some (Programming q x)) k))

pub record FreshMark (t : Translation) (e : Disk) (q : Place) (m : Mark) : Type 0 where
  pub die : ℕ
  pub flies : t.disk.flights die ≡ Some (Programming q (MarkPage m))
  pub unfinished : e.finished q ≡ false
  pub bad : e.blocks (spot_of q) ≡ Bad

mark_left : {t : Translation} {e : Disk} {q : Place} {m : Mark} → IsLeft t e q → e.cells q ≡ MarkPage m →
    (t.disk.cells q ≡ MarkPage m) ⊎ FreshMark t e q m
mark_left (inl h) k = inl (sym h ∙ k)
mark_left (inr (inl h)) k = absurd (mark_not_nothing _ _ k h)
mark_left {q} (inr (inr f)) k =
    inr record {
      die = f.die;
      flies = f.flies ∙ ap (λ x. Some (Programming q x)) k;
      unfinished = f.unfinished;
      bad = f.bad;
    }

-- a mark in flight has the greatest number
pub flown_number : {t : Translation} (die : ℕ) (q : Place) (m : Mark) → Valid t → t.disk.flights die ≡ Some
    (Programming q (MarkPage m)) → m.number ≡ t.ledger.marks
flown_number die q m v h = (v.flights.mark die q m h).number

pub flown_above : {t : Translation} {die : ℕ} (q p : Place) {m : Mark} (other : Mark) → Valid t →
    t.disk.flights die ≡ Some (Programming q (MarkPage m)) → t.disk.cells p ≡ MarkPage other → other.number < m.number
flown_above {die} q p {m} other v h k =
    let f = v.flights.mark die q m h in
    (v.step.kind (record { kind = MarkStep m.number m.fence; there = f.there }) f.step_is).above p other k

same_mark : {f : Option Flight} {p q : Place} {m other : Mark} → f ≡ Some (Programming p (MarkPage m)) →
    f ≡ Some (Programming q (MarkPage other)) → m ≡ other
same_mark h k = cc

-- a page that is spare is so where what may not go is as it was
pub spare_moves : (before after : Cells) (newest : Option Mark) (A B : Spot → Type 0) (cell : Cell) →
    ((s : Spot) → B s → A s) → ((q : Place) → before q ≢ Nothing → (A (spot_of q) → ⊥) → after q ≡ before q) →
    IsSpare before newest A cell → IsSpare after newest B cell
spare_moves before after None A B cell less still h = absurd h
spare_moves before after (Some m) A B Nothing less still h = absurd h
spare_moves before after (Some m) A B (MarkPage other) less still h = h
spare_moves before after (Some m) A B (GroupPage tag body) less still (inl h) = inl h
spare_moves before after (Some m) A B (GroupPage tag body) less still (inr s) = inr record {
  place = s.place;
  tag = s.tag;
  other = s.other;
  there = still s.place (page_not_nothing _ _ _ s.there) s.outside ∙ s.there;
  outside = λ h. s.outside (less (spot_of s.place) h);
  instead = s.instead;
}

-- The parts

module _ (t : Translation) (e : Disk) (v : Valid t) (c : Change t e) where
  pages_change : PagesRight (book t) t.ledger.standing t.ledger.frontier e.cells e.finished
  pages_change = record {
    within = λ p out. ⊎_elim (λ h. h ∙ v.pages.within p out) (λ h. ⊎_elim (λ k. k) (λ f. absurd
        (out (v.flights.programs f.die p (e.cells p) f.flies).place)) h) (c.left p);
    known = λ p tag body h. ⊎_elim (λ k. v.pages.known p tag body k) (λ k. v.flights.known k.1.0 p tag body k.1.1)
        (page_left (c.left p) h);
    recorded = λ p tag body h. ⊎_elim (λ k. v.pages.recorded p tag body k)
        (λ k. v.flights.recorded k.1.0 p tag body k.1.1) (page_left (c.left p) h);
    stands = λ p tag body h fin. ⊎_elim (λ k. v.pages.stands p tag body k (c.ended p fin))
        (λ k. absurd (true_is_not_false fin k.0)) (page_left (c.left p) h);
  }

  pub numbered_change : AreNumbered t.ledger.marks e.cells
  numbered_change p m h = ⊎_elim (λ k. v.numbered p m k)
      (λ k. let z = flown_number k.die p m v k.flies in omega arith) (mark_left (c.left p) h)

  flights_change : {marks : ℕ} {step : Option Step} → Follows t e marks step →
      FlightsRight (book t) t.ledger.frontier marks e.blocks e.erasing e.flights step
  flights_change f = record {
    programs = c.programs;
    erases = c.erases;
    something = λ die p h. v.flights.something die p (c.flew die p Nothing h);
    known = λ die p tag body h. v.flights.known die p tag body (c.flew die p (GroupPage tag body) h);
    recorded = λ die p tag body h. v.flights.recorded die p tag body (c.flew die p (GroupPage tag body) h);
    mark = f.mark;
    one_mark = λ d k p q m other h g. v.flights.one_mark d k p q m other (c.flew d p (MarkPage m) h)
        (c.flew k q (MarkPage other) g);
  }

  marks_same : (newest : Mark) → MarksOf t newest → {p q : Place} {m other : Mark} → (t.disk.cells p ≡ MarkPage m) ⊎
      FreshMark t e p m → (t.disk.cells q ≡ MarkPage other) ⊎ FreshMark t e q other → m.number ≡ other.number →
      m ≡ other
  marks_same newest r {p} {q} {m} {other} (inl h) (inl k) n = r.same p q m other h k n
  marks_same newest r {p} {q} {m} (inl h) (inr k) n = absurd (let l = flown_above q p m v k.flies h in omega arith)
  marks_same newest r {p = p} {q = q} {other = other} (inr h) (inl k) n =
      absurd (let l = flown_above p q other v h.flies k in omega arith)
  marks_same newest r {p} {q} {m} {other} (inr h) (inr k) n =
      same_mark h.flies (ap t.disk.flights (v.flights.one_mark h.die k.die p q m other h.flies k.flies) ∙ k.flies)

  marks_change : {newest : Mark} → MarksOf t newest → {marks : ℕ} →
      MarksRight (book t) t.ledger.frontier marks e.cells e.finished e.blocks e.erasing e.flights newest
  marks_change {newest} r = record {
    stands = mark_stands_moves c.keeps r.stands;
    within = r.within;
    numbers = r.numbers;
    whole = r.whole;
    ended = λ p m h fin. ⊎_elim (λ k. r.ended p m k (c.ended p fin)) (λ k. absurd
        (true_is_not_false fin k.unfinished)) (mark_left (c.left p) h);
    known = λ p m h. ⊎_elim (λ k. r.known p m k) (λ k. inr (r.flies k.die p m k.flies)) (mark_left (c.left p) h);
    same = λ p q m other h k n. marks_same newest r (mark_left (c.left p) h) (mark_left (c.left q) k) n;
    freed = λ p m h free. ⊎_elim (λ k. r.freed p m k (c.freed (spot_of p) free)) (λ k. absurd
        (free_is_not_bad free k.bad)) (mark_left (c.left p) h);
    flies = λ die p m h. r.flies die p m (c.flew die p (MarkPage m) h);
  }

  -- the first marks of a life

  own_more : {marks : ℕ} {fence : Option Fence} {m : Mark} → t.ledger.marks ≤ marks → OwnMarkOf t fence m →
      IsOwnMark (book t) t.ledger.newest marks fence m
  own_more {marks = marks} {m = m} l o =
      let within : m.number ≤ marks = let w = o.within in omega arith in
      assumption

  opened_same : (marks : ℕ) (fence : Option Fence) (opened cell : Cell) {finished ended : Bool} →
      t.ledger.marks ≤ marks → (ended ≡ true → finished ≡ true) →
      IsOpenedOrOwn (book t) t.ledger.newest t.ledger.marks fence opened cell finished →
      IsOpenedOrOwn (book t) t.ledger.newest marks fence opened cell ended
  opened_same marks fence opened cell l still (inl h) = inl h
  opened_same marks fence opened cell l still (inr (inl h)) = inr (inl h)
  opened_same marks fence opened cell {ended = ended} l still (inr (inr (h, (m, is, own)))) = inr (inr (
    ⊎_elim (λ k. absurd (true_is_not_false (still k) h)) (λ k. k) (cases_Bool ended),
    (m, is, own_more l own),
  ))

  unmarked_same : (marks : ℕ) (fence : Option Fence) (lost : List Key) → t.ledger.marks ≤ marks →
      (u : UnmarkedOf t fence lost) → (p : Place) → IsLeft t e p →
      IsOpenedOrOwn (book t) t.ledger.newest marks fence (u.opening p) (e.cells p) (e.finished p)
  unmarked_same marks fence lost l u p (inl h) =
      subst (λ x. IsOpenedOrOwn (book t) t.ledger.newest marks fence (u.opening p) x (e.finished p)) (sym h)
      (opened_same marks fence (u.opening p) (t.disk.cells p) l (c.ended p) (u.same p))
  unmarked_same marks fence lost l u p (inr (inl h)) = inr (inl h)
  unmarked_same marks fence lost l u p (inr (inr f)) =
      let own = u.flies f.die p (e.cells p) f.flies in
      inr (inr (f.unfinished, (own.0, own.1, own_more l own.2)))

  -- what may not go stays
  still : IsGone t e → (p : Place) → t.disk.cells p ≢ Nothing →
      (MayBeErased t.disk.blocks t.disk.erasing (spot_of p) → ⊥) → e.cells p ≡ t.disk.cells p
  still gone p some out = ⊎_elim (λ h. h)
      (λ h. ⊎_elim (λ k. absurd (⊎_elim (λ z. some z) (λ z. out z) (gone p k))) (λ f. absurd (some f.blank)) h)
      (c.left p)

  may_still : (s : Spot) → MayBeErased e.blocks e.erasing s → MayBeErased t.disk.blocks t.disk.erasing s
  may_still s may = ⊎_elim (λ free. inl (c.freed s free)) (λ er. c.spent s er) may

  unmarked_spare : {fence : Option Fence} {lost : List Key} → IsGone t e → (u : UnmarkedOf t fence lost) → (p : Place) →
      u.opening p ≢ Nothing → IsThereOrSpare t.ledger.newest e.cells e.blocks e.erasing p (u.opening p)
  unmarked_spare gone u p some = ⊎_elim
      (λ h. inl (still gone p (λ z. some (sym h.0 ∙ z)) h.1 ∙ h.0, λ may. h.1 (may_still (spot_of p) may)))
      (λ h. inr (spare_moves t.disk.cells e.cells t.ledger.newest (MayBeErased t.disk.blocks t.disk.erasing)
      (MayBeErased e.blocks e.erasing) (u.opening p) may_still (still gone) h)) (u.spare p some)

  unmarked_unfinished : (marks : ℕ) (fence : Option Fence) (lost : List Key) → t.ledger.marks ≤ marks →
      (u : UnmarkedOf t fence lost) → (p : Place) → e.finished p ≡ false → (e.cells p ≡ Nothing) ⊎
      ((m : Mark) × (e.cells p ≡ MarkPage m) × IsOwnMark (book t) t.ledger.newest marks fence m)
  unmarked_unfinished marks fence lost l u p h = ⊎_elim (λ k. by (c.left p) (u.unfinished p k))
      (λ k. ⊎_elim (λ none. inl none) fresh k) (c.unended p h)
    where
      fresh : IsFresh t e p → (e.cells p ≡ Nothing) ⊎
          ((m : Mark) × (e.cells p ≡ MarkPage m) × IsOwnMark (book t) t.ledger.newest marks fence m)
      fresh f = let own = u.flies f.die p (e.cells p) f.flies in inr (own.0, own.1, own_more l own.2)

      by : IsLeft t e p → (t.disk.cells p ≡ Nothing) ⊎
          ((m : Mark) × (t.disk.cells p ≡ MarkPage m) × IsOwnMark (book t) t.ledger.newest t.ledger.marks fence m) →
          (e.cells p ≡ Nothing) ⊎
          ((m : Mark) × (e.cells p ≡ MarkPage m) × IsOwnMark (book t) t.ledger.newest marks fence m)
      by (inl same) (inl none) = inl (same ∙ none)
      by (inl same) (inr own) = inr (own.0, same ∙ own.1, own_more l own.2)
      by (inr (inl none)) was = inl none
      by (inr (inr f)) was = fresh f

  -- how far the mending is

  last_repair : {marks : ℕ} {step : Option Step} → Follows t e marks step → {frontier : ℕ} →
      (frontier ≡ last_number (book t)) ⊎ ((suc frontier ≡ last_number (book t)) × IsLastRepair (book t) t.work.step) →
      (frontier ≡ last_number (book t)) ⊎ ((suc frontier ≡ last_number (book t)) × IsLastRepair (book t) step)
  last_repair f (inl h) = inl h
  last_repair f (inr (h, r)) = inr (h, f.repair r)

  mending_change : {marks : ℕ} {step : Option Step} → Follows t e marks step → IsGone t e → (w : Mending) →
      MendingOf t w → MendingRight (book t) e (record t.ledger { marks = marks }) t.work.plan step w
  mending_change {marks} f gone (Unmarked fence lost) u = record {
    opening = u.opening;
    opened = u.opened;
    fence_right = u.fence_right;
    lost_right = u.lost_right;
    none_new = u.none_new;
    still = u.still;
    same = λ p. unmarked_same marks fence lost f.more u p (c.left p);
    spare = unmarked_spare gone u;
    unfinished = unmarked_unfinished marks fence lost f.more u;
    flies = λ die p cell h. let own = u.flies die p cell (c.flew die p cell h) in
        (own.0, own.1, own_more f.more own.2);
    no_plan = u.no_plan;
  }
  mending_change {marks} {step} f gone (Repairing left) m = record {
    mark = m.mark;
    is = m.is;
    right = marks_change m.right;
    more = assumption (last_repair f m.more.under_way);
  }
  mending_change {marks} f gone Mended m =
      record { mark = m.mark; is = m.is; right = marks_change m.right; more = m.more }

  -- collection

  to_copy : {marks : ℕ} {step : Option Step} → Follows t e marks step → (copies : List Place) (n i : ℕ) (p : Place) →
      IsToCopy copies t.work.step n i p → IsToCopy copies step n i p
  to_copy f copies n i p (inl h) = inl h
  to_copy f copies n i p (inr (there, h)) = inr (there, f.copy (record { number = n; index = i }) p there h)

  plan_change : {marks : ℕ} {step : Option Step} → Follows t e marks step →
      PlanRight (book t) t.ledger.frontier t.ledger.standing e.blocks e.flights t.work.mending step t.work.plan
  plan_change {marks} {step} f = record {
    mended = v.plan.mended;
    one = λ pl h.
        let r = v.plan.one pl h in
        record {
          state = c.victims pl.victim r.state;
          copied = λ n i x p k. ⊎_elim (λ o. inl o) (λ y. inr (to_copy f pl.copies n i p y)) (r.copied n i x p k);
          flown = λ die q m k. r.flown die q m (c.flew die q (MarkPage m) k);
        };
  }

  to_read_change : {marks : ℕ} {step : Option Step} → Follows t e marks step →
      ToReadRight e.cells e.finished e.blocks e.erasing step t.work.plan
  to_read_change f = record {
    wanted = ⊎_elim (λ h. subst (All IsThere) (sym h) old.wanted) (λ h. subst (All IsThere) (sym h) (All-nil IsThere))
        f.wants;
    copied = old.copied;
  }
    where
      IsThere : Want → Type 0
      IsThere w = IsNeededPage e.cells e.finished e.blocks e.erasing w.place

      old : ToReadRight e.cells e.finished e.blocks e.erasing t.work.step t.work.plan
      old = to_read_stay (λ p h. needed_keeps t.disk e c.keeps h) v.to_read

  numbered_more : (marks : ℕ) → t.ledger.marks ≤ marks → AreNumbered marks e.cells
  numbered_more marks l p m h = let z = numbered_change p m h in omega arith

pub changed : {t : Translation} {e : Disk} {marks : ℕ} {step : Option Step} → Valid t → Change t e → IsGone t e →
    Follows t e marks step → HeldStay t e →
    Valid (record t { disk = e; ledger = record t.ledger { marks = marks }; work = record t.work { step = step } })
changed {t} {e} {marks} {step} v c gone f held = assumption (
  pages_change t e v c,
  flights_change t e v c f,
  all_safe {b = book t} {marked' = recorded_in t.ledger.newest} c.keeps (omega arith) v.safe,
  numbered_more t e v c marks f.more,
  mending_change t e v c f gone t.work.mending v.mending,
  plan_change t e v c f,
  λ (un : is_mended t.work.mending ≡ false) (key : Key) (name : Name) (p : Place) (has : HasKey (book t) key)
      (first : (book t).first_page key ≡ Some name) (h : t.ledger.standing name.number name.index ≡ Some p).
      secure_moves c.keeps (v.unmended.stand un key name p has first h),
  to_read_change t e v c f,
  stale_stays t.numbers t.work.mending (λ a free stale. (c.freed a free, c.stale a free stale)) f.had v.stale,
)

-- The same step

-- each mark was there
abbrev pub HasNoMore : Translation → Disk → Type 0
HasNoMore t e = (q : Place) (m : Mark) → e.cells q ≡ MarkPage m → t.disk.cells q ≡ MarkPage m

-- a step that is right is so where no mark is more
pub kind_goes_on : (b : Book) (marks : ℕ) {before after : Cells} (w : Mending) (plan : Option Plan) (kind : StepKind) →
    ((q : Place) (m : Mark) → after q ≡ MarkPage m → before q ≡ MarkPage m) → StepKindRight b marks before w plan kind →
    StepKindRight b marks after w plan kind
kind_goes_on b marks {before} {after} w plan (MarkStep number fence) old r =
    assumption (λ (q : Place) (m : Mark) (h : after q ≡ MarkPage m). r.above q m (old q m h))
kind_goes_on b marks w plan kind old r = r

pub same_step : {t : Translation} {e : Disk} → Valid t → Change t e → HasNoMore t e →
    Follows t e t.ledger.marks t.work.step
same_step {t} v c old = record {
  more = omega arith;
  right = record {
    kind = λ s h. kind_goes_on (book t) t.ledger.marks t.work.mending t.work.plan s.kind old (v.step.kind s h);
  };
  mark = λ die p m h. v.flights.mark die p m (c.flew die p (MarkPage m) h);
  repair = λ r. r;
  copy = λ name p there h. h;
  had = λ s h. (s, h);
  wants = inl refl;
}

-- a change that only loses pages
pub lost_pages : {t : Translation} {e : Disk} → Valid t → Change t e → IsGone t e →
    ((q : Place) → (e.cells q ≡ t.disk.cells q) ⊎ (e.cells q ≡ Nothing)) → HeldStay t e → Valid (record t { disk = e })
lost_pages {t} v c gone less held = changed v c gone
    (same_step v c (λ q m h. ⊎_elim (λ k. sym k ∙ h) (λ k. absurd (mark_not_nothing _ _ h k)) (less q))) held
