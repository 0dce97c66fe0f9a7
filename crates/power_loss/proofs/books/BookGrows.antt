-- What goes on holding when a group is added to the book, and pages and all else stay as they are.
use Rattle.power_loss.proofs.Common.{◌≡◌, ℕ, Bool, Option, Some, subst, inl, inr, ⊎_elim, arith, List, Cells, Mark}
use Rattle.power_loss.proofs.Common.{GroupPage, Disk, Spot, Programming, Group, Entry, CopyStep, MarkStep, Mending}
use Rattle.power_loss.proofs.Common.{Plan, RepairStep, Step, StepKind, Key, Place, Book, IsPageAt, FlightsRight}
use Rattle.power_loss.proofs.Common.{FrontierRight, IsLaterMark, IsSafe, MarksRight, OnePlanRight, PagesRight}
use Rattle.power_loss.proofs.Common.{SafeRight, Standing, StandsIn, StepKindRight, Tag}
use Rattle.power_loss.proofs.books.PagesByName.{grown, known_grows, last_grows, lost_grows, overwritten_grows}
use Rattle.power_loss.proofs.books.PagesByName.{page_before, page_grows, page_one, plain_grows}

pub frontier_grows : {b : Book} (g : Group) {standing : Standing} {frontier : ℕ} → FrontierRight b standing frontier →
    FrontierRight (grown b g) standing frontier
frontier_grows {b} g r = record {
  above = r.above;
  within = let w = r.within in let z = last_grows b g in omega arith;
  stand = λ n i e l h. r.stand n i e l (page_before b g n i e (let w = r.within in omega arith) h);
  known = λ n i p h. let k = r.known n i p h in (k.0, page_grows b g n i k.0 k.1);
}

pub pages_grow : {b : Book} (g : Group) {standing : Standing} {frontier : ℕ} {cells : Cells} {finished : Place → Bool} →
    PagesRight b standing frontier cells finished → PagesRight (grown b g) standing frontier cells finished
pages_grow {b} g {cells = cells} r = assumption (λ (p : Place) (t : Tag) (body : List ℕ)
    (h : cells p ≡ GroupPage t body). known_grows b g t (r.known p t body h))

pub flights_grow : {b : Book} (g : Group) {frontier marks : ℕ} (d : Disk) {step : Option Step} →
    FlightsRight b frontier marks d.blocks d.erasing d.flights step →
    FlightsRight (grown b g) frontier marks d.blocks d.erasing d.flights step
flights_grow {b} g d r = assumption (λ (die : ℕ) (p : Place) (t : Tag) (body : List ℕ)
    (h : d.flights die ≡ Some (Programming p (GroupPage t body))). known_grows b g t (r.known die p t body h))

-- what stands was known before
pub page_stood : {b : Book} (g : Group) {standing : Standing} {frontier : ℕ} (n i : ℕ) (e : Entry) {p : Place} →
    FrontierRight b standing frontier → standing n i ≡ Some p → IsPageAt (grown b g) n i e → IsPageAt b n i e
page_stood {b} g n i e {p} r s h =
    let k = r.known n i p s in
    subst (IsPageAt b n i) (page_one (grown b g) n i k.0 e (page_grows b g n i k.0 k.1) h) k.1

is_safe_grows : (b : Book) (g : Group) {marked : ℕ} {standing : Standing} (d : Disk) (n : ℕ) {i : ℕ} {k : Key} →
    IsSafe b marked standing d.cells d.finished d.blocks d.erasing n i k →
    IsSafe (grown b g) marked standing d.cells d.finished d.blocks d.erasing n i k
is_safe_grows b g d n (inl h) = inl h
is_safe_grows b g {marked} d n {k} (inr h) =
    inr (record { by = overwritten_grows g {k = k} {bound = marked} h.by; secure = h.secure })

pub safe_grows : {b : Book} (g : Group) {marked frontier : ℕ} {standing : Standing} (d : Disk) →
    FrontierRight b standing frontier → SafeRight b marked standing d.cells d.finished d.blocks d.erasing →
    SafeRight (grown b g) marked standing d.cells d.finished d.blocks d.erasing
safe_grows {b} g d f r = record {
  safe = λ n i e p h s free. is_safe_grows b g d n
      (r.safe n i e p (page_stood g n i e f s h) s (λ lost. free (lost_grows g lost)));
}

pub later_mark_grows : {b : Book} (g : Group) {frontier : ℕ} {newest : Mark} {m : Mark} →
    IsLaterMark b frontier newest m → IsLaterMark (grown b g) frontier newest m
later_mark_grows {b} g {m = m} h = assumption (plain_grows g h.plain)

pub marks_grow : {b : Book} (g : Group) {frontier marks : ℕ} (d : Disk) {newest : Mark} →
    MarksRight b frontier marks d.cells d.finished d.blocks d.erasing d.flights newest →
    MarksRight (grown b g) frontier marks d.cells d.finished d.blocks d.erasing d.flights newest
marks_grow {b} g d r = record {
  stands = r.stands;
  within = r.within;
  numbers = r.numbers;
  whole = λ n l u. let w = r.whole n l u in
      record { size = w.size; some = w.some; one_size = w.one_size; each = w.each };
  ended = r.ended;
  known = λ p m h. ⊎_elim (λ k. inl k) (λ k. inr (later_mark_grows g k)) (r.known p m h);
  same = r.same;
  freed = r.freed;
  flies = λ die p m h. later_mark_grows g (r.flies die p m h);
}

pub kind_grows : (b : Book) (g : Group) (marks : ℕ) (cells : Cells) (mending : Mending) (plan : Option Plan)
    (kind : StepKind) → StepKindRight b marks cells mending plan kind →
    StepKindRight (grown b g) marks cells mending plan kind
kind_grows b g marks cells mending plan (MarkStep number fence) h = h
kind_grows b g marks cells mending plan (CopyStep name from) h =
    (h.0, (h.1.0, page_grows b g name.number name.index h.1.0 h.1.1))
kind_grows b g marks cells mending plan (RepairStep name from) h =
    (h.0, h.1, (h.2.0, page_grows b g name.number name.index h.2.0 h.2.1))

pub stands_in_before : {b : Book} (g : Group) {standing : Standing} {frontier : ℕ} {victim : Spot} {n i : ℕ} {e : Entry}
    {p : Place} → FrontierRight b standing frontier → StandsIn (grown b g) standing victim n i e p →
    StandsIn b standing victim n i e p
stands_in_before {b} g {n = n} {i = i} {e = e} {p = p} r h = record {
  is = page_stood g n i e r h.known h.is;
  known = h.known;
  inside = h.inside;
  free = λ lost. h.free (lost_grows g lost);
}

pub plan_grows : {b : Book} (g : Group) {frontier : ℕ} {standing : Standing} (d : Disk) {step : Option Step}
    {plan : Plan} → FrontierRight b standing frontier → OnePlanRight b frontier standing d.blocks d.flights step plan →
    OnePlanRight (grown b g) frontier standing d.blocks d.flights step plan
plan_grows {b} g d f r = record {
  state = r.state;
  copied = λ n i e p h. ⊎_elim (λ o. inl (overwritten_grows g o)) (λ c. inr c)
      (r.copied n i e p (stands_in_before g f h));
  flown = λ die q m fly n i e p h. overwritten_grows g (r.flown die q m fly n i e p (stands_in_before g f h));
}
