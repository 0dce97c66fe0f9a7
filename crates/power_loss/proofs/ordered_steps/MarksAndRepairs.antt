-- Steps that are ordered keep a life valid: a mark and a repair.
use Rattle.power_loss.proofs.Common.{Bool, ◌≡◌, ℕ, zero, suc, ◌+◌, ◌-◌, ◌≤◌, ◌⊎◌, true, false, is_none, List, [], ◌∷◌}
use Rattle.power_loss.proofs.Common.{◌++◌, length, Option, Some, None, slice_get, refl, sym, ap, ◌∙◌, subst, inl, inr}
use Rattle.power_loss.proofs.Common.{⊎_elim, arith, drop_all, All-nil, slice_get_within, none-some, same_Some, Cells}
use Rattle.power_loss.proofs.Common.{Cell, Mark, MarkPage, BlockState, Disk, Programming, Spot, Contents, Group, Item}
use Rattle.power_loss.proofs.Common.{Entry, Ledger, before_accepted, next_number, MarkStep, Mended, Mending, Plan}
use Rattle.power_loss.proofs.Common.{RepairStep, Repairing, Step, Translation, Unmarked, Want, is_mended, mark_ordered}
use Rattle.power_loss.proofs.Common.{pending_pages, repair_ordered, standing_of, Fence, Key, Place, get_splits}
use Rattle.power_loss.proofs.Common.{grown_length, Book, HasKey, IsPageAt, IsWritten, book, last_number, Flights}
use Rattle.power_loss.proofs.Common.{FenceRight, FlightsRight, HistoryRight, IsLastRepair, IsOpenedOrOwn, IsOwnMark}
use Rattle.power_loss.proofs.Common.{IsToCopy, MarkStepRight, MarksRight, MendingRight, OnePlanRight, PlanRight}
use Rattle.power_loss.proofs.Common.{RepairingRight, Standing, StepKindRight, StepRight, ToReadRight, Valid}
use Rattle.power_loss.proofs.Common.{AreNoneStale, MarkFlightRight, StaleRight}
use Rattle.power_loss.proofs.jobs.NoneStale.{none_is_right}
use Rattle.ufs_spec.specs.Translation.{with_repair}
use Rattle.power_loss.proofs.books.PagesByName.{MayAdd, added_page, book_grows, fence_grows, grown, last_grows}
use Rattle.power_loss.proofs.books.PagesByName.{lost_before, page_grows, written_grows, written_more}
use Rattle.power_loss.proofs.kept_pages.PagesStay.{pins_stay}
use Rattle.power_loss.proofs.kept_pages.ReadsStay.{repair_wants, stands_needed}
use Rattle.power_loss.proofs.accepted_groups.ClaimedSlots.{no_pages, slots_fewer}
use Rattle.power_loss.proofs.books.BookGrows.{flights_grow, frontier_grows, marks_grow, pages_grow, safe_grows}
use Rattle.power_loss.proofs.books.LayerParts.{NeededOf, MendingOf}

-- Where no step is under way

pub no_mark : {b : Book} {frontier marks : ℕ} {blocks : Spot → BlockState} {erasing : Spot → Bool} {flights : Flights}
    {step : Option Step} → step ≡ None → FlightsRight b frontier marks blocks erasing flights step →
    (die : ℕ) (p : Place) (m : Mark) → flights die ≡ Some (Programming p (MarkPage m)) → ⊥
no_mark e r die p m h =
    let f = r.mark die p m h in
    none-some (record { kind = MarkStep m.number m.fence; there = f.there }) (sym e ∙ f.step_is)

-- another step begins, and marks may be more
next_flights : {b : Book} {frontier marks more : ℕ} {blocks : Spot → BlockState} {erasing : Spot → Bool}
    {flights : Flights} {step next : Option Step} → step ≡ None →
    FlightsRight b frontier marks blocks erasing flights step → FlightsRight b frontier more blocks erasing flights next
next_flights {b} {more = more} {flights = flights} {next = next} e r =
    let mark : (die : ℕ) (p : Place) (m : Mark) → flights die ≡ Some (Programming p (MarkPage m)) →
    MarkFlightRight b.numbers more next m = λ die p m h. absurd (no_mark e r die p m h) in
    assumption

pub no_step : {step : Option Step} {s : Step} → step ≡ None → step ≡ Some s → ⊥
no_step {step} {s} e f = none-some s (sym e ∙ f)

-- a step is ordered: of a plan or of none, with as many marks or more
pub next_step : {t : Translation} {more : ℕ} {plan : Option Plan} {next : Option Step} → Valid t → t.work.step ≡ None →
    t.ledger.marks ≤ more → StaleRight t.numbers t.disk.blocks t.disk.vacancies next t.work.mending →
    MendingRight (book t) t.disk (record t.ledger { marks = more }) plan next t.work.mending →
    StepRight (book t) more t.disk.cells t.work.mending plan next →
    PlanRight (book t) t.ledger.frontier t.ledger.standing t.disk.blocks t.disk.flights t.work.mending next plan →
    ToReadRight t.disk.cells t.disk.finished t.disk.blocks t.disk.erasing next plan →
    Valid (record t { ledger = record t.ledger { marks = more }; work = record t.work { plan = plan; step = next } })
next_step {t = t} {more = more} {next = next} v none up stale mending step planned reads = assumption (
  next_flights {more = more} {next = next} none v.flights,
  λ (p : Place) (m : Mark) (h : t.disk.cells p ≡ MarkPage m). let l = v.numbered p m h in
      let up : m.number ≤ more = omega arith in up,
)

-- A mark

own_more : {b : Book} {newest : Option Mark} {marks more : ℕ} {fence : Option Fence} {m : Mark} → marks ≤ more →
    IsOwnMark b newest marks fence m → IsOwnMark b newest more fence m
own_more {more = more} {m = m} l h =
    let within : m.number ≤ more = let w = h.within in omega arith in
    assumption

opened_more : {b : Book} {newest : Option Mark} {marks more : ℕ} {fence : Option Fence} {opened cell : Cell}
    {finished : Bool} → marks ≤ more → IsOpenedOrOwn b newest marks fence opened cell finished →
    IsOpenedOrOwn b newest more fence opened cell finished
opened_more l (inl h) = inl h
opened_more l (inr (inl h)) = inr (inl h)
opened_more l (inr (inr h)) = inr (inr (h.0, (h.1.0, h.1.1, own_more l h.1.2)))

marks_more : {b : Book} {frontier marks more : ℕ} {cells : Cells} {finished : Place → Bool} {blocks : Spot → BlockState}
    {erasing : Spot → Bool} {flights : Flights} {newest : Mark} →
    MarksRight b frontier marks cells finished blocks erasing flights newest →
    MarksRight b frontier more cells finished blocks erasing flights newest
marks_more r = assumption

none_under_way : (b : Book) {frontier : ℕ} {step : Option Step} → step ≡ None →
    (frontier ≡ last_number b) ⊎ ((suc frontier ≡ last_number b) × IsLastRepair b step) → frontier ≡ last_number b
none_under_way b e (inl h) = h
none_under_way b e (inr h) = absurd (none-some _ (sym e ∙ h.1.2))

step_mending : (b : Book) (d : Disk) (l : Ledger) (more : ℕ) (plan : Option Plan) {step : Option Step}
    (next : Option Step) (w : Mending) → step ≡ None → l.marks ≤ more → MendingRight b d l plan step w →
    MendingRight b d (record l { marks = more }) plan next w
step_mending b d l more plan next (Unmarked fence lost) e up m = record {
  opening = m.opening;
  opened = m.opened;
  fence_right = m.fence_right;
  lost_right = m.lost_right;
  none_new = m.none_new;
  still = m.still;
  same = λ p. opened_more up (m.same p);
  flies = λ die p cell h. let f = m.flies die p cell h in (f.0, f.1, own_more up f.2);
  spare = m.spare;
  unfinished = λ p h. ⊎_elim (λ k. inl k) (λ k. inr (k.0, k.1, own_more up k.2)) (m.unfinished p h);
  no_plan = m.no_plan;
}
step_mending b d l more plan next (Repairing left) e up m =
    let under : (l.frontier ≡ last_number b) ⊎ ((suc l.frontier ≡ last_number b) × IsLastRepair b next) =
    inl (none_under_way b e m.more.under_way) in
    record { mark = m.mark; is = m.is; right = marks_more m.right; more = assumption }
step_mending b d l more plan {step} next Mended e up m =
    record { mark = m.mark; is = m.is; right = marks_more m.right; more = m.more }

-- what is still to be copied, where no step was under way
to_copy : (copies : List Place) {step : Option Step} (next : Option Step) (n i : ℕ) (p : Place) → step ≡ None →
    IsToCopy copies step n i p → IsToCopy copies next n i p
to_copy copies next n i p e (inl h) = inl h
to_copy copies next n i p e (inr h) = absurd (none-some _ (sym e ∙ h.1))

next_plan : {b : Book} {frontier : ℕ} {standing : Standing} {blocks : Spot → BlockState} {flights : Flights}
    {step : Option Step} {next : Option Step} {pl : Plan} → step ≡ None →
    OnePlanRight b frontier standing blocks flights step pl → OnePlanRight b frontier standing blocks flights next pl
next_plan {next = next} {pl = pl} e r = record {
  state = r.state;
  copied = λ n i x p h. ⊎_elim (λ o. inl o) (λ c. inr (to_copy pl.copies next n i p e c)) (r.copied n i x p h);
  flown = r.flown;
}

-- a mark is ordered
pub marks_ordered : {t : Translation} (fence : Option Fence) → Valid t → t.work.step ≡ None →
    AreNoneStale t.numbers t.disk.blocks t.disk.vacancies → FenceRight t.work.mending fence →
    ((pl : Plan) → t.work.plan ≡ Some pl → pl.copies ≡ []) →
    Valid (mark_ordered t fence)
marks_ordered {t} fence v none fresh right behind = next_step v none (omega arith)
    (none_is_right t.numbers (Some step) t.work.mending fresh)
    (step_mending (book t) t.disk t.ledger more t.work.plan (Some step) t.work.mending none (omega arith) v.mending)
    (record {
      kind = λ s h. subst (λ (z : Step). StepKindRight (book t) more t.disk.cells t.work.mending t.work.plan z.kind)
          (same_Some step s h) mark_right;
    }) (record { mended = v.plan.mended; one = λ pl h. next_plan none (v.plan.one pl h) })
    (record { wanted = All-nil _; copied = v.to_read.copied })
  where
    more : ℕ
    more = t.ledger.marks + 1

    step : Step
    step = record { kind = MarkStep more fence; there = true }

    mark_right : MarkStepRight more t.disk.cells t.work.mending t.work.plan more fence
    mark_right = record {
      last = refl;
      given = omega arith;
      above = λ p m h. let l = v.numbered p m h in omega arith;
      fence_right = right;
      behind_copies = behind;
    }

-- A repair

abbrev repair_item : Contents → Key → Item
repair_item base k = record { key = k; body = base k }

abbrev repair_group : Contents → Key → Group
repair_group base k = repair_item base k ∷ []

abbrev repair_entry : Contents → Key → Entry
repair_entry base k = record { item = repair_item base k; size = 1 }

only_item : (base : Contents) (k : Key) (i : ℕ) {item : Item} → slice_get (repair_group base k) i ≡ Some item →
    (i ≡ 0) × (item ≡ repair_item base k)
only_item base k zero {item} h = (refl, sym (same_Some (repair_item base k) item h))
only_item base k (suc i) h = cc

repair_may : {b : Book} (k : Key) → HasKey b k → MayAdd b (repair_group b.base k)
repair_may {b} k has = record {
  some = omega arith;
  differ = λ i j x y h g e. (only_item b.base k i h).0 ∙ sym (only_item b.base k j g).0;
  keys = λ i item h. subst (λ (x : Item). HasKey b x.key) (sym (only_item b.base k i h).1) has;
}

repair_page : (b : Book) (k : Key) (n : ℕ) → n ≡ suc (last_number b) →
    IsPageAt (grown b (repair_group b.base k)) n 0 (repair_entry b.base k)
repair_page b k n e =
    added_page b (repair_group b.base k) n 0 (repair_entry b.base k) (record { last = e; item = refl; size = refl })

-- the key at the front is written now
repair_done : {b : Book} (k : Key) (left : List Key) {key : Key} →
    ((j : ℕ) × (slice_get (k ∷ left) j ≡ Some key)) ⊎ IsWritten b key (last_number b) →
    ((j : ℕ) × (slice_get left j ≡ Some key))
    ⊎ IsWritten (grown b (repair_group b.base k)) key (last_number (grown b (repair_group b.base k)))
repair_done {b} k left {key} (inl (zero, h)) =
    let up = last_grows b (repair_group b.base k) in
    inr (record {
      number = suc (last_number b);
      index = 0;
      page = repair_entry b.base k;
      is = repair_page b k (suc (last_number b)) refl;
      key = same_Some k key h;
      new = omega arith;
      within = omega arith;
    })
repair_done k left (inl (suc j, h)) = inl (j, h)
repair_done {b} k left {key} (inr h) =
    let g = repair_group b.base k in
    let up = last_grows b g in
    inr (written_more (grown b g) key (last_number b) (last_number (grown b g)) (omega arith) (written_grows g h))

abbrev repair_step : ℕ → Option Place → Step
repair_step n from = record { kind = RepairStep (record { number = n; index = 0 }) from; there = is_none from }

repair_left : {b : Book} {frontier n : ℕ} {newest : Mark} {plan : Option Plan} {step : Option Step} (k : Key)
    {left : List Key} (from : Option Place) → step ≡ None → n ≡ suc (last_number b) →
    RepairingRight b frontier newest plan step (k ∷ left) →
    RepairingRight (grown b (repair_group b.base k)) frontier newest plan (Some (repair_step n from)) left
repair_left {b} {newest = newest} k {left} from none e r = record {
  fence = fence_grows (repair_group b.base k) r.fence;
  repaired = λ m i x lost is. repair_done k left (r.repaired m i x (lost_before (repair_group b.base k) lost) is);
  keys = λ j x h. r.keys (suc j) x h;
  singles = λ j g h. ⊎_elim (λ o. r.singles j g o)
      (λ (o : (j ≡ length b.groups) × (g ≡ repair_group b.base k)). ap length o.1)
      (get_splits b.groups (repair_group b.base k) j g h);
  under_way =
      let up = last_grows b (repair_group b.base k) in
      let now = none_under_way b none r.under_way in
      inr (omega arith, (from, is_none from, ap (λ z. Some (repair_step z from)) (omega arith)));
  no_plan = r.no_plan;
}

repair_history : {b : Book} (k : Key) {repairs held frontier : ℕ} → HistoryRight b repairs held frontier false →
    HistoryRight (grown b (repair_group b.base k)) (repairs + 1) held frontier false
repair_history {b} k {repairs} {held} h = record {
  within = let e = all.0 in let up = grown_length b.groups (repair_group b.base k) in omega arith;
  contents = λ j i g item l is at. ⊎_elim
      (λ o. let e = all.0 in let w = slice_get_within b.groups j g o in h.contents j i g item (omega arith) o at)
      (λ (o : (j ≡ length b.groups) × (g ≡ repair_group b.base k)).
      let same = (only_item b.base k i (subst (λ (z : Group). slice_get z i ≡ Some item) o.1 at)).1 in
      ap (λ (x : Item). x.body) same ∙ ap b.base (sym (ap (λ (x : Item). x.key) same)))
      (get_splits b.groups (repair_group b.base k) j g is);
  mending = λ no. ((let e = all.0 in let up = grown_length b.groups (repair_group b.base k) in omega arith), all.1);
  durable = inl all.1;
}
  where
    all : (repairs ≡ length b.groups) × (held ≡ 0)
    all = h.mending refl

-- a repair is ordered
pub repairs_ordered : {t : Translation} (k : Key) (left : List Key) → Valid t → t.work.step ≡ None →
    t.work.mending ≡ Repairing (k ∷ left) → Valid (repair_ordered t k left)
repairs_ordered {t} k left v none m = record {
  book_right = book_grows (book t) g (repair_may k (repairing.more.keys 0 k refl)) v.book_right;
  frontier = frontier_grows g v.frontier;
  pages = pages_grow g v.pages;
  blocks = v.blocks;
  vacancies = v.vacancies;
  stale = subst (StaleRight t.numbers t.disk.blocks t.disk.vacancies t.work.step) m v.stale;
  flights = next_flights none (flights_grow g t.disk v.flights);
  safe = safe_grows g t.disk v.frontier v.safe;
  numbered = v.numbered;
  mending = record {
    mark = repairing.mark;
    is = repairing.is;
    right = marks_grow g t.disk repairing.right;
    more = repair_left k from none (omega arith) repairing.more;
  };
  step = record {
    kind = λ s h. subst (λ (z : Step). StepKindRight b t.ledger.marks t.disk.cells (Repairing left) t.work.plan z.kind)
        (same_Some step s h) (left, refl, (repair_entry t.ledger.base k, repair_page (book t) k n (omega arith)));
  };
  plan = record { mended = λ pl h. absurd (no_plan pl h); one = λ pl h. absurd (no_plan pl h) };
  history = repair_history k
      (subst (λ (z : Mending). HistoryRight (book t) t.ledger.repairs t.ledger.held t.ledger.frontier (is_mended z)) m
      v.history);
  slots = slots_fewer (omega (arith, no_more)) (omega arith) v.slots;
  unmended = record { stand = λ un key name p has is h. v.unmended.stand (ap is_mended m) key name p has is h };
  pins = pins_stay (λ n i e h. page_grows (book t) g n i e h)
      (λ q some ended stays. record { there = refl; ended = ended; stays = stays }) v.pins;
  rests = v.rests;
  reads = v.reads;
  to_read = record {
    wanted = repair_wants (λ (w : Want). NeededOf t w.place)
        (record { number = n; index = 0 }) from
        (λ p e. stands_needed k (t.ledger.first_page k) v (ap is_mended m) (repairing.more.keys 0 k refl) refl e);
    copied = v.to_read.copied;
  };
}
  where
    g : Group
    g = repair_group t.ledger.base k

    b : Book
    b = grown (book t) g

    n : ℕ
    n = next_number t.ledger

    from : Option Place
    from = standing_of t.ledger (t.ledger.first_page k)

    step : Step
    step = repair_step n from

    repairing : MendingOf t (Repairing (k ∷ left))
    repairing = subst (MendingOf t) m v.mending

    no_plan : (pl : Plan) → t.work.plan ≡ Some pl → ⊥
    no_plan pl h = none-some pl (sym repairing.more.no_plan ∙ h)

    -- until the device is mended no command's group is there
    no_more : pending_pages (with_repair t.ledger k) ≡ 0
    no_more =
        let all = (v.history.mending (ap is_mended m)).0 in
        let long = grown_length t.ledger.groups g in
        no_pages (t.ledger.frontier - before_accepted (with_repair t.ledger k))
        (drop_all (t.ledger.repairs + 1) (t.ledger.groups ++ g ∷ []) (omega (arith, all, long)))
