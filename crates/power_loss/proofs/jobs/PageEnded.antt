-- The program of a group's page, of a copy or of a repair ended well: the frontier climbs.
use Rattle.power_loss.proofs.Common.{◌≡◌, ◌≢◌, ℕ, suc, ◌-◌, ◌<◌, ◌≤◌, ◌⊎◌, Bool, true, false, is_some, List, length}
use Rattle.power_loss.proofs.Common.{Option, Some, None, slice_get, refl, sym, ap, ◌∙◌, subst, inl, inr, ⊎_elim, arith}
use Rattle.power_loss.proofs.Common.{◌+◌, GroupPage, IsPlace, Mark, MarkPage, Programming, at_die, at_place, programmed}
use Rattle.power_loss.proofs.Common.{spot_of, Group, recorded_in, Entry, Name, accepted_groups, at_name}
use Rattle.power_loss.proofs.Common.{before_accepted, page_stands, WentWell, is_kind_of, job_ended, step_after, Mended}
use Rattle.power_loss.proofs.Common.{Mending, Plan, Repairing, Step, Translation, Unmarked, name_of, Want, Place, Tag}
use Rattle.power_loss.proofs.Common.{cases_Bool, cond-false, cond-true, none-some, same_Some, page_not_mark, one_page}
use Rattle.power_loss.proofs.Common.{at_place_is, name_cases, Book, IsKnown, IsPageAt, book, last_number, FlightsRight}
use Rattle.power_loss.proofs.Common.{FrontierRight, HistoryRight, IsLastRepair, IsLaterMark, IsNeededPage, IsToCopy}
use Rattle.power_loss.proofs.Common.{MarksRight, MendingRight, OnePlanRight, PagesRight, Standing, StandsIn}
use Rattle.power_loss.proofs.Common.{ToReadRight, Valid}
use Rattle.power_loss.proofs.books.LayerParts.{MarksOf, MendingOf}
use Rattle.power_loss.proofs.books.FrontierClimbs.{climbed_to, climbs_last, climbs_right, climbs_up, stands_more}
use Rattle.power_loss.proofs.books.FrontierClimbs.{stands_now, stood}
use Rattle.power_loss.proofs.kept_pages.ReadsStay.{behind_wants, idle_reads, needed_written, reads_stay, to_read_stay}
use Rattle.power_loss.proofs.books.PagesByName.{page_within, overwritten_more}
use Rattle.power_loss.proofs.kept_pages.PagesStay.{StayThere, pins_settle, rests_stay, settles}
use Rattle.power_loss.proofs.accepted_groups.ClaimedSlots.{fewer_pages, slots_fewer}
use Rattle.power_loss.proofs.jobs.DiskChanges.{kind_goes_on}
use Rattle.power_loss.proofs.jobs.StandsSecurely.{at_place_other, mark_stands_moves}
use Rattle.power_loss.proofs.jobs.ProgramEnded.{GoesTo, blocks_behind, blocks_programmed, erase_goes_on, goes_to, keeps}
use Rattle.power_loss.proofs.jobs.ProgramEnded.{not_there, other_flight, program_goes_on, safe_written, secure_written}
use Rattle.power_loss.proofs.jobs.ProgramEnded.{stay, still_free, still_victim, vacancies_programmed, was_free}
use Rattle.power_loss.proofs.jobs.NoneStale.{stale_stays}

-- The step under way

-- what is left of the step is the step, and is none for the name
pub behind_of : (name : Name) (step : Option Step) {s : Step} → step_after name step ≡ Some s →
    (step ≡ Some s) × (is_kind_of name s.kind ≡ false)
behind_of name None e = cc
behind_of name (Some x) {s} e =
    ⊎_elim (λ h. absurd (none-some _ (sym (cond-true (is_kind_of name x.kind) None (Some x) h) ∙ e)))
    (λ h. let f = sym (cond-false (is_kind_of name x.kind) None (Some x) h) ∙ e in
    (f, ap (λ (z : Step). is_kind_of name z.kind) (sym (same_Some x s f)) ∙ h)) (cases_Bool (is_kind_of name x.kind))

-- a step that is none for the name is left
pub behind_keeps : (name : Name) {step : Option Step} {s : Step} → step ≡ Some s → is_kind_of name s.kind ≡ false →
    step_after name step ≡ Some s
behind_keeps name {s} e h = ap (step_after name) e ∙ cond-false (is_kind_of name s.kind) None (Some s) h

later_more : {b : Book} {frontier to : ℕ} {newest m : Mark} → frontier ≤ to → IsLaterMark b frontier newest m →
    IsLaterMark b to newest m
later_more {to = to} {m = m} l r =
    let within : m.records ≤ to = let w = r.within in omega arith in
    assumption

-- the repair of the last group goes on, or it stands wholly
abbrev IsUnderWay : Book → ℕ → Option Step → Type 0
IsUnderWay b to step = (to ≡ last_number b) ⊎ ((suc to ≡ last_number b) × IsLastRepair b step)

repair_under_way : (b : Book) (standing : Standing) {frontier : ℕ} (name : Name) (p : Place) {step : Option Step} →
    b.greatest_seen ≤ frontier → climbed_to b (at_name standing name (Some p)) frontier ≤ last_number b →
    ((j : ℕ) (g : Group) → slice_get b.groups j ≡ Some g → length g ≡ 1) → IsUnderWay b frontier step →
    IsUnderWay b (climbed_to b (at_name standing name (Some p)) frontier) (step_after name step)
repair_under_way b standing {frontier} name p low up singles (inl e) =
    let c = climbs_up b (at_name standing name (Some p)) frontier in inl (omega arith)
repair_under_way b standing {frontier} name p low up singles (inr e) = ⊎_elim (λ h.
    let there = ap is_some (stands_now standing (e.0 ∙ sym (ap (λ (z : Name). z.number) h.1))
    (sym (ap (λ (z : Name). z.index) h.1))) in
    let c = climbs_last b (at_name standing name (Some p)) frontier low e.0 singles there in
    let f = e.0 in
    inl (omega (arith, c, f, up)))
    (λ h. ⊎_elim (λ f. inr (ap suc f ∙ e.0, (e.1.0, e.1.1, behind_keeps name e.1.2 h.0)))
    (λ f. let s = e.0 in inl (omega (arith, f, s, up))) (order (climbs_up b (at_name standing name (Some p)) frontier)))
    (name_cases name (record { number = last_number b; index = 0 }))
  where
    order : {m n : ℕ} → m ≤ n → (n ≡ m) ⊎ (m < n)
    order l = grind arith

-- the frontier may rise
history_more : {b : Book} {repairs held frontier to : ℕ} {mended : Bool} → frontier ≤ to →
    HistoryRight b repairs held frontier mended → HistoryRight b repairs held to mended
history_more {b} {repairs} {held} {to = to} l r =
    let durable : (held ≡ 0) ⊎ (b.greatest_seen + repairs + held ≤ to) =
    ⊎_elim (λ h. inl h) (λ h. inr (omega (arith, h, l))) r.durable in
    assumption

-- where a page is above the frontier, marks record no more than it
recorded_under : (t : Translation) (n i : ℕ) (x : Entry) (w : Mending) → MendingOf t w → IsPageAt (book t) n i x →
    t.ledger.frontier < n → recorded_in t.ledger.newest ≤ t.ledger.frontier
recorded_under t n i x (Unmarked fence lost) m is above =
    let within = page_within (book t) n i x is in
    let none : length t.ledger.groups ≡ 0 = ap length m.none_new in
    let still = m.still in
    absurd (omega (arith, within, none, still, above))
recorded_under t n i x (Repairing left) m is above =
    subst (λ o. recorded_in o ≤ t.ledger.frontier) (sym m.is) m.right.within
recorded_under t n i x Mended m is above = subst (λ o. recorded_in o ≤ t.ledger.frontier) (sym m.is) m.right.within

module _ {t : Translation} {die : ℕ} {p : Place} {tag : Tag} {body : List ℕ} (v : Valid t)
    (job : t.disk.flights die ≡ Some (Programming p (GroupPage tag body))) where
  goes : GoesTo t.numbers t.disk p
  goes = goes_to v.blocks (v.flights.programs die p (GroupPage tag body) job)

  -- the frontier is right behind the page
  abbrev to : ℕ
  to = climbed_to (book t) (at_name t.ledger.standing (name_of tag) (Some p)) t.ledger.frontier

  up : t.ledger.frontier ≤ to
  up = climbs_up (book t) (at_name t.ledger.standing (name_of tag) (Some p)) t.ledger.frontier

  known : IsKnown (book t) tag body
  known = v.flights.known die p tag body job

  page_frontier : FrontierRight (book t) (at_name t.ledger.standing (name_of tag) (Some p)) to
  page_frontier = climbs_right (name_of tag) p v.frontier known

  -- Marks

  -- a mark stood before
  old : (q : Place) (m : Mark) → at_place t.disk.cells p (GroupPage tag body) q ≡ MarkPage m →
      (q ≢ p) × (t.disk.cells q ≡ MarkPage m)
  old q m h = ⊎_elim (λ k. absurd (page_not_mark _ tag body m refl k.1)) (λ k. k)
      (at_place_is t.disk.cells p (GroupPage tag body) q (MarkPage m) h)

  was : (q : Place) → q ≢ p → at_place t.disk.finished p true q ≡ true → t.disk.finished q ≡ true
  was q other f = sym (at_place_other t.disk.finished p true q other) ∙ f

  page_marks : {newest : Mark} → MarksOf t newest → MarksRight (book t) to t.ledger.marks
      (at_place t.disk.cells p (GroupPage tag body)) (at_place t.disk.finished p true)
      (blocks_behind t.numbers t.disk p) t.disk.erasing (at_die t.disk.flights p.die None) newest
  page_marks r = record {
    stands = mark_stands_moves (keeps goes (GroupPage tag body)) r.stands;
    within = let w = r.within in omega (arith, w, up);
    numbers = r.numbers;
    whole = r.whole;
    ended = λ q m h f. let o = old q m h in r.ended q m o.1 (was q o.0 f);
    known = λ q m h. ⊎_elim (λ k. inl (k.0, let w = k.1 in omega (arith, w, up))) (λ k. inr (later_more up k))
        (r.known q m (old q m h).1);
    same = λ q s m other h k e. r.same q s m other (old q m h).1 (old s other k).1 e;
    freed = λ q m h f. r.freed q m (old q m h).1 (still_free goes f).1;
    flies = λ die q m h. later_more up (r.flies die q m (other_flight t.disk.flights h).1);
  }

  -- Pages and jobs

  page_pages : PagesRight (book t) (at_name t.ledger.standing (name_of tag) (Some p)) to
      (at_place t.disk.cells p (GroupPage tag body)) (at_place t.disk.finished p true)
  page_pages = record {
    within = λ q out. at_place_other t.disk.cells p (GroupPage tag body) q
        (λ e. out (subst (IsPlace t.numbers) (sym e) goes.place)) ∙ v.pages.within q out;
    known = λ q u other h. ⊎_elim
        (λ e. let s = one_page tag u body other e.1 in
        subst (λ z. IsKnown (book t) z other) s.0 (subst (λ z. IsKnown (book t) tag z) s.1 known))
        (λ e. v.pages.known q u other e.1) (this q u other h);
    recorded = λ q u other h. ⊎_elim
        (λ e. let s = ap (λ (z : Tag). z.frontier) (one_page tag u body other e.1).0 in
        let r = v.flights.recorded die p tag body job in omega (arith, s, r, up))
        (λ e. let s = v.pages.recorded q u other e.1 in omega (arith, s, up)) (this q u other h);
    stands = λ q u other h f. ⊎_elim
        (λ e. let s = (one_page tag u body other e.1).0 in
        (p, stands_now t.ledger.standing (sym (ap (λ (z : Tag). z.number) s)) (sym (ap (λ (z : Tag). z.index) s))))
        (λ e. stands_more t.ledger.standing (name_of tag) p u.number u.index
        (v.pages.stands q u other e.1 (was q e.0 f))) (this q u other h);
  }
    where
      this : (q : Place) (u : Tag) (other : List ℕ) → at_place t.disk.cells p (GroupPage tag body) q ≡ GroupPage u
          other → ((q ≡ p) × (GroupPage tag body ≡ GroupPage u other)) ⊎
          ((q ≢ p) × (t.disk.cells q ≡ GroupPage u other))
      this q u other h = at_place_is t.disk.cells p (GroupPage tag body) q (GroupPage u other) h

  page_flights : FlightsRight (book t) to t.ledger.marks (blocks_behind t.numbers t.disk p) t.disk.erasing
      (at_die t.disk.flights p.die None) (step_after (name_of tag) t.work.step)
  page_flights = record {
    programs = λ e q cell h. let o = other_flight t.disk.flights h in
        program_goes_on goes (v.flights.programs e q cell o.1) o.0;
    erases = λ e s h. let o = other_flight t.disk.flights h in erase_goes_on goes (v.flights.erases e s o.1) o.0;
    something = λ e q h. v.flights.something e q (other_flight t.disk.flights h).1;
    known = λ e q u other h. v.flights.known e q u other (other_flight t.disk.flights h).1;
    recorded = λ e q u other h. let r = v.flights.recorded e q u other (other_flight t.disk.flights h).1 in
        omega (arith, r, up);
    mark = λ e q m h. let f = v.flights.mark e q m (other_flight t.disk.flights h).1 in record {
      number = f.number;
      numbers_right = f.numbers_right;
      there = f.there;
      step_is = behind_keeps (name_of tag) f.step_is refl;
    };
    one_mark = λ d e q s m other h k.
        v.flights.one_mark d e q s m other (other_flight t.disk.flights h).1 (other_flight t.disk.flights k).1;
  }

  -- Mending

  page_mending : (w : Mending) → MendingOf t w → MendingRight (book t) (programmed t.numbers.pages t.disk p
      (GroupPage tag body)) (page_stands t.ledger (name_of tag) p) t.work.plan (step_after (name_of tag) t.work.step) w
  page_mending (Unmarked fence lost) m =
      let r = m.flies die p (GroupPage tag body) job in absurd (page_not_mark _ tag body r.0 refl r.1)
  page_mending (Repairing left) m = record {
    mark = m.mark;
    is = m.is;
    right = page_marks m.right;
    more = assumption (repair_under_way (book t) t.ledger.standing (name_of tag) p v.frontier.above page_frontier.within
        m.more.singles m.more.under_way);
  }
  page_mending Mended m = record { mark = m.mark; is = m.is; right = page_marks m.right; more = m.more }

  -- The plan

  page_plan : {pl : Plan} → OnePlanRight (book t) t.ledger.frontier t.ledger.standing t.disk.blocks t.disk.flights
      t.work.step pl → OnePlanRight (book t) to (at_name t.ledger.standing (name_of tag) (Some p))
      (blocks_behind t.numbers t.disk p) (at_die t.disk.flights p.die None) (step_after (name_of tag) t.work.step) pl
  page_plan {pl} r = record {
    state = still_victim goes r.state;
    copied = λ n i e q h. let o = before n i e q h in ⊎_elim (λ c. inl (overwritten_more up c))
        (λ c. inr (to_copy n i q o.0 c)) (r.copied n i e q o.1);
    flown = λ die q m h n i e s k. r.flown die q m (other_flight t.disk.flights h).1 n i e s (before n i e s k).1;
  }
    where
      before : (n i : ℕ) (e : Entry) (q : Place) → StandsIn (book t) (at_name t.ledger.standing (name_of tag)
          (Some p)) pl.victim n i e q → (((n ≡ tag.number) × (i ≡ tag.index)) → ⊥) × StandsIn
          (book t) t.ledger.standing pl.victim n i e q
      before n i e q h = ⊎_elim (λ k. absurd (not_there goes r.state (sym h.inside ∙ ap spot_of (sym k.2))))
          (λ k. (k.0, record { is = h.is; known = k.1; inside = h.inside; free = h.free }))
          (stood t.ledger.standing p n i q h.known)

      to_copy : (n i : ℕ) (q : Place) → (((n ≡ tag.number) × (i ≡ tag.index)) → ⊥) →
          IsToCopy pl.copies t.work.step n i q → IsToCopy pl.copies (step_after (name_of tag) t.work.step) n i q
      to_copy n i q other (inl h) = inl h
      to_copy n i q other (inr h) = inr (
        h.0,
        behind_keeps (name_of tag) h.1 (⊎_elim
            (λ k. absurd (other (sym (ap (λ (z : Name). z.number) k.1), sym (ap (λ (z : Name). z.index) k.1))))
            (λ k. k.0) (name_cases (name_of tag) (record { number = n; index = i }))),
      )

pub ends_page : {t : Translation} (die : ℕ) (p : Place) (tag : Tag) (body : List ℕ) → Valid t →
    t.disk.flights die ≡ Some (Programming p (GroupPage tag body)) →
    Valid (job_ended t die (Programming p (GroupPage tag body)) WentWell)
ends_page {t} die p tag body v job = record {
  book_right = v.book_right;
  frontier = page_frontier v job;
  pages = page_pages v job;
  blocks = blocks_programmed g (GroupPage tag body) v.blocks;
  vacancies = vacancies_programmed g (GroupPage tag body) v.vacancies;
  stale = stale_stays t.numbers t.work.mending (λ s free is. (was_free g s free, is))
      (λ s e. (s, (behind_of (name_of tag) t.work.step e).0)) v.stale;
  flights = page_flights v job;
  safe = safe_written g tag body v.safe;
  numbered = λ q m h. v.numbered q m (old v job q m h).1;
  mending = page_mending v job t.work.mending v.mending;
  step = record {
    kind = λ s e. kind_goes_on (book t) t.ledger.marks t.work.mending t.work.plan s.kind (λ q m h. (old v job q m h).1)
        (v.step.kind s (behind_of (name_of tag) t.work.step e).0);
  };
  plan = record { mended = v.plan.mended; one = λ pl e. page_plan v job (v.plan.one pl e) };
  history = history_more (up v job) v.history;
  slots = slots_fewer
      (fewer_pages (accepted_groups t.ledger) (t.ledger.frontier - before_accepted t.ledger)
      (to v job - before_accepted t.ledger) (let u = up v job in omega (arith, u))) (omega arith) v.slots;
  unmended = record {
    stand = λ un key name q has first h. secure_written g tag body (⊎_elim (λ k. inr (k.0, k.1))
        (λ k. inl (v.unmended.stand un key name q has first k.1))
        (stood t.ledger.standing p name.number name.index q h));
  };
  pins = pins_settle (page_stands t.ledger (name_of tag) p) there
      (settles (book t) (recorded_in t.ledger.newest) t.ledger.frontier (page_stands t.ledger (name_of tag) p) _ _
      (blocks_behind t.numbers t.disk p) t.disk.erasing v.frontier.above (page_frontier v job)
      (safe_written g tag body v.safe) (λ n i x is above. recorded_under t n i x t.work.mending v.mending is above))
      v.pins;
  rests = rests_stay there v.rests;
  reads = reads_stay there (idle_reads t.disk.flights p.die) v.reads;
  to_read = record {
    wanted = behind_wants (λ (w : Want). IsNeededPage (at_place t.disk.cells p (GroupPage tag body))
        (at_place t.disk.finished p true) (blocks_behind t.numbers t.disk p) t.disk.erasing w.place)
        (name_of tag) t.work.step still.wanted;
    copied = still.copied;
  };
}
  where
    g : GoesTo t.numbers t.disk p
    g = goes v job

    there : StayThere t.disk.cells t.disk.finished t.disk.erasing (at_place t.disk.cells p (GroupPage tag body))
        (at_place t.disk.finished p true) t.disk.erasing
    there = stay g (GroupPage tag body)

    still : ToReadRight (at_place t.disk.cells p (GroupPage tag body)) (at_place t.disk.finished p true)
        (blocks_behind t.numbers t.disk p) t.disk.erasing t.work.step t.work.plan
    still = to_read_stay (λ q h. needed_written (spot_of p) t.numbers.pages p.page there h) v.to_read
