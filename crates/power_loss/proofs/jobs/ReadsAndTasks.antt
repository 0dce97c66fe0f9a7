-- Moves that leave pages and groups as they are.
use Rattle.power_loss.proofs.Common.{◌≡◌, ℕ, ◌+◌, ◌==◌, ◌≤◌, ◌⊎◌, Bool, true, false, List, Option, Some, None}
use Rattle.power_loss.proofs.Common.{refl, suc, sym, ap, subst, inl, inr, ⊎_elim, arith, All-filter, All-push, Cell}
use Rattle.power_loss.proofs.Common.{GroupPage, Mark, MarkPage, Disk, Erasing, Flight, Programming, Reader, Reading}
use Rattle.power_loss.proofs.Common.{ForTask, ForStep, ForRest, ForNobody, Spot, at_die, Ledger, before_accepted}
use Rattle.power_loss.proofs.Common.{Claim, Keep, LetGo, LetGoAll, ReadRight, ReadWrong, Release, Acknowledge, WantPage}
use Rattle.power_loss.proofs.Common.{die_idle, is_for, is_for_task, is_pin_of, without_reader, job_ended, moved}
use Rattle.power_loss.proofs.Common.{read_right, read_wrong, step_there, MayTake, Mending, Mended, Pin, Plan, Repairing}
use Rattle.power_loss.proofs.Common.{Rest, Step, StepKind, Translation, Unmarked, free_slots, pending_pages, taken, Key}
use Rattle.power_loss.proofs.Common.{Place, at_die_is, none-some, same_Some, erase_unread, program_unread, Book, HasKey}
use Rattle.power_loss.proofs.Common.{book, last_number, FlightsRight, Flights, HistoryRight, IsLastRepair, IsToCopy}
use Rattle.power_loss.proofs.Common.{MarksRight, MendingRight, OnePlanRight, PinsRight, ReadsRight, RestsRight}
use Rattle.power_loss.proofs.Common.{SlotsRight, Valid}
use Rattle.std.proofs.Common.{max}
use Rattle.ufs_laws.proofs.jobs.JobsOnTheirDies.{read_here}
use Rattle.ufs_spec.specs.Moves.{let_go, look_now}
use Rattle.power_loss.proofs.books.LayerParts.{MarksOf, MendingOf, NeededOf, LookedOf, SourceOf}
use Rattle.power_loss.proofs.jobs.NoneStale.{stale_stays}
use Rattle.power_loss.proofs.kept_pages.LookedUpPages.{look_now_right}
use Rattle.power_loss.proofs.kept_pages.PagesStay.{pins_wanted}
use Rattle.power_loss.proofs.kept_pages.ReadsStay.{gone_reads, idle_reads, reads_begun, reads_fewer, there_wants}
use Rattle.power_loss.proofs.accepted_groups.ClaimedSlots.{slots_claimed, slots_fewer}
use Rattle.power_loss.proofs.kept_pages.ReadsAreOfPages.{read_page}

-- Acknowledgements

max_is : (a b : ℕ) → (max a b ≡ a) ⊎ (max a b ≡ b)
max_is a b = grind arith

mending_is : (b : Book) (d : Disk) (l : Ledger) (held : ℕ) (plan : Option Plan) (step : Option Step) (w : Mending) →
    MendingRight b d l plan step w → MendingRight b d (record l { held = held }) plan step w
mending_is b d l held plan step (Unmarked fence lost) m = m
mending_is b d l held plan step w m = record { mark = m.mark; is = m.is; right = m.right; more = m.more }

held_history : {b : Book} {repairs held frontier : ℕ} (count : ℕ) {mended : Bool} → frontier ≤ last_number b →
    HistoryRight b repairs held frontier mended → b.greatest_seen + repairs + count ≤ frontier → HistoryRight b repairs
    (max held count) frontier mended
held_history {held} count up h l = record {
  within = h.within;
  contents = h.contents;
  mending = λ no. let r = h.mending no in (
    r.0,
    (let e = r.0 in let z = r.1 in ⊎_elim (λ m. omega arith) (λ m. omega arith) (max_is held count)),
  );
  durable = ⊎_elim (λ m. ⊎_elim (λ z. inl (omega arith)) (λ z. inr (omega arith)) h.durable) (λ m. inr (omega arith))
      (max_is held count);
}

pub tells : {t : Translation} (count : ℕ) → Valid t → before_accepted t.ledger + count ≤ t.ledger.frontier →
    Valid (moved t (Acknowledge count))
tells {t} count v l = assumption (
  mending_is (book t) t.disk t.ledger (max t.ledger.held count) t.work.plan t.work.step t.work.mending v.mending,
  held_history count v.frontier.within v.history l,
)

-- Jobs that are reads

-- no program and no erase more
pub record IsFewer (f g : Flights) : Type 0 where
  pub programs : (die : ℕ) (p : Place) (cell : Cell) → g die ≡ Some (Programming p cell) →
      f die ≡ Some (Programming p cell)
  pub erases : (die : ℕ) (s : Spot) → g die ≡ Some (Erasing s) → f die ≡ Some (Erasing s)

fewer_flights : {t : Translation} {g : Flights} → Valid t → IsFewer t.disk.flights g →
    FlightsRight (book t) t.ledger.frontier t.ledger.marks t.disk.blocks t.disk.erasing g t.work.step
fewer_flights v l = record {
  programs = λ die p cell h. v.flights.programs die p cell (l.programs die p cell h);
  erases = λ die s h. v.flights.erases die s (l.erases die s h);
  something = λ die p h. v.flights.something die p (l.programs die p _ h);
  known = λ die p tag body h. v.flights.known die p tag body (l.programs die p (GroupPage tag body) h);
  recorded = λ die p tag body h. v.flights.recorded die p tag body (l.programs die p (GroupPage tag body) h);
  mark = λ die p m h. v.flights.mark die p m (l.programs die p (MarkPage m) h);
  one_mark = λ d e p q m other h k. v.flights.one_mark d e p q m other (l.programs d p (MarkPage m) h)
      (l.programs e q (MarkPage other) k);
}

fewer_marks : (t : Translation) {g : Flights} {m : Mark} → IsFewer t.disk.flights g → MarksOf t m →
    MarksRight (book t) t.ledger.frontier t.ledger.marks t.disk.cells t.disk.finished t.disk.blocks t.disk.erasing g m
fewer_marks t {g} l r = assumption (
    λ (die : ℕ) (p : Place) (other : Mark) (h : g die ≡ Some (Programming p (MarkPage other))).
    r.flies die p other (l.programs die p (MarkPage other) h)
    )

fewer_mending : (t : Translation) {g : Flights} (w : Mending) → IsFewer t.disk.flights g → MendingOf t w →
    MendingRight (book t) (record t.disk { flights = g }) t.ledger t.work.plan t.work.step w
fewer_mending t (Unmarked fence lost) l m = record {
  opening = m.opening;
  opened = m.opened;
  fence_right = m.fence_right;
  lost_right = m.lost_right;
  none_new = m.none_new;
  still = m.still;
  same = m.same;
  flies = λ die p cell h. m.flies die p cell (l.programs die p cell h);
  spare = m.spare;
  unfinished = m.unfinished;
  no_plan = m.no_plan;
}
fewer_mending t {g} w l m =
    record { mark = m.mark; is = m.is; right = fewer_marks t {m = m.mark} l m.right; more = m.more }

fewer_plan : {b : Book} {frontier : ℕ} {standing : ℕ → ℕ → Option Place}
    (t : Translation) {g : Flights} {step : Option Step} {pl : Plan} → IsFewer t.disk.flights g →
    OnePlanRight b frontier standing t.disk.blocks t.disk.flights step pl →
    OnePlanRight b frontier standing t.disk.blocks g step pl
fewer_plan t l r = record {
  state = r.state;
  copied = r.copied;
  flown = λ die q m h. r.flown die q m (l.programs die q (MarkPage m) h);
}

-- what tasks hold and what pages wait for does not matter, and reads may begin and end
others_held : {t : Translation} {claims : ℕ} {pins : List Pin} {rests : List Rest} {g : Flights} →
    SlotsRight t.numbers.slots (pending_pages t.ledger) claims →
    PinsRight (book t) t.ledger.frontier t.disk.cells t.disk.finished t.disk.erasing pins →
    RestsRight t.disk.cells t.disk.finished t.disk.erasing rests → IsFewer t.disk.flights g →
    ReadsRight t.disk.cells t.disk.finished t.disk.erasing g → Valid t → Valid (record t {
      disk = record t.disk { flights = g };
      work = record t.work { rests = rests };
      claims = claims;
      pins = pins;
    })
others_held {t = t} {g = g} slots pins rests l reads v = assumption (
  fewer_flights v l,
  fewer_mending t t.work.mending l v.mending,
  λ (pl : Plan) (e : t.work.plan ≡ Some pl). fewer_plan t l (v.plan.one pl e),
)

other_holds : {t : Translation} {claims : ℕ} {pins : List Pin} → SlotsRight t.numbers.slots
    (pending_pages t.ledger) claims → PinsRight (book t) t.ledger.frontier t.disk.cells t.disk.finished t.disk.erasing
    pins → Valid t → Valid (record t { claims = claims; pins = pins })
other_holds {t} slots kept v =
    others_held slots kept v.rests (record { programs = λ die p cell h. h; erases = λ die s h. h }) v.reads v

other_rests : {t : Translation} {rests : List Rest} → RestsRight t.disk.cells t.disk.finished t.disk.erasing rests →
    Valid t → Valid (record t { work = record t.work { rests = rests } })
other_rests {t} kept v = others_held v.slots v.pins kept
    (record { programs = λ die p cell h. h; erases = λ die s h. h }) v.reads v

other_reads : {t : Translation} {g : Flights} → Valid t → IsFewer t.disk.flights g →
    ReadsRight t.disk.cells t.disk.finished t.disk.erasing g → Valid (record t { disk = record t.disk { flights = g } })
other_reads {g = g} v l r = others_held v.slots v.pins v.rests l r v

-- a job that is no program and no erase, or none
no_more : {f : Flights} (die : ℕ) {job : Option Flight} → ((p : Place) (cell : Cell) → job ≡ Some (Programming p cell) →
    ⊥) → ((s : Spot) → job ≡ Some (Erasing s) → ⊥) → IsFewer f (at_die f die job)
no_more {f} die {job} program erase = record {
  programs = λ e p cell h. ⊎_elim (λ k. absurd (program p cell k.1)) (λ k. k.1)
      (at_die_is f die job e (Some (Programming p cell)) h);
  erases = λ e s h. ⊎_elim (λ k. absurd (erase s k.1)) (λ k. k.1) (at_die_is f die job e (Some (Erasing s)) h);
}

read_begun : {f : Flights} (die : ℕ) (reader : Reader) (place : Place) →
    IsFewer f (at_die f die (Some (Reading reader place)))
read_begun {f} die reader place = no_more die (λ p cell. program p cell) (λ s. erase s)
  where
    program : (p : Place) (cell : Cell) → Some (Reading reader place) ≡ Some (Programming p cell) → ⊥
    program p cell e = cc

    erase : (s : Spot) → Some (Reading reader place) ≡ Some (Erasing s) → ⊥
    erase s e = cc

pub idle_fewer : {f : Flights} (die : ℕ) → IsFewer f (at_die f die None)
idle_fewer {f} die = no_more die (λ p cell e. none-some _ e) (λ s e. none-some _ e)

pub takes_read : {t : Translation} (die : ℕ) (reader : Reader) (place : Place) → Valid t →
    MayTake t die (Some (Reading reader place)) → Valid (taken t die (Reading reader place))
takes_read {t} die reader place v may = other_reads v (read_begun die reader place)
    (reads_begun reader (read_here t die reader place may) (read_page die reader v may) v.reads)

idle : {t : Translation} (die : ℕ) → Valid t → Valid (die_idle t die)
idle {t} die v = other_reads v (idle_fewer die) (reads_fewer (idle_reads t.disk.flights die) v.reads)

-- The step's content is there

there_kind : (s : Option Step) {x : Step} → step_there s ≡ Some x → (y : Step) × (s ≡ Some y) × (x.kind ≡ y.kind)
there_kind None e = cc
there_kind (Some y) {x} e = (y, refl, ap (λ z. z.kind) (sym (same_Some (record y { there = true }) x e)))

kind_there : {s : Option Step} {kind : StepKind} {there : Bool} → s ≡ Some (record { kind = kind; there = there }) →
    step_there s ≡ Some (record { kind = kind; there = true })
kind_there e = ap step_there e

there_flights : {b : Book} {frontier marks : ℕ} (d : Disk) {s : Option Step} →
    FlightsRight b frontier marks d.blocks d.erasing d.flights s →
    FlightsRight b frontier marks d.blocks d.erasing d.flights (step_there s)
there_flights d r = record {
  programs = r.programs;
  erases = r.erases;
  something = r.something;
  known = r.known;
  recorded = r.recorded;
  mark = λ die p m h. let f = r.mark die p m h in record {
    number = f.number;
    numbers_right = f.numbers_right;
    there = true;
    step_is = kind_there f.step_is;
  };
  one_mark = r.one_mark;
}

there_mending : (b : Book) (d : Disk) (l : Ledger) (plan : Option Plan) (s : Option Step) (w : Mending) →
    MendingRight b d l plan s w → MendingRight b d l plan (step_there s) w
there_mending b d l plan s (Unmarked fence lost) m = m
there_mending b d l plan s (Repairing left) m =
    let under : (l.frontier ≡ last_number b) ⊎ ((suc l.frontier ≡ last_number b) × IsLastRepair b (step_there s)) =
    ⊎_elim (λ e. inl e) (λ e. inr (e.0, (e.1.0, true, kind_there e.1.2))) m.more.under_way in
    record { mark = m.mark; is = m.is; right = m.right; more = assumption }
there_mending b d l plan s Mended m = record { mark = m.mark; is = m.is; right = m.right; more = m.more }

there_copy : (copies : List Place) {s : Option Step} {n i : ℕ} {p : Place} → IsToCopy copies s n i p →
    IsToCopy copies (step_there s) n i p
there_copy copies (inl h) = inl h
there_copy copies (inr h) = inr (true, kind_there h.1)

there_plan : {b : Book} {frontier : ℕ} {standing : ℕ → ℕ → Option Place} (d : Disk) {s : Option Step} {pl : Plan} →
    OnePlanRight b frontier standing d.blocks d.flights s pl → OnePlanRight b frontier standing d.blocks d.flights
    (step_there s) pl
there_plan d {pl = pl} r = record {
  state = r.state;
  copied = λ n i e p h. ⊎_elim (λ o. inl o) (λ c. inr (there_copy pl.copies c)) (r.copied n i e p h);
  flown = r.flown;
}

pub content_there : {t : Translation} → Valid t →
    Valid (record t { work = record t.work { step = step_there t.work.step } })
content_there {t} v =
    let m = there_mending (book t) t.disk t.ledger t.work.plan t.work.step t.work.mending v.mending in
    let f = there_flights t.disk v.flights in
    assumption (
      m,
      f,
      λ (pl : Plan) (e : t.work.plan ≡ Some pl). there_plan t.disk (v.plan.one pl e),
      λ (x : Step) (e : step_there t.work.step ≡ Some x).
          let y = there_kind t.work.step e in
          subst (Rattle.power_loss.specs.Invariant.StepKindRight (book t) t.ledger.marks t.disk.cells t.work.mending
          t.work.plan) (sym y.2) (v.step.kind y.0 y.1),
      there_wants (λ w. NeededOf t w.place) t.work.step,
      stale_stays t.numbers t.work.mending (λ s free is. (free, is))
          (λ x e. let y = there_kind t.work.step e in (y.0, y.1)) v.stale,
    )

pub reads_right : {t : Translation} (reader : Reader) → Valid t → Valid (read_right t reader)
reads_right {t} (ForTask tag index) v = other_holds v.slots (pins_wanted tag index false v.pins) v
reads_right ForNobody v = v
reads_right {t} ForStep v = content_there v
reads_right {t} (ForRest number index) v = other_rests
    (record { each = All-filter _ (λ rest. SourceOf t rest.source) t.work.rests v.rests.each }) v

pub reads_wrong : {t : Translation} (reader : Reader) → Valid t → Valid (read_wrong t reader)
reads_wrong {t} (ForTask tag index) v = other_holds v.slots (pins_wanted tag index false v.pins) v
reads_wrong ForStep v = v
reads_wrong (ForRest number index) v = v
reads_wrong ForNobody v = v

-- a read ends
pub ends_read_right : {t : Translation} (die : ℕ) (reader : Reader) (place : Place) → Valid t →
    Valid (job_ended t die (Reading reader place) ReadRight)
ends_read_right {t} die reader place v = reads_right reader (idle die v)

pub ends_read_wrong : {t : Translation} (die : ℕ) (reader : Reader) (place : Place) → Valid t →
    Valid (job_ended t die (Reading reader place) ReadWrong)
ends_read_wrong {t} die reader place v = reads_wrong reader (idle die v)

-- What tasks do

pub claims : (t : Translation) (count : ℕ) → count ≤ free_slots t → Valid t → Valid (moved t (Claim count))
claims t count free v = other_holds (slots_claimed count free v.slots) v.pins v

pub releases : (t : Translation) (count : ℕ) → Valid t → Valid (moved t (Release count))
releases t count v = other_holds (slots_fewer (omega arith) (omega arith) v.slots) v.pins v

pub keeps : (t : Translation) (key : Key) (pin : Pin) → HasKey (book t) key → pin.looked ≡ look_now t key → Valid t →
    Valid (moved t (Keep key pin))
keeps t key pin has same v = other_holds v.slots
    (record {
      each = All-push (λ x. LookedOf t x.looked) t.pins pin v.pins.each
          (subst (LookedOf t) (sym same) (look_now_right key v has));
    }) v

pub wants_page : {t : Translation} (tag index : ℕ) → Valid t → Valid (moved t (WantPage tag index))
wants_page {t} tag index v = other_holds v.slots (pins_wanted tag index true v.pins) v

gone_fewer : {f : Flights} (reads : Reader → Bool) → IsFewer f (λ die. without_reader reads (f die))
gone_fewer {f} reads = record {
  programs = λ die p cell h. program_unread reads (f die) p cell h;
  erases = λ die s h. erase_unread reads (f die) s h;
}

gone : {t : Translation} (held : Pin → Bool) (reads : Reader → Bool) → Valid t → Valid (let_go t held reads)
gone {t} held reads v = other_holds v.slots
    (record { each = All-filter _ (λ x. LookedOf t x.looked) t.pins v.pins.each })
    (other_reads {g = (λ die. without_reader reads (t.disk.flights die))} v (gone_fewer reads)
    (reads_fewer (gone_reads t.disk.flights reads) v.reads))

pub lets_go : {t : Translation} (tag index : ℕ) → Valid t → Valid (moved t (LetGo tag index))
lets_go {t} tag index v = gone (is_pin_of tag index) (is_for tag index) v

pub lets_go_all : {t : Translation} (tag : ℕ) → Valid t → Valid (moved t (LetGoAll tag))
lets_go_all {t} tag v = gone (λ pin. pin.tag == tag) (is_for_task tag) v
