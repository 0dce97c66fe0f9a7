-- While the device is not mended and room is left, a die has a job or is owed one, a turn is due, or the numbers are
-- used up.
use Rattle.power_loss.proofs.Common.{All-weaker, Bad, BlockState, Bool, Cell, Closed, Contains, CopyStep, Erasing}
use Rattle.power_loss.proofs.Common.{Filling, Flight, Free, IsNeededPage, List, Looked, MarkStep, Mended, Mending, None}
use Rattle.power_loss.proofs.Common.{Numbers, OnPage, Option, OrderMark, OrderRepair, Pin, Place, Plan, Programming}
use Rattle.power_loss.proofs.Common.{Reading, Ready, RepairStep, Repairing, Rest, Some, Spot, Stale, Step, StepKind}
use Rattle.power_loss.proofs.Common.{Translation, Unmarked, Untouched, Vacancy, Valid, Want, [], ap, arith, below}
use Rattle.power_loss.proofs.Common.{cases_Bool, eqb-self, false, false≢true, filter_map, flies_mark, flies_name}
use Rattle.power_loss.proofs.Common.{flight_at, flight_for, has_mark_number, has_number, has_open_block}
use Rattle.power_loss.proofs.Common.{has_room_for_groups, if◌then◌else◌, inl, inr, is_free, is_mended, is_none}
use Rattle.power_loss.proofs.Common.{is_pinned, is_some, is_step_due, list_any, looks_into, lt-ltb, may_open_for_step}
use Rattle.power_loss.proofs.Common.{next_order, next_place, not, option_map, or_cases, or_right, page_not_nothing}
use Rattle.power_loss.proofs.Common.{place_in, reads_from, refl, some_flight, spot_cases, spot_of, spots, step_cell}
use Rattle.power_loss.proofs.Common.{step_flies, subst, sym, true, waiting_name, waiting_step, wants_of_step, ℕ, ⊎_elim}
use Rattle.power_loss.proofs.Common.{◌&&◌, ◌++◌, ◌<◌, ◌||◌, ◌∙◌, ◌∷◌, ◌≡◌, ◌≤◌, ◌⊎◌}
use Rattle.power_loss.proofs.MachineWords.{IsSpot}
use Rattle.std.proofs.lemmas.List.Folds.{list_any_none}
use Rattle.ufs_spec.proofs.Lists.{find_some}
use Rattle.ufs_spec.specs.Translation.{flies_erase, flies_reader, flight_into, flight_or, has_stale, is_idle, is_of_die}
use Rattle.ufs_spec.specs.Translation.{is_ready, is_stale, is_unread, is_untouched, is_vacant, lowest_vacant}
use Rattle.ufs_spec.specs.Translation.{may_be_used, next_flight, spots_of, want_of_kind, want_of_pin, want_of_rest}
use Rattle.ufs_spec.specs.Translation.{wants, wants_on}
use Rattle.power_loss.specs.MendingRoom.{HasJob, HasRoom, IsOffFree, IsOutOfNumbers, MayGoOn, MendsAlone, OwesJob}
use Rattle.power_loss.specs.MendingRoom.{page_of_step, page_room, pages_left}
use Rattle.power_loss.proofs.books.FrontierClimbs.{some_told}
use Rattle.power_loss.proofs.collected_blocks.FewestLivePages.{any_in, in_any}
use Rattle.power_loss.proofs.jobs_owed.RoomLeft.{filled_open}
use Rattle.power_loss.proofs.ordered_lists.ElementsAndOrders.{IsIn, all_in, below_in, has_at, in_below, in_contained}
use Rattle.power_loss.proofs.ordered_lists.ElementsAndOrders.{in_left, in_map, in_mapped, in_right, kept_in, spots_in}
use Rattle.power_loss.proofs.room_to_mend.RoomInBlocks.{sum_has}

-- No die has a job

abbrev AllIdle : Translation → Type 0
AllIdle t = (die : ℕ) → die < t.numbers.dies → t.disk.flights die ≡ None

has_job : (t : Translation) → some_flight t is_some ≡ true → HasJob t
has_job t h =
    let r = any_in (λ die. is_some (t.disk.flights die)) (below t.numbers.dies) h in
    let f = some_told (t.disk.flights r.0) r.2 in
    (r.0, f.0, below_in t.numbers.dies r.0 r.1, f.1)

no_job : (t : Translation) → some_flight t is_some ≡ false → AllIdle t
no_job t none die l = by (t.disk.flights die) refl
  where
    by : (o : Option Flight) → t.disk.flights die ≡ o → o ≡ None
    by None e = refl
    by (Some f) e = absurd (false≢true (sym none ∙ in_any (λ d. is_some (t.disk.flights d)) die (below t.numbers.dies)
        (in_below t.numbers.dies die l) (ap is_some e)))

none_flies : (t : Translation) (test : Option Flight → Bool) → AllIdle t → test None ≡ false →
    some_flight t test ≡ false
none_flies t test idle e = ⊎_elim
    (λ h.
    let r = any_in (λ die. test (t.disk.flights die)) (below t.numbers.dies) h in
    absurd (false≢true (sym e ∙ ap test (sym (idle r.0 (below_in t.numbers.dies r.0 r.1))) ∙ r.2)))
    (λ h. h) (cases_Bool (some_flight t test))

no_step_flies : (t : Translation) (kind : StepKind) → AllIdle t → step_flies t kind ≡ false
no_step_flies t (MarkStep number fence) idle = none_flies t flies_mark idle refl
no_step_flies t (CopyStep name from) idle = none_flies t (flies_name name) idle refl
no_step_flies t (RepairStep name from) idle = none_flies t (flies_name name) idle refl

is_idle_now : (t : Translation) (die : ℕ) → AllIdle t → die < t.numbers.dies → is_idle t die ≡ true
is_idle_now t die idle l = rw (lt-ltb die t.numbers.dies l) (ap is_none (idle die l))

-- No step is under way

unmended_due : (t : Translation) (w : Mending) (plan : Option Plan) → is_mended w ≡ false →
    (is_some (next_order t w plan) ≡ true) ⊎ IsOutOfNumbers t
unmended_due t (Unmarked fence lost) plan un = ⊎_elim
    (λ h. inl (ap (λ b. is_some (if b then Some (OrderMark fence) else None)) h)) (λ h. inr (inl h))
    (cases_Bool (has_mark_number t))
unmended_due t (Repairing []) plan un = ⊎_elim
    (λ h. inl (ap (λ b. is_some (if b then Some (OrderMark None) else None)) h)) (λ h. inr (inl h))
    (cases_Bool (has_mark_number t))
unmended_due t (Repairing (k ∷ ks)) plan un = ⊎_elim
    (λ h. inl (ap (λ b. is_some (if b then Some (OrderRepair k ks) else None)) h)) (λ h. inr (inr h))
    (cases_Bool (has_number t))
unmended_due t Mended plan un = absurd (false≢true (sym un))

turn_due : (t : Translation) → t.work.step ≡ None → has_stale t ≡ false → is_mended t.work.mending ≡ false →
    (is_step_due t ≡ true) ⊎ IsOutOfNumbers t
turn_due t none fresh un = ⊎_elim (λ h. inl (due_at t none fresh ∙ h)) (λ h. inr h)
    (unmended_due t t.work.mending t.work.plan un)
  where
    due_at : (t : Translation) → t.work.step ≡ None → has_stale t ≡ false →
        is_step_due t ≡ is_some (next_order t t.work.mending t.work.plan)
    due_at t none fresh =
        ap (λ (s : Option Step).
        is_some (if is_none s && not (has_stale t) then next_order t t.work.mending t.work.plan else None)) none
        ∙ ap (λ b. is_some (if not b then next_order t t.work.mending t.work.plan else None)) fresh

-- The content of the step is not there

place_there : {t : Translation} {p : Place} → Valid t →
    IsNeededPage t.disk.cells t.disk.finished t.disk.blocks t.disk.erasing p → p.die < t.numbers.dies
place_there {t} {p} v h = by (lower p.die t.numbers.dies)
  where
    lower : (a b : ℕ) → (a < b) ⊎ (b ≤ a)
    lower a b = grind arith

    by : (p.die < t.numbers.dies) ⊎ (t.numbers.dies ≤ p.die) → p.die < t.numbers.dies
    by (inl l) = l
    by (inr l) = absurd (page_not_nothing _ _ _ h.page.there
        (v.pages.within p (λ inside. let i = inside.die in omega (arith, i, l))))

read_owed : (t : Translation) (step : Step) (want : Want) → Valid t → AllIdle t → t.work.step ≡ Some step →
    step.there ≡ false → want_of_kind step.kind ≡ Some want → OwesJob t
read_owed t step want v idle is no_content from = (
  want.place.die,
  Reading want.reader want.place,
  (
    is_idle_now t want.place.die idle home,
    in_contained (wants_on t want.place.die)
        (kept_in (is_of_die want.place.die) want (wants t)
        (kept_in (is_unread t) want (pins ++ wants_of_step t.work.step ++ rests) inside unread)
        (eqb-self want.place.die)),
  ),
)
  where
    pins : List Want
    pins = filter_map want_of_pin t.pins

    rests : List Want
    rests = filter_map want_of_rest t.work.rests

    of_step : IsIn want (wants_of_step t.work.step)
    of_step = subst (λ (s : Option Step). IsIn want (wants_of_step s)) (sym is)
        (subst (λ b. IsIn want (if b then [] else filter_map want_of_kind (step.kind ∷ []))) (sym no_content)
        (in_mapped want_of_kind step.kind (step.kind ∷ []) (inl refl) from))

    inside : IsIn want (pins ++ wants_of_step t.work.step ++ rests)
    inside = in_left want (pins ++ wants_of_step t.work.step) rests
        (in_right want pins (wants_of_step t.work.step) of_step)

    unread : is_unread t want ≡ true
    unread = ap not (none_flies t (flies_reader want.reader) idle refl)

    home : want.place.die < t.numbers.dies
    home = place_there v
        (all_in (λ (w : Want). IsNeededPage t.disk.cells t.disk.finished t.disk.blocks t.disk.erasing w.place) want
        (wants_of_step t.work.step) v.to_read.wanted of_step)

-- The page of the step waits

-- a die to which no read is owed is owed something else, or a read is
unless_read : (t : Translation) (die : ℕ) → is_idle t die ≡ true → (wants_on t die ≡ [] → OwesJob t) → OwesJob t
unless_read t die idle other = by (wants_on t die) refl
  where
    by : (ws : List Want) → wants_on t die ≡ ws → OwesJob t
    by [] is = other is
    by (w ∷ ws) is = (
      die,
      Reading w.reader w.place,
      (idle, subst (λ (xs : List Want). Contains xs w) (sym is) (in_contained (w ∷ ws) (inl refl))),
    )

-- the first erase of a block for pages that may go is owed before anything is programmed
stale_owed : (t : Translation) (die : ℕ) (s : Spot) → is_idle t die ≡ true → lowest_vacant t is_stale die ≡ Some s →
    OwesJob t
stale_owed t die s idle is = unless_read t die idle (λ none. (
  die,
  Erasing s,
  (
    idle,
    (
      none,
      ap (λ (o : Option Spot).
          flight_or (option_map Erasing o) (flight_for t die (waiting_step t t.work.step) (waiting_name t))) is,
    ),
  ),
))

-- so a die to which no such erase is owed is owed something else, or one is
unless_stale : (t : Translation) (die : ℕ) → is_idle t die ≡ true → (lowest_vacant t is_stale die ≡ None → OwesJob t) →
    OwesJob t
unless_stale t die idle other = by (lowest_vacant t is_stale die) refl
  where
    by : (o : Option Spot) → lowest_vacant t is_stale die ≡ o → OwesJob t
    by None is = other is
    by (Some s) is = stale_owed t die s idle is

-- where the page of a step waits, what is owed to a die is its program, or what opens a block
step_flight : (t : Translation) (die : ℕ) {cell : Cell} {o : Option Place} → lowest_vacant t is_stale die ≡ None →
    waiting_step t t.work.step ≡ Some cell → next_place t die ≡ o →
    next_flight t die ≡ flight_at t die (may_open_for_step t) cell o
step_flight t die {cell} fresh waits at =
    ap (λ (s : Option Spot).
    flight_or (option_map Erasing s) (flight_for t die (waiting_step t t.work.step) (waiting_name t))) fresh
    ∙ ap (λ (w : Option Cell). flight_for t die w (waiting_name t)) waits
    ∙ ap (flight_at t die (may_open_for_step t) cell) at

program_owed : (t : Translation) (die : ℕ) (p : Place) {cell : Cell} → is_idle t die ≡ true →
    waiting_step t t.work.step ≡ Some cell → next_place t die ≡ Some p → OwesJob t
program_owed t die p {cell} idle waits at = unless_stale t die idle (λ fresh. unless_read t die idle (λ none.
    (die, Programming p cell, (idle, (none, step_flight t die fresh waits at)))))

-- where a block may be opened
opening_owed : (t : Translation) (die : ℕ) {cell : Cell} (o : Option Spot) (s : Spot) → is_idle t die ≡ true →
    waiting_step t t.work.step ≡ Some cell → next_place t die ≡ None → may_open_for_step t ≡ true →
    lowest_vacant t is_ready die ≡ o → lowest_vacant t is_untouched die ≡ Some s → OwesJob t
opening_owed t die {cell} o s idle waits at opens ready untouched =
    unless_stale t die idle (λ fresh. unless_read t die idle
    (λ none. by o (flight fresh ∙ ap (flight_into t die cell) ready) none))
  where
    flight : lowest_vacant t is_stale die ≡ None →
        next_flight t die ≡ flight_into t die cell (lowest_vacant t is_ready die)
    flight fresh = step_flight t die fresh waits at
        ∙ ap (λ (b : Bool). if b then flight_into t die cell (lowest_vacant t is_ready die) else None) opens

    by : (o : Option Spot) → next_flight t die ≡ flight_into t die cell o → wants_on t die ≡ [] → OwesJob t
    by (Some r) is none = (die, Programming (place_in r 0) cell, (idle, (none, is)))
    by None is none = (die, Erasing s, (idle, (none, is ∙ ap (option_map Erasing) untouched)))

ready_owed : (t : Translation) (die : ℕ) {cell : Cell} (s : Spot) → is_idle t die ≡ true →
    waiting_step t t.work.step ≡ Some cell → next_place t die ≡ None → may_open_for_step t ≡ true →
    lowest_vacant t is_ready die ≡ Some s → OwesJob t
ready_owed t die {cell} s idle waits at opens ready =
    unless_stale t die idle (λ fresh. unless_read t die idle (λ none. (
      die,
      Programming (place_in s 0) cell,
      (
        idle,
        (
          none,
          step_flight t die fresh waits at
              ∙ ap (λ (b : Bool). if b then flight_into t die cell (lowest_vacant t is_ready die) else None) opens
              ∙ ap (flight_into t die cell) ready,
        ),
      ),
    )))

free_may : (t : Translation) (is : Vacancy → Bool) (s : Spot) → t.disk.blocks s ≡ Free →
    is (t.disk.vacancies s) ≡ true → is_pinned t s ≡ false → may_be_used t is s ≡ true
free_may t is s free h none =
    ap (λ x. (is_free x && is (t.disk.vacancies s)) && not (is_pinned t s)) free
    ∙ ap (λ b. b && not (is_pinned t s)) h ∙ ap not none

-- where a free block of the die may be used, there is a lowest one
lowest_there : (t : Translation) (is : Vacancy → Bool) (s : Spot) → IsIn s (spots_of t.numbers s.die) →
    may_be_used t is s ≡ true → (a : Spot) × (lowest_vacant t is s.die ≡ Some a)
lowest_there t is s inside may =
    let i = has_at (spots_of t.numbers s.die) s inside in
    let f = find_some (may_be_used t is) (spots_of t.numbers s.die) i.0 s i.1 may in
    (f.0, f.1)

-- a free block that is not pinned is erased or filled
free_owed : (t : Translation) (s : Spot) {cell : Cell} → IsIn s (spots_of t.numbers s.die) → is_idle t s.die ≡ true →
    waiting_step t t.work.step ≡ Some cell → next_place t s.die ≡ None → may_open_for_step t ≡ true →
    t.disk.blocks s ≡ Free → is_pinned t s ≡ false → OwesJob t
free_owed t s {cell} inside idle waits at opens free none = by (t.disk.vacancies s) refl
  where
    lowest : (is : Vacancy → Bool) → is (t.disk.vacancies s) ≡ true →
        (a : Spot) × (lowest_vacant t is s.die ≡ Some a)
    lowest is h = lowest_there t is s inside (free_may t is s free h none)

    by : (x : Vacancy) → t.disk.vacancies s ≡ x → OwesJob t
    by Stale e = let f = lowest is_stale (ap is_stale e) in stale_owed t s.die f.0 idle f.1
    by Ready e = let f = lowest is_ready (ap is_ready e) in ready_owed t s.die f.0 idle waits at opens f.1
    by Untouched e =
        let f = lowest is_untouched (ap is_untouched e) in
        opening_owed t s.die (lowest_vacant t is_ready s.die) f.0 idle waits at opens refl f.1

-- a free block is not pinned
not_into : (blocks : Spot → BlockState) (s : Spot) (looked : Looked) → blocks s ≡ Free → IsOffFree blocks looked →
    looks_into s looked ≡ false
not_into blocks s (OnPage name place) free off =
    ⊎_elim (λ k. absurd (off (ap blocks k.1 ∙ free))) (λ k. k.0) (spot_cases (spot_of place) s)
not_into blocks s looked free off = refl

unpinned : (t : Translation) (s : Spot) → t.disk.blocks s ≡ Free → MendsAlone t → is_pinned t s ≡ false
unpinned t s free alone =
    ap (λ b. b || list_any (λ (rest : Rest). reads_from s rest.source) t.work.rests)
    (list_any_none (λ (pin : Pin). looks_into s pin.looked) t.pins
    (All-weaker (λ (pin : Pin). IsOffFree t.disk.blocks pin.looked) (λ (pin : Pin). looks_into s pin.looked ≡ false)
    (λ pin off. not_into t.disk.blocks s pin.looked free off) t.pins alone.pins))
    ∙ ap (λ (x : List Rest). list_any (λ (rest : Rest). reads_from s rest.source) x) alone.no_rests

in_its_die : (n : Numbers) (s : Spot) → IsSpot n s → IsIn s (spots_of n s.die)
in_its_die n s inside = in_map (λ block. record { die = s.die; block = block }) s.block (below n.blocks)
    (in_below n.blocks s.block inside.block)

-- no block is open, and this one has room
opens_one : (t : Translation) (s : Spot) {cell : Cell} → AllIdle t → MendsAlone t →
    waiting_step t t.work.step ≡ Some cell → has_open_block t ≡ false → IsSpot t.numbers s →
    1 ≤ page_room t.numbers.pages (t.disk.blocks s) → OwesJob t
opens_one t s {cell} idle alone waits closed inside room = by (next_place t s.die) refl
  where
    home : is_idle t s.die ≡ true
    home = is_idle_now t s.die idle inside.die

    opens : may_open_for_step t ≡ true
    opens = or_right (has_room_for_groups t) (not (has_open_block t)) (ap not closed)

    free : (x : BlockState) → t.disk.blocks s ≡ x → 1 ≤ page_room t.numbers.pages x → t.disk.blocks s ≡ Free
    free Free is some = is
    free (Filling next) is some = absurd (false≢true (sym closed ∙ filled_open t s next inside is))
    free Closed is some = absurd (omega (arith, some))
    free Bad is some = absurd (omega (arith, some))

    by : (o : Option Place) → next_place t s.die ≡ o → OwesJob t
    by (Some p) at = program_owed t s.die p home waits at
    by None at =
        let is = free (t.disk.blocks s) refl room in
        free_owed t s (in_its_die t.numbers s inside) home waits at opens is (unpinned t s is alone)

page_waits : (t : Translation) {cell : Cell} → AllIdle t → MendsAlone t →
    waiting_step t t.work.step ≡ Some cell → 1 ≤ pages_left t → OwesJob t
page_waits t {cell} idle alone waits left = ⊎_elim
    (λ h. ⊎_elim
    (λ (k : list_any (λ die. is_some (next_place t die)) (below t.numbers.dies) ≡ true).
    let r = any_in (λ die. is_some (next_place t die)) (below t.numbers.dies) k in
    let p = some_told (next_place t r.0) r.2 in
    program_owed t r.0 p.0 (is_idle_now t r.0 idle (below_in t.numbers.dies r.0 r.1)) waits p.1)
    (λ k. absurd (false≢true (sym (none_flies t flies_erase idle refl) ∙ k)))
    (or_cases (list_any (λ die. is_some (next_place t die)) (below t.numbers.dies)) (some_flight t flies_erase) h))
    (λ h.
    let r = sum_has (λ s. page_room t.numbers.pages (t.disk.blocks s)) (spots t.numbers) left in
    opens_one t r.0 idle alone waits h (spots_in r.1) r.2) (cases_Bool (has_open_block t))

one_needed : (t : Translation) {step : Step} → t.work.step ≡ Some step → HasRoom 0 t → 1 ≤ pages_left t
one_needed t is room =
    let e = ap page_of_step is in omega (arith, e, room)

step_owed : (t : Translation) (step : Step) → Valid t → MendsAlone t → HasRoom 0 t → AllIdle t →
    t.work.step ≡ Some step → OwesJob t
step_owed t step v alone room idle is = ⊎_elim
    (λ there. page_waits t idle alone (waits there) (one_needed t is room))
    (λ absent. let w = alone.readable step is absent in read_owed t step w.0 v idle is absent w.1)
    (cases_Bool step.there)
  where
    waits : step.there ≡ true → waiting_step t t.work.step ≡ Some (step_cell t step.kind)
    waits there = ap (waiting_step t) is
        ∙ ap (λ b. if b && not (step_flies t step.kind) then Some (step_cell t step.kind) else None) there
        ∙ ap (λ b. if not b then Some (step_cell t step.kind) else None) (no_step_flies t step.kind idle)

-- A free block is still to be erased

stale_free : (x : BlockState) (v : Vacancy) → is_free x && is_stale v ≡ true → (x ≡ Free) × (is_stale v ≡ true)
stale_free Free v h = (refl, h)
stale_free x v h = absurd (false≢true h)

has_stale_owed : (t : Translation) → MendsAlone t → AllIdle t → has_stale t ≡ true → OwesJob t
has_stale_owed t alone idle h =
    let r = any_in (is_vacant t is_stale) (spots t.numbers) h in
    let inside = spots_in r.1 in
    let b = stale_free (t.disk.blocks r.0) (t.disk.vacancies r.0) r.2 in
    let f = lowest_there t is_stale r.0 (in_its_die t.numbers r.0 inside)
    (free_may t is_stale r.0 b.0 b.1 (unpinned t r.0 b.0 alone)) in
    stale_owed t r.0.die f.0 (is_idle_now t r.0.die idle inside.die) f.1

-- Together

pub goes_on : (t : Translation) → Valid t → is_mended t.work.mending ≡ false → MendsAlone t → HasRoom 0 t → MayGoOn t
goes_on t v un alone room = ⊎_elim (λ some. inl (has_job t some)) (λ none. inr (by t.work.step refl (no_job t none)))
    (cases_Bool (some_flight t is_some))
  where
    by : (s : Option Step) → t.work.step ≡ s → AllIdle t →
        OwesJob t ⊎ ((is_step_due t ≡ true) ⊎ IsOutOfNumbers t)
    by None is idle = ⊎_elim (λ stale. inl (has_stale_owed t alone idle stale))
        (λ fresh. inr (turn_due t is fresh un)) (cases_Bool (has_stale t))
    by (Some step) is idle = inl (step_owed t step v alone room idle is)
