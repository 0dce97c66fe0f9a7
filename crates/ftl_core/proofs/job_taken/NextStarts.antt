-- A die begins a job: what is kept then, and what is told.
use Rattle.ftl_core.proofs.Common.{BlockState, BlocksKept, Bool, Cell, Cells, CopiesKnown, Core, Describes, DieRow}
use Rattle.ftl_core.proofs.Common.{Flight, ForStep, ForTask, GroupPage, IsFilling, IsFlight, IsTaken, IsWanted, Kept}
use Rattle.ftl_core.proofs.Common.{KnowsLive, List, MayTake, Name, None, Numbers, OpenBlock, Option, PagesFly, Pin}
use Rattle.ftl_core.proofs.Common.{Place, ReadsKept, RestsKept, Some, Spot, Standing, Step, StepReadsKept, Translation}
use Rattle.ftl_core.proofs.Common.{Want, WritesGroup, [], all_keep, ap, arith, at_die, at_die_cases, core_taken, false}
use Rattle.ftl_core.proofs.Common.{false≢true, find, first_page, flies_name, get_or, inl, inr, is_pin_of, job_of}
use Rattle.ftl_core.proofs.Common.{job_taken, length, lt-ltb, moved, nat_lt, next_place, none_some, option_and_then}
use Rattle.ftl_core.proofs.Common.{refl, slice_get, slice_set, some_flight, spot_at, step_wants, subst, sym, told_by}
use Rattle.ftl_core.proofs.Common.{true, true≢false, waiting, want_at, wants_on, ℕ, ⊎_elim, ◌&&◌, ◌<◌, ◌∙◌, ◌≡◌, ◌≢◌}
use Rattle.ftl_core.proofs.Common.{◌≤◌, ◌⊎◌}
use Rattle.std.proofs.Common.{is_none, ltb-true}
use Rattle.std.specs.Prelude.{Contains}
use Rattle.std.proofs.lemmas.Option.{slice_get_cases}
use Rattle.ufs_spec.specs.Disk as disk
use Rattle.ufs_spec.specs.Moves.{GiveJob}
use Rattle.ufs_spec.specs.Translation.{is_idle, next_flight, taken}
use Rattle.ufs_spec.specs.Translation as layer
use Rattle.ufs_laws.proofs.jobs.OneJob.{given as some_job, nothing_inside}
use Rattle.block_table.specs.declared.BlockState.TheVariants as state
use Rattle.block_table.specs.declared.rows.Flight.TheVariants as flight
use Rattle.ftl_core.proofs.rests_owed.RestsStay.{gives_rests}
use Rattle.ftl_core.specs.Describes.{given}
use Rattle.ftl_core.specs.declared.books.Waiting.{Waiting}
use Rattle.ftl_core.specs.declared.books.Waiting.TheVariants as waiting
use Rattle.ftl_core.specs.Moves.{begins, started, started_with}
use Rattle.ftl_core.specs.Takes.{begun_if_any, flight_taken, page_flight}
use Rattle.ftl_core.proofs.job_ended.ChangeParts.{blocks_put, elsewhere, same_put, states_with}
use Rattle.ftl_core.proofs.job_ended.JobsOver.{filling_begun}
use Rattle.ftl_core.proofs.job_taken.Flown.{die_within, dies_put}
use Rattle.ftl_core.proofs.job_taken.FlightKinds.{flight_cases, none_flies}
use Rattle.ftl_core.proofs.opened.ListParts.{get_set}

-- the page of no name flies from two dies, if no other die flies that of the new job
fly_begun : (standing : Standing) (flights : ℕ → Option disk.Flight) (rows : List DieRow) (die : ℕ)
    (filling : Option OpenBlock) (kept : Flight) (f : disk.Flight) → PagesFly standing flights rows →
    ((name : Name) → flies_name name (Some f) ≡ true → (e : ℕ) → flies_name name (flights e) ≡ false) →
    ((place : Place) (number index : ℕ) → kept ≡ flight.Group place number index → standing number index ≡ None) →
    PagesFly standing (at_die flights die (Some f))
    (slice_set rows die (record { filling = filling; flight = Some kept }))
fly_begun standing flights rows die filling kept f h alone fresh = record { one = one; new = new }
  where
    -- the new job's page, and one that flew before
    both : (e : ℕ) (name : Name) → flies_name name (Some f) ≡ true → flies_name name (flights e) ≡ true → ⊥
    both e name p q = false≢true (sym (alone name p e) ∙ q)

    one : (d e : ℕ) (name : Name) → flies_name name (at_die flights die (Some f) d) ≡ true →
        flies_name name (at_die flights die (Some f) e) ≡ true → d ≡ e
    one d e name p q = ⊎_elim
        (λ (k : (d ≡ die) × (at_die flights die (Some f) d ≡ Some f)). ⊎_elim
        (λ (j : (e ≡ die) × (at_die flights die (Some f) e ≡ Some f)). k.0 ∙ sym j.0)
        (λ (j : (e ≢ die) × (at_die flights die (Some f) e ≡ flights e)).
        absurd (both e name (sym (ap (flies_name name) k.1) ∙ p) (sym (ap (flies_name name) j.1) ∙ q)))
        (at_die_cases flights die (Some f) e))
        (λ (k : (d ≢ die) × (at_die flights die (Some f) d ≡ flights d)). ⊎_elim
        (λ (j : (e ≡ die) × (at_die flights die (Some f) e ≡ Some f)).
        absurd (both d name (sym (ap (flies_name name) j.1) ∙ q) (sym (ap (flies_name name) k.1) ∙ p)))
        (λ (j : (e ≢ die) × (at_die flights die (Some f) e ≡ flights e)).
        h.one d e name (sym (ap (flies_name name) k.1) ∙ p) (sym (ap (flies_name name) j.1) ∙ q))
        (at_die_cases flights die (Some f) e))
        (at_die_cases flights die (Some f) d)

    same_job : (x y : Flight) → Some x ≡ Some y → x ≡ y
    same_job x y e = cc

    new : (d number index : ℕ) →
        WritesGroup (slice_set rows die (record { filling = filling; flight = Some kept })) d number index →
        standing number index ≡ None
    new d number index w = ⊎_elim
        (λ (e : (d ≡ die) × (record { filling = filling; flight = Some kept } ≡ w.book)).
        fresh w.place number index
        (same_job kept (flight.Group w.place number index) (ap (λ (z : DieRow). z.flight) e.1 ∙ w.job)))
        (λ (e : (d ≢ die) × (slice_get rows d ≡ Some w.book)).
        h.new d number index (record { book = w.book; there = e.1; place = w.place; job = w.job }))
        (get_set rows die (record { filling = filling; flight = Some kept }) d w.book w.there)

-- a job that may begin: a page that it writes flies from no die, and that of a group does not stand; a page that it
-- reads for a task is one that its reader wants, and one for the step under way the page that this wants
pub record MayBegin (c : Core) (t : Translation) (kept : Flight) (job : disk.Flight) : Type 0 where
  pub alone : (name : Name) → flies_name name (Some job) ≡ true → some_flight t (flies_name name) ≡ false
  pub fresh : (place : Place) (number index : ℕ) → kept ≡ flight.Group place number index →
      t.ledger.standing number index ≡ None
  pub wanted : (tag index : ℕ) (place : Place) → job ≡ disk.Reading (ForTask tag index) place →
      (p : Pin) × (find (is_pin_of tag index) c.pins ≡ Some p) × IsWanted place p
  pub step_wanted : (place : Place) → job ≡ disk.Reading ForStep place → step_wants c.step ≡ Some place

-- a job is given, and the die fills this block then
kept_given : (c : Core) (t : Translation) (die : ℕ) (b : DieRow) (f : Flight) (job : disk.Flight)
    (states : List BlockState) (filling : Option OpenBlock) → Kept c t → slice_get c.rows die ≡ Some b →
    BlocksKept t.numbers (disk.blocks_begun t.disk job) t.disk.vacancies states →
    ((s : Spot) → s.die ≢ die → disk.blocks_begun t.disk job s ≡ t.disk.blocks s) →
    IsFilling t.numbers (disk.blocks_begun t.disk job) die filling →
    IsFlight t.numbers c.step die filling (Some f) (Some job) → MayBegin c t f job →
    Kept (record c {
      states = states;
      rows = slice_set c.rows die (record { filling = filling; flight = Some f });
    }) (taken t die job)
kept_given c t die b f job states filling k at blocks beside fills is may = record {
  numbers = k.numbers;
  blocks = blocks;
  dies = dies_put t.numbers t.disk.blocks (disk.blocks_begun t.disk job) t.disk.flights c.step c.rows die b
      (record { filling = filling; flight = Some f })
      (Some job) k.dies at beside (record { filling = fills; job = is });
  fly = fly_begun t.ledger.standing t.disk.flights c.rows die filling f job k.fly
      (λ name flies. none_flies t.numbers.dies t.disk.flights (flies_name name) refl k.dies.no_more
      (may.alone name flies)) may.fresh;
  ledger_kept = k.ledger_kept;
  work = k.work;
  plan = k.plan;
  claims = k.claims;
  pins = k.pins;
  differ = k.differ;
  reads = reads;
  step_reads = step_reads;
  readers = k.readers;
}
  where
    some_one : (x y : disk.Flight) → Some x ≡ Some y → x ≡ y
    some_one x y e = cc

    reads : ReadsKept (at_die t.disk.flights die (Some job)) c.pins
    reads e tag index place reading = ⊎_elim
        (λ h. may.wanted tag index place (some_one job (disk.Reading (ForTask tag index) place) (sym h.1 ∙ reading)))
        (λ h. k.reads e tag index place (sym h.1 ∙ reading))
        (at_die_cases t.disk.flights die (Some job) e)

    step_reads : StepReadsKept (at_die t.disk.flights die (Some job)) c.step
    step_reads e place reading = ⊎_elim
        (λ h. may.step_wanted place (some_one job (disk.Reading ForStep place) (sym h.1 ∙ reading)))
        (λ h. k.step_reads e place (sym h.1 ∙ reading))
        (at_die_cases t.disk.flights die (Some job) e)

-- Over the block that the die fills

-- what the blocks are once this job is given
blocks_given : disk.Disk → Option disk.Flight → Spot → disk.BlockState
blocks_given d None = d.blocks
blocks_given d (Some job) = disk.blocks_begun d job

-- a job that suits the block that a die fills changes no block
blocks_stay : (n : Numbers) (step : Option Step) (d : disk.Disk) (die : ℕ) (filling : Option OpenBlock)
    (f : Option Flight) (g : Option disk.Flight) → IsFilling n d.blocks die filling →
    IsFlight n step die filling f g → blocks_given d g ≡ d.blocks
unfolding blocks_given
blocks_stay n step d die filling f g fills is =
    flight_cases n step die filling (λ (f : Option Flight) (g : Option disk.Flight). blocks_given d g ≡ d.blocks)
    refl (λ place tag i. refl) (λ place. refl) (λ place. refl) (λ place m i. refl) (λ o cell e page. programs o cell e)
    (λ o tag body e no_repair. programs o (GroupPage tag body) e) (λ block within. refl) f g is
  where
    programs : (o : OpenBlock) (cell : Cell) → filling ≡ Some o →
        disk.blocks_begun d (disk.Programming (next_place die o) cell) ≡ d.blocks
    programs o cell e =
        same_put d.blocks (spot_at die o.block) (disk.Filling o.next)
        (subst (λ (x : Option OpenBlock). IsFilling n d.blocks die x) e fills).1

-- and begins none
begins_none : (n : Numbers) (step : Option Step) (die : ℕ) (filling : Option OpenBlock) (f : Flight)
    (g : Option disk.Flight) → IsFlight n step die filling (Some f) g → begins filling f ≡ None
begins_none n step die (Some o) f g is = refl
begins_none n step die None (flight.Read place reader) g is = refl
begins_none n step die None (flight.Erase block) g is = refl
begins_none n step die None (flight.Step place) (Some (disk.Programming p cell)) is =
    absurd (none_some is.1.0 is.1.1)
begins_none n step die None (flight.Step place) g is = absurd is
begins_none n step die None (flight.Group place number i) (Some (disk.Programming p (GroupPage tag body))) is =
    absurd (none_some is.1.0 is.1.1)
begins_none n step die None (flight.Group place number i) g is = absurd is

kept_begun : (c : Core) (t : Translation) (die : ℕ) (b : DieRow) (f : Flight) (job : disk.Flight) → Kept c t →
    slice_get c.rows die ≡ Some b → IsFlight t.numbers c.step die b.filling (Some f) (Some job) → MayBegin c t f job →
    Kept (started c die b f) (taken t die job)
unfolding blocks_given
kept_begun c t die b f job k at is may =
    let row = k.dies.each die b at in
    let stay : disk.blocks_begun t.disk job ≡ t.disk.blocks =
    blocks_stay t.numbers c.step t.disk die b.filling (Some f) (Some job) row.filling is in
    subst (λ (o : Option ℕ). Kept (started_with c die b.filling f o) (taken t die job))
    (sym (begins_none t.numbers c.step die b.filling f (Some job) is))
    (kept_given c t die b f job c.states b.filling k at
    (subst (λ (x : Spot → disk.BlockState). BlocksKept t.numbers x t.disk.vacancies c.states) (sym stay)
    k.blocks)
    (λ s apart i. stay i s)
    (subst (λ (x : Spot → disk.BlockState). IsFilling t.numbers x die b.filling) (sym stay) row.filling) is may)

-- Over a block that the die begins to fill

-- the first page of a block of the die
abbrev pub opening_place : ℕ → ℕ → Place
opening_place die block = next_place die (first_page block)

begins_page : (die block : ℕ) (w : Waiting) →
    begins None (page_flight (opening_place die block) w) ≡ Some block
begins_page die block waiting.Step = refl
begins_page die block (waiting.Group n i) = refl

kept_opened : (c : Core) (t : Translation) (die block : ℕ) (b : DieRow) (w : Waiting) (cell : Cell) → Kept c t →
    slice_get c.rows die ≡ Some b → b.filling ≡ None → block < t.numbers.blocks →
    t.disk.blocks (spot_at die block) ≡ disk.Free →
    IsFlight t.numbers c.step die (Some (first_page block)) (Some (page_flight (opening_place die block) w))
    (Some (disk.Programming (opening_place die block) cell)) →
    MayBegin c t (page_flight (opening_place die block) w) (disk.Programming (opening_place die block) cell) →
    Kept (started c die b (page_flight (opening_place die block) w))
    (taken t die (disk.Programming (opening_place die block) cell))
kept_opened c t die block b w cell k at closed within free is may =
    subst (λ (z : Core). Kept z (taken t die (disk.Programming (opening_place die block) cell))) (sym begun)
    (kept_given c t die b (page_flight (opening_place die block) w)
    (disk.Programming (opening_place die block) cell) (states_with c die block state.Open) (Some (first_page block)) k
    at (blocks_put c t die block (disk.Filling 0) k (die_within c t die b k at) within)
    (elsewhere t.disk.blocks die block (disk.Filling 0))
    (filling_begun t.numbers t.disk.blocks die block 0 within
    (subst (λ (x : Option OpenBlock). IsFilling t.numbers t.disk.blocks die x) closed (k.dies.each die b at).filling))
    is may)
  where
    begun : started c die b (page_flight (opening_place die block) w)
        ≡ started_with c die b.filling (page_flight (opening_place die block) w) (Some block)
    begun = ap (started_with c die b.filling (page_flight (opening_place die block) w))
        (ap (λ (x : Option OpenBlock). begins x (page_flight (opening_place die block) w)) closed
        ∙ begins_page die block w)

-- Idle dies

-- a die without a book is outside the numbers
pub outside : (c : Core) (t : Translation) (die : ℕ) → Kept c t → slice_get c.rows die ≡ None → t.numbers.dies ≤ die
outside c t die k there = ⊎_elim
    (λ (w : (x : DieRow) × (die < length c.rows) × (slice_get c.rows die ≡ Some x) × (get_or c.rows die x ≡ x)).
    absurd (none_some w.0 (sym there ∙ w.2)))
    (λ w. subst (λ (n : ℕ). n ≤ die) k.dies.dies w.0)
    (slice_get_cases c.rows die).1

-- a die outside the numbers is not idle, and neither is one with a job
pub not_idle : (t : Translation) (die : ℕ) → (t.numbers.dies ≤ die) ⊎ (is_none (t.disk.flights die) ≡ false) →
    is_idle t die ≡ false
not_idle t die (inl behind) = by (nat_lt die t.numbers.dies) refl
  where
    by : (b : Bool) → nat_lt die t.numbers.dies ≡ b →
        (nat_lt die t.numbers.dies && is_none (t.disk.flights die)) ≡ false
    by true e = absurd (let low : die < t.numbers.dies = ltb-true die t.numbers.dies e in omega arith)
    by false e = ap (λ (b : Bool). b && is_none (t.disk.flights die)) e
not_idle t die (inr busy) = ap (λ (b : Bool). nat_lt die t.numbers.dies && b) busy ∙ neither (nat_lt die t.numbers.dies)
  where
    neither : (b : Bool) → (b && false) ≡ false
    neither true = refl
    neither false = refl

-- a die of the device without a job is idle
pub is_free_die : (t : Translation) (die : ℕ) → die < t.numbers.dies → t.disk.flights die ≡ None → is_idle t die ≡ true
is_free_die t die there none =
    ap (λ (b : Bool). b && is_none (t.disk.flights die)) (lt-ltb die t.numbers.dies there) ∙ ap is_none none

-- where no read is owed, the next flight may be taken
pub next_may : (t : Translation) (die : ℕ) (f : disk.Flight) → is_idle t die ≡ true → wants_on t die ≡ [] →
    next_flight t die ≡ Some f → MayTake t die (Some f)
next_may t die f idle none next = by_job (some_job t die)
  where
    same : (g : disk.Flight) → MayTake t die (Some g) → next_flight t die ≡ Some g → MayTake t die (Some f)
    same g may other = subst (λ (o : Option disk.Flight). MayTake t die o) (sym other ∙ next) may

    by_flight : (g : disk.Flight) → MayTake t die (Some g) → MayTake t die (Some f)
    by_flight (disk.Reading reader place) may =
        absurd (nothing_inside (want_at reader place)
        (subst (λ (ws : List Want). Contains ws (want_at reader place)) none may.1))
    by_flight (disk.Programming place cell) may = same (disk.Programming place cell) may may.1.1
    by_flight (disk.Erasing spot) may = same (disk.Erasing spot) may may.1.1

    by_job : ((g : disk.Flight) × MayTake t die (Some g)) ⊎ MayTake t die None → MayTake t die (Some f)
    by_job (inl given) = by_flight given.0 given.1
    by_job (inr (inl busy)) = absurd (true≢false (sym idle ∙ busy))
    by_job (inr (inr nothing)) = absurd (none_some f (sym nothing.1 ∙ next))

-- What is given

-- nothing is
pub nothing_taken : (c : Core) (t : Translation) (die : ℕ) → Describes c t → flight_taken c die ≡ None →
    MayTake t die None →
    IsTaken t die (job_taken c die) (core_taken c die)
nothing_taken c t die h none may = record {
  job = None;
  right = may;
  shown = ap (option_and_then (job_of c die)) none;
  describes = subst (λ (z : Core). Describes z t) (sym still) h;
}
  where
    as_it_was : (o : Option DieRow) → begun_if_any c die o None None ≡ c
    as_it_was None = refl
    as_it_was (Some b) = refl

    still : core_taken c die ≡ c
    still =
        (λ i. begun_if_any c die (slice_get c.rows die) (none i) (option_and_then (job_of c die) (none i)))
        ∙ as_it_was (slice_get c.rows die)

-- a job that begins changes neither what is live nor what is to be copied
live_begun : (c : Core) (die : ℕ) (filling : Option OpenBlock) (f : Flight) (o : Option ℕ) →
    KnowsLive c.numbers c.places c.pages c.live →
    KnowsLive (started_with c die filling f o).numbers (started_with c die filling f o).places
    (started_with c die filling f o).pages (started_with c die filling f o).live
live_begun c die filling f None h = h
live_begun c die filling f (Some block) h = h

copies_begun : (c : Core) (die : ℕ) (filling : Option OpenBlock) (f : Flight) (o : Option ℕ) (cells : Cells)
    (step : Option layer.Step) → CopiesKnown cells c.plan step →
    CopiesKnown cells (started_with c die filling f o).plan step
copies_begun c die filling f None cells step h = h
copies_begun c die filling f (Some block) cells step h = h

rests_begun : (c : Core) (die : ℕ) (filling : Option OpenBlock) (f : Flight) (o : Option ℕ) (t : Translation) →
    RestsKept t (waiting c.pages) → RestsKept t (waiting (started_with c die filling f o).pages)
rests_begun c die filling f None t h = h
rests_begun c die filling f (Some block) t h = h

-- or a job
begun_is : (c : Core) (t : Translation) (die : ℕ) (b : DieRow) (f : Flight) (job : disk.Flight) → Describes c t →
    slice_get c.rows die ≡ Some b → flight_taken c die ≡ Some f → job_of c die f ≡ Some (told_by job) →
    Kept (started c die b f) (taken t die job) → MayTake t die (Some job) →
    IsTaken t die (job_taken c die) (core_taken c die)
begun_is c t die b f job h there taken told kept may = record {
  job = Some job;
  right = may;
  shown = ap (option_and_then (job_of c die)) taken ∙ told;
  describes = subst (λ (z : Core). Describes z (given t die (Some job))) (sym begun)
      (record {
        valid = all_keep t (GiveJob die job) h.valid may;
        kept = kept;
        live = live_begun c die b.filling f (begins b.filling f) h.live;
        copies = copies_begun c die b.filling f (begins b.filling f) t.disk.cells t.work.step h.copies;
        rests = rests_begun c die b.filling f (begins b.filling f) (moved t (GiveJob die job))
            (gives_rests t (waiting c.pages) die job h.valid h.rests may);
      });
}
  where
    begun : core_taken c die ≡ started c die b f
    begun = λ i. begun_if_any c die (there i) (taken i) ((ap (option_and_then (job_of c die)) taken ∙ told) i)

-- over the block that the die fills
pub job_begun : (c : Core) (t : Translation) (die : ℕ) (b : DieRow) (f : Flight) (job : disk.Flight) → Describes c t →
    slice_get c.rows die ≡ Some b → flight_taken c die ≡ Some f → job_of c die f ≡ Some (told_by job) →
    IsFlight t.numbers c.step die b.filling (Some f) (Some job) → MayBegin c t f job → MayTake t die (Some job) →
    IsTaken t die (job_taken c die) (core_taken c die)
job_begun c t die b f job h there taken told is begins may =
    begun_is c t die b f job h there taken told (kept_begun c t die b f job h.kept there is begins) may

-- or over one that it begins to fill
pub job_opened : (c : Core) (t : Translation) (die block : ℕ) (b : DieRow) (w : Waiting) (cell : Cell) →
    Describes c t → slice_get c.rows die ≡ Some b → b.filling ≡ None → block < t.numbers.blocks →
    t.disk.blocks (spot_at die block) ≡ disk.Free →
    flight_taken c die ≡ Some (page_flight (opening_place die block) w) →
    job_of c die (page_flight (opening_place die block) w)
    ≡ Some (told_by (disk.Programming (opening_place die block) cell)) →
    IsFlight t.numbers c.step die (Some (first_page block)) (Some (page_flight (opening_place die block) w))
    (Some (disk.Programming (opening_place die block) cell)) →
    MayBegin c t (page_flight (opening_place die block) w) (disk.Programming (opening_place die block) cell) →
    MayTake t die (Some (disk.Programming (opening_place die block) cell)) →
    IsTaken t die (job_taken c die) (core_taken c die)
job_opened c t die block b w cell h there closed within free taken told is begins may =
    begun_is c t die b (page_flight (opening_place die block) w) (disk.Programming (opening_place die block) cell) h
    there taken told (kept_opened c t die block b w cell h.kept there closed within free is begins) may
