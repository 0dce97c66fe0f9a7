-- What describes a translation layer once the program or the erase of one die ended.
use Rattle.ftl_core.proofs.Common.{All, BlockState, BlocksKept, Bool, Cells, Core, DieRow, IsFilling, IsFlight}
use Rattle.ftl_core.proofs.Common.{IsInNoSlot, Kept, Ledger, LedgerKept, List, Mark, None, Numbers, OpenBlock, Option}
use Rattle.ftl_core.proofs.Common.{PagesFly, Pending, Pin, PinsKept, Place, Some, Spot, Step, StepReadsKept, Stored}
use Rattle.ftl_core.proofs.Common.{Translation, WorkKept, [], ap, arith, at_die, at_spot, at_spot_cases, block_kept}
use Rattle.ftl_core.proofs.Common.{entry_of, eqb_tells, false, filling_but, if_false, if_true, inl, inr, is_mended}
use Rattle.ftl_core.proofs.Common.{lt-ltb, map, nat_lt, nat_tests, page_written, refl, slice_get, slice_set, spot_at}
use Rattle.ftl_core.proofs.Common.{spots, state_after, subst, sym, true, with_row, ℕ, ⊎_elim, ◌+◌, ◌-◌, ◌<◌, ◌==◌, ◌∙◌}
use Rattle.ftl_core.proofs.Common.{◌≡◌, ◌≢◌, ◌⊎◌}
use Rattle.std.specs.Prelude.{drop, ◌*◌}
use Rattle.ufs_spec.specs.Disk as disk
use Rattle.ufs_spec.specs.Translation.{Work}
use Rattle.block_table.specs.declared.BlockState.TheVariants as state
use Rattle.ftl_core.specs.declared.books.Mending.{Mending}
use Rattle.block_table.specs.Rows.{failed_set}
use Rattle.ftl_core.specs.Moves.{flight_set, rows_failed, rows_in_flight, with_state}
use Rattle.ftl_core.proofs.job_taken.Flown.{dies_changed, reads_over, step_reads_over}
use Rattle.ftl_core.proofs.opened.Spots.{block_lost, block_put, block_vacant}

-- The job that ends

pub filling_kept : (c : Core) (t : Translation) (die : ℕ) (b : DieRow) (o : Option OpenBlock) → Kept c t →
    slice_get c.rows die ≡ Some b → b.filling ≡ o → IsFilling t.numbers t.disk.blocks die o
filling_kept c t die b o k there is =
    subst (λ (x : Option OpenBlock). IsFilling t.numbers t.disk.blocks die x) is (k.dies.each die b there).filling

-- What is known once it ended

-- some of what is kept is other than it was
abbrev pub changed : Core → List BlockState → List DieRow → List Pending → Mending → Option Step → ℕ → Core
changed c states rows pages mending step next =
    record c {
      states = states;
      rows = rows;
      pages = pages;
      mending = mending;
      step = step;
      next_mark = next;
    }

-- one block has this state
abbrev pub states_with : Core → ℕ → ℕ → BlockState → List BlockState
states_with c die block s = slice_set c.states (die * c.numbers.blocks + block) s

-- one die has no job, and this open block
abbrev pub rows_with : Core → ℕ → Option OpenBlock → List DieRow
rows_with c die f = slice_set c.rows die record { filling = f; flight = None }

-- the same of the device
abbrev pub blocks_with : Translation → ℕ → ℕ → disk.BlockState → Spot → disk.BlockState
blocks_with t die block x = at_spot t.disk.blocks (spot_at die block) x

-- one die has no job any more, and some of the rest is other than it was
abbrev pub over : Translation → ℕ → (Spot → disk.BlockState) → Cells → (Place → Bool) → (Spot → Bool) → Ledger → Work →
    Translation
over t die blocks cells finished erasing ledger work = record t {
  disk = record {
    cells = cells;
    finished = finished;
    blocks = blocks;
    vacancies = t.disk.vacancies;
    flights = at_die t.disk.flights die None;
    erasing = erasing;
  };
  ledger = ledger;
  work = work;
}

-- a block of another die is not the one that changed
pub elsewhere : (blocks : Spot → disk.BlockState) (die block : ℕ) (x : disk.BlockState) (s : Spot) → s.die ≢ die →
    at_spot blocks (spot_at die block) x s ≡ blocks s
elsewhere blocks die block x s apart = ⊎_elim (λ h. absurd (apart (ap (λ (z : Spot). z.die) h.0))) (λ h. h.1)
    (at_spot_cases blocks (spot_at die block) x s)

-- the jobs of the other dies suit the step that is then under way
abbrev pub StepSuits : Numbers → Option Step → Option Step → ℕ → List DieRow → (ℕ → Option disk.Flight) → Type 0
StepSuits n step after die rows flights =
    (e : ℕ) (y : DieRow) → e ≢ die → slice_get rows e ≡ Some y → IsFlight n step e y.filling y.flight (flights e) →
    IsFlight n after e y.filling y.flight (flights e)

-- the job of one die ended that was no read: the pins are as they were, one block has another state, and the step may
-- be another
pub kept_beside : (c : Core) (t : Translation) (die block : ℕ) (b : DieRow) (x : disk.BlockState) (f : Option OpenBlock)
    (states : List BlockState) (pages : List Pending) (mending : Mending) (step : Option Step)
    (next : ℕ) (cells : Cells) (finished : Place → Bool) (erasing : Spot → Bool) (ledger : Ledger) (work : Work) →
    Kept c t → slice_get c.rows die ≡ Some b →
    BlocksKept t.numbers (blocks_with t die block x) t.disk.vacancies states →
    IsFilling t.numbers (blocks_with t die block x) die f →
    PagesFly ledger.standing (at_die t.disk.flights die None) (rows_with c die f) →
    LedgerKept c.numbers c.places pages c.frontier c.last ledger →
    WorkKept mending (drop c.repaired c.lost) step c.content next work ledger →
    PinsKept ledger.frontier (entry_of ledger) c.pins t.pins →
    StepSuits t.numbers c.step step die c.rows t.disk.flights →
    StepReadsKept (at_die t.disk.flights die None) step → work.plan ≡ t.work.plan →
    (is_mended work.mending ≡ false → All (λ (p : Pin). IsInNoSlot p.looked) c.pins) →
    Kept (changed c states (rows_with c die f) pages mending step next)
    (over t die (blocks_with t die block x) cells finished erasing ledger work)
kept_beside c t die block b x f states pages mending step next cells finished erasing ledger work k there bs fs
    flies ls ws ps suits reads plan readers = record {
      numbers = k.numbers;
      blocks = bs;
      dies = dies_changed t.numbers t.disk.blocks (blocks_with t die block x) t.disk.flights c.step step c.rows die b
          (record { filling = f; flight = None }) None k.dies there (elsewhere t.disk.blocks die block x) suits
          (record { filling = fs; job = tt });
      fly = flies;
      ledger_kept = ls;
      work = ws;
      plan = record { plan_is = plan ∙ k.plan.plan_is; inside = k.plan.inside };
      claims = k.claims;
      pins = ps;
      differ = k.differ;
      reads = reads_over t.disk.flights die c.pins k.reads;
      step_reads = reads;
      readers = readers;
    }

-- the same where the step and the mending stay
pub kept_over : (c : Core) (t : Translation) (die block : ℕ) (b : DieRow) (x : disk.BlockState) (f : Option OpenBlock)
    (states : List BlockState) (pages : List Pending)
    (cells : Cells) (finished : Place → Bool) (erasing : Spot → Bool) (ledger : Ledger) (work : Work) →
    Kept c t → slice_get c.rows die ≡ Some b →
    BlocksKept t.numbers (blocks_with t die block x) t.disk.vacancies states →
    IsFilling t.numbers (blocks_with t die block x) die f →
    PagesFly ledger.standing (at_die t.disk.flights die None) (rows_with c die f) →
    LedgerKept c.numbers c.places pages c.frontier c.last ledger →
    WorkKept c.mending (drop c.repaired c.lost) c.step c.content c.next_mark work ledger →
    PinsKept ledger.frontier (entry_of ledger) c.pins t.pins → work.plan ≡ t.work.plan →
    (is_mended work.mending ≡ false → All (λ (p : Pin). IsInNoSlot p.looked) c.pins) →
    Kept (changed c states (rows_with c die f) pages c.mending c.step c.next_mark)
    (over t die (blocks_with t die block x) cells finished erasing ledger work)
kept_over c t die block b x f states pages cells finished erasing ledger work k there bs fs flies ls ws ps
    plan readers =
    kept_beside c t die block b x f states pages c.mending c.step c.next_mark cells finished erasing ledger
    work k there bs fs flies ls ws ps (λ e y apart got is. is)
    (step_reads_over t.disk.flights die c.step k.step_reads) plan readers

-- a mark changes nothing of groups and places
pub ledger_marked : (n : Numbers) (places : List (Option Stored)) (pages : List Pending) (frontier last : ℕ)
    (l : Ledger) (newest : Option Mark) (marks : ℕ) →
    LedgerKept n places pages frontier last l →
    LedgerKept n places pages frontier last (record l { newest = newest; marks = marks })
ledger_marked n places pages frontier last l newest marks h = record {
  frontier = h.frontier;
  last_given = h.last_given;
  pages = h.pages;
  keys = h.keys;
  places = h.places;
}

-- Rows

-- the die has no job any more, and fills what it filled
pub idle_rows : (c : Core) (die : ℕ) (b : DieRow) → slice_get c.rows die ≡ Some b →
    rows_in_flight c.rows die None ≡ rows_with c die b.filling
idle_rows c die b there = ap (flight_set c.rows die None) there

-- a job of the die failed in the block: the die fills it no more
pub failed_rows : (c : Core) (die block : ℕ) (b : DieRow) → slice_get c.rows die ≡ Some b →
    rows_failed c.rows die block ≡ rows_with c die (filling_but block b.filling)
failed_rows c die block b there = ap (failed_set c.rows die block) there

-- Blocks

-- a value that a block has already is put for it: nothing changes
pub same_put : {A : Type 0} (f : Spot → A) (s : Spot) (x : A) → f s ≡ x → at_spot f s x ≡ f
same_put {A} f s x is = λ i a. one a i
  where
    one : (a : Spot) → at_spot f s x a ≡ f a
    one a = ⊎_elim (λ h. h.1 ∙ sym is ∙ ap f (sym h.0)) (λ h. h.1) (at_spot_cases f s x a)

-- what is kept of the blocks is as it was
pub blocks_same : (n : Numbers) (blocks now : Spot → disk.BlockState) (vacancies : Spot → disk.Vacancy)
    (states : List BlockState) →
    ((s : Spot) → block_kept (now s) (vacancies s) ≡ block_kept (blocks s) (vacancies s)) →
    BlocksKept n blocks vacancies states → BlocksKept n now vacancies states
blocks_same n blocks now vacancies states same k =
    k ∙ ap (λ (f : Spot → BlockState). map f (spots n)) (λ i s. sym (same s) i)

-- a block that is filled is filled on
pub blocks_on : (n : Numbers) (blocks : Spot → disk.BlockState) (vacancies : Spot → disk.Vacancy)
    (states : List BlockState) (s : Spot) (next more : ℕ) → blocks s ≡ disk.Filling next →
    BlocksKept n blocks vacancies states →
    BlocksKept n (at_spot blocks s (disk.Filling more)) vacancies states
blocks_on n blocks vacancies states s next more fills k =
    blocks_same n blocks (at_spot blocks s (disk.Filling more)) vacancies states
    (λ a. ⊎_elim
    (λ h. ap (kept_at a) h.1 ∙ sym (ap (kept_at a) (ap blocks h.0 ∙ fills)))
    (λ h. ap (kept_at a) h.1)
    (at_spot_cases blocks s (disk.Filling more) a))
    k
  where
    kept_at : Spot → disk.BlockState → BlockState
    kept_at a x = block_kept x (vacancies a)

-- the state of a block is another, at the place where what is kept has it
pub blocks_put : (c : Core) (t : Translation) (die block : ℕ) (x : disk.BlockState) → Kept c t → die < t.numbers.dies →
    block < t.numbers.blocks →
    BlocksKept t.numbers (at_spot t.disk.blocks (spot_at die block) x) t.disk.vacancies
    (states_with c die block (block_kept x (t.disk.vacancies (spot_at die block))))
blocks_put c t die block x k there within =
    subst (λ (n : Numbers). BlocksKept t.numbers (at_spot t.disk.blocks (spot_at die block) x) t.disk.vacancies
    (slice_set c.states (die * n.blocks + block) (block_kept x (t.disk.vacancies (spot_at die block)))))
    (sym k.numbers)
    (block_put t.numbers t.disk.blocks t.disk.vacancies c.states (spot_at die block) x k.blocks there within)

-- a block is free, and what is in it is so
pub blocks_vacant : (c : Core) (t : Translation) (die block : ℕ) (v : disk.Vacancy) → Kept c t →
    die < t.numbers.dies → block < t.numbers.blocks →
    BlocksKept t.numbers (at_spot t.disk.blocks (spot_at die block) disk.Free)
    (at_spot t.disk.vacancies (spot_at die block) v) (states_with c die block (block_kept disk.Free v))
blocks_vacant c t die block v k there within =
    subst (λ (n : Numbers). BlocksKept t.numbers (at_spot t.disk.blocks (spot_at die block) disk.Free)
    (at_spot t.disk.vacancies (spot_at die block) v)
    (slice_set c.states (die * n.blocks + block) (block_kept disk.Free v))) (sym k.numbers)
    (block_vacant t.numbers t.disk.blocks t.disk.vacancies c.states (spot_at die block) v k.blocks there within)

-- a block is bad, whatever is in it
pub blocks_lost_with : (c : Core) (t : Translation) (die block : ℕ) (held : Spot → disk.Vacancy) → Kept c t →
    die < t.numbers.dies → block < t.numbers.blocks →
    ((s : Spot) → s ≢ spot_at die block → held s ≡ t.disk.vacancies s) →
    BlocksKept t.numbers (at_spot t.disk.blocks (spot_at die block) disk.Bad) held (states_with c die block state.Bad)
blocks_lost_with c t die block held k there within beside =
    subst (λ (n : Numbers). BlocksKept t.numbers (at_spot t.disk.blocks (spot_at die block) disk.Bad) held
    (slice_set c.states (die * n.blocks + block) state.Bad)) (sym k.numbers)
    (block_lost t.numbers t.disk.blocks t.disk.vacancies held c.states (spot_at die block) k.blocks there within
    beside)

pub blocks_lost : (c : Core) (t : Translation) (die block : ℕ) → Kept c t → die < t.numbers.dies →
    block < t.numbers.blocks →
    BlocksKept t.numbers (at_spot t.disk.blocks (spot_at die block) disk.Bad) t.disk.vacancies
    (states_with c die block state.Bad)
blocks_lost c t die block k there within =
    blocks_lost_with c t die block t.disk.vacancies k there within (λ s apart. refl)

-- a block that is written next is closed with its last page
page_ways : (pages next : ℕ) → next < pages →
    ((nat_lt next (pages - 1) ≡ true) × (state_after pages next ≡ disk.Filling (next + 1))) ⊎
    ((nat_lt next (pages - 1) ≡ false) × (state_after pages next ≡ disk.Closed))
page_ways pages next within = ⊎_elim
    (λ (h : ((next + 1 == pages) ≡ true) × (next + 1 ≡ pages)). inr
    (let e = h.1 in at_end next pages e, if_true (next + 1 == pages) disk.Closed (disk.Filling (next + 1)) h.0))
    (λ (h : ((next + 1 == pages) ≡ false) × (next + 1 ≢ pages)). inl
    (before_end next pages within h.1, if_false (next + 1 == pages) disk.Closed (disk.Filling (next + 1)) h.0))
    (eqb_tells (next + 1) pages)
  where
    at_end : (next pages : ℕ) → next + 1 ≡ pages → nat_lt next (pages - 1) ≡ false
    at_end next pages e = grind (arith, nat_tests)

    before_end : (next pages : ℕ) → next < pages → next + 1 ≢ pages → nat_lt next (pages - 1) ≡ true
    before_end next pages l apart = let low : next < pages - 1 = omega arith in lt-ltb next (pages - 1) low

-- a page is written: the open block goes on, or is closed with its last page
pub page_ends : (now : Core) (die : ℕ) (b : DieRow) (o : OpenBlock) (pages : ℕ) (u : disk.BlockState → Translation) →
    now.numbers.pages ≡ pages → o.next < pages →
    Kept (with_row now die record { filling = Some (record { block = o.block; next = o.next + 1 }); flight = None })
    (u (disk.Filling (o.next + 1))) →
    Kept (with_row (with_state now die o.block state.Closed) die record { filling = None; flight = None })
    (u disk.Closed) →
    Kept (page_written now die b (Some o)) (u (state_after pages o.next))
page_ends now die b o pages u same within on last = ⊎_elim
    (λ w. subst (λ (z : Core × disk.BlockState). Kept z.0 (u z.1))
    (λ i. (
      sym (if_true (nat_lt o.next (now.numbers.pages - 1)) more full
          (ap (λ (n : ℕ). nat_lt o.next (n - 1)) same ∙ w.0)) i,
      sym w.1 i,
    )) on)
    (λ w. subst (λ (z : Core × disk.BlockState). Kept z.0 (u z.1))
    (λ i. (
      sym (if_false (nat_lt o.next (now.numbers.pages - 1)) more full
          (ap (λ (n : ℕ). nat_lt o.next (n - 1)) same ∙ w.0)) i,
      sym w.1 i,
    )) last)
    (page_ways pages o.next within)
  where
    more : Core
    more = with_row now die record { filling = Some (record { block = o.block; next = o.next + 1 }); flight = None }

    full : Core
    full = with_row (with_state now die o.block state.Closed) die record { filling = None; flight = None }

-- Dies

pub closed_fills : (next : ℕ) → disk.Closed ≡ disk.Filling next → ⊥
closed_fills next e = cc

pub bad_fills : (next : ℕ) → disk.Bad ≡ disk.Filling next → ⊥
bad_fills next e = cc
