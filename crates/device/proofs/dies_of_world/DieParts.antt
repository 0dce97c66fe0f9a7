-- What one die's job makes of a list of dies and of the list of their jobs.
use Rattle.device.proofs.Common.{BlockState, BlocksFit, Bool, Closed, DieState, Filling, Fit, Flight, Free, IsOfSize}
use Rattle.device.proofs.Common.{IsPlace, Job, List, None, Numbers, Option, Outcome, Page, Place, Ready, Some, Spot}
use Rattle.device.proofs.Common.{Vacancy, after_job, ap, arith, array_of, at_die, at_spot, at_spot_here, at_spot_other}
use Rattle.device.proofs.Common.{bad_of, blank_page, die_at, false, get_or-set_same, get_or_past, has_page, is_bad}
use Rattle.device.proofs.Common.{job_at, job_of, length, length-set, ltb-false, nat_lt, new_die, next_of, none-some}
use Rattle.device.proofs.Common.{page_at, pages_in, pages_of, refl, slice_index_or, slice_set, spot_is, spot_of}
use Rattle.device.proofs.Common.{state_after, subst, sym, true, ℕ, ⊎_elim, ◌&&◌, ◌+◌, ◌<◌, ◌==◌, ◌∙◌, ◌≡◌, ◌≢◌}
use Rattle.std.proofs.Common.{if◌then◌else◌, option_map}
use Rattle.std.proofs.lemmas.Bool.Decides.{eqb_tells}
use Rattle.std.proofs.lemmas.List.{get_or-set_other, set-get_or}
use Rattle.std.proofs.lemmas.List.Elements.{All-get_or, All-set}
use Rattle.ufs_spec.proofs.Facts.{if_both}
use Rattle.ufs_spec.specs.Dies.{Did, die_erased, die_programmed, is_bad_block, ready_page}
use Rattle.ufs_spec.specs.DieLaws.{after_job_size, did_well, erased_blank, erased_next, erased_next_elsewhere}
use Rattle.ufs_spec.specs.DieLaws.{programmed_next, programmed_next_elsewhere, with_block_elsewhere}
use Rattle.ufs_spec.specs.DieLaws.{with_page_elsewhere_in_block, with_page_there}
use Rattle.ufs_spec.specs.Disk.{at_place, same_spot}
use Rattle.ufs_spec.specs.Machine.{in_block}
use Rattle.ufs_laws.proofs.jobs.JobsInFlight.{at_its_die, at_other}
use Rattle.power_loss.proofs.books.SmallFacts.{at_spot_cases, spot_cases}

-- Lists

-- what holds of the element that was set and of each other one
by_element : {A : Type 0} (P : A → Type 0) (xs : List A) (i : ℕ) (x d : A) (j : ℕ) → i < length xs → (j ≡ i → P x) →
    (j ≢ i → P (slice_index_or xs j d)) → P (slice_index_or (slice_set xs i x) j d)
by_element {A} P xs i x d j l here elsewhere =
    ⊎_elim
    (λ (h : ((j == i) ≡ true) × (j ≡ i)).
    subst P (sym (ap (λ (k : ℕ). slice_index_or (slice_set xs i x) k d) h.1 ∙ get_or-set_same xs i x d l)) (here h.1))
    (λ (h : ((j == i) ≡ false) × (j ≢ i)). subst P (sym (get_or-set_other xs i j x d h.1)) (elsewhere h.1))
    (eqb_tells j i)

-- the job of one die is another: the list and the jobs in flight say the same
pub put_jobs : (jobs : List (Option Job)) (flights : ℕ → Option Flight) (die : ℕ) (o : Option Flight) →
    die < length jobs →
    ((e : ℕ) → job_at jobs e ≡ option_map job_of (flights e)) →
    (e : ℕ) → job_at (slice_set jobs die (option_map job_of o)) e ≡ option_map job_of (at_die flights die o e)
put_jobs jobs flights die o l same e =
    by_element (λ (job : Option Job). job ≡ option_map job_of (at_die flights die o e)) jobs die (option_map job_of o)
    None e l (λ is. ap (option_map job_of) (sym (ap (at_die flights die o) is ∙ at_its_die flights die o)))
    (λ differ. same e ∙ ap (option_map job_of) (sym (at_other flights die o e differ)))

-- Sizes

pub die_size : (n : Numbers) (dies : List DieState) (die : ℕ) → Fit n dies → die < length dies →
    IsOfSize n.blocks n.pages (die_at dies die)
die_size n dies die fit l = All-get_or (IsOfSize n.blocks n.pages) dies die (new_die 0 0) l fit.1

pub put_sizes : (n : Numbers) (dies : List DieState) (die : ℕ) (j : Job) → Fit n dies → die < length dies →
    Fit n (slice_set dies die (after_job (die_at dies die) j))
put_sizes n dies die j fit l = (
  length-set dies die (after_job (die_at dies die) j) ∙ fit.0,
  All-set (IsOfSize n.blocks n.pages) dies die (after_job (die_at dies die) j)
      (after_job_size (die_at dies die) j n.blocks n.pages (die_size n dies die fit l)) fit.1,
)

-- what a die made of a job has the size that it had
pub worked_sizes : (n : Numbers) (dies : List DieState) (die : ℕ) (before after : DieState) (j : Job) (o : Outcome) →
    Fit n dies → die < length dies → before ≡ slice_index_or dies die before → Did 0 0 before j o after →
    Fit n (slice_set dies die after)
worked_sizes n dies die before after j o fit l is did = (
  length-set dies die after ∙ fit.0,
  All-set (IsOfSize n.blocks n.pages) dies die after
      (subst (IsOfSize n.blocks n.pages) (sym (did_well 0 before after j o did).1)
      (after_job_size before j n.blocks n.pages
      (subst (IsOfSize n.blocks n.pages) (sym is)
      (All-get_or (IsOfSize n.blocks n.pages) dies die before l fit.1)))) fit.1,
)

-- a die that is as it was leaves the list
pub put_same : (dies : List DieState) (die : ℕ) → slice_set dies die (die_at dies die) ≡ dies
put_same dies die = set-get_or dies die (new_die 0 0)

-- Blocks

-- where one die changes in one block, what is told of each block changes there alone
put_block : {A : Type 0} (f : DieState → ℕ → A) (dies : List DieState) (spot : Spot) (x : DieState) →
    spot.die < length dies → ((c : ℕ) → c ≢ spot.block → f x c ≡ f (die_at dies spot.die) c) → (other : Spot) →
    f (die_at (slice_set dies spot.die x) other.die) other.block
    ≡ at_spot (λ (s : Spot). f (die_at dies s.die) s.block) spot (f x spot.block) other
put_block {A} f dies spot x l leaves other =
    ⊎_elim
    (λ (h : (other ≡ spot) × (at_spot before spot (f x spot.block) other ≡ f x spot.block)). here h.0 ∙ sym h.1)
    (λ (h : (other ≢ spot) × (at_spot before spot (f x spot.block) other ≡ before other)). elsewhere h.0 ∙ sym h.1)
    (at_spot_cases before spot (f x spot.block) other)
  where
    before : Spot → A
    before s = f (die_at dies s.die) s.block

    here : other ≡ spot → f (die_at (slice_set dies spot.die x) other.die) other.block ≡ f x spot.block
    here e =
        ap (λ (z : Spot). f (die_at (slice_set dies spot.die x) z.die) z.block) e
        ∙ ap (λ (y : DieState). f y spot.block) (get_or-set_same dies spot.die x (new_die 0 0) l)

    elsewhere : other ≢ spot → f (die_at (slice_set dies spot.die x) other.die) other.block ≡ before other
    elsewhere differ =
        by_element (λ (y : DieState). f y other.block ≡ before other) dies spot.die x (new_die 0 0) other.die l
        (λ is. leaves other.block (λ e. differ (spot_is other spot is e))
        ∙ ap (λ (k : ℕ). f (die_at dies k) other.block) (sym is)) (λ away. refl)

-- no block is bad or good that was not
pub put_bad : (dies : List DieState) (die : ℕ) (x : DieState) (other : Spot) → die < length dies →
    x.bad ≡ (die_at dies die).bad → bad_of (slice_set dies die x) other ≡ bad_of dies other
put_bad dies die x other l e =
    by_element (λ (y : DieState). is_bad_block y other.block ≡ bad_of dies other) dies die x (new_die 0 0) other.die l
    (λ is. ap (λ (bad : List Bool). slice_index_or bad other.block false) e
    ∙ ap (λ (k : ℕ). is_bad_block (die_at dies k) other.block) (sym is)) (λ away. refl)

-- a change of one block, which is bad to its die where it is bad to the layer
module _ (n : Numbers) (dies : List DieState) (blocks new_blocks : Spot → BlockState)
    (vacancies new_vacancies : Spot → Vacancy) (spot : Spot) (x : DieState) where
  abbrev new_next : Spot → Option ℕ
  new_next s = next_of (new_blocks s) (new_vacancies s)

  pub put_blocks : spot.die < length dies → is_bad_block x spot.block ≡ is_bad (new_blocks spot) →
      ((c : ℕ) → c ≢ spot.block → is_bad_block x c ≡ is_bad_block (die_at dies spot.die) c) →
      ((next : ℕ) → new_next spot ≡ Some next → ready_page x spot.block ≡ Some next) →
      ((c : ℕ) → c ≢ spot.block → ready_page x c ≡ ready_page (die_at dies spot.die) c) →
      ((other : Spot) → other ≢ spot → new_blocks other ≡ blocks other) →
      ((other : Spot) → other ≢ spot → new_vacancies other ≡ vacancies other) →
      BlocksFit n dies blocks vacancies → BlocksFit n (slice_set dies spot.die x) new_blocks new_vacancies
  put_blocks l bad_here bad_leaves next_here leaves same_state same_vacancy h = record {
    ready = λ other next d b e.
        put_block ready_page dies spot x l leaves other
        ∙ ⊎_elim
        (λ (k : (same_spot other spot ≡ true) × (other ≡ spot)).
        ap ready k.1
        ∙ (at_spot_here before spot (ready_page x spot.block) spot refl ∙ next_here next (ap new_next (sym k.1) ∙ e)))
        (λ (k : (same_spot other spot ≡ false) × (other ≢ spot)).
        at_spot_other before spot (ready_page x spot.block) other k.1
        ∙ h.ready other next d b (same_next other k.1 ∙ e))
        (spot_cases other spot);
    bad = λ other. sym (put_block is_bad_block dies spot x l bad_leaves other ∙ same_bad other);
  }
    where
      before : Spot → Option ℕ
      before s = ready_page (die_at dies s.die) s.block

      ready : Spot → Option ℕ
      ready = at_spot before spot (ready_page x spot.block)

      bad_before : Spot → Bool
      bad_before s = is_bad_block (die_at dies s.die) s.block

      same_next : (other : Spot) → other ≢ spot → next_of (blocks other) (vacancies other) ≡ new_next other
      same_next other differ =
          sym (ap (λ (s : BlockState). next_of s (new_vacancies other)) (same_state other differ)
          ∙ ap (next_of (blocks other)) (same_vacancy other differ))

      same_bad : (other : Spot) →
          at_spot bad_before spot (is_bad_block x spot.block) other ≡ is_bad (new_blocks other)
      same_bad other =
          ⊎_elim
          (λ (k : (same_spot other spot ≡ true) × (other ≡ spot)).
          ap (at_spot bad_before spot (is_bad_block x spot.block)) k.1
          ∙ (at_spot_here bad_before spot (is_bad_block x spot.block) spot refl
          ∙ (bad_here ∙ ap (λ (s : Spot). is_bad (new_blocks s)) (sym k.1))))
          (λ (k : (same_spot other spot ≡ false) × (other ≢ spot)).
          at_spot_other bad_before spot (is_bad_block x spot.block) other k.1
          ∙ (sym (h.bad other) ∙ sym (ap is_bad (same_state other k.1))))
          (spot_cases other spot)

-- a change of the layer alone that names no page to be programmed that was not named, and leaves bad blocks bad and
-- others good
pub still_fit : (n : Numbers) (dies : List DieState) (blocks new_blocks : Spot → BlockState)
    (vacancies new_vacancies : Spot → Vacancy) →
    ((spot : Spot) (next : ℕ) → next_of (new_blocks spot) (new_vacancies spot) ≡ Some next →
    next_of (blocks spot) (vacancies spot) ≡ Some next) →
    ((spot : Spot) → is_bad (new_blocks spot) ≡ is_bad (blocks spot)) → BlocksFit n dies blocks vacancies →
    BlocksFit n dies new_blocks new_vacancies
still_fit n dies blocks new_blocks vacancies new_vacancies named same_bad h = record {
  ready = λ spot next d b e. h.ready spot next d b (named spot next e);
  bad = λ spot. same_bad spot ∙ h.bad spot;
}

-- the program of a page of a good block is handed out: no block is bad or good that was not
pub begun_bad : (blocks : Spot → BlockState) (p : Place) → is_bad (blocks (spot_of p)) ≡ false → (spot : Spot) →
    is_bad (at_spot blocks (spot_of p) (Filling p.page) spot) ≡ is_bad (blocks spot)
begun_bad blocks p was_good spot =
    ⊎_elim
    (λ (k : (spot ≡ spot_of p) × (new spot ≡ Filling p.page)).
    ap is_bad k.1 ∙ (sym was_good ∙ ap (λ (s : Spot). is_bad (blocks s)) (sym k.0)))
    (λ (k : (spot ≢ spot_of p) × (new spot ≡ blocks spot)). ap is_bad k.1)
    (at_spot_cases blocks (spot_of p) (Filling p.page) spot)
  where
    new : Spot → BlockState
    new = at_spot blocks (spot_of p) (Filling p.page)

-- and if it is the page that is programmed next, the block is being filled from then on
pub begun_blocks : (n : Numbers) (dies : List DieState) (blocks : Spot → BlockState) (vacancies : Spot → Vacancy)
    (p : Place) → is_bad (blocks (spot_of p)) ≡ false →
    next_of (blocks (spot_of p)) (vacancies (spot_of p)) ≡ Some p.page → BlocksFit n dies blocks vacancies →
    BlocksFit n dies (at_spot blocks (spot_of p) (Filling p.page)) vacancies
begun_blocks n dies blocks vacancies p was_good was_next h =
    still_fit n dies blocks new vacancies vacancies
    (λ spot next e.
    ⊎_elim
    (λ (k : (spot ≡ spot_of p) × (new spot ≡ Filling p.page)).
    ap (λ (s : Spot). next_of (blocks s) (vacancies s)) k.0
    ∙ (was_next ∙ (sym (ap (λ (s : BlockState). next_of s (vacancies spot)) k.1) ∙ e)))
    (λ (k : (spot ≢ spot_of p) × (new spot ≡ blocks spot)).
    sym (ap (λ (s : BlockState). next_of s (vacancies spot)) k.1) ∙ e)
    (at_spot_cases blocks (spot_of p) (Filling p.page) spot))
    (begun_bad blocks p was_good) h
  where
    new : Spot → BlockState
    new = at_spot blocks (spot_of p) (Filling p.page)

-- Pages

-- the pages of each block, where those of one change
pub pages_put : (dies : List DieState) (spot : Spot) (x : DieState) (q : Place) → spot.die < length dies →
    ((c i : ℕ) → c ≢ spot.block → page_at x c i ≡ page_at (die_at dies spot.die) c i) → (b : Bool) →
    same_spot (spot_of q) spot ≡ b →
    array_of (slice_set dies spot.die x) q ≡ (if b then page_at x spot.block q.page else array_of dies q)
pages_put dies spot x q l leaves b e =
    ap (λ (pages : ℕ → Page). pages q.page)
    (put_block (λ s c i. page_at s c i) dies spot x l (λ c other i k. leaves c k other i) (spot_of q))
    ∙ (ap there e ∙ by b)
  where
    pages : Bool → ℕ → Page
    pages z = if z then page_at x spot.block else page_at (die_at dies q.die) q.block

    there : Bool → Page
    there z = pages z q.page

    by : (z : Bool) → there z ≡ (if z then page_at x spot.block q.page else array_of dies q)
    by true = refl
    by false = refl

-- A program

behind_next : (pages page next : ℕ) (v : Vacancy) → next_of (state_after pages page) v ≡ Some next →
    Some (page + 1) ≡ Some next
behind_next pages page next v e = by (page + 1 == pages) e
  where
    by : (b : Bool) → next_of (if b then Closed else Filling (page + 1)) v ≡ Some next → Some (page + 1) ≡ Some next
    by true h = absurd (none-some next h)
    by false h = h

behind_good : (pages page : ℕ) → is_bad (state_after pages page) ≡ false
behind_good pages page = if_both (λ (s : BlockState). is_bad s ≡ false) (page + 1 == pages) refl refl

pub program_blocks : (n : Numbers) (dies : List DieState) (blocks : Spot → BlockState) (vacancies : Spot → Vacancy)
    (p : Place) (content : Page) → Fit n dies → p.die < length dies → IsPlace n p →
    blocks (spot_of p) ≡ Filling p.page → BlocksFit n dies blocks vacancies →
    BlocksFit n (slice_set dies p.die (die_programmed (die_at dies p.die) p.block p.page content))
    (at_spot blocks (spot_of p) (state_after n.pages p.page)) vacancies
program_blocks n dies blocks vacancies p content fit l place fills h =
    let die = die_at dies p.die in
    let size = die_size n dies p.die fit l in
    let long : length die.ready ≡ n.blocks = size.2 in
    let within = place.block in
    let inside : p.block < length die.ready = omega arith in
    let new = at_spot blocks (spot_of p) (state_after n.pages p.page) in
    let is : new (spot_of p) ≡ state_after n.pages p.page =
    at_spot_here blocks (spot_of p) (state_after n.pages p.page) (spot_of p) refl in
    put_blocks n dies blocks new vacancies vacancies (spot_of p) (die_programmed die p.block p.page content) l
    (sym (h.bad (spot_of p)) ∙ (ap is_bad fills ∙ (sym (behind_good n.pages p.page) ∙ sym (ap is_bad is))))
    (λ c differ. refl)
    (λ next e.
    programmed_next die p.block p.page content inside
    ∙ behind_next n.pages p.page next (vacancies (spot_of p))
    (sym (ap (λ (s : BlockState). next_of s (vacancies (spot_of p))) is) ∙ e))
    (λ c differ. programmed_next_elsewhere die p.block p.page c content differ)
    (λ other differ. at_spot_other blocks (spot_of p) (state_after n.pages p.page) other differ)
    (λ other differ. refl) h

pub program_pages : (n : Numbers) (dies : List DieState) (p : Place) (content : Page) → Fit n dies →
    p.die < length dies →
    IsPlace n p → at_place (array_of dies) p content
    ≡ array_of (slice_set dies p.die (die_programmed (die_at dies p.die) p.block p.page content))
program_pages n dies p content fit l place = λ i q. at q i
  where
    die : DieState
    die = die_at dies p.die

    after : DieState
    after = die_programmed die p.block p.page content

    page : (i : ℕ) → page_at after p.block i ≡ (if i == p.page then content else page_at die p.block i)
    page i =
        ⊎_elim
        (λ (h : ((i == p.page) ≡ true) × (i ≡ p.page)).
        ap (page_at after p.block) h.1
        ∙ (with_page_there die p.block p.page content
        (has_page die p.block p.page n.blocks n.pages place.block place.page (die_size n dies p.die fit l))
        ∙ sym (ap (λ (b : Bool). if b then content else page_at die p.block i) h.0)))
        (λ (h : ((i == p.page) ≡ false) × (i ≢ p.page)).
        with_page_elsewhere_in_block die p.block p.page i content h.1
        ∙ sym (ap (λ (b : Bool). if b then content else page_at die p.block i) h.0))
        (eqb_tells i p.page)

    put : (q : Place) (b : Bool) → same_spot (spot_of q) (spot_of p) ≡ b →
        array_of (slice_set dies p.die after) q ≡ (if b then page_at after p.block q.page else array_of dies q)
    put q b e = pages_put dies (spot_of p) after q l (λ c i other. with_block_elsewhere die p.block c i _ other) b e

    at : (q : Place) → at_place (array_of dies) p content q ≡ array_of (slice_set dies p.die after) q
    at q =
        ⊎_elim
        (λ (h : (same_spot (spot_of q) (spot_of p) ≡ true) × (spot_of q ≡ spot_of p)).
        ap (λ (b : Bool). if b && (q.page == p.page) then content else array_of dies q) h.0
        ∙ (ap (λ (z : Spot). if q.page == p.page then content else page_at (die_at dies z.die) z.block q.page) h.1
        ∙ (sym (page q.page) ∙ sym (put q true h.0))))
        (λ (h : (same_spot (spot_of q) (spot_of p) ≡ false) × (spot_of q ≢ spot_of p)).
        ap (λ (b : Bool). if b && (q.page == p.page) then content else array_of dies q) h.0 ∙ sym (put q false h.0))
        (spot_cases (spot_of q) (spot_of p))

-- An erase

pub erase_blocks : (n : Numbers) (dies : List DieState) (blocks : Spot → BlockState) (vacancies : Spot → Vacancy)
    (spot : Spot) → Fit n dies → spot.die < length dies → spot.block < n.blocks → blocks spot ≡ Free →
    BlocksFit n dies blocks vacancies →
    BlocksFit n (slice_set dies spot.die (die_erased (die_at dies spot.die) spot.block)) blocks
    (at_spot vacancies spot Ready)
erase_blocks n dies blocks vacancies spot fit l within is_free h =
    let die = die_at dies spot.die in
    let size = die_size n dies spot.die fit l in
    let long : length die.ready ≡ n.blocks = size.2 in
    let inside : spot.block < length die.ready = omega arith in
    let new = at_spot vacancies spot Ready in
    let is_next : next_of (blocks spot) (new spot) ≡ Some 0 =
    ap (λ (s : BlockState). next_of s (new spot)) is_free
    ∙ ap (next_of Free) (at_spot_here vacancies spot Ready spot refl) in
    put_blocks n dies blocks blocks vacancies new spot (die_erased die spot.block) l (sym (h.bad spot))
    (λ c differ. refl) (λ next e. erased_next die spot.block inside ∙ (sym is_next ∙ e))
    (λ c differ. erased_next_elsewhere die spot.block c differ) (λ other differ. refl)
    (λ other differ. at_spot_other vacancies spot Ready other differ) h

pub erase_pages : (n : Numbers) (dies : List DieState) (spot : Spot) → Fit n dies → spot.die < length dies →
    spot.block < n.blocks →
    (λ (p : Place). if in_block n spot p then blank_page else array_of dies p)
    ≡ array_of (slice_set dies spot.die (die_erased (die_at dies spot.die) spot.block))
erase_pages n dies spot fit l within = λ i q. at q i
  where
    die : DieState
    die = die_at dies spot.die

    -- behind its pages the block was blank
    blank : (q : Place) → spot_of q ≡ spot → (b : Bool) → nat_lt q.page n.pages ≡ b →
        (if b then blank_page else array_of dies q) ≡ blank_page
    blank q same true e = refl
    blank q same false e =
        let size = die_size n dies spot.die fit l in
        let long : length (pages_of die spot.block) ≡ n.pages = pages_in die spot.block n.blocks n.pages within size in
        let past = ltb-false q.page n.pages e in
        ap (λ (z : Spot). page_at (die_at dies z.die) z.block q.page) same
        ∙ get_or_past (pages_of die spot.block) q.page blank_page (omega arith)

    put : (q : Place) (b : Bool) → same_spot (spot_of q) spot ≡ b →
        array_of (slice_set dies spot.die (die_erased die spot.block)) q
        ≡ (if b then page_at (die_erased die spot.block) spot.block q.page else array_of dies q)
    put q b e =
        pages_put dies spot (die_erased die spot.block) q l (λ c i other. with_block_elsewhere die spot.block c i _
        other) b e

    at : (q : Place) → (if in_block n spot q then blank_page else array_of dies q)
        ≡ array_of (slice_set dies spot.die (die_erased die spot.block)) q
    at q =
        ⊎_elim
        (λ (h : (same_spot (spot_of q) spot ≡ true) × (spot_of q ≡ spot)).
        let size = die_size n dies spot.die fit l in
        let long : length die.blocks ≡ n.blocks = size.0 in
        ap (λ (b : Bool). if b && nat_lt q.page n.pages then blank_page else array_of dies q) h.0
        ∙ (blank q h.1 (nat_lt q.page n.pages) refl
        ∙ (sym (erased_blank die spot.block q.page (omega arith)) ∙ sym (put q true h.0))))
        (λ (h : (same_spot (spot_of q) spot ≡ false) × (spot_of q ≢ spot)).
        ap (λ (b : Bool). if b && nat_lt q.page n.pages then blank_page else array_of dies q) h.0
        ∙ sym (put q false h.0))
        (spot_cases (spot_of q) spot)
