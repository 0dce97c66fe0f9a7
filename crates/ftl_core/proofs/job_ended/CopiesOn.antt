-- The page that is still to be copied stays, and so does the step that copies it, until it was read.
use Rattle.ftl_core.proofs.Common.{All, All-cons, All-head, All-nil, All-tail, Bool, Cell, Cells, Collection}
use Rattle.ftl_core.proofs.Common.{CopiesKnown, CopyStep, EndJob, Ending, Fence, ForNobody, ForRest, ForStep, ForTask}
use Rattle.ftl_core.proofs.Common.{GroupPage, IsNeededPage, IsOf, List, MarkPage, MayEnd, Name, None, Nothing, Option}
use Rattle.ftl_core.proofs.Common.{Place, PlannedCopy, ReadRight, ReadWrong, Some, Spot, StepKind, Tag, Translation}
use Rattle.ftl_core.proofs.Common.{Valid, Want, WentWell, WentWrong, ap, arith, at_place, end_flight, false, false≢true}
use Rattle.ftl_core.proofs.Common.{if◌then◌else◌, layer_plan, mark_again, moved, name_of, option_map, page_not_nothing}
use Rattle.ftl_core.proofs.Common.{place_of, refl, step_after, step_there, subst, sym, true, true≢false, want_at}
use Rattle.ftl_core.proofs.Common.{wants_of_step, ℕ, ⊎_elim, ◌==◌, ◌∙◌, ◌≡◌, ◌≢◌, ◌⊎◌}
use Rattle.std.specs.Prelude.{[], map, ◌∷◌}
use Rattle.ufs_spec.proofs.Updates.{at_place_cases}
use Rattle.ufs_spec.specs.Disk as disk
use Rattle.ufs_spec.specs.Disk.{CellCrash, Touches, flight_alone, same_spot, spot_of}
use Rattle.ufs_spec.specs.Moves as moves
use Rattle.ufs_spec.specs.Translation as layer
use Rattle.ufs_spec.specs.Moves.{is_kind_of, job_ended}
use Rattle.ufs_spec.specs.Translation.{Step, has_mark_number, mark_ordered}
use Rattle.ftl_core.specs.Describes.{copying}

-- The step

not_there : (name : Name) (from : Place) (w : Option Step) → step_there w ≡ Some (copying name from) → ⊥
not_there name from None e = cc
not_there name from (Some s) e = true≢false (ap there_in e)
  where
    there_in : Option Step → Bool
    there_in None = false
    there_in (Some x) = x.there

not_behind : (m name : Name) (from : Place) (w : Option Step) → step_after m w ≡ Some (copying name from) →
    w ≡ Some (copying name from)
not_behind m name from None e = e
not_behind m name from (Some s) e = by (is_kind_of m s.kind) e
  where
    by : (b : Bool) → (if b then None else Some s) ≡ Some (copying name from) → Some s ≡ Some (copying name from)
    by true f = cc
    by false f = f

-- no page is to be copied
abbrev is_mark_kind : Option Step → Type 0
is_mark_kind w = (name : Name) (from : Place) → w ≡ Some (copying name from) → ⊥

is_copy_kind : StepKind → Bool
is_copy_kind (CopyStep name from) = true
is_copy_kind kind = false

is_copy : Option Step → Bool
is_copy None = false
is_copy (Some s) = is_copy_kind s.kind

marked : (t : Translation) (fence : Option Fence) → is_mark_kind (mark_ordered t fence).work.step
unfolding is_copy is_copy_kind
marked t fence name from e = false≢true (ap is_copy e)

marked_again : (t : Translation) (fence : Option Fence) → is_mark_kind (mark_again t fence).work.step
marked_again t fence name from e = by (has_mark_number t) e
  where
    by : (b : Bool) → (if b then mark_ordered t fence else record t { work = record t.work { step = None } }).work.step
        ≡ Some (copying name from) → ⊥
    by true f = marked t fence name from f
    by false f = cc

-- a mark that is ordered again leaves the pages
pub again_cells : (t : Translation) (fence : Option Fence) (p : Place) →
    t.disk.cells p ≡ (mark_again t fence).disk.cells p
again_cells t fence p = by (has_mark_number t)
  where
    by : (b : Bool) → t.disk.cells p ≡ (if b then mark_ordered t fence else record t {
      work = record t.work { step = None };
    }).disk.cells p
    by true = refl
    by false = refl

-- The page

-- a page there was the one that is there
abbrev pub Stays : Cells → Cells → Place → Type 0
Stays cells now p = (tag : Tag) (body : List ℕ) → now p ≡ GroupPage tag body → cells p ≡ GroupPage tag body

-- a page that a program goes to is nothing before
blank_there : (t : Translation) → Valid t → (die : ℕ) (p : Place) (cell : Cell) →
    t.disk.flights die ≡ Some (disk.Programming p cell) → t.disk.cells p ≡ Nothing
blank_there t v die p cell flies = v.blocks.blank p p.page (v.flights.programs die p cell flies).next (omega arith)

module _ (t : Translation) (v : Valid t) (from : Place) (tag : Tag) (body : List ℕ)
    (there : t.disk.cells from ≡ GroupPage tag body) where
  apart : (p : Place) → t.disk.cells p ≡ Nothing → from ≢ p
  apart p none e = page_not_nothing (t.disk.cells from) tag body there (ap t.disk.cells e ∙ none)

  pub stays_put : (die : ℕ) (p : Place) (cell : Cell) → t.disk.flights die ≡ Some (disk.Programming p cell) →
      Stays t.disk.cells (at_place t.disk.cells p cell) from
  stays_put die p cell flies u b e = ⊎_elim
      (λ h. absurd (apart p (blank_there t v die p cell flies) h.0))
      (λ h. sym h.1 ∙ e)
      (at_place_cases t.disk.cells p cell from)

  pub stays_erased : (s : Spot) → Stays t.disk.cells (λ p. if same_spot (spot_of p) s then Nothing else t.disk.cells p) from
  stays_erased s u b e = by (same_spot (spot_of from) s) e
    where
      by : (x : Bool) → (if x then Nothing else t.disk.cells from) ≡ GroupPage u b → t.disk.cells from ≡ GroupPage u b
      by true f = absurd (page_not_nothing Nothing u b f refl)
      by false f = f

  pub stays_left : (die : ℕ) (left : Cells) → CellCrash t.disk.cells (flight_alone t.disk.flights die) left →
      Stays t.disk.cells left from
  stays_left die left crash u b e = ⊎_elim
      (λ same. sym same ∙ e)
      (λ (r : (intended : Cell) × Touches (flight_alone t.disk.flights die from.die) from intended
      × ((left from ≡ intended) ⊎ (left from ≡ Nothing))).
      by_die (from.die == die) r.0 r.1
      (⊎_elim (λ x. sym x ∙ e) (λ none. absurd (page_not_nothing (left from) u b e none)) r.2))
      (crash from)
    where
      by_flight : (f : Option disk.Flight) → t.disk.flights from.die ≡ f → (intended : Cell) →
          Touches f from intended → intended ≡ GroupPage u b → t.disk.cells from ≡ GroupPage u b
      by_flight (Some (disk.Programming q cell)) flies intended touches is =
          absurd (apart q (blank_there t v from.die q cell flies) (sym touches.0))
      by_flight (Some (disk.Erasing s)) flies intended touches is =
          absurd (page_not_nothing intended u b is touches.1)
      by_flight f flies intended touches is = absurd touches

      by_die : (x : Bool) (intended : Cell) →
          Touches (if x then t.disk.flights from.die else None) from intended → intended ≡ GroupPage u b →
          t.disk.cells from ≡ GroupPage u b
      by_die true intended touches is = by_flight (t.disk.flights from.die) refl intended touches is
      by_die false intended touches is = absurd touches

-- The end of a job

-- a block that is freed keeps its pages
pub freed_cells : (d : disk.Disk) (o : Option layer.Plan) → (moves.freed d o).cells ≡ d.cells
freed_cells d None = refl
freed_cells d (Some p) = refl

-- the copies that are planned, of pages that stay
planned_on : (cells now : Cells) (xs : List PlannedCopy) → All (IsOf cells) xs →
    All (λ (x : PlannedCopy). (tag : Tag) (body : List ℕ) → now x.from ≡ GroupPage tag body →
    cells x.from ≡ GroupPage tag body) xs → All (IsOf now) xs
planned_on cells now [] h stays = All-nil (IsOf now)
planned_on cells now (x ∷ xs) h stays =
    All-cons (IsOf now) x xs
    (λ tag body e. All-head (IsOf cells) x xs h tag body
    (All-head (λ (y : PlannedCopy). (tag : Tag) (body : List ℕ) → now y.from ≡ GroupPage tag body →
    cells y.from ≡ GroupPage tag body) x xs stays tag body e))
    (planned_on cells now xs (All-tail (IsOf cells) x xs h)
    (All-tail (λ (y : PlannedCopy). (tag : Tag) (body : List ℕ) → now y.from ≡ GroupPage tag body →
    cells y.from ≡ GroupPage tag body) x xs stays))

-- what holds of all places of copies
pub of_places : (P : Place → Type 0) (xs : List PlannedCopy) → All P (map place_of xs) →
    All (λ (x : PlannedCopy). P x.from) xs
of_places P [] h = All-nil (λ (x : PlannedCopy). P x.from)
of_places P (x ∷ xs) h =
    All-cons (λ (y : PlannedCopy). P y.from) x xs (All-head P x.from (map place_of xs) h)
    (of_places P xs (All-tail P x.from (map place_of xs) h))

needed_stays : (t : Translation) (now : Cells) (xs : List PlannedCopy) →
    ((from : Place) (tag : Tag) (body : List ℕ) → t.disk.cells from ≡ GroupPage tag body →
    Stays t.disk.cells now from) →
    All (λ (x : PlannedCopy). IsNeededPage t.disk.cells t.disk.finished t.disk.blocks t.disk.erasing x.from) xs →
    All (λ (x : PlannedCopy). (tag : Tag) (body : List ℕ) → now x.from ≡ GroupPage tag body →
    t.disk.cells x.from ≡ GroupPage tag body) xs
needed_stays t now [] stays h = All-nil (λ (x : PlannedCopy). (tag : Tag) (body : List ℕ) →
    now x.from ≡ GroupPage tag body → t.disk.cells x.from ≡ GroupPage tag body)
needed_stays t now (x ∷ xs) stays h =
    let needed = All-head (λ (y : PlannedCopy).
    IsNeededPage t.disk.cells t.disk.finished t.disk.blocks t.disk.erasing y.from) x xs h in
    All-cons (λ (y : PlannedCopy). (tag : Tag) (body : List ℕ) → now y.from ≡ GroupPage tag body →
    t.disk.cells y.from ≡ GroupPage tag body) x xs
    (λ tag body e. stays x.from needed.page.tag needed.page.body needed.page.there tag body e)
    (needed_stays t now xs stays (All-tail (λ (y : PlannedCopy).
    IsNeededPage t.disk.cells t.disk.finished t.disk.blocks t.disk.erasing y.from) x xs h))

module _ (t : Translation) (v : Valid t) (plan : Option Collection) (plan_is : t.work.plan ≡ option_map layer_plan plan)
    (known : CopiesKnown t.disk.cells plan t.work.step) (left : Option Collection)
    (same_plan : (p : Collection) → left ≡ Some p → plan ≡ Some p) where
  planned_then : (cells : Cells) → ((from : Place) (tag : Tag) (body : List ℕ) →
      t.disk.cells from ≡ GroupPage tag body → Stays t.disk.cells cells from) →
      (p : Collection) → left ≡ Some p → All (IsOf cells) p.copies
  planned_then cells stays p is =
      let before = same_plan p is in
      planned_on t.disk.cells cells p.copies (known.planned p before)
      (needed_stays t cells p.copies stays
      (of_places (IsNeededPage t.disk.cells t.disk.finished t.disk.blocks t.disk.erasing) p.copies
      (v.to_read.copied (layer_plan p) (plan_is ∙ ap (option_map layer_plan) before))))

  -- it is known of a later state with the same step, if the pages are the same
  on : (cells : Cells) (step : Option Step) →
      ((name : Name) (from : Place) → step ≡ Some (copying name from) → t.work.step ≡ Some (copying name from)) →
      ((from : Place) (tag : Tag) (body : List ℕ) → t.disk.cells from ≡ GroupPage tag body →
      Stays t.disk.cells cells from) → CopiesKnown cells left step
  on cells step same stays = record {
    planned = planned_then cells stays;
    named = λ name from is tag body e.
        let before = same name from is in
        let needed = All-head
        (λ (want : Want). IsNeededPage t.disk.cells t.disk.finished t.disk.blocks t.disk.erasing want.place)
        (want_at ForStep from) []
        (subst (λ (w : Option Step). All
        (λ (want : Want). IsNeededPage t.disk.cells t.disk.finished t.disk.blocks t.disk.erasing want.place)
        (wants_of_step w)) before v.to_read.wanted) in
        known.named name from before tag body
        (stays from needed.page.tag needed.page.body needed.page.there tag body e);
  }

  -- no page of a step is still to be copied then
  over : (cells : Cells) (step : Option Step) → is_mark_kind step →
      ((from : Place) (tag : Tag) (body : List ℕ) → t.disk.cells from ≡ GroupPage tag body →
      Stays t.disk.cells cells from) → CopiesKnown cells left step
  over cells step none stays = record {
    planned = planned_then cells stays;
    named = λ name from is. absurd (none name from is);
  }

  still : CopiesKnown t.disk.cells left t.work.step
  still = on t.disk.cells t.work.step (λ n f e. e) (λ f u b at x y e. e)

  ended : (die : ℕ) (flight : disk.Flight) (ending : Ending) → t.disk.flights die ≡ Some flight →
      MayEnd t.disk die (Some flight) ending →
      CopiesKnown (job_ended t die flight ending).disk.cells left (job_ended t die flight ending).work.step
  ended die (disk.Reading (ForTask tag index) place) ReadRight flies may = still
  ended die (disk.Reading ForStep place) ReadRight flies may =
      over t.disk.cells (step_there t.work.step) (λ n f e. not_there n f t.work.step e) (λ f u b at x y e. e)
  ended die (disk.Reading (ForRest n i) place) ReadRight flies may = still
  ended die (disk.Reading ForNobody place) ReadRight flies may = still
  ended die (disk.Reading (ForTask tag index) place) ReadWrong flies may = still
  ended die (disk.Reading ForStep place) ReadWrong flies may = still
  ended die (disk.Reading (ForRest n i) place) ReadWrong flies may = still
  ended die (disk.Reading ForNobody place) ReadWrong flies may = still
  ended die (disk.Reading reader place) WentWell flies may = still
  ended die (disk.Reading reader place) (WentWrong cells) flies may = still
  ended die (disk.Programming p Nothing) WentWell flies may =
      on (at_place t.disk.cells p Nothing) t.work.step (λ n f e. e)
      (λ f u b at. stays_put t v f u b at die p Nothing flies)
  ended die (disk.Programming p (GroupPage tag body)) WentWell flies may =
      on (at_place t.disk.cells p (GroupPage tag body)) (step_after (name_of tag) t.work.step)
      (λ n f e. not_behind (name_of tag) n f t.work.step e)
      (λ f u b at. stays_put t v f u b at die p (GroupPage tag body) flies)
  ended die (disk.Programming p (MarkPage m)) WentWell flies may =
      subst (λ (cells : Cells). CopiesKnown cells left None)
      (sym (freed_cells (disk.programmed t.numbers.pages t.disk p (MarkPage m)) t.work.plan))
      (on (at_place t.disk.cells p (MarkPage m)) None (λ n f e. cc)
      (λ f u b at. stays_put t v f u b at die p (MarkPage m) flies))
  ended die (disk.Programming p Nothing) (WentWrong cells) flies may =
      on cells t.work.step (λ n f e. e) (λ f u b at. stays_left t v f u b at die cells may.1)
  ended die (disk.Programming p (GroupPage tag body)) (WentWrong cells) flies may =
      on cells t.work.step (λ n f e. e) (λ f u b at. stays_left t v f u b at die cells may.1)
  ended die (disk.Programming p (MarkPage m)) (WentWrong cells) flies may =
      let failed = record t { disk = disk.program_failed t.disk p cells } in
      over (mark_again failed m.fence).disk.cells (mark_again failed m.fence).work.step (marked_again failed m.fence)
      (λ f u b at x y e. stays_left t v f u b at die cells may.1 x y (again_cells failed m.fence f ∙ e))
  ended die (disk.Programming p cell) ReadRight flies may = still
  ended die (disk.Programming p cell) ReadWrong flies may = still
  ended die (disk.Erasing s) WentWell flies may =
      on (disk.erased t.disk s).cells t.work.step (λ n f e. e) (λ f u b at. stays_erased t v f u b at s)
  ended die (disk.Erasing s) (WentWrong cells) flies may =
      on cells t.work.step (λ n f e. e) (λ f u b at. stays_left t v f u b at die cells may.1)
  ended die (disk.Erasing s) ReadRight flies may = still
  ended die (disk.Erasing s) ReadWrong flies may = still

  pub copies_on : (die : ℕ) (ending : Ending) → MayEnd t.disk die (t.disk.flights die) ending →
      CopiesKnown (moved t (EndJob die ending)).disk.cells left (moved t (EndJob die ending)).work.step
  copies_on die ending may = by (t.disk.flights die) refl may
    where
      by : (f : Option disk.Flight) → t.disk.flights die ≡ f → MayEnd t.disk die f ending →
          CopiesKnown (end_flight t die f ending).disk.cells left (end_flight t die f ending).work.step
      by None flies m = still
      by (Some flight) flies m = ended die flight ending flies m
