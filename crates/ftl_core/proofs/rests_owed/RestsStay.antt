-- What is kept of the rests goes on to describe them along each move that neither accepts a group nor brings a rest.
use Rattle.ftl_core.proofs.Common.{Book, Bool, Cell, Cells, Contains, EndJob, Ending, Fence, ForNobody, ForRest}
use Rattle.ftl_core.proofs.Common.{ForStep, ForTask, FromPage, GroupPage, IsAllowedMove, IsIn, IsNumbered, List}
use Rattle.ftl_core.proofs.Common.{MarkPage, MayEnd, MayTake, Name, None, Nothing, Option, Order, OrderMark}
use Rattle.ftl_core.proofs.Common.{OrderPlanMark, OrderRepair, OwedSource, Pending, Place, ReadRight, ReadWrong, Reader}
use Rattle.ftl_core.proofs.Common.{RestKept, RestsKept, Some, Tag, Translation, Valid, WentWell, WentWrong, ap, at_die}
use Rattle.ftl_core.proofs.Common.{at_die_cases, book, contained_in, end_flight, false, filter_map, if◌then◌else◌}
use Rattle.ftl_core.proofs.Common.{in_contained, in_mapped, inl, inr, is_mended, laid_move, look_of_source, mark_again}
use Rattle.ftl_core.proofs.Common.{moved, none-some, own_name, refl, rest_kept, rest_of_name, source_kept, subst, sym}
use Rattle.ftl_core.proofs.Common.{true, want_at, ℕ, ⊎_elim, ◌∙◌, ◌≡◌, ◌≢◌}
use Rattle.ufs_spec.specs.Disk as disk
use Rattle.ufs_spec.specs.Moves.{GiveJob, TakeStep, freed, job_ended, without_reader}
use Rattle.ufs_spec.specs.Translation.{OrderCopy, Plan, Rest, copy_begun, has_mark_number, mark_ordered, ordered}
use Rattle.ufs_spec.specs.Translation.{with_plan}
use Rattle.ufs_laws.proofs.walk.LayerEffects.{IsDue, order_due, turned_if}
use Rattle.power_loss.specs.Invariant.{SourceRight}
use Rattle.power_loss.specs.LaidRests.{RestsLaid}
use Rattle.power_loss.proofs.jobs_owed.OneDieForEachJob.{IsOf, read_owed, step_want}
use Rattle.power_loss.proofs.ordered_lists.ElementsAndOrders.{all_in}
use Rattle.write_cache.specs.declared.rests.OwedSource.TheVariants as owed
use Rattle.write_cache.specs.declared.rests.Rest as cache
use Rattle.ftl_core.specs.RestsKept.{RestReadsKept}
use Rattle.ftl_core.proofs.job_ended.CopiesOn.{Stays, again_cells, freed_cells, stays_erased, stays_left, stays_put}

-- Where a rest is read

-- a pending page that waits has its rest in the layer
pub rest_there : (t : Translation) (pages : List Pending) → RestsKept t pages → (p : Pending) (rest : cache.Rest) →
    Contains pages p → p.rest ≡ Some rest →
    Contains t.work.rests (record { name = own_name p; source = source_kept rest.source })
rest_there t pages h p rest there is =
    subst (λ (rests : List Rest). Contains rests (record { name = own_name p; source = source_kept rest.source }))
    (sym h.are)
    (in_contained (filter_map rest_kept pages)
    (in_mapped rest_kept p pages (contained_in pages there) (ap (rest_of_name (own_name p)) is)))

-- so the page that it is read from is there
page_there : (t : Translation) (pages : List Pending) → Valid t → RestsKept t pages → (p : Pending)
    (rest : cache.Rest) (name : Name) (place : Place) → Contains pages p → p.rest ≡ Some rest →
    rest.source ≡ owed.Page name place →
    (tag : Tag) × (body : List ℕ) × (t.disk.cells place ≡ GroupPage tag body)
page_there t pages v h p rest name place there is source =
    let in_rests = contained_in t.work.rests (rest_there t pages h p rest there is) in
    let right : SourceRight t.disk.cells t.disk.finished t.disk.erasing (source_kept rest.source) =
    all_in (λ (x : Rest). SourceRight t.disk.cells t.disk.finished t.disk.erasing x.source)
    (record { name = own_name p; source = source_kept rest.source }) t.work.rests v.rests.each in_rests in
    let page = (subst (λ (s : OwedSource). SourceRight t.disk.cells t.disk.finished t.disk.erasing (source_kept s))
    source right).1 in
    (page.tag, page.body, page.there)

-- What stays

-- the rests and the book are as they were, pages that are there stay, and no read is new that is for a rest
pub record Quiet (t u : Translation) : Type 0 where
  pub rests : u.work.rests ≡ t.work.rests
  pub book_is : book u ≡ book t
  pub stays : (from : Place) (tag : Tag) (body : List ℕ) → t.disk.cells from ≡ GroupPage tag body →
      Stays t.disk.cells u.disk.cells from
  pub reads : (die n i : ℕ) (place : Place) → u.disk.flights die ≡ Some (disk.Reading (ForRest n i) place) →
      t.disk.flights die ≡ Some (disk.Reading (ForRest n i) place)

numbered_stays : (cells now : Cells) (s : OwedSource) →
    ((name : Name) (place : Place) → s ≡ owed.Page name place → Stays cells now place) →
    IsNumbered cells (look_of_source s) → IsNumbered now (look_of_source s)
numbered_stays cells now (owed.Page name place) stays h = λ tag body e. h tag body (stays name place refl tag body e)
numbered_stays cells now (owed.Slot name) stays h = tt

pub quiet_rests : (t u : Translation) (pages : List Pending) → Valid t → RestsKept t pages → Quiet t u →
    RestsLaid u → RestsKept u pages
quiet_rests t u pages v h q laid = record {
  are = q.rests ∙ h.are;
  laid = laid;
  each = λ p rest there is.
      let k = h.each p rest there is in
      subst (λ (b : Book). RestKept b u.disk.cells p rest) (sym q.book_is)
      (record {
        laid = k.laid;
        numbered = numbered_stays t.disk.cells u.disk.cells rest.source
            (λ name place source.
            let page = page_there t pages v h p rest name place there is source in
            q.stays place page.0 page.1 page.2)
            k.numbered;
      });
  reads = λ die n i place e.
      subst (λ (rests : List Rest). Contains rests
      (record { name = record { number = n; index = i }; source = FromPage place })) (sym q.rests)
      (h.reads die n i place (q.reads die n i place e));
}

-- The ends of jobs

pub idle_reads : (flights : ℕ → Option disk.Flight) (die e : ℕ) (f : disk.Flight) →
    at_die flights die None e ≡ Some f → flights e ≡ Some f
idle_reads flights die e f is = ⊎_elim
    (λ (k : (e ≡ die) × (at_die flights die None e ≡ None)). absurd (none-some f (sym k.1 ∙ is)))
    (λ (k : (e ≢ die) × (at_die flights die None e ≡ flights e)). sym k.1 ∙ is)
    (at_die_cases flights die None e)

still : (t : Translation) → Quiet t t
still t = record { rests = refl; book_is = refl; stays = λ f u b at x y e. e; reads = λ d n i p e. e }

idle : (t : Translation) (die : ℕ) → Quiet t (record t { disk = disk.ended t.disk die })
idle t die = record {
  rests = refl;
  book_is = refl;
  stays = λ f u b at x y e. e;
  reads = λ d n i p e. idle_reads t.disk.flights die d _ e;
}

-- a mark that is ordered again, or none, changes none of it
again : (t : Translation) (fence : Option Fence) → Quiet t (mark_again t fence)
again t fence = by (has_mark_number t)
  where
    by : (b : Bool) → Quiet t (if b then mark_ordered t fence else record t { work = record t.work { step = None } })
    by true = record { rests = refl; book_is = refl; stays = λ f u b at x y e. e; reads = λ d n i p e. e }
    by false = record { rests = refl; book_is = refl; stays = λ f u b at x y e. e; reads = λ d n i p e. e }

-- the end of a job is quiet unless it is the right end of a read for a rest
abbrev pub IsNoRest : disk.Flight → Ending → Type 0
IsNoRest (disk.Reading (ForRest n i) place) ReadRight = ⊥
IsNoRest flight ending = Unit {0}

ends_quiet : (t : Translation) → Valid t → (die : ℕ) (flight : disk.Flight) (ending : Ending) →
    t.disk.flights die ≡ Some flight → MayEnd t.disk die (Some flight) ending → IsNoRest flight ending →
    Quiet t (job_ended t die flight ending)
ends_quiet t v die (disk.Reading (ForTask tag index) place) ReadRight flies may none =
    record { rests = refl; book_is = refl; stays = λ f u b at x y e. e; reads = (idle t die).reads }
ends_quiet t v die (disk.Reading ForStep place) ReadRight flies may none =
    record { rests = refl; book_is = refl; stays = λ f u b at x y e. e; reads = (idle t die).reads }
ends_quiet t v die (disk.Reading (ForRest n i) place) ReadRight flies may none = absurd none
ends_quiet t v die (disk.Reading ForNobody place) ReadRight flies may none = idle t die
ends_quiet t v die (disk.Reading (ForTask tag index) place) ReadWrong flies may none =
    record { rests = refl; book_is = refl; stays = λ f u b at x y e. e; reads = (idle t die).reads }
ends_quiet t v die (disk.Reading ForStep place) ReadWrong flies may none = idle t die
ends_quiet t v die (disk.Reading (ForRest n i) place) ReadWrong flies may none = idle t die
ends_quiet t v die (disk.Reading ForNobody place) ReadWrong flies may none = idle t die
ends_quiet t v die (disk.Reading reader place) WentWell flies may none = still t
ends_quiet t v die (disk.Reading reader place) (WentWrong cells) flies may none = still t
ends_quiet t v die (disk.Programming p Nothing) WentWell flies may none = record {
  rests = refl;
  book_is = refl;
  stays = λ f u b at. stays_put t v f u b at die p Nothing flies;
  reads = (idle t p.die).reads;
}
ends_quiet t v die (disk.Programming p (GroupPage tag body)) WentWell flies may none = record {
  rests = refl;
  book_is = refl;
  stays = λ f u b at. stays_put t v f u b at die p (GroupPage tag body) flies;
  reads = (idle t p.die).reads;
}
ends_quiet t v die (disk.Programming p (MarkPage m)) WentWell flies may none = record {
  rests = refl;
  book_is = refl;
  stays = λ f u b at x y e. stays_put t v f u b at die p (MarkPage m) flies x y
      (sym (ap (λ (cells : Cells). cells f) (freed_cells (disk.programmed t.numbers.pages t.disk p (MarkPage m))
      t.work.plan)) ∙ e);
  reads = λ d n i q e. (idle t p.die).reads d n i q
      (sym (ap (λ (flights : ℕ → Option disk.Flight). flights d)
      (freed_flights (disk.programmed t.numbers.pages t.disk p (MarkPage m)) t.work.plan)) ∙ e);
}
  where
    freed_flights : (d : disk.Disk) (o : Option Plan) → (freed d o).flights ≡ d.flights
    freed_flights d None = refl
    freed_flights d (Some plan) = refl
ends_quiet t v die (disk.Programming p Nothing) (WentWrong cells) flies may none = record {
  rests = refl;
  book_is = refl;
  stays = λ f u b at. stays_left t v f u b at die cells may.1;
  reads = (idle t p.die).reads;
}
ends_quiet t v die (disk.Programming p (GroupPage tag body)) (WentWrong cells) flies may none = record {
  rests = refl;
  book_is = refl;
  stays = λ f u b at. stays_left t v f u b at die cells may.1;
  reads = (idle t p.die).reads;
}
ends_quiet t v die (disk.Programming p (MarkPage m)) (WentWrong cells) flies may none =
    let failed = record t { disk = disk.program_failed t.disk p cells } in
    let next = again failed m.fence in record {
      rests = next.rests;
      book_is = next.book_is;
      stays = λ f u b at x y e. stays_left t v f u b at die cells may.1 x y (again_cells failed m.fence f ∙ e);
      reads = λ d n i q e. (idle t p.die).reads d n i q (next.reads d n i q e);
    }
ends_quiet t v die (disk.Programming p cell) ReadRight flies may none = still t
ends_quiet t v die (disk.Programming p cell) ReadWrong flies may none = still t
ends_quiet t v die (disk.Erasing s) WentWell flies may none = record {
  rests = refl;
  book_is = refl;
  stays = λ f u b at. stays_erased t v f u b at s;
  reads = (idle t s.die).reads;
}
ends_quiet t v die (disk.Erasing s) (WentWrong cells) flies may none = record {
  rests = refl;
  book_is = refl;
  stays = λ f u b at. stays_left t v f u b at die cells may.1;
  reads = (idle t s.die).reads;
}
ends_quiet t v die (disk.Erasing s) ReadRight flies may none = still t
ends_quiet t v die (disk.Erasing s) ReadWrong flies may none = still t

-- of a die that has a job, or none
abbrev pub IsNoRestOf : Option disk.Flight → Ending → Type 0
IsNoRestOf None ending = Unit {0}
IsNoRestOf (Some flight) ending = IsNoRest flight ending

pub ends_rests : (t : Translation) (pages : List Pending) (die : ℕ) (ending : Ending) (g : Option disk.Flight) →
    Valid t → RestsKept t pages → t.disk.flights die ≡ g → MayEnd t.disk die g ending → IsNoRestOf g ending →
    RestsKept (end_flight t die g ending) pages
ends_rests t pages die ending g v h flies may none =
    quiet_rests t (end_flight t die g ending) pages v h (by g flies may none)
    (subst (λ (x : Option disk.Flight). RestsLaid (end_flight t die x ending)) flies
    (laid_move t (EndJob die ending) v h.laid
    (subst (λ (x : Option disk.Flight). MayEnd t.disk die x ending) (sym flies) may)))
  where
    by : (f : Option disk.Flight) → t.disk.flights die ≡ f → MayEnd t.disk die f ending → IsNoRestOf f ending →
        Quiet t (end_flight t die f ending)
    by None flies m n = still t
    by (Some flight) flies m n = ends_quiet t v die flight ending flies m n

-- Steps

copy_quiet : (t : Translation) (p : Place) (cell : Cell) → Quiet t (copy_begun t p cell)
copy_quiet t p Nothing = still t
copy_quiet t p (MarkPage m) = still t
copy_quiet t p (GroupPage tag body) =
    record { rests = refl; book_is = refl; stays = λ f u b at x y e. e; reads = λ d n i q e. e }

-- until the device is mended no rest is owed
none_waits : (t u : Translation) (pages : List Pending) → RestsKept t pages → is_mended t.work.mending ≡ false →
    u.work.rests ≡ t.work.rests → u.disk.flights ≡ t.disk.flights → RestsLaid u → RestsKept u pages
none_waits t u pages h unmended rests flights laid = record {
  are = rests ∙ h.are;
  laid = laid;
  each = λ p rest there is. absurd (none _ (contained_in t.work.rests (rest_there t pages h p rest there is)));
  reads = λ die n i place e. absurd (none _ (contained_in t.work.rests
      (h.reads die n i place (sym (ap (λ (f : ℕ → Option disk.Flight). f die) flights) ∙ e))));
}
  where
    none : (r : Rest) → IsIn r t.work.rests → ⊥
    none r there = subst (IsIn r) (h.laid.unmended unmended) there

orders_rests : (t : Translation) (pages : List Pending) → Valid t → RestsKept t pages → (o : Order) → IsDue t o →
    RestsLaid (ordered t o) → RestsKept (ordered t o) pages
orders_rests t pages v h (OrderMark fence) due laid = quiet_rests t (ordered t (OrderMark fence)) pages v h
    (record { rests = refl; book_is = refl; stays = λ f u b at x y e. e; reads = λ d n i q e. e }) laid
orders_rests t pages v h (OrderRepair k left) due laid =
    none_waits t (ordered t (OrderRepair k left)) pages h (ap is_mended due.1) refl refl laid
orders_rests t pages v h (OrderCopy victim p left) due laid =
    quiet_rests t (ordered t (OrderCopy victim p left)) pages v h
    (let q = copy_quiet (with_plan t victim left) p (t.disk.cells p) in
    record { rests = q.rests; book_is = q.book_is; stays = q.stays; reads = q.reads }) laid
orders_rests t pages v h (OrderPlanMark victim) due laid =
    quiet_rests t (ordered t (OrderPlanMark victim)) pages v h
    (record { rests = refl; book_is = refl; stays = λ f u b at x y e. e; reads = λ d n i q e. e }) laid

pub turns_rests : (t : Translation) (pages : List Pending) → Valid t → RestsKept t pages →
    RestsKept (moved t TakeStep) pages
turns_rests t pages v h =
    turned_if (λ (u : Translation). RestsLaid u → RestsKept u pages) t (λ none laid. h)
    (λ o is laid. orders_rests t pages v h o (order_due t o is).1 laid) (laid_move t TakeStep v h.laid tt)

-- Tasks, claims and jobs

-- what tasks keep and claim, and what is acknowledged, changes none of it
pub same_rests : (t u : Translation) (pages : List Pending) → u.work.rests ≡ t.work.rests → book u ≡ book t →
    u.disk.cells ≡ t.disk.cells → u.disk.flights ≡ t.disk.flights → RestsLaid u → RestsKept t pages →
    RestsKept u pages
same_rests t u pages rests book_is cells flights laid h = record {
  are = rests ∙ h.are;
  laid = laid;
  each = λ p rest there is. subst (λ (z : Book × Cells). RestKept z.0 z.1 p rest)
      (λ i. (sym book_is i, sym cells i)) (h.each p rest there is);
  reads = subst (λ (z : (ℕ → Option disk.Flight) × List Rest). RestReadsKept z.0 z.1)
      (λ i. (sym flights i, sym rests i)) h.reads;
}

-- a read that is for a task is gone, and no other
pub gone_rests : (t : Translation) (pages : List Pending) (is : Reader → Bool) →
    ((n i : ℕ) → is (ForRest n i) ≡ false) → (u : Translation) → u.work.rests ≡ t.work.rests → book u ≡ book t →
    u.disk.cells ≡ t.disk.cells → u.disk.flights ≡ (λ die. without_reader is (t.disk.flights die)) → RestsLaid u →
    RestsKept t pages → RestsKept u pages
gone_rests t pages is other u rests book_is cells flights laid h = record {
  are = rests ∙ h.are;
  laid = laid;
  each = λ p rest there e. subst (λ (z : Book × Cells). RestKept z.0 z.1 p rest)
      (λ i. (sym book_is i, sym cells i)) (h.each p rest there e);
  reads = λ die n i place e.
      subst (λ (xs : List Rest). Contains xs
      (record { name = record { number = n; index = i }; source = FromPage place })) (sym rests)
      (h.reads die n i place (before (t.disk.flights die) n i place
      (sym (ap (λ (f : ℕ → Option disk.Flight). f die) flights) ∙ e)));
}
  where
    by : (b : Bool) (r : Reader) (p place : Place) (n i : ℕ) →
        Some (disk.Reading (if b then ForNobody else r) p) ≡ Some (disk.Reading (ForRest n i) place) →
        Some (disk.Reading r p) ≡ Some (disk.Reading (ForRest n i) place)
    by true r p place n i e = cc
    by false r p place n i e = e

    before : (f : Option disk.Flight) (n i : ℕ) (place : Place) →
        without_reader is f ≡ Some (disk.Reading (ForRest n i) place) → f ≡ Some (disk.Reading (ForRest n i) place)
    before None n i place e = e
    before (Some (disk.Reading r p)) n i place e = by (is r) r p place n i e
    before (Some (disk.Programming p cell)) n i place e = e
    before (Some (disk.Erasing s)) n i place e = e

-- a rest is told by its name and its place
rest_is : (rest : Rest) (n i : ℕ) (place : Place) → rest.source ≡ FromPage place →
    ForRest n i ≡ ForRest rest.name.number rest.name.index →
    rest ≡ record { name = record { number = n; index = i }; source = FromPage place }
rest_is rest n i place source reader =
    let same : (rest.name.number ≡ n) × (rest.name.index ≡ i) = told rest.name.number rest.name.index reader in
    λ j. record { name = record { number = same.0 j; index = same.1 j }; source = source j }
  where
    told : (m k : ℕ) → ForRest n i ≡ ForRest m k → (m ≡ n) × (k ≡ i)
    told m k e = (cc, cc)

-- a read that is begun for a rest is of one that is owed
pub gives_rests : (t : Translation) (pages : List Pending) (die : ℕ) (flight : disk.Flight) → Valid t →
    RestsKept t pages → IsAllowedMove t (GiveJob die flight) → RestsKept (moved t (GiveJob die flight)) pages
gives_rests t pages die flight v h may = record {
  are = h.are;
  laid = laid_move t (GiveJob die flight) v h.laid may;
  each = h.each;
  reads = λ e n i place is. ⊎_elim
      (λ (k : (e ≡ die) × (at_die t.disk.flights die (Some flight) e ≡ Some flight)).
      new flight n i place (sym k.1 ∙ is) may)
      (λ (k : (e ≢ die) × (at_die t.disk.flights die (Some flight) e ≡ t.disk.flights e)).
      h.reads e n i place (sym k.1 ∙ is))
      (at_die_cases t.disk.flights die (Some flight) e);
}
  where
    no_task : {n i : ℕ} (tag index : ℕ) → ForRest n i ≡ ForTask tag index → ⊥
    no_task {n} {i} tag index e = cc

    no_step : {n i : ℕ} → ForRest n i ≡ ForStep → ⊥
    no_step {n} {i} e = cc

    owed_rest : (n i : ℕ) (place : Place) → MayTake t die (Some (disk.Reading (ForRest n i) place)) →
        Contains t.work.rests (record { name = record { number = n; index = i }; source = FromPage place })
    owed_rest n i place m = by (read_owed t die (ForRest n i) place m).0
      where
        by : IsOf t (want_at (ForRest n i) place) →
            Contains t.work.rests (record { name = record { number = n; index = i }; source = FromPage place })
        by (inl k) = absurd (no_task k.0.tag k.0.index k.2.2)
        by (inr (inl k)) = absurd (no_step (step_want t.work.step (want_at (ForRest n i) place) k))
        by (inr (inr k)) = in_contained t.work.rests (subst (λ (r : Rest). IsIn r t.work.rests)
            (rest_is k.0 n i place k.2.0 k.2.1) k.1)

    new : (f : disk.Flight) (n i : ℕ) (place : Place) → Some f ≡ Some (disk.Reading (ForRest n i) place) →
        MayTake t die (Some f) →
        Contains t.work.rests (record { name = record { number = n; index = i }; source = FromPage place })
    new f n i place e m = owed_rest n i place (subst (λ (o : Option disk.Flight). MayTake t die o) e m)
