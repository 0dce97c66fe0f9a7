-- Jobs in flight: what the rows say of them is what the definitions say, and one die's job changes.
use Rattle.ftl_core.proofs.Common.{Bool, Cell, CopyKept, Core, DieRow, DiesKept, Fence, Flight, ForStep, ForTask}
use Rattle.ftl_core.proofs.Common.{GroupPage, IsFilling, IsFlight, IsStepCell, Kept, Key, Ledger, List, MarkPage, Name}
use Rattle.ftl_core.proofs.Common.{None, Numbers, OpenBlock, Option, PagesFly, Pin, Place, Reader, ReadsKept, RowKept}
use Rattle.ftl_core.proofs.Common.{Some, Spot, Standing, Step, StepKept, StepReadsKept, Stored, Tag, Translation}
use Rattle.ftl_core.proofs.Common.{WritesGroup, any_here, ap, arith, at_die, at_die_cases, below, cases_lt, false}
use Rattle.ftl_core.proofs.Common.{flies_name, get_there, list_any, name_at, name_cases, name_is, name_of, name_self}
use Rattle.ftl_core.proofs.Common.{next_place, none_some, reads_for, refl, repairs_in, same_name, set_length, slice_get}
use Rattle.ftl_core.proofs.Common.{slice_get_within, slice_set, some_flight, spot_at, subst, sym, true, true≢false}
use Rattle.ftl_core.proofs.Common.{writes_page, ℕ, ⊎_elim, ◌<◌, ◌∙◌, ◌≡◌, ◌≢◌}
use Rattle.ufs_spec.specs.Disk as disk
use Rattle.ufs_spec.specs.Translation as layer
use Rattle.ufs_spec.specs.Translation.{flies_mark, flies_reader}
use Rattle.block_table.specs.declared.rows.Flight.TheVariants as flight
use Rattle.ftl_core.specs.declared.books.Step.TheVariants as steps
use Rattle.ftl_core.specs.Moves.{flight_reads}
use Rattle.ftl_core.specs.Takes.{flight_writes, is_step_flight, writes_step}
use Rattle.ftl_core.proofs.opened.ListParts.{get_set}
use Rattle.ufs_spec.proofs.Lists.{any_told}
use Rattle.ftl_core.proofs.job_taken.FlightKinds.{flight_cases, some_here, some_told}

-- What the rows say is what the definitions say

pub same_tests : (a b : Bool) → (a ≡ true → b ≡ true) → (b ≡ true → a ≡ true) → a ≡ b
same_tests true true f g = refl
same_tests true false f g = sym (f refl)
same_tests false true f g = g refl
same_tests false false f g = refl

-- what is asked of each book is what is asked of each die
pub dies_agree : (c : Core) (t : Translation) (kept : DieRow → Bool) (is : ℕ → Bool) → Kept c t →
    ((die : ℕ) (b : DieRow) → slice_get c.rows die ≡ Some b →
    RowKept t.numbers t.disk.blocks c.step die b (t.disk.flights die) → kept b ≡ is die) →
    list_any kept c.rows ≡ list_any is (below t.numbers.dies)
dies_agree c t kept is k same = same_tests (list_any kept c.rows) (list_any is (below t.numbers.dies)) there back
  where
    there : list_any kept c.rows ≡ true → list_any is (below t.numbers.dies) ≡ true
    there e =
        let r = any_told kept c.rows e in
        let w = slice_get_within c.rows r.0 r.1 r.2 in
        let d = k.dies.dies in
        some_here t.numbers.dies r.0 is (omega (arith, w, d))
        (sym (same r.0 r.1 r.2 (k.dies.each r.0 r.1 r.2)) ∙ r.3)

    back : list_any is (below t.numbers.dies) ≡ true → list_any kept c.rows ≡ true
    back e =
        let r = some_told t.numbers.dies is e in
        let w = r.1 in
        let d = k.dies.dies in
        let b = get_there c.rows r.0 (omega (arith, w, d)) in
        any_here kept c.rows r.0 b.0 b.1 (same r.0 b.0 b.1 (k.dies.each r.0 b.0 b.1) ∙ r.2)

-- what is asked of each kept job is what is asked of each job in flight
pub rows_agree : (c : Core) (t : Translation) (kept : DieRow → Bool) (is : Option disk.Flight → Bool) → Kept c t →
    ((die : ℕ) (b : DieRow) → slice_get c.rows die ≡ Some b →
    IsFlight t.numbers c.step die b.filling b.flight (t.disk.flights die) → kept b ≡ is (t.disk.flights die)) →
    list_any kept c.rows ≡ some_flight t is
rows_agree c t kept is k same =
    dies_agree c t kept (λ die. is (t.disk.flights die)) k (λ die b at book. same die b at book.job)

-- whether a die reads for the reader
pub reads_agree : (c : Core) (t : Translation) (reader : Reader) → Kept c t →
    list_any (reads_for reader) c.rows ≡ some_flight t (flies_reader reader)
reads_agree c t reader k = rows_agree c t (reads_for reader) (flies_reader reader) k
    (λ die b at h. flight_cases t.numbers c.step die b.filling
    (λ (f : Option Flight) (g : Option disk.Flight). flight_reads reader f ≡ flies_reader reader g)
    refl (λ place tag i. refl) (λ place. refl) (λ place. refl) (λ place m i. refl) (λ o cell fills page. refl)
    (λ o tag body fills no_repair. refl) (λ block within. refl) b.flight (t.disk.flights die) h)

-- the page that is copied has the name of the copy
pub copy_name : (l : Ledger) (n : ℕ) (k : Key) (read : Tag) (content : List ℕ) (name : Name) (tag : Tag) →
    CopyKept l n k (Some read) content name → tag.number ≡ n → tag.index ≡ read.index → name_of tag ≡ name
copy_name l n k read content name tag h number index =
    name_is (name_of tag) name (number ∙ sym h.number_is)
    (index ∙ sym (ap (λ (z : Tag). z.index) ((h.copied read refl).tag_is 0)))

-- the page of a mark is of no name, and a copy is of one that stands
no_name : (l : Ledger) (step : Option Step) (content : List ℕ) (w : Option layer.Step) (name : Name) (place : Place)
    (cell : Cell) → StepKept l step content w → l.standing name.number name.index ≡ None → repairs_in step ≡ 0 →
    IsStepCell step cell → false ≡ flies_name name (Some (disk.Programming place cell))
no_name l (Some (steps.Mark n fence)) content w name place (MarkPage m) kept new none page = refl
no_name l (Some (steps.Repair n k from there)) content w name place cell kept new none page = absurd (omega arith)
no_name l (Some (steps.Copy n k from (Some read))) content None name place (GroupPage tag body) kept new none page =
    absurd kept
no_name l (Some (steps.Copy n k from (Some read))) content (Some s) name place (GroupPage tag body) kept new none
    page =
    ⊎_elim
    (λ (e : (same_name name (name_of tag) ≡ true) × (name ≡ name_of tag)).
    let is = e.1 ∙ copy_name l n k read content kept.0 tag kept.2 page.0 page.1 in
    absurd (none_some kept.2.place
    (sym new ∙ ap (λ (z : Name). l.standing z.number z.index) is ∙ kept.2.stands)))
    (λ e. sym e.0)
    (name_cases name (name_of tag))
no_name l step content w name place cell kept new none page = absurd page

-- whether a die writes the page of the group with this number that has this index, which does not stand
pub writes_agree : (c : Core) (t : Translation) (name : Name) → Kept c t →
    t.ledger.standing name.number name.index ≡ None → repairs_in c.step ≡ 0 →
    list_any (writes_page name.number name.index) c.rows ≡ some_flight t (flies_name name)
writes_agree c t name k new no_repairs = rows_agree c t (writes_page name.number name.index) (flies_name name) k
    (λ die b at h. flight_cases t.numbers c.step die b.filling
    (λ (f : Option Flight) (g : Option disk.Flight). flight_writes name.number name.index f ≡ flies_name name g)
    refl (λ place tag i. refl) (λ place. refl) (λ place. refl) (λ place m i. refl)
    (λ o cell fills page. no_name t.ledger c.step c.content t.work.step name (next_place die o) cell k.work.step_is
    new no_repairs page)
    (λ o tag body fills no_repair. refl)
    (λ block within. refl) b.flight (t.disk.flights die) h)

-- a page of the step under way that is a mark
mark_page : (number : ℕ) (fence : Option Fence) (place : Place) (cell : Cell) →
    IsStepCell (Some (steps.Mark number fence)) cell → true ≡ flies_mark (Some (disk.Programming place cell))
mark_page number fence place (MarkPage m) page = refl
mark_page number fence place cell page = absurd page

-- whether a die writes the mark that is the step under way
pub marks_agree : (c : Core) (t : Translation) (number : ℕ) (fence : Option Fence) → Kept c t →
    c.step ≡ Some (steps.Mark number fence) → list_any writes_step c.rows ≡ some_flight t flies_mark
marks_agree c t number fence k is = rows_agree c t writes_step flies_mark k
    (λ die b at h. flight_cases t.numbers (Some (steps.Mark number fence)) die b.filling
    (λ (f : Option Flight) (g : Option disk.Flight). is_step_flight f ≡ flies_mark g)
    refl (λ place tag i. refl) (λ place. refl) (λ place. refl) (λ place m i. refl)
    (λ o cell fills page. mark_page number fence (next_place die o) cell page)
    (λ o tag body fills no_repair. refl) (λ block within. refl) b.flight (t.disk.flights die)
    (subst (λ (s : Option Step). IsFlight t.numbers s die b.filling b.flight (t.disk.flights die)) is h))

-- a page of the step under way that is a repair
repair_page : (number : ℕ) (key : Key) (from : Option Stored) (there : Bool) (place : Place) (cell : Cell) →
    IsStepCell (Some (steps.Repair number key from there)) cell →
    true ≡ flies_name (name_at number 0) (Some (disk.Programming place cell))
repair_page number key from there place (GroupPage tag body) page =
    sym (name_self (name_at number 0))
    ∙ ap (same_name (name_at number 0)) (name_is (name_at number 0) (name_of tag) (sym page.0) (sym page.1))
repair_page number key from there place cell page = absurd page

-- whether a die writes the page of the repair that is the step under way
pub repairs_agree : (c : Core) (t : Translation) (number : ℕ) (key : Key) (from : Option Stored) (there : Bool) →
    Kept c t → c.step ≡ Some (steps.Repair number key from there) →
    list_any writes_step c.rows ≡ some_flight t (flies_name (name_at number 0))
repairs_agree c t number key from there k is = rows_agree c t writes_step (flies_name (name_at number 0)) k
    (λ die b at h. flight_cases t.numbers (Some (steps.Repair number key from there)) die b.filling
    (λ (f : Option Flight) (g : Option disk.Flight). is_step_flight f ≡ flies_name (name_at number 0) g)
    refl (λ place tag i. refl) (λ place. refl) (λ place. refl) (λ place m i. refl)
    (λ o cell fills page. repair_page number key from there (next_place die o) cell page)
    (λ o tag body fills no_repair. absurd (omega (arith, no_repair))) (λ block within. refl)
    b.flight (t.disk.flights die)
    (subst (λ (s : Option Step). IsFlight t.numbers s die b.filling b.flight (t.disk.flights die)) is h))

-- a page of the step under way that is a copy
copied_page : (l : Ledger) (n : ℕ) (k : Key) (from : Place) (read : Option Tag) (content : List ℕ) (name : Name)
    (place : Place) (cell : Cell) → CopyKept l n k read content name →
    IsStepCell (Some (steps.Copy n k from read)) cell → true ≡ flies_name name (Some (disk.Programming place cell))
copied_page l n k from None content name place cell h page = absurd page
copied_page l n k from (Some read) content name place (GroupPage tag body) h page =
    sym (subst (λ (z : Name). same_name z (name_of tag) ≡ true)
    (copy_name l n k read content name tag h page.0 page.1) (name_self (name_of tag)))
copied_page l n k from (Some read) content name place cell h page = absurd page

-- whether a die writes the copy that is the step under way: the page that is copied stands, that of a group does not
pub copies_agree : (c : Core) (t : Translation) (number : ℕ) (key : Key) (from : Place) (read : Option Tag)
    (name : Name) → Kept c t → CopyKept t.ledger number key read c.content name →
    c.step ≡ Some (steps.Copy number key from read) →
    list_any writes_step c.rows ≡ some_flight t (flies_name name)
copies_agree c t number key from read name k copy is = rows_agree c t writes_step (flies_name name) k
    (λ die b at h. flight_cases t.numbers (Some (steps.Copy number key from read)) die b.filling
    (λ (f : Option Flight) (g : Option disk.Flight). b.flight ≡ f → is_step_flight f ≡ flies_name name g)
    (λ f. refl) (λ place tag i f. refl) (λ place f. refl) (λ place f. refl) (λ place m i f. refl)
    (λ o cell fills page f. copied_page t.ledger number key from read c.content name (next_place die o) cell copy page)
    (λ o tag body fills no_repair f. ⊎_elim
    (λ (e : (same_name name (name_of tag) ≡ true) × (name ≡ name_of tag)).
    absurd (none_some copy.place
    (sym (k.fly.new die tag.number tag.index (record { book = b; there = at; place = next_place die o; job = f }))
    ∙ ap (λ (z : Name). t.ledger.standing z.number z.index) (sym e.1) ∙ copy.stands)))
    (λ e. sym e.0)
    (name_cases name (name_of tag)))
    (λ block within f. refl) b.flight (t.disk.flights die)
    (subst (λ (s : Option Step). IsFlight t.numbers s die b.filling b.flight (t.disk.flights die)) is h) refl)

-- where no step is under way, a page that a die programs is that of a pending group
pub group_writer : (c : Core) (t : Translation) (die : ℕ) (p : Place) (tag : Tag) (body : List ℕ) → Kept c t →
    c.step ≡ None → t.disk.flights die ≡ Some (disk.Programming p (GroupPage tag body)) →
    WritesGroup c.rows die tag.number tag.index
group_writer c t die p tag body k none flies = ⊎_elim
    (λ low.
    let all = k.dies.dies in
    let b = get_there c.rows die (omega (arith, low, all)) in
    let r = by b.0 b.0.flight (subst (λ (z : Option Step × Option disk.Flight).
    IsFlight t.numbers z.0 die b.0.filling b.0.flight z.1) (λ i. (none i, flies i)) (k.dies.each die b.0 b.1).job) in
    record { book = b.0; there = b.1; place = r.0; job = r.1 })
    (λ high. absurd (none_some _ (sym (k.dies.no_more die high) ∙ flies)))
    (cases_lt die t.numbers.dies)
  where
    by : (b : DieRow) (f : Option Flight) →
        IsFlight t.numbers None die b.filling f (Some (disk.Programming p (GroupPage tag body))) →
        (place : Place) × (f ≡ Some (flight.Group place tag.number tag.index))
    by b (Some (flight.Step place)) h = absurd h.2
    by b (Some (flight.Group place number i)) h = (place, λ j. Some (flight.Group place (sym h.2 j) (sym h.3 j)))
    by b f h = absurd h

-- a die that is kept as idle has no job
pub no_job : (c : Core) (t : Translation) (die : ℕ) (b : DieRow) → Kept c t → slice_get c.rows die ≡ Some b →
    b.flight ≡ None →
    t.disk.flights die ≡ None
no_job c t die b k at idle =
    none (t.disk.flights die)
    (subst (λ (f : Option Flight). IsFlight t.numbers c.step die b.filling f (t.disk.flights die)) idle
    (k.dies.each die b at).job)
  where
    none : (g : Option disk.Flight) → IsFlight t.numbers c.step die b.filling None g → g ≡ None
    none None h = refl
    none (Some g) h = absurd h

pub die_within : (c : Core) (t : Translation) (die : ℕ) (b : DieRow) → Kept c t → slice_get c.rows die ≡ Some b →
    die < t.numbers.dies
die_within c t die b k at = let w = slice_get_within c.rows die b at in let d = k.dies.dies in omega (arith, w, d)

-- One die's job is another

-- the open block of a die stays where the blocks of the die do
pub filling_same : (n : Numbers) (blocks now : Spot → disk.BlockState) (die : ℕ) (o : Option OpenBlock) →
    ((block : ℕ) → now (spot_at die block) ≡ blocks (spot_at die block)) → IsFilling n blocks die o →
    IsFilling n now die o
filling_same n blocks now die None same h = λ block next within e. h block next within (sym (same block) ∙ e)
filling_same n blocks now die (Some o) same h = (
  h.0,
  same o.block ∙ h.1,
  λ (block : ℕ) (next : ℕ) (within : block < n.blocks) (e : now (spot_at die block) ≡ disk.Filling next).
      h.2 block next within (sym (same block) ∙ e),
)

-- a die has another job, only its own blocks change, and the jobs of the others suit the step that is then under way
pub dies_changed : (n : Numbers) (blocks now : Spot → disk.BlockState) (flights : ℕ → Option disk.Flight)
    (step after : Option Step) (rows : List DieRow) (die : ℕ) (b x : DieRow) (job : Option disk.Flight) →
    DiesKept n blocks flights step rows → slice_get rows die ≡ Some b →
    ((s : Spot) → s.die ≢ die → now s ≡ blocks s) →
    ((e : ℕ) (y : DieRow) → e ≢ die → slice_get rows e ≡ Some y → IsFlight n step e y.filling y.flight (flights e) →
    IsFlight n after e y.filling y.flight (flights e)) →
    RowKept n now after die x job → DiesKept n now (at_die flights die job) after (slice_set rows die x)
dies_changed n blocks now flights step after rows die b x job h at same suits this = record {
  dies = set_length rows die x ∙ h.dies;
  each = λ e y got. ⊎_elim (λ k. here e y k.0 k.1) (λ k. other e y k.0 k.1) (get_set rows die x e y got);
  no_more = λ e past. ⊎_elim
      (λ (k : (e ≡ die) × (at_die flights die job e ≡ job)).
      let w = slice_get_within rows die b at in let d = h.dies in let is = k.0 in absurd
      (omega (arith, w, d, is, past)))
      (λ (k : (e ≢ die) × (at_die flights die job e ≡ flights e)). k.1 ∙ h.no_more e past)
      (at_die_cases flights die job e);
}
  where
    here : (e : ℕ) (y : DieRow) → e ≡ die → x ≡ y → RowKept n now after e y (at_die flights die job e)
    here e y is one = ⊎_elim
        (λ (k : (e ≡ die) × (at_die flights die job e ≡ job)).
        subst (λ (z : ℕ × DieRow × Option disk.Flight). RowKept n now after z.0 z.1 z.2)
        (λ i. (sym is i, one i, sym k.1 i)) this)
        (λ k. absurd (k.0 is))
        (at_die_cases flights die job e)

    other : (e : ℕ) (y : DieRow) → e ≢ die → slice_get rows e ≡ Some y →
        RowKept n now after e y (at_die flights die job e)
    other e y apart got = ⊎_elim
        (λ k. absurd (apart k.0))
        (λ (k : (e ≢ die) × (at_die flights die job e ≡ flights e)).
        let r = h.each e y got in
        subst (λ (g : Option disk.Flight). RowKept n now after e y g) (sym k.1)
        (record {
          filling = filling_same n blocks now e y.filling (λ block. same (spot_at e block) apart) r.filling;
          job = suits e y apart got r.job;
        }))
        (at_die_cases flights die job e)

-- the same where the step under way stays
pub dies_put : (n : Numbers) (blocks now : Spot → disk.BlockState) (flights : ℕ → Option disk.Flight)
    (step : Option Step) (rows : List DieRow) (die : ℕ) (b x : DieRow) (job : Option disk.Flight) →
    DiesKept n blocks flights step rows → slice_get rows die ≡ Some b →
    ((s : Spot) → s.die ≢ die → now s ≡ blocks s) → RowKept n now step die x job →
    DiesKept n now (at_die flights die job) step (slice_set rows die x)
dies_put n blocks now flights step rows die b x job h at same this =
    dies_changed n blocks now flights step step rows die b x job h at same (λ e y apart got is. is) this

-- The job of one die ends

-- a die that has such a job then had it before
pub fewer : (flights : ℕ → Option disk.Flight) (die : ℕ) (is : Option disk.Flight → Bool) (d : ℕ) → is None ≡ false →
    is (at_die flights die None d) ≡ true → is (flights d) ≡ true
fewer flights die is d none h = ⊎_elim
    (λ k. absurd (true≢false (sym h ∙ ap is k.1 ∙ none)))
    (λ k. sym (ap is k.1) ∙ h)
    (at_die_cases flights die None d)

-- a die that writes a group's page then wrote it before
pub wrote_before : (rows : List DieRow) (die : ℕ) (filling : Option OpenBlock) (d number index : ℕ) →
    WritesGroup (slice_set rows die (record { filling = filling; flight = None })) d number index →
    WritesGroup rows d number index × (d ≢ die)
wrote_before rows die filling d number index w = ⊎_elim
    (λ (e : (d ≡ die) × (record { filling = filling; flight = None } ≡ w.book)).
    absurd (none_some (flight.Group w.place number index) (ap (λ (z : DieRow). z.flight) e.1 ∙ w.job)))
    (λ (e : (d ≢ die) × (slice_get rows d ≡ Some w.book)).
    (record { book = w.book; there = e.1; place = w.place; job = w.job }, e.0))
    (get_set rows die (record { filling = filling; flight = None }) d w.book w.there)

pub fly_over : (standing : Standing) (flights : ℕ → Option disk.Flight) (die : ℕ) (rows : List DieRow)
    (filling : Option OpenBlock) → PagesFly standing flights rows →
    PagesFly standing (at_die flights die None) (slice_set rows die (record { filling = filling; flight = None }))
fly_over standing flights die rows filling h = record {
  one = λ d e name f g.
      h.one d e name (fewer flights die (flies_name name) d refl f) (fewer flights die (flies_name name) e refl g);
  new = λ d number index w. h.new d number index (wrote_before rows die filling d number index w).0;
}

pub reads_over : (flights : ℕ → Option disk.Flight) (die : ℕ) (pins : List Pin) → ReadsKept flights pins →
    ReadsKept (at_die flights die None) pins
reads_over flights die pins h e tag index place is = ⊎_elim
    (λ k. absurd (none_some (disk.Reading (ForTask tag index) place) (sym k.1 ∙ is)))
    (λ k. h e tag index place (sym k.1 ∙ is))
    (at_die_cases flights die None e)

pub step_reads_over : (flights : ℕ → Option disk.Flight) (die : ℕ) (step : Option Step) → StepReadsKept flights step →
    StepReadsKept (at_die flights die None) step
step_reads_over flights die step h e place is = ⊎_elim
    (λ k. absurd (none_some (disk.Reading ForStep place) (sym k.1 ∙ is)))
    (λ k. h e place (sym k.1 ∙ is))
    (at_die_cases flights die None e)
