-- The end of a job leaves the pages that wait for their rests, unless it is a read that brings one: no page that is
-- written, copied or durable waits.
use Rattle.ftl_core.proofs.Common.{Bool, Cell, Collection, Contains, Core, Describes, DieRow, EndJob, Ending, Flight}
use Rattle.ftl_core.proofs.Common.{ForNobody, ForStep, ForTask, GroupPage, IsEndingOf, IsFlightAfter, IsIn, IsReadAfter}
use Rattle.ftl_core.proofs.Common.{IsRowAfter, IsStepCell, Key, List, MayEnd, Name, None, OpenBlock, Option, Outcome}
use Rattle.ftl_core.proofs.Common.{Pending, Place, RestsKept, Some, Step, StepKept, Stored, Tag, Translation, []}
use Rattle.ftl_core.proofs.Common.{and_parts, ap, at_has, cases_Bool, change_after, change_ended, copy_durable}
use Rattle.ftl_core.proofs.Common.{copy_over, copy_pending, end_flight, ending, eqb-true, false, false≢true, has_at}
use Rattle.ftl_core.proofs.Common.{if◌then◌else◌, in_contained, inl, inr, is_named, is_read, kept_in, length, mark_over}
use Rattle.ftl_core.proofs.Common.{moved, name_at, name_of, name_self, nat_le, next_place, noted, own_name}
use Rattle.ftl_core.proofs.Common.{page_written, pending_written, plan_freed, position, position_told, refl}
use Rattle.ftl_core.proofs.Common.{repair_over, repairs_in, same_name, settled, slice_get, spot_at, step_over}
use Rattle.ftl_core.proofs.Common.{stored_of, subst, sym, true, waiting, waits, with_content, written_at, written_if, ℕ}
use Rattle.ftl_core.proofs.Common.{⊎_elim, ◌==◌, ◌∙◌, ◌∷◌, ◌≡◌}
use Rattle.std.proofs.Common.{find}
use Rattle.ufs_spec.specs.Disk as disk
use Rattle.ufs_spec.specs.Moves.{is_kind_of}
use Rattle.ufs_spec.specs.Translation as layer
use Rattle.block_table.specs.declared.rows.Flight.TheVariants as flight
use Rattle.write_cache.specs.Slots.{page_written as page_at_written}
use Rattle.ftl_core.specs.declared.books.Step.TheVariants as steps
use Rattle.ftl_core.proofs.job_ended.RestsRead.{rest_read_ends}
use Rattle.ftl_core.proofs.job_taken.FlightKinds.{flight_cases}
use Rattle.ftl_core.proofs.job_taken.NextStarts.{outside}
use Rattle.ftl_core.proofs.live_pages.SameLive.{Facts, again_same, written_same}
use Rattle.ftl_core.proofs.pages.NamesBehind.{name_is}
use Rattle.ftl_core.proofs.rests_owed.RestsNamed.{held_at, waits_rest}
use Rattle.ftl_core.proofs.rests_owed.RestsStay.{IsNoRestOf, ends_rests, rest_there}
use Rattle.ftl_core.proofs.rests_owed.WaitingSame.{AreWhole, settled_waits, written_waits, written_whole}

-- Which pages wait

-- a pending page that waits has a rest of its name in the layer
rest_of_page : (c : Core) (t : Translation) → Describes c t → (p : Pending) → IsIn p c.pages → waits p ≡ true →
    (rest : layer.Rest) × Contains t.work.rests rest × (rest.name ≡ own_name p)
rest_of_page c t h p here is =
    let r = waits_rest p is in
    let there = rest_there t (waiting c.pages) h.rests p r.0
    (in_contained (waiting c.pages) (kept_in waits p c.pages here is)) r.1 in
    (_, there, refl)

-- it is written nowhere
waits_unwritten : (c : Core) (t : Translation) → Describes c t → (p : Pending) → IsIn p c.pages → waits p ≡ true →
    p.written ≡ None
waits_unwritten c t h p here is =
    let r = rest_of_page c t h p here is in
    let at = has_at c.pages p here in
    sym (held_at c t h at.0 p at.1).stands
    ∙ ap (λ (n : Name). t.ledger.standing n.number n.index) (sym r.2)
    ∙ (h.rests.laid.each r.0 r.1).nowhere

all_whole : (ps : List Pending) → ((p : Pending) → IsIn p ps → waits p ≡ true → p.written ≡ None) → AreWhole ps
all_whole [] each = tt
all_whole (p ∷ ps) each = (each p (inl refl), all_whole ps (λ q there. each q (inr there)))

pub are_whole : (c : Core) (t : Translation) → Describes c t → AreWhole c.pages
are_whole c t h = all_whole c.pages (waits_unwritten c t h)

-- no rest is of the name
abbrev IsNotOwed : Translation → Name → Type 0
IsNotOwed t name = (rest : layer.Rest) → Contains t.work.rests rest → rest.name ≡ name → ⊥

-- so its page may be written: those that wait stay
record StaysWaiting (ps now : List Pending) : Type 0 where
  pub same : waiting now ≡ waiting ps
  pub whole : AreWhole now

page_waits_not : (c : Core) (t : Translation) → Describes c t → (number index : ℕ) (k : ℕ) (p : Pending) →
    IsNotOwed t (name_at number index) → slice_get c.pages k ≡ Some p → is_named number index p ≡ true →
    waits p ≡ false
page_waits_not c t h number index k p none at named =
    ⊎_elim
    (λ is.
    let r = rest_of_page c t h p (at_has c.pages k p at) is in
    let e = and_parts (p.number == number) (p.index == index) named in
    absurd (none r.0 r.1
    (r.2 ∙ name_is (own_name p) (eqb-true p.number number e.0) (eqb-true p.index index e.1))))
    (λ no. no)
    (cases_Bool (waits p))

page_stays : (c : Core) (t : Translation) → Describes c t → (number index : ℕ) (place : Place) →
    IsNotOwed t (name_at number index) → StaysWaiting c.pages (page_at_written c.pages number index place)
page_stays c t h number index place none = by (position (is_named number index) c.pages) refl
  where
    as_it_was : StaysWaiting c.pages c.pages
    as_it_was = record { same = refl; whole = are_whole c t h }

    by : (o : Option ℕ) → position (is_named number index) c.pages ≡ o →
        StaysWaiting c.pages (written_if c.pages place o)
    by None e = as_it_was
    by (Some k) e =
        let r = position_told (is_named number index) c.pages k e in
        let not = page_waits_not c t h number index k r.0 none r.1 r.2 in
        subst (λ (o : Option Pending). StaysWaiting c.pages (written_at c.pages k place o)) (sym r.1)
        (record {
          same = written_waits c.pages k r.0 place r.1 not;
          whole = written_whole c.pages k r.0 place r.1 not (are_whole c t h);
        })

-- what is settled behind a page that is written
settled_stays : (c now : Core) (die : ℕ) (b : DieRow) → StaysWaiting c.pages now.pages →
    waiting (settled (page_written now die b b.filling)).pages ≡ waiting c.pages
settled_stays c now die b h =
    let pages : (page_written now die b b.filling).pages ≡ now.pages =
    ap (λ (f : Facts). f.3) (written_same now die b b.filling) in
    settled_waits (length (page_written now die b b.filling).pages) (page_written now die b b.filling)
    (subst AreWhole (sym pages) h.whole)
    ∙ ap waiting pages ∙ h.same

-- Steps

durable_pages : (c : Core) (n : ℕ) (k : Key) (p : Place) (o : Option Stored) → (copy_durable c n k p o).pages ≡ c.pages
durable_pages c n k p None = refl
durable_pages c n k p (Some s) = by (s.name.number == n)
  where
    by : (b : Bool) → (if b then noted c k (record s { place = p }) else c).pages ≡ c.pages
    by true = refl
    by false = refl

copy_stays : (c : Core) (t : Translation) → Describes c t → (n i : ℕ) (k : Key) (p : Place) →
    IsNotOwed t (name_at n i) → StaysWaiting c.pages (copy_over c n k i p).pages
copy_stays c t h n i k p none = by (nat_le n c.frontier)
  where
    begun : Core
    begun = record c { step = None }

    pending : (o : Option Pending) → StaysWaiting c.pages (copy_pending begun n i p o).pages
    pending None = record { same = refl; whole = are_whole c t h }
    pending (Some q) = page_stays c t h n i p none

    by : (b : Bool) → StaysWaiting c.pages (if b then copy_durable begun n k p (stored_of begun k)
        else copy_pending begun n i p (find (is_named n i) begun.pages)).pages
    by true = subst (StaysWaiting c.pages) (sym (durable_pages begun n k p (stored_of begun k)))
        (record { same = refl; whole = are_whole c t h })
    by false = pending (find (is_named n i) begun.pages)

freed_pages : (c : Core) (o : Option Collection) → (plan_freed c o).pages ≡ c.pages
freed_pages c None = refl
freed_pages c (Some p) = refl

module _ (c : Core) (t : Translation) (die : ℕ) (b : DieRow) (h : Describes c t) where
  -- the page that is copied does not wait
  copied_not_owed : (n : ℕ) (k : Key) (from : Place) (read : Tag) → c.step ≡ Some (steps.Copy n k from (Some read)) →
      IsNotOwed t (name_at n read.index)
  copied_not_owed n k from read is rest there same =
      by t.work.step refl (subst (λ (s : Option Step). StepKept t.ledger s c.content t.work.step) is
      h.kept.work.step_is)
    where
      by : (w : Option layer.Step) → t.work.step ≡ w →
          StepKept t.ledger (Some (steps.Copy n k from (Some read))) c.content w → ⊥
      by None e copy = copy
      by (Some s) e copy =
          let own : rest.name ≡ copy.0 =
          same ∙ sym (name_is copy.0 copy.2.number_is
          (ap (λ (g : Tag). g.index) ((copy.2.copied read refl).tag_is 0))) in
          false≢true
          (sym ((h.rests.laid.each rest there).unstepped s e)
          ∙ ap (λ (x : layer.Step). is_kind_of rest.name x.kind) copy.1
          ∙ ap (λ (m : Name). same_name rest.name m) (sym own)
          ∙ name_self rest.name)

  step_stays : (step : Option Step) (cell : Cell) (place : Place) → c.step ≡ step → IsStepCell step cell →
      waiting (step_over c step die b place).pages ≡ waiting c.pages
  step_stays None cell place is page = absurd page
  step_stays (Some (steps.Mark n fence)) cell place is page =
      let marked = page_written (mark_over c) die b b.filling in
      ap waiting (freed_pages marked marked.plan ∙ ap (λ (f : Facts). f.3) (written_same (mark_over c) die b b.filling))
  step_stays (Some (steps.Repair n k from there)) cell place is page =
      ap waiting (ap (λ (f : Facts). f.3) (written_same (repair_over c k place) die b b.filling))
  step_stays (Some (steps.Copy n k from (Some read))) cell place is page =
      settled_stays c (copy_over c n k read.index place) die b
      (copy_stays c t h n read.index k place (copied_not_owed n k from read is))
  step_stays (Some (steps.Copy n k from None)) cell place is page = absurd page

-- Any job

module _ (c : Core) (t : Translation) (die : ℕ) (o : Outcome) (tag : Option Tag) (e : Ending) (b : DieRow)
    (after : Core) (h : Describes c t) (there : slice_get c.rows die ≡ Some b) where
  Goal : Option Flight → Option disk.Flight → Type 0
  Goal f g = t.disk.flights die ≡ g → IsEndingOf t.disk.cells g o e → MayEnd t.disk die g e →
      IsFlightAfter c die b f o tag after → RestsKept (end_flight t die g e) (waiting after.pages)

  -- where the same pages wait
  quiet : (g : Option disk.Flight) → t.disk.flights die ≡ g → MayEnd t.disk die g e → IsNoRestOf g e →
      waiting after.pages ≡ waiting c.pages → RestsKept (end_flight t die g e) (waiting after.pages)
  quiet g flies may none same = subst (RestsKept (end_flight t die g e)) (sym same)
      (ends_rests t (waiting c.pages) die e g h.valid h.rests flies may none)

  -- a read that is for no rest changes no page
  content_pages : (d : Core) (found : Option Tag) (body : Option (List ℕ)) → (with_content d found body).pages ≡ d.pages
  content_pages d found None = refl
  content_pages d found (Some body) = refl

  task_pages : (known : Bool) (r i : ℕ) → IsReadAfter known c die b o tag (ForTask r i) after → after.pages ≡ c.pages
  task_pages false r i new = ap (λ (z : Core). z.pages) new
  task_pages true r i new = ap (λ (z : Core). z.pages) new

  step_pages : (known : Bool) → IsReadAfter known c die b o tag ForStep after → after.pages ≡ c.pages
  step_pages false new = ap (λ (z : Core). z.pages) new
  step_pages true new = ap (λ (z : Core). z.pages) new.2 ∙ content_pages _ tag new.0

  lost_pages : (known : Bool) → IsReadAfter known c die b o tag ForNobody after → after.pages ≡ c.pages
  lost_pages false new = ap (λ (z : Core). z.pages) new
  lost_pages true new = ap (λ (z : Core). z.pages) new

  -- a program or an erase
  changed : (f : Flight) → after ≡ change_after c die b f (ending o) →
      ((well : Bool) → waiting (change_ended c die b f well).pages ≡ waiting c.pages) →
      waiting after.pages ≡ waiting c.pages
  changed f new each = ap (λ (z : Core). waiting z.pages) new ∙ by (ending o)
    where
      by : (x : Option Bool) → waiting (change_after c die b f x).pages ≡ waiting c.pages
      by None = refl
      by (Some well) = each well

  rests_then : Goal b.flight (t.disk.flights die)
  unfolding Goal
  rests_then =
      flight_cases t.numbers c.step die b.filling Goal
      (λ flies is may new. quiet None flies may tt (ap (λ (z : Core). waiting z.pages) new))
      (λ place r i flies is may new. quiet (Some (disk.Reading (ForTask r i) place)) flies may tt
      (ap waiting (task_pages (is_read o) r i new)))
      (λ place flies is may new. quiet (Some (disk.Reading ForStep place)) flies may tt
      (ap waiting (step_pages (is_read o) new)))
      (λ place flies is may new. quiet (Some (disk.Reading ForNobody place)) flies may tt
      (ap waiting (lost_pages (is_read o) new)))
      (λ place n i flies is may new. (rest_read_ends c t die n i b place h there flies o tag e after is may new).rests)
      steps_end groups_end
      (λ block within flies is may new. quiet (Some (disk.Erasing (spot_at die block))) flies may tt
      (changed (flight.Erase block) new (erased_pages block)))
      b.flight (t.disk.flights die) (h.kept.dies.each die b there).job
    where
      erased_pages : (block : ℕ) (well : Bool) →
          waiting (change_ended c die b (flight.Erase block) well).pages ≡ waiting c.pages
      erased_pages block true = refl
      erased_pages block false = refl

      steps_end : (filled : OpenBlock) (cell : Cell) → b.filling ≡ Some filled → IsStepCell c.step cell →
          Goal (Some (flight.Step (next_place die filled))) (Some (disk.Programming (next_place die filled) cell))
      steps_end filled cell fills page flies is may new =
          quiet (Some (disk.Programming (next_place die filled) cell)) flies may tt
          (changed (flight.Step (next_place die filled)) new by)
        where
          by : (well : Bool) →
              waiting (change_ended c die b (flight.Step (next_place die filled)) well).pages ≡ waiting c.pages
          by true = step_stays c t die b h c.step cell (next_place die filled) refl page
          by false = ap waiting (ap (λ (f : Facts). f.3) (again_same c c.step))

      groups_end : (filled : OpenBlock) (u : Tag) (body : List ℕ) → b.filling ≡ Some filled →
          repairs_in c.step ≡ 0 →
          Goal (Some (flight.Group (next_place die filled) u.number u.index))
          (Some (disk.Programming (next_place die filled) (GroupPage u body)))
      groups_end filled u body fills no_repair flies is may new =
          quiet (Some (disk.Programming (next_place die filled) (GroupPage u body))) flies may tt
          (changed (flight.Group (next_place die filled) u.number u.index) new by)
        where
          not_owed : IsNotOwed t (name_of u)
          not_owed rest inside same =
              (h.rests.laid.each rest inside).unflown die (next_place die filled) u body flies (sym same)

          by : (well : Bool) →
              waiting (change_ended c die b (flight.Group (next_place die filled) u.number u.index) well).pages
              ≡ waiting c.pages
          by true = settled_stays c (pending_written c u.number u.index (next_place die filled)) die b
              (page_stays c t h u.number u.index (next_place die filled) not_owed)
          by false = refl

-- the rests of the layer are those of the pages that wait then
pub rests_of : (c : Core) (t : Translation) (die : ℕ) (o : Outcome) (tag : Option Tag) (ending : Ending)
    (book : Option DieRow) (after : Core) → Describes c t → slice_get c.rows die ≡ book →
    IsEndingOf t.disk.cells (t.disk.flights die) o ending → MayEnd t.disk die (t.disk.flights die) ending →
    IsRowAfter c die book o tag after → RestsKept (moved t (EndJob die ending)) (waiting after.pages)
unfolding Goal
rests_of c t die o tag ending None after h there is may new =
    absurd (false≢true (subst (λ (g : Option disk.Flight). IsEndingOf t.disk.cells g o ending)
    (h.kept.dies.no_more die (outside c t die h.kept there)) is).0)
rests_of c t die o tag ending (Some b) after h there is may new =
    rests_then c t die o tag ending b after h there refl is may new
