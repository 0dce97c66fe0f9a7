-- Rests stay laid over their pages along every move but the accepting of a group.
use Rattle.power_loss.proofs.Common.{Bool, Cell, CellCrash, Cells, CopyStep, Ending, Erasing, Fence, Flight, Flights}
use Rattle.power_loss.proofs.Common.{ForNobody, ForRest, ForStep, ForTask, GroupPage, List, Mark, MarkPage, MarkStep}
use Rattle.power_loss.proofs.Common.{MayEnd, MayTake, Name, None, Nothing, Option, Order, OrderCopy, OrderMark}
use Rattle.power_loss.proofs.Common.{OrderPlanMark, OrderRepair, Place, Plan, Programming, ReadRight, ReadWrong, Reader}
use Rattle.power_loss.proofs.Common.{Reading, Rest, Some, Spot, Step, Tag, Translation, Valid, WentWell, WentWrong, ap}
use Rattle.power_loss.proofs.Common.{at_die, at_die_is, at_place, book, die_idle, end_flight, false, false≢true}
use Rattle.power_loss.proofs.Common.{flight_alone, freed, has_mark_number, if◌then◌else◌, inl, is_kind_of, is_mended}
use Rattle.power_loss.proofs.Common.{is_rest_of, mark_ordered, name_cases, name_of, name_self, none-some, ordered}
use Rattle.power_loss.proofs.Common.{page_not_nothing, program_failed, program_unread, programmed, read_right}
use Rattle.power_loss.proofs.Common.{read_wrong, refl, same_Some, same_name, step_after, step_there, subst, sym, taken}
use Rattle.power_loss.proofs.Common.{true, turned, with_plan, without_reader, ℕ, ⊎_elim, ◌+◌, ◌∙◌, ◌∷◌, ◌≡◌, ◌⊎◌}
use Rattle.ufs_spec.specs.Translation.{copy_begun}
use Rattle.ufs_laws.proofs.walk.LayerEffects.{IsDue, order_due, turned_if}
use Rattle.power_loss.proofs.moves.MovesKeepValid.{planned}
use Rattle.power_loss.proofs.jobs.StandsSecurely.{erase_left, program_left}
use Rattle.power_loss.proofs.jobs.ProgramFailed.{program_blank}
use Rattle.ufs_spec.specs.Moves.{mark_written, page_written}
use Rattle.power_loss.proofs.books.LayerParts.{SourceOf, NeededOf}
use Rattle.power_loss.proofs.collected_blocks.FewestLivePages.{in_any}
use Rattle.power_loss.proofs.jobs.ReadsAndTasks.{idle_fewer}
use Rattle.power_loss.proofs.jobs_owed.OneDieForEachJob.{given}
use Rattle.power_loss.proofs.kept_pages.PagesStay.{StayThere, stay_erased, stay_failed, stay_unerased, stay_written}
use Rattle.power_loss.proofs.ordered_lists.ElementsAndOrders.{all_in, contained_in}
use Rattle.power_loss.specs.OwedJobs.{IsFirstProgram, IsStepsPage}
use Rattle.power_loss.specs.LaidRests.{RestsLaid, RestsLaidOf}
use Rattle.power_loss.proofs.laid_rests.LaidStay.{PagesSame, StayUnflown, StayUnstepped, laid_read, laid_stands}
use Rattle.power_loss.proofs.laid_rests.LaidStay.{laid_stays, none_laid}
use Rattle.power_loss.proofs.jobs.MarkEnded.{behind_unmended}

-- What stays

pub pages_by : {t : Translation} {after : Cells} {ended : Place → Bool} {erasing : Spot → Bool} → Valid t →
    StayThere t.disk.cells t.disk.finished t.disk.erasing after ended erasing →
    PagesSame t.disk.cells after t.work.rests
pages_by {t} v stay rest place there e =
    let all : SourceOf t rest.source = all_in (λ (r : Rest). SourceOf t r.source) rest t.work.rests v.rests.each
    (contained_in t.work.rests there) in
    let page = (subst (SourceOf t) e all).1 in
    (stay place (page_not_nothing (t.disk.cells place) page.tag page.body page.there) page.ended page.stays).there

idle_unflown : (f : Flights) (die : ℕ) (rests : List Rest) → StayUnflown f (at_die f die None) rests
idle_unflown f die rests rest there none other p tag body e =
    none other p tag body ((idle_fewer {f = f} die).programs other p (GroupPage tag body) e)

same_steps : (step : Option Step) (rests : List Rest) → StayUnstepped step step rests
same_steps step rests rest there none = none

-- Jobs that begin

read_begun : (f : Flights) (die : ℕ) (reader : Reader) (place : Place) (rests : List Rest) →
    StayUnflown f (at_die f die (Some (Reading reader place))) rests
read_begun f die reader place rests rest there none other p tag body e =
    ⊎_elim (λ k. absurd (no k.1)) (λ k. none other p tag body k.1)
    (at_die_is f die (Some (Reading reader place)) other (Some (Programming p (GroupPage tag body))) e)
  where
    no : Some (Reading reader place) ≡ Some (Programming p (GroupPage tag body)) → ⊥
    no h = cc

erase_begun : (f : Flights) (die : ℕ) (s : Spot) (rests : List Rest) →
    StayUnflown f (at_die f die (Some (Erasing s))) rests
erase_begun f die s rests rest there none other p tag body e =
    ⊎_elim (λ k. absurd (no k.1)) (λ k. none other p tag body k.1)
    (at_die_is f die (Some (Erasing s)) other (Some (Programming p (GroupPage tag body))) e)
  where
    no : Some (Erasing s) ≡ Some (Programming p (GroupPage tag body)) → ⊥
    no h = cc

program_begun : (t : Translation) (die : ℕ) (place : Place) (cell : Cell) → RestsLaid t →
    MayTake t die (Some (Programming place cell)) →
    StayUnflown t.disk.flights (at_die t.disk.flights die (Some (Programming place cell))) t.work.rests
program_begun t die place cell h may rest there none other p tag body e =
    λ is. ⊎_elim (λ k. new (same k.1) is) (λ k. none other p tag body k.1 is)
    (at_die_is t.disk.flights die (Some (Programming place cell)) other (Some (Programming p (GroupPage tag body))) e)
  where
    same : Some (Programming place cell) ≡ Some (Programming p (GroupPage tag body)) → cell ≡ GroupPage tag body
    same k = cc

    new : cell ≡ GroupPage tag body → name_of tag ≡ rest.name → ⊥
    new k is = ⊎_elim
        (λ (first : IsFirstProgram t (name_of tag)).
        false≢true (sym first.there ∙ in_any (is_rest_of (name_of tag)) rest t.work.rests
        (contained_in t.work.rests there)
        (ap (λ (n : Name). same_name n (name_of tag)) (sym is) ∙ name_self (name_of tag))))
        (λ (steps : IsStepsPage t (name_of tag)).
        false≢true (sym ((h.each rest there).unstepped steps.step steps.under_way)
        ∙ (ap (λ (n : Name). is_kind_of n steps.step.kind) (sym is) ∙ steps.page)))
        (given t die place tag body (subst (λ (c : Cell). MayTake t die (Some (Programming place c))) k may))

pub job_begins : (t : Translation) (die : ℕ) (flight : Flight) → MayTake t die (Some flight) → RestsLaid t →
    RestsLaid (taken t die flight)
job_begins t die (Reading reader place) may h =
    laid_stays (λ e. e) (read_begun t.disk.flights die reader place t.work.rests)
    (same_steps t.work.step t.work.rests) (λ rest p there e. refl) h
job_begins t die (Erasing s) may h =
    laid_stays (λ e. e) (erase_begun t.disk.flights die s t.work.rests) (same_steps t.work.step t.work.rests)
    (λ rest p there e. refl) h
job_begins t die (Programming place cell) may h =
    laid_stays (λ e. e) (program_begun t die place cell h may) (same_steps t.work.step t.work.rests)
    (λ rest p there e. refl) h

pub lets_go : (t : Translation) (reads : Reader → Bool) → RestsLaid t →
    RestsLaidOf (book t) (is_mended t.work.mending) t.ledger.standing
    (λ die. without_reader reads (t.disk.flights die)) t.work.step t.disk.cells t.work.rests
lets_go t reads h =
    laid_stays (λ e. e)
    (λ rest there none die p tag body e. none die p tag body
    (program_unread reads (t.disk.flights die) p (GroupPage tag body) e)) (same_steps t.work.step t.work.rests)
    (λ rest p there e. refl) h

-- Jobs that end

-- a step that is over or that is a mark copies and repairs no page
none_stepped : (step : Option Step) (rests : List Rest) → StayUnstepped step None rests
none_stepped step rests rest there none s e = absurd (none-some s e)

mark_stepped : (step : Option Step) (number : ℕ) (fence : Option Fence) (b : Bool) (rests : List Rest) →
    StayUnstepped step (Some (record { kind = MarkStep number fence; there = b })) rests
mark_stepped step number fence b rests rest there none s e =
    ap (λ (x : Step). is_kind_of rest.name x.kind)
    (sym (same_Some (record { kind = MarkStep number fence; there = b }) s e))

after_stepped : (name : Name) (step : Option Step) (rests : List Rest) → StayUnstepped step (step_after name step) rests
after_stepped name None rests rest there none s e = absurd (none-some s e)
after_stepped name (Some step) rests rest there none s e = by (is_kind_of name step.kind) e
  where
    by : (b : Bool) → (if b then None else Some step) ≡ Some s → is_kind_of rest.name s.kind ≡ false
    by true k = absurd (none-some s k)
    by false k = none s k

there_stepped : (step : Option Step) (rests : List Rest) → StayUnstepped step (step_there step) rests
there_stepped None rests rest there none s e = absurd (none-some s e)
there_stepped (Some step) rests rest there none s e =
    ap (λ (x : Step). is_kind_of rest.name x.kind) (sym (same_Some (record step { there = true }) s e))
    ∙ none step refl

-- what ended changes no page that a rest is read from
ended_alone : (t : Translation) (die : ℕ) {after : Cells} → PagesSame t.disk.cells after t.work.rests → RestsLaid t →
    RestsLaidOf (book t) (is_mended t.work.mending) t.ledger.standing (at_die t.disk.flights die None) t.work.step after
    t.work.rests
ended_alone t die pages h = laid_stays (λ e. e) (idle_unflown t.disk.flights die t.work.rests)
    (same_steps t.work.step t.work.rests) pages h

read_ends : (t : Translation) (die : ℕ) (reader : Reader) → RestsLaid t → RestsLaid (read_right (die_idle t die) reader)
read_ends t die ForNobody h = ended_alone t die (λ rest p there e. refl) h
read_ends t die (ForTask tag index) h = ended_alone t die (λ rest p there e. refl) h
read_ends t die ForStep h = laid_stays (λ e. e) (idle_unflown t.disk.flights die t.work.rests)
    (there_stepped t.work.step t.work.rests) (λ rest p there e. refl) h
read_ends t die (ForRest number index) h =
    laid_read (record { number = number; index = index }) (ended_alone t die (λ rest p there e. refl) h)

wrong_ends : (t : Translation) (die : ℕ) (reader : Reader) → RestsLaid t →
    RestsLaid (read_wrong (die_idle t die) reader)
wrong_ends t die (ForTask tag index) h = ended_alone t die (λ rest p there e. refl) h
wrong_ends t die ForStep h = ended_alone t die (λ rest p there e. refl) h
wrong_ends t die (ForRest number index) h = ended_alone t die (λ rest p there e. refl) h
wrong_ends t die ForNobody h = ended_alone t die (λ rest p there e. refl) h

written : {t : Translation} (die : ℕ) (p : Place) (cell : Cell) → Valid t →
    t.disk.flights die ≡ Some (Programming p cell) → PagesSame t.disk.cells (at_place t.disk.cells p cell) t.work.rests
written {t} die p cell v e = pages_by v
    (stay_written t.disk.cells t.disk.finished t.disk.erasing p cell
    (program_blank v (v.flights.programs die p cell e)))

page_ends : (t : Translation) (die : ℕ) (p : Place) (tag : Tag) (body : List ℕ) → Valid t →
    t.disk.flights die ≡ Some (Programming p (GroupPage tag body)) → RestsLaid t →
    RestsLaid (page_written t p tag body)
page_ends t die p tag body v e h =
    laid_stands (name_of tag) p (λ rest there is. (h.each rest there).unflown die p tag body e (sym is))
    (laid_stays (λ x. x) (idle_unflown t.disk.flights p.die t.work.rests)
    (after_stepped (name_of tag) t.work.step t.work.rests) (written die p (GroupPage tag body) v e) h)

mark_ends : (t : Translation) (die : ℕ) (p : Place) (m : Mark) → Valid t →
    t.disk.flights die ≡ Some (Programming p (MarkPage m)) → RestsLaid t → (plan : Option Plan) →
    RestsLaid (record (mark_written t p m) { disk = freed (programmed t.numbers.pages t.disk p (MarkPage m)) plan })
mark_ends t die p m v e h None =
    laid_stays (behind_unmended t.work.mending) (idle_unflown t.disk.flights p.die t.work.rests)
    (none_stepped t.work.step t.work.rests) (written die p (MarkPage m) v e) h
mark_ends t die p m v e h (Some plan) =
    laid_stays (behind_unmended t.work.mending) (idle_unflown t.disk.flights p.die t.work.rests)
    (none_stepped t.work.step t.work.rests) (written die p (MarkPage m) v e) h

failed : {t : Translation} (die : ℕ) (p : Place) (cell : Cell) (left : Cells) → Valid t →
    t.disk.flights die ≡ Some (Programming p cell) → CellCrash t.disk.cells (flight_alone t.disk.flights die) left →
    PagesSame t.disk.cells left t.work.rests
failed {t} die p cell left v e crash = pages_by v
    (stay_failed t.disk.cells left t.disk.finished t.disk.erasing p (λ q. (left q ≡ cell) ⊎ (left q ≡ Nothing))
    (program_blank v (v.flights.programs die p cell e)) (program_left t.disk die left e crash))

-- in place of a failed mark the next one waits, or none
mark_fails : (t : Translation) (die : ℕ) (p : Place) (m : Mark) (left : Cells) →
    PagesSame t.disk.cells left t.work.rests → RestsLaid t → (b : Bool) →
    RestsLaid
    (if b then mark_ordered (record t { disk = program_failed t.disk p left }) m.fence
    else record t { disk = program_failed t.disk p left; work = record t.work { step = None } })
mark_fails t die p m left pages h true =
    laid_stays (λ x. x) (idle_unflown t.disk.flights p.die t.work.rests)
    (mark_stepped t.work.step (t.ledger.marks + 1) m.fence true t.work.rests) pages h
mark_fails t die p m left pages h false =
    laid_stays (λ x. x) (idle_unflown t.disk.flights p.die t.work.rests)
    (none_stepped t.work.step t.work.rests) pages h

pub job_ends : (t : Translation) (die : ℕ) (flight : Option Flight) (ending : Ending) → Valid t →
    t.disk.flights die ≡ flight → MayEnd t.disk die flight ending → RestsLaid t →
    RestsLaid (end_flight t die flight ending)
job_ends t die None ending v e may h = h
job_ends t die (Some (Reading reader place)) ReadRight v e may h = read_ends t die reader h
job_ends t die (Some (Reading reader place)) ReadWrong v e may h = wrong_ends t die reader h
job_ends t die (Some (Programming p Nothing)) ending v e may h = absurd (v.flights.something die p e)
job_ends t die (Some (Programming p (GroupPage tag body))) WentWell v e may h = page_ends t die p tag body v e h
job_ends t die (Some (Programming p (GroupPage tag body))) (WentWrong left) v e may h =
    ended_alone t p.die (failed die p (GroupPage tag body) left v e may.1) h
job_ends t die (Some (Programming p (MarkPage m))) WentWell v e may h = mark_ends t die p m v e h t.work.plan
job_ends t die (Some (Programming p (MarkPage m))) (WentWrong left) v e may h =
    mark_fails t die p m left (failed die p (MarkPage m) left v e may.1) h (has_mark_number t)
job_ends t die (Some (Erasing s)) WentWell v e may h =
    ended_alone t s.die (pages_by v (stay_erased t.disk s (v.flights.erases die s e).counted)) h
job_ends t die (Some (Erasing s)) (WentWrong left) v e may h =
    ended_alone t s.die
    (pages_by v (stay_unerased t.disk.cells left t.disk.finished t.disk.erasing s (λ q. left q ≡ Nothing)
    (v.flights.erases die s e).counted (erase_left t.disk die left e may.1))) h
job_ends t die flight ending v e may h = absurd (false≢true may.0)

-- Steps

-- a page that is copied stands, so no rest is of it
copy_ordered : (t : Translation) (s : Spot) (p : Place) (left : List Place) (cell : Cell) → t.disk.cells p ≡ cell →
    Valid (with_plan t s (p ∷ left)) → RestsLaid t → RestsLaid (copy_begun (with_plan t s left) p cell)
copy_ordered t s p left Nothing is v h = h
copy_ordered t s p left (MarkPage m) is v h = h
copy_ordered t s p left (GroupPage tag body) is v h =
    laid_stays (λ x. x) (λ rest there none. none) unstepped (λ rest q there e. refl) h
  where
    needed : NeededOf t p
    needed = all_in (NeededOf t) p (p ∷ left)
        (v.to_read.copied (record { victim = s; copies = p ∷ left }) refl) (inl refl)

    stands : (q : Place) × (t.ledger.standing tag.number tag.index ≡ Some q)
    stands = v.pages.stands p tag body is needed.page.ended

    unstepped : StayUnstepped t.work.step (Some (record { kind = CopyStep (name_of tag) p; there = false }))
        t.work.rests
    unstepped rest there none x e =
        ap (λ (y : Step). is_kind_of rest.name y.kind)
        (sym (same_Some (record { kind = CopyStep (name_of tag) p; there = false }) x e))
        ∙ ⊎_elim
        (λ k. absurd (none-some stands.0
        (sym (h.each rest there).nowhere
        ∙ (ap (λ (n : Name). t.ledger.standing n.number n.index) k.1 ∙ stands.1))))
        (λ k. k.0) (name_cases rest.name (name_of tag))

orders : (t : Translation) (o : Order) → Valid t → (t.work.step ≡ None) × IsDue t o → RestsLaid t →
    RestsLaid (ordered t o)
orders t (OrderMark fence) v (none, due) h =
    laid_stays (λ x. x) (λ rest there n. n) (mark_stepped t.work.step (t.ledger.marks + 1) fence true t.work.rests)
    (λ rest p there e. refl) h
orders t (OrderRepair k left) v (none, (number, is)) h = none_laid (h.unmended (ap is_mended is))
orders t (OrderCopy s p left) v (none, (mended, is)) h =
    copy_ordered t s p left (t.disk.cells p) refl (planned s (p ∷ left) v none mended is) h
orders t (OrderPlanMark s) v (none, due) h =
    laid_stays (λ x. x) (λ rest there n. n) (mark_stepped t.work.step (t.ledger.marks + 1) None true t.work.rests)
    (λ rest p there e. refl) h

pub laid_turns : (t : Translation) → Valid t → RestsLaid t → RestsLaid (turned t)
laid_turns t v h = turned_if RestsLaid t (λ none. h) (λ o due. orders t o v (order_due t o due) h)
