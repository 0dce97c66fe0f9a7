-- Which pages are live once a die's job ended.
use Rattle.ftl_core.proofs.Common.{Bool, Cell, Collection, Core, Describes, DieRow, Flight, ForNobody, ForRest, ForStep}
use Rattle.ftl_core.proofs.Common.{ForTask, GroupPage, IsFlightAfter, IsRowAfter, IsStepCell, List, None, OpenBlock}
use Rattle.ftl_core.proofs.Common.{Option, Outcome, Some, Step, Tag, Translation, ap, change_after, change_ended}
use Rattle.ftl_core.proofs.Common.{ending, false, false≢true, is_read, mark_over, next_place, page_written, plan_freed}
use Rattle.ftl_core.proofs.Common.{refl, repairs_in, slice_get, spot_at, step_over, subst, sym, true, ℕ, ◌<◌, ◌∙◌, ◌≡◌}
use Rattle.ufs_spec.specs.Disk as disk
use Rattle.block_table.specs.declared.rows.Flight.TheVariants as flight
use Rattle.ftl_core.specs.declared.books.Step.TheVariants as steps
use Rattle.ftl_core.specs.Ends.{step_failed}
use Rattle.ftl_core.proofs.job_ended.CopiesEnded.{copy_knows}
use Rattle.ftl_core.proofs.job_taken.FlightKinds.{flight_cases}
use Rattle.ftl_core.proofs.live_pages.ProgramsLive.{group_live, repair_live}
use Rattle.ftl_core.proofs.live_pages.SameLive.{Knows, again_same, facts, knows_on, read_known, written_same}

-- The step under way

-- the end of a collection names no page anew
freed_same : (c : Core) (o : Option Collection) → facts (plan_freed c o) ≡ facts c
freed_same c None = refl
freed_same c (Some p) = refl

module _ (c : Core) (t : Translation) (die : ℕ) (b : DieRow) (o : OpenBlock) (h : Describes c t) where
  step_well : (step : Option Step) (cell : Cell) → c.step ≡ step → IsStepCell step cell →
      t.disk.flights die ≡ Some (disk.Programming (next_place die o) cell) →
      slice_get c.rows die ≡ Some b → b.filling ≡ Some o →
      Knows (facts (step_over c step die b (next_place die o)))
  step_well None cell is page flies there fills = absurd page
  step_well (Some (steps.Mark n fence)) cell is page flies there fills =
      let marked = page_written (mark_over c) die b b.filling in
      subst Knows (sym (freed_same marked marked.plan ∙ written_same (mark_over c) die b b.filling)) h.live
  step_well (Some (steps.Repair n k from true)) (GroupPage tag body) is page flies there fills =
      repair_live c t die o tag body h flies b n k from is
      (subst (λ (z : Option Step). IsStepCell z (GroupPage tag body)) (sym is) page)
  step_well (Some (steps.Repair n k from false)) (GroupPage tag body) is page flies there fills =
      absurd (false≢true page.2)
  step_well (Some (steps.Repair n k from is_there)) cell is page flies there fills = absurd page
  step_well (Some (steps.Copy n k from (Some read))) (GroupPage tag body) is page flies there fills =
      copy_knows c t die b o tag body n k from read h there fills flies is
      (subst (λ (z : Option Step). IsStepCell z (GroupPage tag body)) (sym is) page)
  step_well (Some (steps.Copy n k from (Some read))) cell is page flies there fills = absurd page
  step_well (Some (steps.Copy n k from None)) cell is page flies there fills = absurd page

  step_wrong : Knows (facts (step_failed c die (next_place die o)))
  step_wrong = subst Knows (sym (again_same c c.step)) h.live

-- Any job

module _ (c : Core) (t : Translation) (die : ℕ) (o : Outcome) (tag : Option Tag) (b : DieRow) (after : Core)
    (h : Describes c t) (there : slice_get c.rows die ≡ Some b) where
  Goal : Option Flight → Option disk.Flight → Type 0
  Goal f g = b.flight ≡ f → t.disk.flights die ≡ g → IsFlightAfter c die b f o tag after → Knows (facts after)

  -- where what is known is of what the job's end makes of it
  changed : (f : Flight) → after ≡ change_after c die b f (ending o) →
      ((well : Bool) → Knows (facts (change_ended c die b f well))) → Knows (facts after)
  changed f new each = subst (λ (d : Core). Knows (facts d)) (sym new) (by (ending o))
    where
      by : (e : Option Bool) → Knows (facts (change_after c die b f e))
      by None = h.live
      by (Some well) = each well

  live_then : IsFlightAfter c die b b.flight o tag after → Knows (facts after)
  unfolding Goal
  live_then new =
      flight_cases t.numbers c.step die b.filling Goal
      (λ does flies new. knows_on c after (ap facts new) h.live)
      (λ place reader index does flies new.
      read_known (is_read o) c die b o tag (ForTask reader index) after new h.live)
      (λ place does flies new. read_known (is_read o) c die b o tag ForStep after new h.live)
      (λ place does flies new. read_known (is_read o) c die b o tag ForNobody after new h.live)
      (λ place number index does flies new.
      read_known (is_read o) c die b o tag (ForRest number index) after new h.live)
      steps_end groups_end erases_end
      b.flight (t.disk.flights die) (h.kept.dies.each die b there).job refl refl new
    where
      steps_end : (filled : OpenBlock) (cell : Cell) → b.filling ≡ Some filled → IsStepCell c.step cell →
          Goal (Some (flight.Step (next_place die filled))) (Some (disk.Programming (next_place die filled) cell))
      steps_end filled cell fills page does flies new = changed (flight.Step (next_place die filled)) new by
        where
          by : (well : Bool) → Knows (facts (change_ended c die b (flight.Step (next_place die filled)) well))
          by true = step_well c t die b filled h c.step cell refl page flies there fills
          by false = step_wrong c t die b filled h

      groups_end : (filled : OpenBlock) (u : Tag) (body : List ℕ) → b.filling ≡ Some filled →
          repairs_in c.step ≡ 0 →
          Goal (Some (flight.Group (next_place die filled) u.number u.index))
          (Some (disk.Programming (next_place die filled) (GroupPage u body)))
      groups_end filled u body fills no_repair does flies new =
          changed (flight.Group (next_place die filled) u.number u.index) new by
        where
          by : (well : Bool) →
              Knows (facts (change_ended c die b (flight.Group (next_place die filled) u.number u.index) well))
          by true = group_live c t die filled u body h flies b
              (record { there = there; filling = fills; flies = flies; job = does; beside = no_repair })
          by false = h.live

      erases_end : (block : ℕ) → block < t.numbers.blocks →
          Goal (Some (flight.Erase block)) (Some (disk.Erasing (spot_at die block)))
      erases_end block within does flies new = changed (flight.Erase block) new by
        where
          by : (well : Bool) → Knows (facts (change_ended c die b (flight.Erase block) well))
          by true = h.live
          by false = h.live

pub live_of : (c : Core) (t : Translation) (die : ℕ) (o : Outcome) (tag : Option Tag) (book : Option DieRow)
    (after : Core) → Describes c t → slice_get c.rows die ≡ book → IsRowAfter c die book o tag after →
    Knows (facts after)
live_of c t die o tag None after h there new = knows_on c after (ap facts new) h.live
live_of c t die o tag (Some b) after h there new = live_then c t die o tag b after h there new
