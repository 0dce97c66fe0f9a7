-- The end of a die's job is the one that the definitions say.
use Rattle.ftl_core.proofs.Common.{Bool, Cell, Cells, Core, Describes, DieRow, EndJob, Ending, Flight, ForNobody}
use Rattle.ftl_core.proofs.Common.{ForRest, ForStep, ForTask, GroupPage, IsEndingOf, IsFlightAfter, IsReadAfter}
use Rattle.ftl_core.proofs.Common.{IsRowAfter, IsStepCell, Kept, List, MayEnd, None, OpenBlock, Option, Outcome, Place}
use Rattle.ftl_core.proofs.Common.{Reader, Some, Spot, Tag, Translation, WentWell, WentWrong, all_keep, ap, end_flight}
use Rattle.ftl_core.proofs.Common.{false, false≢true, is_read, is_some, moved, next_place, option_map, refl, repairs_in}
use Rattle.ftl_core.proofs.Common.{slice_get, spot_at, subst, sym, true, ℕ, ◌<◌, ◌∙◌, ◌≡◌}
use Rattle.ufs_spec.specs.Disk as disk
use Rattle.ufs_spec.specs.Moves.{outcome_fits}
use Rattle.ufs_spec.specs.declared.flash.Outcome.TheVariants as outcome
use Rattle.page_tag.specs.Jobs.{IsTagRead}
use Rattle.block_table.specs.declared.rows.Flight.TheVariants as flight
use Rattle.ftl_core.specs.declared.ftl.Ended.{Ended}
use Rattle.ftl_core.specs.Ended.{EndedNow, ended_now}
use Rattle.ftl_core.specs.Ended as ended
use Rattle.ftl_core.specs.Describes.{IsTold}
use Rattle.ftl_core.specs.Done.{FlightEnds, IsCoreEnded, IsEnded, RowEnds}
use Rattle.ftl_core.specs.Gives.{GivesIf, other_for}
use Rattle.ftl_core.specs.Gives as gives
use Rattle.ftl_core.proofs.job_ended.ChangesEnded.{erase_ends_well, erase_ends_wrong, page_ends_wrong}
use Rattle.ftl_core.proofs.job_ended.CopiesOn.{copies_on}
use Rattle.ftl_core.proofs.job_ended.SameClaims.{same_plan}
use Rattle.ftl_core.proofs.job_ended.StepContent.{step_read_ends}
use Rattle.ftl_core.proofs.job_ended.StepsEnded.{step_ends_well, step_ends_wrong}
use Rattle.ftl_core.proofs.group_settled.GroupsEnded.{group_ends_well}
use Rattle.ftl_core.proofs.job_taken.NextStarts.{outside}
use Rattle.ftl_core.proofs.job_ended.ReadsEnded.{idle_kept, read_ends, task_kept}
use Rattle.ftl_core.proofs.job_ended.ReadsGiven.{lost_told, rest_told, step_told, task_told}
use Rattle.ftl_core.proofs.job_ended.RestsEnded.{rests_of}
use Rattle.ftl_core.proofs.job_ended.RestsRead.{rest_read_ends}
use Rattle.ftl_core.proofs.job_taken.FlightKinds.{flight_cases}
use Rattle.ftl_core.proofs.live_pages.JobsLive.{live_of}

-- Which endings there are

-- a program ends well or fails
program_ends : (P : Outcome → Ending → Type 0) (cells : Cells) (p : Place) (cell : Cell) → P outcome.Done WentWell →
    ((left : Cells) → P outcome.Failed (WentWrong left)) →
    (o : Outcome) (ending : Ending) → IsEndingOf cells (Some (disk.Programming p cell)) o ending → P o ending
program_ends P cells p cell well wrong outcome.Done WentWell is = well
program_ends P cells p cell well wrong outcome.Failed (WentWrong left) is = wrong left
program_ends P cells p cell well wrong (outcome.Read page) ending is = absurd (false≢true is.0)
program_ends P cells p cell well wrong outcome.ReadFailed ending is = absurd (false≢true is.0)
program_ends P cells p cell well wrong o ending is = absurd is.1

-- and so does an erase
erase_ends : (P : Outcome → Ending → Type 0) (cells : Cells) (s : Spot) → P outcome.Done WentWell →
    ((left : Cells) → P outcome.Failed (WentWrong left)) →
    (o : Outcome) (ending : Ending) → IsEndingOf cells (Some (disk.Erasing s)) o ending → P o ending
erase_ends P cells s well wrong outcome.Done WentWell is = well
erase_ends P cells s well wrong outcome.Failed (WentWrong left) is = wrong left
erase_ends P cells s well wrong (outcome.Read page) ending is = absurd (false≢true is.0)
erase_ends P cells s well wrong outcome.ReadFailed ending is = absurd (false≢true is.0)
erase_ends P cells s well wrong o ending is = absurd is.1

-- a die without a book has no job
no_row : (c : Core) (t : Translation) (die : ℕ) → Describes c t → slice_get c.rows die ≡ None →
    t.disk.flights die ≡ None
no_row c t die h there = h.kept.dies.no_more die (outside c t die h.kept there)

-- What is kept

kept_then : (c : Core) (t : Translation) (die : ℕ) (o : Outcome) (tag : Option Tag) (ending : Ending) (b : DieRow)
    (after : Core) → IsTagRead o tag → Describes c t → slice_get c.rows die ≡ Some b →
    IsEndingOf t.disk.cells (t.disk.flights die) o ending → MayEnd t.disk die (t.disk.flights die) ending →
    IsFlightAfter c die b b.flight o tag after → Kept after (moved t (EndJob die ending))
kept_then c t die o tag ending b after found h there is may new =
    flight_cases t.numbers c.step die b.filling Goal (λ does flies now new. absurd (false≢true now.0)) reads contents
    lost owed steps groups erases b.flight (t.disk.flights die) (h.kept.dies.each die b there).job refl refl is new
  where
    Goal : Option Flight → Option disk.Flight → Type 0
    Goal f g = b.flight ≡ f → t.disk.flights die ≡ g → IsEndingOf t.disk.cells g o ending →
        IsFlightAfter c die b f o tag after → Kept after (end_flight t die g ending)

    same : (d : Core) (u : Translation) → Kept d u → after ≡ d → Kept after u
    same d u k e = subst (λ (x : Core). Kept x u) (sym e) k

    reads : (place : Place) (reader index : ℕ) →
        Goal (Some (flight.Read place (ForTask reader index))) (Some (disk.Reading (ForTask reader index) place))
    reads place reader index does flies now new =
        let kept = task_kept c t die reader index b place h there flies in
        read_ends (λ d e. IsReadAfter d c die b o tag (ForTask reader index) after →
        Kept after (end_flight t die (Some (disk.Reading (ForTask reader index) place)) e)) t.disk.cells
        (ForTask reader index) place (λ e. same _ _ kept e) (λ e. same _ _ kept e) o ending now new

    contents : (place : Place) → Goal (Some (flight.Read place ForStep)) (Some (disk.Reading ForStep place))
    contents place does flies now new = step_read_ends c t die b place h there flies o tag ending after found now new

    lost : (place : Place) → Goal (Some (flight.Read place ForNobody)) (Some (disk.Reading ForNobody place))
    lost place does flies now new =
        let kept = idle_kept c t die b h.kept there in
        read_ends (λ d e. IsReadAfter d c die b o tag ForNobody after →
        Kept after (end_flight t die (Some (disk.Reading ForNobody place)) e)) t.disk.cells ForNobody place
        (λ e. same _ _ kept e) (λ e. same _ _ kept e) o ending now new

    owed : (place : Place) (number index : ℕ) →
        Goal (Some (flight.Read place (ForRest number index))) (Some (disk.Reading (ForRest number index) place))
    owed place number index does flies now new =
        (rest_read_ends c t die number index b place h there flies o tag ending after now
        (subst (λ (g : Option disk.Flight). MayEnd t.disk die g ending) flies may) new).kept

    steps : (filled : OpenBlock) (cell : Cell) → b.filling ≡ Some filled → IsStepCell c.step cell →
        Goal (Some (flight.Step (next_place die filled))) (Some (disk.Programming (next_place die filled) cell))
    steps filled cell fills page does flies now new =
        program_ends (λ out e. IsFlightAfter c die b (Some (flight.Step (next_place die filled))) out tag after →
        Kept after (end_flight t die (Some (disk.Programming (next_place die filled) cell)) e))
        t.disk.cells (next_place die filled) cell
        (λ e. same _ _ (step_ends_well c t die b filled h there fills cell page flies) e)
        (λ left e. same _ _ (step_ends_wrong c t die b filled h there fills cell left page flies) e) o ending now new

    groups : (filled : OpenBlock) (u : Tag) (body : List ℕ) → b.filling ≡ Some filled → repairs_in c.step ≡ 0 →
        Goal (Some (flight.Group (next_place die filled) u.number u.index))
        (Some (disk.Programming (next_place die filled) (GroupPage u body)))
    groups filled u body fills no_repair does flies now new =
        program_ends (λ out e.
        IsFlightAfter c die b (Some (flight.Group (next_place die filled) u.number u.index)) out tag after →
        Kept after (end_flight t die (Some (disk.Programming (next_place die filled) (GroupPage u body))) e))
        t.disk.cells (next_place die filled) (GroupPage u body)
        (λ e. same _ _ (group_ends_well c t die b filled u body h
        (record { there = there; filling = fills; flies = flies; job = does; beside = no_repair })) e)
        (λ left e. same _ _ (page_ends_wrong c t die b filled left h there fills) e) o ending now new

    erases : (block : ℕ) → block < t.numbers.blocks →
        Goal (Some (flight.Erase block)) (Some (disk.Erasing (spot_at die block)))
    erases block within does flies now new =
        erase_ends (λ out e. IsFlightAfter c die b (Some (flight.Erase block)) out tag after →
        Kept after (end_flight t die (Some (disk.Erasing (spot_at die block))) e))
        t.disk.cells (spot_at die block)
        (λ e. same _ _ (erase_ends_well c t die b block h there within flies) e)
        (λ left e. same _ _ (erase_ends_wrong c t die b block h there within flies left) e) o ending now new

kept_of : (c : Core) (t : Translation) (die : ℕ) (o : Outcome) (tag : Option Tag) (ending : Ending)
    (book : Option DieRow) (after : Core) → IsTagRead o tag → Describes c t → slice_get c.rows die ≡ book →
    IsEndingOf t.disk.cells (t.disk.flights die) o ending → MayEnd t.disk die (t.disk.flights die) ending →
    IsRowAfter c die book o tag after → Kept after (moved t (EndJob die ending))
kept_of c t die o tag ending None after found h there is may new =
    absurd (false≢true (subst (λ (g : Option disk.Flight). IsEndingOf t.disk.cells g o ending)
    (no_row c t die h there) is).0)
kept_of c t die o tag ending (Some b) after found h there is may new =
    kept_then c t die o tag ending b after found h there is may new

-- what is kept once a job ended so describes the layer in which it did
pub ends_right : (c after : Core) (die : ℕ) (o : Outcome) (tag : Option Tag) → IsTagRead o tag →
    IsCoreEnded c die o tag after → (t : Translation) (ending : Ending) → Describes c t →
    IsEndingOf t.disk.cells (t.disk.flights die) o ending → MayEnd t.disk die (t.disk.flights die) ending →
    Describes after (moved t (EndJob die ending))
ends_right c after die o tag found new t ending h is may = record {
  valid = all_keep t (EndJob die ending) h.valid may;
  kept = kept_of c t die o tag ending (slice_get c.rows die) after found h refl is may new;
  live = live_of c t die o tag (slice_get c.rows die) after h refl new;
  copies = copies_on t h.valid c.plan h.kept.plan.plan_is h.copies after.plan (same_plan c after die o tag new) die
      ending may;
  rests = rests_of c t die o tag ending (slice_get c.rows die) after h refl is may new;
}

-- What is told

told_then : (c : Core) (t : Translation) (die : ℕ) (o : Outcome) (ending : Ending) (r : Option EndedNow) (b : DieRow) →
    Describes c t → slice_get c.rows die ≡ Some b →
    IsEndingOf t.disk.cells (t.disk.flights die) o ending → FlightEnds c b.flight o r →
    (e : EndedNow) × (r ≡ Some e) × IsTold t.disk.cells (t.disk.flights die) ending e
told_then c t die o ending r b h there is answer =
    flight_cases t.numbers c.step die b.filling Goal (λ flies now told. absurd (false≢true now.0)) reads contents lost
    owed
    (λ filled cell fills page flies now told. programs (next_place die filled) cell now told)
    (λ filled tag body fills no_repair flies now told.
    programs (next_place die filled) (GroupPage tag body) now told)
    (λ block within flies now told. (
      ended.Other,
      erase_ends (λ out e. r ≡ option_map other_for (gives.ending out) → r ≡ Some ended.Other) t.disk.cells
          (spot_at die block) (λ says. says) (λ left says. says)
          o ending now told,
      refl,
    ))
    b.flight (t.disk.flights die) (h.kept.dies.each die b there).job refl is answer
  where
    Goal : Option Flight → Option disk.Flight → Type 0
    Goal f g = t.disk.flights die ≡ g → IsEndingOf t.disk.cells g o ending → FlightEnds c f o r →
        (e : EndedNow) × (r ≡ Some e) × IsTold t.disk.cells g ending e

    reads : (place : Place) (tag index : ℕ) →
        Goal (Some (flight.Read place (ForTask tag index))) (Some (disk.Reading (ForTask tag index) place))
    reads place tag index flies now told = task_told c t die tag index place o ending r h flies now told

    contents : (place : Place) → Goal (Some (flight.Read place ForStep)) (Some (disk.Reading ForStep place))
    contents place flies now told = step_told c t.disk.cells place o ending r now told

    lost : (place : Place) → Goal (Some (flight.Read place ForNobody)) (Some (disk.Reading ForNobody place))
    lost place flies now told = lost_told c t.disk.cells place o ending r now told

    owed : (place : Place) (number index : ℕ) →
        Goal (Some (flight.Read place (ForRest number index))) (Some (disk.Reading (ForRest number index) place))
    owed place number index flies now told = rest_told c t.disk.cells number index place o ending r now told

    programs : (p : Place) (cell : Cell) → IsEndingOf t.disk.cells (Some (disk.Programming p cell)) o ending →
        r ≡ option_map other_for (gives.ending o) →
        (e : EndedNow) × (r ≡ Some e) × IsTold t.disk.cells (Some (disk.Programming p cell)) ending e
    programs p cell now told = (
      ended.Other,
      program_ends (λ out e. r ≡ option_map other_for (gives.ending out) → r ≡ Some ended.Other) t.disk.cells p cell
          (λ says. says) (λ left says. says) o ending now told,
      refl,
    )

told_of : (c : Core) (t : Translation) (die : ℕ) (o : Outcome) (ending : Ending) (r : Option EndedNow)
    (book : Option DieRow) → Describes c t → slice_get c.rows die ≡ book →
    IsEndingOf t.disk.cells (t.disk.flights die) o ending → RowEnds c book o r →
    (e : EndedNow) × (r ≡ Some e) × IsTold t.disk.cells (t.disk.flights die) ending e
told_of c t die o ending r None h there is answer =
    absurd (false≢true (subst (λ (g : Option disk.Flight). IsEndingOf t.disk.cells g o ending)
    (no_row c t die h there) is).0)
told_of c t die o ending r (Some b) h there is answer = told_then c t die o ending r b h there is answer

-- the end of a job is told as the definitions say
pub ends_told : (c : Core) (die : ℕ) (o : Outcome) (r : Option EndedNow) → IsEnded c die o r →
    (t : Translation) (ending : Ending) → Describes c t → IsEndingOf t.disk.cells (t.disk.flights die) o ending →
    (e : EndedNow) × (r ≡ Some e) × IsTold t.disk.cells (t.disk.flights die) ending e
ends_told c die o r answer t ending h is = told_of c t die o ending r (slice_get c.rows die) h refl is answer

-- Which outcomes are refused

-- a read's outcome is one of a read
read_known : (c : Core) (reader : Reader) (r : Option EndedNow) (d : Bool) (o : Outcome) → GivesIf d c o reader r →
    is_some r ≡ d
read_known c reader r false o gives = ap is_some gives
read_known c reader r true o gives = ap is_some gives.1

reads_suit : (who : Reader) (p : Place) (o : Outcome) → is_read o ≡ outcome_fits (Some (disk.Reading who p)) o
reads_suit who p outcome.Done = refl
reads_suit who p outcome.Failed = refl
reads_suit who p (outcome.Read page) = refl
reads_suit who p outcome.ReadFailed = refl

programs_suit : (p : Place) (cell : Cell) (o : Outcome) →
    is_some (option_map other_for (gives.ending o)) ≡ outcome_fits (Some (disk.Programming p cell)) o
programs_suit p cell outcome.Done = refl
programs_suit p cell outcome.Failed = refl
programs_suit p cell (outcome.Read page) = refl
programs_suit p cell outcome.ReadFailed = refl

erases_suit : (s : Spot) (o : Outcome) →
    is_some (option_map other_for (gives.ending o)) ≡ outcome_fits (Some (disk.Erasing s)) o
erases_suit s outcome.Done = refl
erases_suit s outcome.Failed = refl
erases_suit s (outcome.Read page) = refl
erases_suit s outcome.ReadFailed = refl

known_then : (c : Core) (t : Translation) (die : ℕ) (o : Outcome) (r : Option EndedNow) (b : DieRow) → Describes c t →
    slice_get c.rows die ≡ Some b →
    FlightEnds c b.flight o r → is_some r ≡ outcome_fits (t.disk.flights die) o
known_then c t die o r b h there answer =
    flight_cases t.numbers c.step die b.filling (λ f g. FlightEnds c f o r → is_some r ≡ outcome_fits g o)
    (λ told. ap is_some told)
    (λ place tag index told.
    read_known c (ForTask tag index) r (is_read o) o told ∙ reads_suit (ForTask tag index) place o)
    (λ place told. read_known c ForStep r (is_read o) o told ∙ reads_suit ForStep place o)
    (λ place told. read_known c ForNobody r (is_read o) o told ∙ reads_suit ForNobody place o)
    (λ place number index told.
    read_known c (ForRest number index) r (is_read o) o told ∙ reads_suit (ForRest number index) place o)
    (λ filled cell fills page told. ap is_some told ∙ programs_suit (next_place die filled) cell o)
    (λ filled tag body fills no_repair told.
    ap is_some told ∙ programs_suit (next_place die filled) (GroupPage tag body) o)
    (λ block within told. ap is_some told ∙ erases_suit (spot_at die block) o)
    b.flight (t.disk.flights die) (h.kept.dies.each die b there).job answer

known_of : (c : Core) (t : Translation) (die : ℕ) (o : Outcome) (r : Option EndedNow) (book : Option DieRow) →
    Describes c t → slice_get c.rows die ≡ book →
    RowEnds c book o r → is_some r ≡ outcome_fits (t.disk.flights die) o
known_of c t die o r None h there answer = ap is_some answer
    ∙ ap (λ (g : Option disk.Flight). outcome_fits g o) (sym (no_row c t die h there))
known_of c t die o r (Some b) h there answer = known_then c t die o r b h there answer

-- an answer is there with its block behind a reference where it is there with the block itself
same_there : (r : Option Ended) → is_some r ≡ is_some (option_map ended_now r)
same_there None = refl
same_there (Some e) = refl

-- an answer is there exactly where the outcome is of the kind of the die's job
pub ends_known : (c : Core) (die : ℕ) (o : Outcome) (r : Option Ended) → IsEnded c die o (option_map ended_now r) →
    (t : Translation) → Describes c t → is_some r ≡ outcome_fits (t.disk.flights die) o
ends_known c die o r answer t h = same_there r
    ∙ known_of c t die o (option_map ended_now r) (slice_get c.rows die) h refl answer
