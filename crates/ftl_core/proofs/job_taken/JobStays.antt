-- What a die is told to do is the same once the job is in flight: nothing that a page is made of changes.
use Rattle.ftl_core.proofs.Common.{BlockState, Core, DieRow, Flight, List, None, OpenBlock, Option, Pending, Place}
use Rattle.ftl_core.proofs.Common.{Some, Step, find, is_named, job_of, refl, step_job, ℕ, ◌≡◌}
use Rattle.block_table.specs.declared.rows.Flight.TheVariants as flight
use Rattle.ftl_core.specs.Moves.{begins, started, started_with}
use Rattle.ftl_core.specs.Takes.{group_job_of}
use Rattle.ftl_core.specs.declared.books.Step.TheVariants as step

-- the same but for what blocks are and what dies do
abbrev moved : Core → List BlockState → List DieRow → Core
moved c states rows = record c { states = states; rows = rows }

step_stays : (c : Core) (ss : List BlockState) (rs : List DieRow) (place : Place) (s : Option Step) →
    step_job (moved c ss rs) place s ≡ step_job c place s
step_stays c ss rs place None = refl
step_stays c ss rs place (Some (step.Mark n fence)) = refl
step_stays c ss rs place (Some (step.Repair n k from there)) = refl
step_stays c ss rs place (Some (step.Copy n k from None)) = refl
step_stays c ss rs place (Some (step.Copy n k from (Some t))) = refl

group_stays : (c : Core) (ss : List BlockState) (rs : List DieRow) (place : Place) (p : Option Pending) →
    group_job_of (moved c ss rs) place p ≡ group_job_of c place p
group_stays c ss rs place None = refl
group_stays c ss rs place (Some p) = refl

job_moved : (c : Core) (ss : List BlockState) (rs : List DieRow) (die : ℕ) (f : Flight) →
    job_of (moved c ss rs) die f ≡ job_of c die f
job_moved c ss rs die (flight.Read place reader) = refl
job_moved c ss rs die (flight.Step place) = step_stays c ss rs place c.step
job_moved c ss rs die (flight.Group place n i) = group_stays c ss rs place (find (is_named n i) c.pages)
job_moved c ss rs die (flight.Erase block) = refl

begun_stays : (c : Core) (die : ℕ) (filling : Option OpenBlock) (f : Flight) (block : Option ℕ) →
    job_of (started_with c die filling f block) die f ≡ job_of c die f
begun_stays c die filling f None =
    let begun = started_with c die filling f None in job_moved c begun.states begun.rows die f
begun_stays c die filling f (Some block) =
    let begun = started_with c die filling f (Some block) in job_moved c begun.states begun.rows die f

pub job_stays : (c : Core) (die : ℕ) (row : DieRow) (f : Flight) → job_of (started c die row f) die f ≡ job_of c die f
job_stays c die row f = begun_stays c die row.filling f (begins row.filling f)
