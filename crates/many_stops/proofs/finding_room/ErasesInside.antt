-- A die erases blocks of the dies, and no others.
use Rattle.many_stops.proofs.Common.{Bool, Cells, EndJob, Ending, Erasing, Flight, ForNobody, ForRest, ForStep, ForTask}
use Rattle.many_stops.proofs.Common.{GiveJob, GroupPage, IsAllowedMove, IsOpenedTranslation, IsSpot, LetGo, LetGoAll}
use Rattle.many_stops.proofs.Common.{Mark, MarkPage, MayTake, Move, None, Nothing, Numbers, Option, Place, Plan}
use Rattle.many_stops.proofs.Common.{Programming, ReadRight, ReadWrong, Reader, Reading, Some, Spot, TakeStep}
use Rattle.many_stops.proofs.Common.{Translation, WentWell, WentWrong, at_die, at_die_is, end_flight, false, freed}
use Rattle.many_stops.proofs.Common.{has_mark_number, if◌then◌else◌, is_for, is_for_task, mark_again, mark_ordered}
use Rattle.many_stops.proofs.Common.{mark_written, moved, none-some, program_failed, programmed, subst, sym, taken}
use Rattle.many_stops.proofs.Common.{true, turn_only, ℕ, ⊎_elim, ◌∙◌, ◌≡◌}
use Rattle.ufs_spec.specs.Moves.{without_reader}
use Rattle.power_loss.proofs.jobs_owed.ProgramsAndErases.{take_inside}

abbrev pub AreErasesInside : Translation → Type 0
AreErasesInside t = (die : ℕ) (s : Spot) → t.disk.flights die ≡ Some (Erasing s) → IsSpot t.numbers s

still_erase : (reads : Reader → Bool) (f : Option Flight) {s : Spot} → without_reader reads f ≡ Some (Erasing s) →
    f ≡ Some (Erasing s)
still_erase reads None h = h
still_erase reads (Some (Reading reader place)) h = cc
still_erase reads (Some (Programming q x)) h = h
still_erase reads (Some (Erasing z)) h = h

module _ (t : Translation) (inside : AreErasesInside t) where
  -- so they do where one has no job any more
  fewer : (d die : ℕ) (s : Spot) → at_die t.disk.flights d None die ≡ Some (Erasing s) → IsSpot t.numbers s
  fewer d die s e = ⊎_elim (λ k. absurd (none-some _ k.1)) (λ k. inside die s k.1)
      (at_die_is t.disk.flights d None die (Some (Erasing s)) e)

  gives : (die : ℕ) (flight : Flight) → MayTake t die (Some flight) → AreErasesInside (taken t die flight)
  gives die flight may other s e = ⊎_elim
      (λ k. take_inside t die s (subst (λ f. MayTake t die f) k.1 may)) (λ k. inside other s k.1)
      (at_die_is t.disk.flights die (Some flight) other (Some (Erasing s)) e)

  mark_ends : (p : Place) (m : Mark) → AreErasesInside (mark_written t p m)
  mark_ends p m = by t.work.plan
    where
      by : (o : Option Plan) →
          AreErasesInside
          (record (mark_written t p m) { disk = freed (programmed t.numbers.pages t.disk p (MarkPage m)) o })
      by None = fewer p.die
      by (Some plan) = fewer p.die

  mark_fails : (p : Place) (m : Mark) (left : Cells) →
      AreErasesInside (mark_again (record t { disk = program_failed t.disk p left }) m.fence)
  mark_fails p m left = by (has_mark_number (record t { disk = program_failed t.disk p left }))
    where
      by : (b : Bool) → AreErasesInside
          (if b then mark_ordered (record t { disk = program_failed t.disk p left }) m.fence
          else record t { disk = program_failed t.disk p left; work = record t.work { step = None } })
      by true = fewer p.die
      by false = fewer p.die

  ends : (die : ℕ) (flight : Option Flight) (ending : Ending) → AreErasesInside (end_flight t die flight ending)
  ends die None ending = inside
  ends die (Some (Reading ForNobody place)) ReadRight = fewer die
  ends die (Some (Reading ForStep place)) ReadRight = fewer die
  ends die (Some (Reading (ForTask tag index) place)) ReadRight = fewer die
  ends die (Some (Reading (ForRest number index) place)) ReadRight = fewer die
  ends die (Some (Reading (ForTask tag index) place)) ReadWrong = fewer die
  ends die (Some (Reading reader place)) ReadWrong = fewer die
  ends die (Some (Programming p Nothing)) WentWell = fewer p.die
  ends die (Some (Programming p (GroupPage tag body))) WentWell = fewer p.die
  ends die (Some (Programming p (MarkPage m))) WentWell = mark_ends p m
  ends die (Some (Programming p (MarkPage m))) (WentWrong left) = mark_fails p m left
  ends die (Some (Programming p cell)) (WentWrong left) = fewer p.die
  ends die (Some (Erasing z)) WentWell = fewer z.die
  ends die (Some (Erasing z)) (WentWrong left) = fewer z.die
  ends die flight ending = inside

  pub erases_inside : (move : Move) → IsAllowedMove t move → AreErasesInside (moved t move)
  erases_inside (GiveJob die flight) may = gives die flight may
  erases_inside (EndJob die ending) may = ends die (t.disk.flights die) ending
  erases_inside (LetGo tag index) may = λ other s e.
      inside other s (still_erase (is_for tag index) (t.disk.flights other) e)
  erases_inside (LetGoAll tag) may = λ other s e.
      inside other s (still_erase (is_for_task tag) (t.disk.flights other) e)
  erases_inside TakeStep may = let u = turn_only t in subst AreErasesInside (sym u.is) inside
  erases_inside move may = inside

pub opening_erases : (n : Numbers) (c : Cells) (bad : Spot → Bool) (t : Translation) → IsOpenedTranslation n c bad t →
    AreErasesInside t
opening_erases n c bad t o die s e = absurd (none-some (Erasing s) (sym (o.disk.idle die) ∙ e))
