-- Each move leaves the device's own pages their room, also where a program or an erase fails by it while no more blocks
-- are bad than are spare; and a life begins so.
use Rattle.many_stops.proofs.Common.{Bool, Cell, Cells, EndJob, Ending, Erasing, Flight, ForNobody, ForRest, ForStep}
use Rattle.many_stops.proofs.Common.{ForTask, GiveJob, GroupPage, HasHandedOut, IsAllowedMove, IsOpenedTranslation}
use Rattle.many_stops.proofs.Common.{IsWithinSpare, LeavesOwnRoom, LetGo, LetGoAll, List, MarkPage, MayEnd, MayTake}
use Rattle.many_stops.proofs.Common.{Move, Name, None, Nothing, Numbers, Option, Programming, ReadRight, ReadWrong}
use Rattle.many_stops.proofs.Common.{Reader, Reading, Some, Spot, Tag, TakeStep, Translation, Valid, WentWell}
use Rattle.many_stops.proofs.Common.{WentWrong, ap, arith, at_die, before_accepted, count_blocks, end_flight}
use Rattle.many_stops.proofs.Common.{ended_fewer, false, if◌then◌else◌, inl, inr, is_bad, is_for, is_for_task, moved}
use Rattle.many_stops.proofs.Common.{none-some, page_not_nothing, refl, spot_of, subst, sym, taken, true, ℕ, ◌<◌, ◌∙◌}
use Rattle.many_stops.proofs.Common.{◌≡◌, ◌≤◌}
use Rattle.ufs_spec.specs.Disk.{same_spot}
use Rattle.ufs_spec.specs.Moves.{die_idle, read_right, read_wrong}
use Rattle.ufs_spec.specs.Openings.{StandsAt}
use Rattle.power_loss.proofs.jobs.JobsBegin.{erase_is_no_program}
use Rattle.power_loss.proofs.room_to_mend.AloneKept.{begun_fewer, gone_fewer, read_is_no_program}
use Rattle.many_stops.proofs.room_left.RoomStays.{fewer_leaves, gone_leaves, there_leaves}
use Rattle.many_stops.proofs.room_left.FailuresLeaveRoom.{erase_fails, mark_fails, page_fails}
use Rattle.many_stops.proofs.room_left.MarkEnds.{mark_leaves}
use Rattle.many_stops.proofs.room_left.PageEnds.{page_leaves}
use Rattle.many_stops.proofs.room_left.ProgramBegins.{program_leaves}
use Rattle.many_stops.proofs.room_left.TurnsLeaveRoom.{turns}

module _ {t : Translation} (v : Valid t) (r : LeavesOwnRoom t) where
  -- The end of any job

  read_ends : (die : ℕ) (reader : Reader) → LeavesOwnRoom (read_right (die_idle t die) reader)
  read_ends die ForNobody =
      fewer_leaves (at_die t.disk.flights die None) (ended_fewer t.disk.flights die) r
  read_ends die (ForTask tag index) =
      fewer_leaves (at_die t.disk.flights die None) (ended_fewer t.disk.flights die) r
  read_ends die ForStep = there_leaves t.work.step
      (fewer_leaves (at_die t.disk.flights die None) (ended_fewer t.disk.flights die) r)
  read_ends die (ForRest number index) =
      fewer_leaves (at_die t.disk.flights die None) (ended_fewer t.disk.flights die) r

  wrong_ends : (die : ℕ) (reader : Reader) → LeavesOwnRoom (read_wrong (die_idle t die) reader)
  wrong_ends die (ForTask tag index) =
      fewer_leaves (at_die t.disk.flights die None) (ended_fewer t.disk.flights die) r
  wrong_ends die reader = fewer_leaves (at_die t.disk.flights die None) (ended_fewer t.disk.flights die) r

  fails : (die : ℕ) (flight : Option Flight) (left : Cells) → t.disk.flights die ≡ flight →
      MayEnd t.disk die flight (WentWrong left) → count_blocks t is_bad < t.numbers.spare →
      LeavesOwnRoom (end_flight t die flight (WentWrong left))
  fails die (Some (Programming p Nothing)) left e may few = absurd (v.flights.something die p e)
  fails die (Some (Programming p (GroupPage tag body))) left e may few = page_fails v r few die p tag body left e may.1
  fails die (Some (Programming p (MarkPage m))) left e may few = mark_fails v r few die p m left e may.1
  fails die (Some (Erasing s)) left e may few = erase_fails v r few die s left e may.1
  fails die (Some (Reading reader place)) left e may few = r
  fails die None left e may few = r

  ends : (die : ℕ) (flight : Option Flight) (ending : Ending) → t.disk.flights die ≡ flight →
      MayEnd t.disk die flight ending → IsWithinSpare t (EndJob die ending) →
      LeavesOwnRoom (end_flight t die flight ending)
  ends die flight (WentWrong left) e may few = fails die flight left e may (few refl)
  ends die (Some (Reading reader place)) ReadRight e may few = read_ends die reader
  ends die (Some (Reading reader place)) ReadWrong e may few = wrong_ends die reader
  ends die (Some (Programming p Nothing)) WentWell e may few = absurd (v.flights.something die p e)
  ends die (Some (Programming p (GroupPage tag body))) WentWell e may few = page_leaves v r die p tag body e
  ends die (Some (Programming p (MarkPage m))) WentWell e may few = mark_leaves v r die p m e
  ends die (Some (Erasing s)) WentWell e may few =
      gone_leaves (λ p. if same_spot (spot_of p) s then Nothing else t.disk.cells p)
      (λ p tag body h. was (same_spot (spot_of p) s) h)
      (fewer_leaves (at_die t.disk.flights s.die None) (ended_fewer t.disk.flights s.die) r)
    where
      was : (b : Bool) {x : Cell} {tag : Tag} {body : List ℕ} → (if b then Nothing else x) ≡ GroupPage tag body →
          x ≡ GroupPage tag body
      was true h = absurd (page_not_nothing _ _ _ h refl)
      was false h = h
  ends die flight ending e may few = r

  takes : (die : ℕ) (flight : Flight) → MayTake t die (Some flight) → LeavesOwnRoom (taken t die flight)
  takes die (Reading reader place) may =
      fewer_leaves (at_die t.disk.flights die (Some (Reading reader place)))
      (begun_fewer t.disk.flights die (Some (Reading reader place)) (λ p cell h. read_is_no_program h)) r
  takes die (Erasing s) may =
      fewer_leaves (at_die t.disk.flights die (Some (Erasing s)))
      (begun_fewer t.disk.flights die (Some (Erasing s)) (λ p cell h. erase_is_no_program h)) r
  takes die (Programming p cell) may = program_leaves v r die p cell may

-- Each move

pub move_leaves : (t : Translation) (move : Move) → Valid t → IsAllowedMove t move → IsWithinSpare t move →
    LeavesOwnRoom t → LeavesOwnRoom (moved t move)
move_leaves t (LetGo tag index) v may few r = fewer_leaves _ (gone_fewer t.disk.flights (is_for tag index)) r
move_leaves t (LetGoAll tag) v may few r = fewer_leaves _ (gone_fewer t.disk.flights (is_for_task tag)) r
move_leaves t (GiveJob die flight) v may few r = takes v r die flight may
move_leaves t (EndJob die ending) v may few r = ends v r die (t.disk.flights die) ending refl may few
move_leaves t TakeStep v may few r = turns v r
move_leaves t move v may few r = r

-- A life begins

pub opening_leaves : (n : Numbers) (c : Cells) (bad : Spot → Bool) (t : Translation) → IsOpenedTranslation n c bad t →
    LeavesOwnRoom t
opening_leaves n c bad t o = record {
  one_die = λ d e p q a b x y h k same. absurd (none-some _ (sym (o.disk.idle d) ∙ h));
  copied = λ name from there e. absurd (none-some _ (sym o.no_step ∙ e));
  planned = λ mended s e. absurd (none-some s (sym o.no_step ∙ e));
  gains = λ pl e. absurd (none-some pl (sym o.no_plan ∙ e));
  room = λ h. absurd (none_handed h);
}
  where
    low : (number : ℕ) → number ≤ t.ledger.greatest_seen → before_accepted t.ledger < number → ⊥
    low number seen behind = let none = o.ledger.none_repaired in omega (arith, seen, none, behind)

    none_handed : HasHandedOut t → ⊥
    none_handed (inl s) =
        let name : Name = record { number = s.number; index = s.index } in
        let at = (subst (StandsAt c t.disk.blocks name) s.stands (o.ledger.standing s.number s.index)).0 in
        let seen = o.ledger.greatest_seen.0.numbers s.place at.0 at.1 at.2 in
        let number = ap (λ (z : Name). z.number) at.3 in
        low s.number (omega (arith, seen, number)) s.behind
    none_handed (inr (inl f)) = none-some _ (sym (o.disk.idle f.die) ∙ f.flies)
    none_handed (inr (inr c)) = low c.tag.number
        (o.ledger.greatest_seen.0.numbers c.place c.tag c.body
        (sym (ap (λ (x : Cells). x c.place) o.disk.cells) ∙ c.there)) c.behind
