-- A program or an erase that fails takes the room of its block, and no more.
use Rattle.power_loss.proofs.Common.{Bad, Cells, EndJob, Erasing, Flight, GroupPage, IsAllowedMove, Mark, MarkPage}
use Rattle.power_loss.proofs.Common.{Move, None, Nothing, Option, Place, Programming, Reading, Some, Spot, Step}
use Rattle.power_loss.proofs.Common.{Translation, Valid, WentWrong, ap, arith, end_flight, erase_failed, false}
use Rattle.power_loss.proofs.Common.{has_mark_number, if_both, is_mended, mark_ordered, moved, program_failed, refl}
use Rattle.power_loss.proofs.Common.{same_Some, spot_of, true, true≢false, ℕ, ◌*◌, ◌+◌, ◌∙◌, ◌≡◌, ◌≤◌}
use Rattle.power_loss.proofs.MachineWords.{turns_left}
use Rattle.ufs_spec.specs.Moves.{mark_again}
use Rattle.power_loss.specs.MendingRoom.{HasRoom, MendsAlone, failures_of, flies_kind, page_of_step, pages_left}
use Rattle.power_loss.proofs.jobs.StandsSecurely.{free_is_not_bad}
use Rattle.power_loss.proofs.room_to_mend.AloneKept.{ended_fewer, fewer, none_flown, none_readable, unflown}
use Rattle.power_loss.proofs.room_to_mend.PinsOffFree.{none_freed, pins_stay}
use Rattle.power_loss.proofs.room_to_mend.RoomInBlocks.{failure_takes}
use Rattle.power_loss.proofs.room_to_mend.RoomKept.{Kept, end_turns, move_keeps_room, same}

-- Numbers: what is needed and what is left

one_failed : (a b c d k pages l m : ℕ) → a + b + (k + 1) * pages ≤ l → c ≤ a → d ≤ b → l ≤ pages + m →
    c + d + k * pages ≤ m
one_failed a b c d k pages l m room turns step left = omega (arith, room, turns, step, left)

fewer_failures : (a b k pages l : ℕ) → a + (k + b) * pages ≤ l → a + k * pages ≤ l
fewer_failures a b k pages l room = omega (arith, room)

-- who has room for more failures has room for fewer
pub less_room : (t : Translation) (more k : ℕ) → HasRoom (k + more) t → HasRoom k t
less_room t more k room =
    fewer_failures (turns_left t + page_of_step t.work.step) more k t.numbers.pages (pages_left t) room

no_more : (a b c : ℕ) → c ≡ a → b ≤ a → b ≤ c
no_more a b c e l = omega (arith, e, l)

module _ {t : Translation} (v : Valid t) (alone : MendsAlone t) (k : ℕ) (room : HasRoom (k + 1) t) where
  unchanged : Kept k t
  unchanged = (alone, less_room t 1 k room)

  page_fails : (p : Place) (left : Cells) → Kept k (record t { disk = program_failed t.disk p left })
  page_fails p left = (
    fewer (record t { disk = program_failed t.disk p left }) alone
        (pins_stay t.pins (none_freed t.disk.blocks (spot_of p) Bad (λ e. free_is_not_bad e refl)) alone.pins)
        alone.no_rests refl (ended_fewer t.disk.flights p.die),
    one_failed (turns_left t) (page_of_step t.work.step) (turns_left t) (page_of_step t.work.step) k t.numbers.pages
        (pages_left t) _ room (same (turns_left t)) (same (page_of_step t.work.step))
        (failure_takes t.numbers t.disk.blocks (spot_of p)),
  )

  erase_fails : (s : Spot) (left : Cells) → Kept k (record t { disk = erase_failed t.disk s left })
  erase_fails s left = (
    fewer (record t { disk = erase_failed t.disk s left }) alone
        (pins_stay t.pins (none_freed t.disk.blocks s Bad (λ e. free_is_not_bad e refl)) alone.pins)
        alone.no_rests refl (ended_fewer t.disk.flights s.die),
    one_failed (turns_left t) (page_of_step t.work.step) (turns_left t) (page_of_step t.work.step) k t.numbers.pages
        (pages_left t) _ room (same (turns_left t)) (same (page_of_step t.work.step))
        (failure_takes t.numbers t.disk.blocks s),
  )

  mark_fails : (die : ℕ) (p : Place) (m : Mark) (left : Cells) →
      t.disk.flights die ≡ Some (Programming p (MarkPage m)) →
      Kept k (mark_again (record t { disk = program_failed t.disk p left }) m.fence)
  mark_fails die p m left e =
      if_both (λ (u : Translation). turns_left u ≤ turns_left t → Kept k u) (has_mark_number t) again lost
      (end_turns die (Some (Programming p (MarkPage m))) (WentWrong left) v e)
    where
      failed : Translation
      failed = record t { disk = program_failed t.disk p left }

      of : (step : Step) × (t.work.step ≡ Some step)
          × (flies_kind step.kind (Some (Programming p (MarkPage m))) ≡ true)
      of = alone.of_step die p (MarkPage m) e

      again : turns_left (mark_ordered failed m.fence) ≤ turns_left t → Kept k (mark_ordered failed m.fence)
      again turns = (
        unflown (mark_ordered failed m.fence)
            (pins_stay t.pins (none_freed t.disk.blocks (spot_of p) Bad (λ e. free_is_not_bad e refl)) alone.pins)
            alone.no_rests
            (λ step is absent. absurd (true≢false (ap (λ (x : Step). x.there) (same_Some _ step is) ∙ absent)))
            (none_flown die p (MarkPage m) v alone e),
        one_failed (turns_left t) (page_of_step t.work.step) (turns_left (mark_ordered failed m.fence)) 1 k
            t.numbers.pages (pages_left t) _ room turns (no_more 1 1 _ (ap page_of_step of.1) (same 1))
            (failure_takes t.numbers t.disk.blocks (spot_of p)),
      )

      lost : turns_left (record failed { work = record t.work { step = None } }) ≤ turns_left t →
          Kept k (record failed { work = record t.work { step = None } })
      lost turns = (
        unflown (record failed { work = record t.work { step = None } })
            (pins_stay t.pins (none_freed t.disk.blocks (spot_of p) Bad (λ e. free_is_not_bad e refl)) alone.pins)
            alone.no_rests (none_readable refl) (none_flown die p (MarkPage m) v alone e),
        one_failed (turns_left t) (page_of_step t.work.step)
            (turns_left (record failed { work = record t.work { step = None } })) 0 k t.numbers.pages (pages_left t) _
            room turns (no_more 1 0 _ (ap page_of_step of.1) (omega arith))
            (failure_takes t.numbers t.disk.blocks (spot_of p)),
      )

  fails : (die : ℕ) (flight : Option Flight) (left : Cells) → t.disk.flights die ≡ flight →
      Kept k (end_flight t die flight (WentWrong left))
  fails die None left e = unchanged
  fails die (Some (Reading reader place)) left e = unchanged
  fails die (Some (Programming p Nothing)) left e = absurd (v.flights.something die p e)
  fails die (Some (Programming p (GroupPage tag body))) left e = page_fails p left
  fails die (Some (Programming p (MarkPage m))) left e = mark_fails die p m left e
  fails die (Some (Erasing s)) left e = erase_fails s left

-- Each move

pub each_move : {t : Translation} (move : Move) (k : ℕ) → Valid t → is_mended t.work.mending ≡ false → MendsAlone t →
    HasRoom (k + failures_of move) t → IsAllowedMove t move → Kept k (moved t move)
each_move {t} (EndJob die (WentWrong left)) k v un alone room may =
    fails v alone k room die (t.disk.flights die) left refl
each_move {t} move k v un alone room may =
    move_keeps_room v un alone k (less_room t (failures_of move) k room) move may refl
