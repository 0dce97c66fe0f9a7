-- Each move by which no program or erase fails leaves room for the mending, which alone takes pages.
use Rattle.power_loss.proofs.Common.{Accept, Acknowledge, All, All-filter, All-push, Bool, Cell, Claim, EndJob, Ending}
use Rattle.power_loss.proofs.Common.{Erasing, Filling, Flight, ForNobody, ForRest, ForStep, ForTask, GiveJob, GroupPage}
use Rattle.power_loss.proofs.Common.{IsAllowedMove, Keep, LetGo, LetGoAll, List, Mark, MarkPage, MayTake, Move, None}
use Rattle.power_loss.proofs.Common.{Nothing, Option, Order, OrderCopy, OrderMark, OrderPlanMark, OrderRepair, Pin}
use Rattle.power_loss.proofs.Common.{Place, Plan, Programming, ReadRight, ReadWrong, Reader, Reading, Release, Some}
use Rattle.power_loss.proofs.Common.{Spot, Step, Tag, TakeStep, Translation, Valid, Want, WantPage, WentWell, WentWrong}
use Rattle.power_loss.proofs.Common.{[], ap, arith, die_idle, end_flight, erased, false, is_for, is_for_task, is_mended}
use Rattle.power_loss.proofs.Common.{is_none, is_pin_of, map, mark_ordered, moved, name_of, none-some, ordered}
use Rattle.power_loss.proofs.Common.{programmed, read_right, read_wrong, refl, repair_ordered, same_Some, spot_of}
use Rattle.power_loss.proofs.Common.{standing_of, step_after, step_there, subst, suc, sym, taken, true, true≢false}
use Rattle.power_loss.proofs.Common.{turned, want_at, with_wanted, ℕ, ⊎_elim, ◌+◌, ◌==◌, ◌∙◌, ◌≡◌, ◌≤◌}
use Rattle.power_loss.proofs.MachineWords.{turns_left}
use Rattle.ufs_spec.specs.Moves.{let_go, mark_written, page_written, rests_without}
use Rattle.ufs_spec.specs.Translation.{want_from, want_of_kind}
use Rattle.ufs_laws.proofs.walk.LayerEffects.{IsDue, order_due, turned_if}
use Rattle.power_loss.specs.MendingRoom.{ArePinsOffFree, HasRoom, IsOffFree, MendsAlone, fails_job, flies_kind}
use Rattle.power_loss.specs.MendingRoom.{page_of_step, page_room, pages_left}
use Rattle.power_loss.proofs.jobs.JobsBegin.{erase_is_no_program}
use Rattle.power_loss.proofs.jobs.PageEnded.{ends_page}
use Rattle.power_loss.proofs.jobs_owed.ProgramsAndErases.{OpensReady, program_owed}
use Rattle.power_loss.proofs.jobs.StandsSecurely.{behind_is_not_free}
use Rattle.power_loss.proofs.room_to_mend.PinsOffFree.{look_off, none_freed, pins_settled_off, pins_stay}
use Rattle.power_loss.proofs.room_to_mend.PinsOffFree.{pins_wanted_off}
use Rattle.power_loss.proofs.mending_steps.TurnsLeft.{move_keeps_turns, order_takes}
use Rattle.power_loss.proofs.room_to_mend.AloneKept.{AreFewer, begun_fewer, ended_fewer, fewer}
use Rattle.power_loss.proofs.room_to_mend.AloneKept.{gone_fewer, name_over, none_flown, none_readable, program_begins}
use Rattle.power_loss.proofs.room_to_mend.AloneKept.{read_is_no_program, step_over, unflown}
use Rattle.power_loss.proofs.room_to_mend.RoomInBlocks.{change_leaves, opening_leaves, program_takes}

-- both hold of the layer
abbrev pub Kept : ℕ → Translation → Type 0
Kept failures u = MendsAlone u × HasRoom failures u

-- Numbers: what is needed and what is left

as_before : (a b c d x l m : ℕ) → a + b + x ≤ l → c ≤ a → d ≡ b → l ≤ m → c + d + x ≤ m
as_before a b c d x l m room turns step left = omega (arith, room, turns, step, left)

one_done : (a b c d x l m : ℕ) → a + b + x ≤ l → c ≤ a → b ≡ 1 → d ≡ 0 → l ≤ 1 + m → c + d + x ≤ m
one_done a b c d x l m room turns one none left = omega (arith, room, turns, one, none, left)

one_ordered : (a b c x l : ℕ) → a + b + x ≤ l → suc c ≤ a → c + 1 + x ≤ l
one_ordered a b c x l room turns = omega (arith, room, turns)

pub same : (a : ℕ) → a ≤ a
same a = omega arith

there_still : (s : Option Step) → page_of_step (step_there s) ≡ page_of_step s
there_still None = refl
there_still (Some step) = refl

-- the end of a job adds to no turn
pub end_turns : {t : Translation} (die : ℕ) (flight : Option Flight) (ending : Ending) → Valid t →
    t.disk.flights die ≡ flight → turns_left (end_flight t die flight ending) ≤ turns_left t
end_turns {t} die flight ending v e =
    subst (λ (o : Option Flight). turns_left (end_flight t die o ending) ≤ turns_left t) e
    (move_keeps_turns (EndJob die ending) v)

module _ {t : Translation} (v : Valid t) (un : is_mended t.work.mending ≡ false) (alone : MendsAlone t) (k : ℕ)
    (room : HasRoom k t) where
  kept_fewer : (u : Translation) → ArePinsOffFree u → u.work.rests ≡ [] → u.work.step ≡ t.work.step →
      AreFewer t.disk.flights u.disk.flights → MendsAlone u
  kept_fewer u = fewer u alone

  -- Reads

  wanted_off : (tag index : ℕ) (wanted : Bool) →
      All (λ (pin : Pin). IsOffFree t.disk.blocks pin.looked) (map (with_wanted tag index wanted) t.pins)
  wanted_off tag index wanted = pins_wanted_off t.disk.blocks tag index wanted t.pins alone.pins

  step_read : (die : ℕ) → MendsAlone (read_right (die_idle t die) ForStep)
  step_read die = record {
    pins = alone.pins;
    no_rests = alone.no_rests;
    readable = λ step is absent. absurd (true≢false (sym (brought t.work.step step is) ∙ absent));
    of_step = λ d p cell is.
        let r = alone.of_step d p cell (ended_fewer t.disk.flights die d p cell is) in
        (record r.0 { there = true }, ap step_there r.1, r.2);
    one_die = λ d e p q cell more is k. alone.one_die d e p q cell more (ended_fewer t.disk.flights die d p cell is)
        (ended_fewer t.disk.flights die e q more k);
  }
    where
      brought : (s : Option Step) (step : Step) → step_there s ≡ Some step → step.there ≡ true
      brought None step is = absurd (none-some step is)
      brought (Some s) step is = sym (ap (λ (x : Step). x.there) (same_Some (record s { there = true }) step is))

  read_ends : (die : ℕ) (reader : Reader) (place : Place) → t.disk.flights die ≡ Some (Reading reader place) →
      Kept k (read_right (die_idle t die) reader)
  read_ends die ForNobody place e =
      (kept_fewer (die_idle t die) alone.pins alone.no_rests refl (ended_fewer t.disk.flights die), room)
  read_ends die (ForTask tag index) place e = (
    kept_fewer (read_right (die_idle t die) (ForTask tag index)) (wanted_off tag index false)
        alone.no_rests refl (ended_fewer t.disk.flights die),
    room,
  )
  read_ends die ForStep place e = (
    step_read die,
    as_before (turns_left t) (page_of_step t.work.step) _ (page_of_step (step_there t.work.step)) _ (pages_left t)
        (pages_left t) room (end_turns die (Some (Reading ForStep place)) ReadRight v e) (there_still t.work.step)
        (same (pages_left t)),
  )
  read_ends die (ForRest number index) place e = (
    kept_fewer (read_right (die_idle t die) (ForRest number index)) alone.pins
        (ap (rests_without (record { number = number; index = index })) alone.no_rests) refl
        (ended_fewer t.disk.flights die),
    room,
  )

  wrong_ends : (die : ℕ) (reader : Reader) → Kept k (read_wrong (die_idle t die) reader)
  wrong_ends die (ForTask tag index) = (
    kept_fewer (read_wrong (die_idle t die) (ForTask tag index)) (wanted_off tag index false)
        alone.no_rests refl (ended_fewer t.disk.flights die),
    room,
  )
  wrong_ends die reader =
      (kept_fewer (die_idle t die) alone.pins alone.no_rests refl (ended_fewer t.disk.flights die), room)

  -- Programs

  room_taken : (die : ℕ) (p : Place) (cell : Cell) → t.disk.flights die ≡ Some (Programming p cell) →
      pages_left t ≤ 1 + pages_left (record t { disk = programmed t.numbers.pages t.disk p cell })
  room_taken die p cell e =
      let r = v.flights.programs die p cell e in
      program_takes t.numbers t.disk.blocks (spot_of p) p.page r.place.page r.next

  page_ends : (die : ℕ) (p : Place) (tag : Tag) (body : List ℕ) →
      t.disk.flights die ≡ Some (Programming p (GroupPage tag body)) → Kept k (page_written t p tag body)
  page_ends die p tag body e = (
    unflown (page_written t p tag body)
        (pins_settled_off (page_written t p tag body) v (ends_page die p tag body v e) un refl
        (none_freed t.disk.blocks (spot_of p) _ (behind_is_not_free t.numbers.pages p.page)) alone.pins)
        alone.no_rests (none_readable over) (none_flown die p (GroupPage tag body) v alone e),
    one_done (turns_left t) (page_of_step t.work.step) (turns_left (page_written t p tag body)) _ _ (pages_left t) _
        room (end_turns die (Some (Programming p (GroupPage tag body))) WentWell v e) (ap page_of_step of.1)
        (ap page_of_step over) (room_taken die p (GroupPage tag body) e),
  )
    where
      of : (step : Step) × (t.work.step ≡ Some step)
          × (flies_kind step.kind (Some (Programming p (GroupPage tag body))) ≡ true)
      of = alone.of_step die p (GroupPage tag body) e

      over : step_after (name_of tag) t.work.step ≡ None
      over = step_over (name_of tag) of.0 of.1 (name_over tag body p of.0.kind of.2)

  mark_ends : (die : ℕ) (p : Place) (m : Mark) → t.disk.flights die ≡ Some (Programming p (MarkPage m)) →
      Kept k (mark_written t p m)
  mark_ends die p m e = by t.work.plan refl
    where
      of : (step : Step) × (t.work.step ≡ Some step)
          × (flies_kind step.kind (Some (Programming p (MarkPage m))) ≡ true)
      of = alone.of_step die p (MarkPage m) e

      by : (o : Option Plan) → t.work.plan ≡ o →
          Kept k (mark_written (record t { work = record t.work { plan = o } }) p m)
      by (Some pl) is = absurd (true≢false (sym (ap is_mended (v.plan.mended pl is)) ∙ un))
      by None is = (
        unflown (record (mark_written t p m) { disk = programmed t.numbers.pages t.disk p (MarkPage m) })
            (pins_stay t.pins
            (none_freed t.disk.blocks (spot_of p) _ (behind_is_not_free t.numbers.pages p.page)) alone.pins)
            alone.no_rests (none_readable refl) (none_flown die p (MarkPage m) v alone e),
        one_done (turns_left t) (page_of_step t.work.step) (turns_left (mark_written t p m)) 0 _ (pages_left t) _ room
            (end_turns die (Some (Programming p (MarkPage m))) WentWell v e) (ap page_of_step of.1) refl
            (room_taken die p (MarkPage m) e),
      )

  -- The end of any job

  erase_ends : (die : ℕ) (s : Spot) → t.disk.flights die ≡ Some (Erasing s) →
      Kept k (record t { disk = erased t.disk s })
  erase_ends die s e = (
    kept_fewer (record t { disk = erased t.disk s }) alone.pins alone.no_rests refl (ended_fewer t.disk.flights s.die),
    room,
  )

  ends : (die : ℕ) (flight : Option Flight) (ending : Ending) → t.disk.flights die ≡ flight →
      fails_job (EndJob die ending) ≡ false → Kept k (end_flight t die flight ending)
  ends die flight (WentWrong left) e well = absurd (true≢false well)
  ends die (Some (Reading reader place)) ReadRight e well = read_ends die reader place e
  ends die (Some (Reading reader place)) ReadWrong e well = wrong_ends die reader
  ends die (Some (Programming p Nothing)) WentWell e well = absurd (v.flights.something die p e)
  ends die (Some (Programming p (GroupPage tag body))) WentWell e well = page_ends die p tag body e
  ends die (Some (Programming p (MarkPage m))) WentWell e well = mark_ends die p m e
  ends die (Some (Erasing s)) WentWell e well = erase_ends die s e
  ends die flight ending e well = (alone, room)

  -- Turns

  no_program : t.work.step ≡ None → (die : ℕ) (p : Place) (cell : Cell) →
      t.disk.flights die ≡ Some (Programming p cell) → ⊥
  no_program none die p cell h = let r = alone.of_step die p cell h in none-some r.0 (sym none ∙ r.1)

  content : (from : Option Place) → is_none from ≡ false → (want : Want) × (want_from from ≡ Some want)
  content None absent = absurd (true≢false absent)
  content (Some place) absent = (want_at ForStep place, refl)

  orders : (o : Order) → (t.work.step ≡ None) × IsDue t o → Kept k (ordered t o)
  orders (OrderMark fence) (none, due) = (
    unflown (mark_ordered t fence) alone.pins alone.no_rests
        (λ step is absent. absurd (true≢false (ap (λ (x : Step). x.there) (same_Some _ step is) ∙ absent)))
        (no_program none),
    one_ordered (turns_left t) (page_of_step t.work.step) (turns_left (mark_ordered t fence)) _ (pages_left t) room
        (order_takes t (OrderMark fence) un (none, due)),
  )
  orders (OrderRepair key left) (none, due) = (
    unflown (repair_ordered t key left) alone.pins alone.no_rests
        (λ step is. subst (λ (x : Step). x.there ≡ false → (want : Want) × (want_of_kind x.kind ≡ Some want))
        (same_Some _ step is) (content (standing_of t.ledger (t.ledger.first_page key)))) (no_program none),
    one_ordered (turns_left t) (page_of_step t.work.step) (turns_left (repair_ordered t key left)) _ (pages_left t) room
        (order_takes t (OrderRepair key left) un (none, due)),
  )
  orders (OrderCopy s p left) (none, due) = absurd (true≢false (sym (ap is_mended due.0) ∙ un))
  orders (OrderPlanMark s) (none, due) = absurd (true≢false (sym (ap is_mended due.1) ∙ un))

  turns : Kept k (turned t)
  turns = turned_if (Kept k) t (λ none. (alone, room)) (λ o due. orders o (order_due t o due))

  -- Jobs that begin

  -- a program that is given to a die takes no room before it ended
  begin_leaves : (die : ℕ) (p : Place) (cell : Cell) → MayTake t die (Some (Programming p cell)) →
      pages_left t ≤ pages_left (taken t die (Programming p cell))
  begin_leaves die p cell may = change_leaves t.numbers t.disk.blocks (spot_of p) (Filling p.page)
      (⊎_elim (λ filled. ap (page_room t.numbers.pages) filled)
      (λ (o : OpensReady t p). opening_leaves t.numbers.pages o.free o.first)
      (program_owed t die p cell may).place.next)

  takes : (die : ℕ) (flight : Flight) → MayTake t die (Some flight) → Kept k (taken t die flight)
  takes die (Reading reader place) may = (
    kept_fewer (taken t die (Reading reader place)) alone.pins alone.no_rests refl
        (begun_fewer t.disk.flights die (Some (Reading reader place)) (λ p cell h. read_is_no_program h)),
    room,
  )
  takes die (Erasing s) may = (
    kept_fewer (taken t die (Erasing s)) alone.pins alone.no_rests refl
        (begun_fewer t.disk.flights die (Some (Erasing s)) (λ p cell h. erase_is_no_program h)),
    room,
  )
  takes die (Programming p cell) may = (
    program_begins die p cell v un alone may,
    as_before (turns_left t) (page_of_step t.work.step) (turns_left t) (page_of_step t.work.step) _ (pages_left t) _
        room (same (turns_left t)) refl (begin_leaves die p cell may),
  )

  -- Each move

  let_go_kept : (of_pin : Pin → Bool) (of_reader : Reader → Bool) → Kept k (let_go t of_pin of_reader)
  let_go_kept of_pin of_reader = (
    kept_fewer (let_go t of_pin of_reader)
        (All-filter _ (λ (pin : Pin). IsOffFree t.disk.blocks pin.looked) t.pins alone.pins) alone.no_rests refl
        (gone_fewer t.disk.flights of_reader),
    room,
  )

  pub move_keeps_room : (move : Move) → IsAllowedMove t move → fails_job move ≡ false →
      Kept k (moved t move)
  move_keeps_room (Claim count) may well =
      (kept_fewer (moved t (Claim count)) alone.pins alone.no_rests refl (λ d p cell h. h), room)
  move_keeps_room (Release count) may well =
      (kept_fewer (moved t (Release count)) alone.pins alone.no_rests refl (λ d p cell h. h), room)
  move_keeps_room (Accept claimed g) may well = absurd (true≢false (sym may.0 ∙ un))
  move_keeps_room (Acknowledge count) may well =
      (kept_fewer (moved t (Acknowledge count)) alone.pins alone.no_rests refl (λ d p cell h. h), room)
  move_keeps_room (Keep key pin) may well = (
    kept_fewer (moved t (Keep key pin))
        (All-push (λ (x : Pin). IsOffFree t.disk.blocks x.looked) t.pins pin alone.pins
        (subst (IsOffFree t.disk.blocks) (sym may.1) (look_off t key v un may.0))) alone.no_rests refl
        (λ d p cell h. h),
    room,
  )
  move_keeps_room (WantPage tag index) may well = (
    kept_fewer (moved t (WantPage tag index)) (wanted_off tag index true) alone.no_rests refl
        (λ d p cell h. h),
    room,
  )
  move_keeps_room (LetGo tag index) may well = let_go_kept (is_pin_of tag index) (is_for tag index)
  move_keeps_room (LetGoAll tag) may well = let_go_kept (λ pin. pin.tag == tag) (is_for_task tag)
  move_keeps_room (GiveJob die flight) may well = takes die flight may
  move_keeps_room (EndJob die ending) may well = ends die (t.disk.flights die) ending refl well
  move_keeps_room TakeStep may well = turns
