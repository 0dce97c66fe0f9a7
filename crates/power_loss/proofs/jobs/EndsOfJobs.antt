-- The end of a job: what the dies hold then, and what tasks are told.
use Rattle.ufs_spec.specs.Exchanges.{Comparing}
use Rattle.power_loss.proofs.Common.{◌≡◌, ◌⊎◌, ℕ, ◌≤◌, ◌==◌, ◌&&◌, Bool, true, false, [], ◌∷◌, Option, Some, None, map}
use Rattle.power_loss.proofs.Common.{refl, sym, subst, inl, inr, arith, nat_lt, Array, Cell, Cells, GroupPage, IsCell}
use Rattle.power_loss.proofs.Common.{MarkPage, Nothing, Shows, same_place, CellCrash, Crash, Disk, Erasing, Flight}
use Rattle.power_loss.proofs.Common.{ForNobody, ForRest, ForStep, ForTask, Programming, Reader, Reading, Spot, Touches}
use Rattle.power_loss.proofs.Common.{at_place, flight_alone, page_of, program_failed, programmed, same_spot, spot_of}
use Rattle.power_loss.proofs.Common.{EndJob, Ending, MayEnd, ReadRight, ReadWrong, WentWell, WentWrong, die_idle}
use Rattle.power_loss.proofs.Common.{end_flight, freed, moved, read_right, read_wrong, MayBeLeft, Plan, Translation}
use Rattle.power_loss.proofs.Common.{has_mark_number, is_mended, mark_ordered, Numbers, Fence, Place, torn_is_nothing}
use Rattle.power_loss.proofs.MachineWords.{Answering, Awaiting, Deed, DeedFits, Gathering, IsTied, NotRead, ReadState}
use Rattle.power_loss.proofs.MachineWords.{ReadingArea, Sending, SendingBytes, State, Task, WasRead, array_after}
use Rattle.power_loss.proofs.MachineWords.{blank_page, claim_of, claimed_by, deed_read, ends_with, in_block, is_task_of}
use Rattle.power_loss.proofs.MachineWords.{numbers_of, read_noted, task_read, with_moves}
use Rattle.std.specs.Prelude.{if◌then◌else◌}
use Rattle.std.proofs.lemmas.Bool.{ltb-false}
use Rattle.ufs_laws.proofs.pages.BlankPages.{nothing_is_blank}
use Rattle.ufs_laws.proofs.pages.PageIsOneCell.{one_cell}
use Rattle.power_loss.proofs.laid_rests.AllMoves.{laid_move}
use Rattle.power_loss.proofs.calls.TiesToDies.{end_leaves, fits_of, tasks_stay, ties_of, ties_stay, whole}
use Rattle.power_loss.proofs.moves.MovesKeepCellsFitting.{move_fits, move_stays}
use Rattle.power_loss.proofs.open_tasks.TaskLists.{KeepsTasks, tasks_kept}
use Rattle.power_loss.proofs.calls.RightChanges.{Right}
use Rattle.ufs_laws.proofs.walk.SmallChanges.{Maps, One, Still, job_over, reads}

-- What tasks are told

read_fits : (n : Numbers) (a : ℕ) (m : Bool) (index : ℕ) (state : ReadState) (task : Task) (deed : Deed) →
    DeedFits n a m (claimed_by n deed task.command) task.length deed →
    DeedFits n a m (claimed_by n (deed_read index state deed) task.command) task.length (deed_read index state deed)
read_fits n a m index state task (Sending blocks sent) h = tt
read_fits n a m index state task deed h = h

read_claims : (n : Numbers) (index : ℕ) (state : ReadState) (task : Task) (deed : Deed) →
    claimed_by n (deed_read index state deed) task.command ≤ claimed_by n deed task.command
read_claims n index state task (Gathering purpose gathered asked) = omega arith
read_claims n index state task (Sending blocks sent) = omega arith
read_claims n index state task (SendingBytes bytes) = omega arith
read_claims n index state task (Awaiting commands) = omega arith
read_claims n index state task (ReadingArea pages) = omega arith
read_claims n index state task (Comparing blocks compared asked) = omega arith
read_claims n index state task (Answering status carried) = omega arith

read_keeps : {n : Numbers} {a : ℕ} {m : Bool} (tag index : ℕ) (state : ReadState) →
    KeepsTasks n a m (task_read tag index state)
read_keeps {n} {a} {m} tag index state = record {
  tag = λ t. same t (is_task_of tag t);
  fits = λ t h. fits t h (is_task_of tag t);
  claim = λ t. claim t (is_task_of tag t);
}
  where
    same : (t : Task) (b : Bool) → (if b then record t { deed = deed_read index state t.deed } else t).tag ≡ t.tag
    same t true = refl
    same t false = refl

    fits : (t : Task) → DeedFits n a m (claim_of n t) t.length t.deed → (b : Bool) →
        DeedFits n a m (claim_of n (if b then record t { deed = deed_read index state t.deed } else t))
        (if b then record t { deed = deed_read index state t.deed } else t).length
        (if b then record t { deed = deed_read index state t.deed } else t).deed
    fits t h true = read_fits n a m index state t t.deed h
    fits t h false = h

    claim : (t : Task) (b : Bool) → claim_of n (if b then record t { deed = deed_read index state t.deed } else t) ≤
        claim_of n t
    claim t true = read_claims n index state t t.deed
    claim t false = omega arith

-- the task that a read was for is told of it
reader_right : {s : State} (tag index : ℕ) (state : ReadState) → IsTied s →
    Right s (record s { tasks = map (task_read tag index state) s.tasks })
reader_right {s} tag index state v =
    let n = numbers_of s in
    let m = is_mended s.translation.work.mending in
    One (Maps (task_read tag index state)) (record {
      small = reads tag index state;
      layer = tt;
      tasks = tasks_kept (read_keeps tag index state) v.tasks;
    })

told_right : (s : State) (die : ℕ) (reader : Reader) (state : ReadState) (ending : Ending) {array : Array} →
    IsTied (record (with_moves s (EndJob die ending ∷ [])) { array = array }) →
    Right (record (with_moves s (EndJob die ending ∷ [])) { array = array })
    (with_moves (record (read_noted s reader state) { array = array }) (EndJob die ending ∷ []))
told_right s die (ForTask tag index) state ending {array} v = reader_right tag index state v
told_right s die ForStep state ending v = Still
told_right s die (ForRest number index) state ending v = Still
told_right s die ForNobody state ending v = Still

-- behind its job's end, what a call does
pub ends_right : (s : State) (die : ℕ) (flight : Option Flight) (ending : Ending) (left : Array) →
    IsTied (job_over s die flight ending left) → Right (job_over s die flight ending left)
    (ends_with s die flight ending left)
ends_right s die None ending left v = Still
ends_right s die (Some (Reading reader place)) ReadRight left v = told_right s die reader WasRead ReadRight v
ends_right s die (Some (Reading reader place)) ReadWrong left v = told_right s die reader NotRead ReadWrong v
ends_right s die (Some (Reading reader place)) WentWell left v = Still
ends_right s die (Some (Reading reader place)) (WentWrong cells) left v = Still
ends_right s die (Some (Programming place cell)) ending left v = Still
ends_right s die (Some (Erasing spot)) ending left v = Still

-- The end of a job

pub record EndsRight (s : State) (die : ℕ) (flight : Flight) (ending : Ending) (left : Array) : Type 0 where
  pub may : MayEnd s.translation.disk die (Some flight) ending
  pub shown : Shows (array_after s flight ending left) (end_flight s.translation die (Some flight) ending).disk.cells

pub over_keeps : (s : State) (die : ℕ) (flight : Flight) (ending : Ending) (left : Array) → IsTied s →
    s.translation.disk.flights die ≡ Some flight → EndsRight s die flight ending left →
    IsTied (job_over s die (Some flight) ending left)
over_keeps s die flight ending left v e r =
    let t = s.translation in
    let u = moved t (EndJob die ending) in
    let stays = move_stays t (EndJob die ending) in
    let leaves = end_leaves die (t.disk.flights die) ending v.valid in
    let shown : Shows (array_after s flight ending left) u.disk.cells =
    subst (λ x. Shows (array_after s flight ending left) (end_flight t die x ending).disk.cells) (sym e) r.shown in
    let may : MayEnd t.disk die (t.disk.flights die) ending = subst (λ x. MayEnd t.disk die x ending) (sym e) r.may in
    let claims = leaves.claims in
    whole (job_over s die (Some flight) ending left) (move_fits (EndJob die ending) (fits_of v) may)
    (laid_move t (EndJob die ending) v.valid v.laid may)
    (ties_stay (ties_of v) stays shown leaves.groups) (tasks_stay s s.accepted stays (omega arith) (omega arith) v.tasks)

-- What the dies show

pub right_shown : (s : State) (die : ℕ) (reader : Reader) → Shows s.array s.translation.disk.cells →
    Shows s.array (read_right (die_idle s.translation die) reader).disk.cells
right_shown s die (ForTask tag index) h = h
right_shown s die ForStep h = h
right_shown s die (ForRest number index) h = h
right_shown s die ForNobody h = h

pub wrong_shown : (s : State) (die : ℕ) (reader : Reader) → Shows s.array s.translation.disk.cells →
    Shows s.array (read_wrong (die_idle s.translation die) reader).disk.cells
wrong_shown s die (ForTask tag index) h = h
wrong_shown s die ForStep h = h
wrong_shown s die (ForRest number index) h = h
wrong_shown s die ForNobody h = h

put_shown : (array : Array) (cells : Cells) (p : Place) (cell : Cell) → Shows array cells → IsCell (page_of cell) cell →
    Shows (at_place array p (page_of cell)) (at_place cells p cell)
put_shown array cells p cell h new q = by (same_place q p)
  where
    by : (b : Bool) → IsCell (if b then page_of cell else array q) (if b then cell else cells q)
    by true = new
    by false = h q

freed_shown : (array : Array) (d : Disk) (plan : Option Plan) → Shows array d.cells → Shows array (freed d plan).cells
freed_shown array d None h = h
freed_shown array d (Some plan) h = h

again_shown : (array : Array) (u : Translation) (fence : Option Fence) (b : Bool) → Shows array u.disk.cells →
    Shows array (if b then mark_ordered u fence else record u { work = record u.work { step = None } }).disk.cells
again_shown array u fence true h = h
again_shown array u fence false h = h

pub written_shown : {s : State} (die : ℕ) (p : Place) (cell : Cell) (left : Array) → IsTied s →
    s.translation.disk.flights die ≡ Some (Programming p cell) →
    Shows (array_after s (Programming p cell) WentWell left) (end_flight s.translation die
    (Some (Programming p cell)) WentWell).disk.cells
written_shown die p Nothing left v e = absurd (v.valid.flights.something die p e)
written_shown {s} die p (GroupPage tag body) left v e = put_shown s.array s.translation.disk.cells p
    (GroupPage tag body) v.shown (v.flights die p (GroupPage tag body) e)
written_shown {s} die p (MarkPage m) left v e =
    freed_shown (at_place s.array p (page_of (MarkPage m))) (programmed s.translation.numbers.pages s.translation.disk p
    (MarkPage m)) s.translation.work.plan
    (put_shown s.array s.translation.disk.cells p (MarkPage m) v.shown (v.flights die p (MarkPage m) e))

pub erased_shown : (s : State) (spot : Spot) → IsTied s →
    Shows (λ p. if in_block (numbers_of s) spot p then blank_page else s.array p)
    (λ p. if same_spot (spot_of p) spot then Nothing else s.translation.disk.cells p)
erased_shown s spot v p = by (same_spot (spot_of p) spot) (nat_lt p.page (numbers_of s).pages) refl
  where
    outside : nat_lt p.page (numbers_of s).pages ≡ false → s.translation.disk.cells p ≡ Nothing
    outside e = v.valid.pages.within p (λ is. let l = ltb-false p.page
        (numbers_of s).pages e in let m = is.page in omega arith)

    by : (b c : Bool) → nat_lt p.page (numbers_of s).pages ≡ c → IsCell (if b && c then blank_page else s.array p)
        (if b then Nothing else s.translation.disk.cells p)
    by true true e = nothing_is_blank
    by true false e = subst (IsCell (s.array p)) (outside e) (v.shown p)
    by false c e = v.shown p

-- What a job that failed leaves

crash_cells : (array left : Array) (cells new : Cells) (flights : ℕ → Option Flight) → Shows array cells →
    Shows left new → Crash array flights left → ((die : ℕ) (p : Place) (cell : Cell) → Touches (flights die) p cell →
    IsCell (page_of cell) cell) → CellCrash cells flights new
crash_cells array left cells new flights shown after crash fits p = by (crash p)
  where
    stayed : left p ≡ array p → new p ≡ cells p
    stayed e = one_cell (left p) (new p) (cells p) (after p) (subst (λ page. IsCell page (cells p)) (sym e) (shown p))

    touched : (intended : Cell) → Touches (flights p.die) p intended → MayBeLeft (array p) (page_of intended) (left p) →
        (new p ≡ cells p) ⊎ ((x : Cell) × Touches (flights p.die) p x × ((new p ≡ x) ⊎ (new p ≡ Nothing)))
    touched intended t (inl e) = inl (stayed e)
    touched intended t (inr (inl e)) =
        inr (
          intended,
          t,
          inl (one_cell (left p) (new p) intended (after p)
              (subst (λ page. IsCell page intended) (sym e) (fits p.die p intended t))),
        )
    touched intended t (inr (inr wrong)) = inr (intended, t, inr (torn_is_nothing (left p) (new p) wrong (after p)))

    by : (left p ≡ array p) ⊎ ((intended : Cell) × Touches (flights p.die) p intended × MayBeLeft (array p)
        (page_of intended) (left p)) → (new p ≡ cells p) ⊎ ((x : Cell) × Touches (flights p.die) p x ×
        ((new p ≡ x) ⊎ (new p ≡ Nothing)))
    by (inl e) = inl (stayed e)
    by (inr h) = touched h.0 h.1 h.2

alone_fits : {s : State} (die e : ℕ) (p : Place) (cell : Cell) → IsTied s →
    Touches (flight_alone s.translation.disk.flights die e) p cell → IsCell (page_of cell) cell
alone_fits {s} die e p cell v = by (e == die)
  where
    touch : (x : Option Flight) → s.translation.disk.flights e ≡ x → Touches x p cell → IsCell (page_of cell) cell
    touch None is h = absurd h
    touch (Some (Reading reader place)) is h = absurd h
    touch (Some (Programming q c)) is h = subst (λ x. IsCell (page_of x) x) (sym h.1) (v.flights e q c is)
    touch (Some (Erasing spot)) is h = subst (λ x. IsCell (page_of x) x) (sym h.1) nothing_is_blank

    by : (b : Bool) → Touches (if b then s.translation.disk.flights e else None) p cell → IsCell (page_of cell) cell
    by true h = touch (s.translation.disk.flights e) refl h
    by false h = absurd h

pub left_shown : (s : State) (die : ℕ) (p : Place) (cell : Cell) (left : Array) (cells : Cells) → Shows left cells →
    Shows left (end_flight s.translation die (Some (Programming p cell)) (WentWrong cells)).disk.cells
left_shown s die p (MarkPage m) left cells h =
    again_shown left (record s.translation { disk = program_failed s.translation.disk p cells }) m.fence
    (has_mark_number s.translation) h
left_shown s die p cell left cells h = h

-- what a failed job leaves, as cells
pub cells_left : {s : State} (die : ℕ) (cells : Cells) {left : Array} → IsTied s →
    Crash s.array (flight_alone s.translation.disk.flights die) left → Shows left cells →
    CellCrash s.translation.disk.cells (flight_alone s.translation.disk.flights die) cells
cells_left {s} die cells {left} v crash shown =
    crash_cells s.array left s.translation.disk.cells cells (flight_alone s.translation.disk.flights die) v.shown shown
    crash (λ d p cell h. alone_fits die d p cell v h)

pub failed_keeps : {s : State} {die : ℕ} {flight : Flight} (cells : Cells) {left : Array} → IsTied s →
    s.translation.disk.flights die ≡ Some flight → Crash s.array (flight_alone s.translation.disk.flights die) left →
    Shows left cells → (CellCrash s.translation.disk.cells (flight_alone s.translation.disk.flights die) cells →
    EndsRight s die flight (WentWrong cells) left) → IsTied (job_over s die (Some flight) (WentWrong cells) left)
failed_keeps {s} {die} {flight} cells {left} v e crash shown right =
    over_keeps s die flight (WentWrong cells) left v e (right (cells_left die cells v crash shown))
