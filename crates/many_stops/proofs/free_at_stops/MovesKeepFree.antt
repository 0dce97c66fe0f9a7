-- A life begins in a state in which a stop costs no free block, and each move keeps it so, unless it is the failed end
-- of an erase of pages that may go while another free block has such pages.
use Rattle.many_stops.proofs.Common.{AreAllowedMoves, AreWithin, Bool, Cell, Cells, CellsSound, EndJob, Erasing}
use Rattle.many_stops.proofs.Common.{FailsStale, Flight, GiveJob, IsAllowedMove, IsOpenedTranslation, KeepsFree, LetGo}
use Rattle.many_stops.proofs.Common.{LetGoAll, List, Move, None, Numbers, Option, Order, Place, Programming, Reader}
use Rattle.many_stops.proofs.Common.{Reading, Some, Spot, StopLeaves, TakeStep, Translation, Valid, WentWrong, []}
use Rattle.many_stops.proofs.Common.{all_keep, ap, arith, cond, count_blocks, count_by, fails_job, false, inl, inr}
use Rattle.many_stops.proofs.Common.{is_bad, is_for, is_for_task, is_free, moved, moved_by, none-some, refl, subst}
use Rattle.many_stops.proofs.Common.{sum_by-cons, sym, true, true≢false, turn_only, turned, ◌+◌, ◌==◌, ◌∙◌, ◌∷◌, ◌≡◌}
use Rattle.many_stops.proofs.Common.{◌≤◌}
use Rattle.std.proofs.Common.{is_some}
use Rattle.ufs_spec.specs.Moves.{is_pin_of, let_go, without_reader}
use Rattle.ufs_spec.specs.Translation.{Pin, due_order, is_step_due, stepped}
use Rattle.power_loss.proofs.jobs.NoneStale.{none_at_order}
use Rattle.power_loss.proofs.moves.MovesKeepCellsFitting.{move_stays}
use Rattle.power_loss.proofs.openings.OpenedIsValid.{opening_valid}
use Rattle.power_loss.specs.Book.{CellsRight}
use Rattle.many_stops.proofs.free_at_stops.BeforeAnyStep.{opened_again}
use Rattle.many_stops.proofs.CountedBlocks.{no_fewer}
use Rattle.many_stops.proofs.free_at_stops.FreeAtStops.{NextOpens, counted_alike, none_lost}
use Rattle.many_stops.proofs.free_at_stops.OneStaleBlock.{one_costs_none}
use Rattle.many_stops.specs.FreeOverStops.{NoneFailsStale}
use Rattle.many_stops.proofs.free_at_stops.FreeAndStale.{calmly, fewer}
use Rattle.many_stops.proofs.free_at_stops.JobsKeepFree.{gives, ends}

-- Tasks that let go

still_program : (reads : Reader → Bool) (f : Option Flight) {p : Place} {cell : Cell} →
    without_reader reads f ≡ Some (Programming p cell) → f ≡ Some (Programming p cell)
still_program reads None h = h
still_program reads (Some (Reading reader place)) h = cc
still_program reads (Some (Programming q x)) h = h
still_program reads (Some (Erasing s)) h = h

lets_go : (t : Translation) (of_pin : Pin → Bool) (reads : Reader → Bool) → KeepsFree t →
    KeepsFree (let_go t of_pin reads)
lets_go t of_pin reads keeps =
    calmly t (let_go t of_pin reads)
    (record { numbers = refl; old = λ s free stale. (free, stale); mending = refl; step = λ none. none })
    (λ a. fewer t a a.no_step (λ die p cell e. still_program reads (t.disk.flights die) e)) keeps

-- Turns

-- a step is ordered only where no block is to be erased
order_keeps : (t : Translation) (o : Order) → due_order t ≡ Some o → KeepsFree (turned t)
order_keeps t o e = let s = turn_only t in subst KeepsFree (sym s.is) (inl (none_at_order t o e))

pub due_keeps : (t : Translation) → is_step_due t ≡ true → KeepsFree (turned t)
due_keeps t due = by (due_order t) refl due
  where
    by : (o : Option Order) → due_order t ≡ o → is_some o ≡ true → KeepsFree (turned t)
    by None e h = absurd (true≢false (sym h))
    by (Some o) e h = order_keeps t o e

turns : (t : Translation) → KeepsFree t → KeepsFree (turned t)
turns t keeps = by (due_order t) refl
  where
    by : (o : Option Order) → due_order t ≡ o → KeepsFree (turned t)
    by None e = subst (λ o. KeepsFree (stepped t o)) (sym e) keeps
    by (Some o) e = order_keeps t o e

-- Moves

-- where no program and no erase fails by a move, no erase of pages that may go fails by it
pub none_fails_stale : (t : Translation) (move : Move) → fails_job move ≡ false → FailsStale t move → ⊥
none_fails_stale t (EndJob die (WentWrong left)) well h = true≢false well
none_fails_stale t move well h = h

pub all_end_well : (t : Translation) (moves : List Move) → count_by fails_job moves ≡ 0 → NoneFailsStale t moves
all_end_well t [] h = tt
all_end_well t (move ∷ moves) h =
    let e = sum_by-cons (λ (m : Move). cond (fails_job m) 1 0) move moves in
    let r = by (fails_job move) refl (sym e ∙ h) in
    (none_fails_stale t move r.0, all_end_well (moved t move) moves r.1)
  where
    by : (b : Bool) → fails_job move ≡ b → cond b 1 0 + count_by fails_job moves ≡ 0 →
        (fails_job move ≡ false) × (count_by fails_job moves ≡ 0)
    by true is none = absurd (omega (arith, none))
    by false is none = (is, omega (arith, none))

pub move_keeps : (t : Translation) (move : Move) → Valid t → IsAllowedMove t move → (FailsStale t move → ⊥) →
    KeepsFree t → KeepsFree (moved t move)
move_keeps t (LetGo tag index) v may well keeps = lets_go t (is_pin_of tag index) (is_for tag index) keeps
move_keeps t (LetGoAll tag) v may well keeps = lets_go t (λ (pin : Pin). pin.tag == tag) (is_for_task tag) keeps
move_keeps t (GiveJob die flight) v may well keeps = gives t v die flight may keeps
move_keeps t (EndJob die ending) v may well keeps = ends t v die (t.disk.flights die) ending refl may well keeps
move_keeps t TakeStep v may well keeps = turns t keeps
move_keeps t move v may well keeps = keeps

-- A life

pub opening_keeps : (n : Numbers) (c : Cells) (bad : Spot → Bool) (t : Translation) → IsOpenedTranslation n c bad t →
    KeepsFree t
opening_keeps n c bad t o = inr (inr (record {
  opening = c;
  bad = bad;
  first = t.disk.blocks;
  found = o.disk.blocks;
  is_newest = o.ledger.newest;
  seen = o.ledger.greatest_seen.0;
  no_step = o.no_step;
  stays = λ s out. refl;
  same = λ p out. ap (λ (x : Cells). x p) o.disk.cells;
  thinned = λ p free. inr (inl (ap (λ (x : Cells). x p) o.disk.cells, free));
  flies = λ die p cell e. absurd (none-some (Programming p cell) (sym (o.disk.idle die) ∙ e));
}))

-- what holds of a layer and of what moves make of it
record IsKeptBy (t u : Translation) : Type 0 where
  numbers : u.numbers ≡ t.numbers
  valid : Valid u
  keeps : KeepsFree u

all_kept : (t : Translation) (moves : List Move) → Valid t → KeepsFree t → AreAllowedMoves t moves →
    NoneFailsStale t moves → IsKeptBy t (moved_by t moves)
all_kept t [] v keeps may well = record { numbers = refl; valid = v; keeps = keeps }
all_kept t (move ∷ moves) v keeps may well =
    let r = all_kept (moved t move) moves (all_keep t move v may.0) (move_keeps t move v may.0 well.0 keeps) may.1
    well.1 in
    record { numbers = r.numbers ∙ (move_stays t move).numbers; valid = r.valid; keeps = r.keeps }

-- Stops

pub stop_costs_none : (t : Translation) (left : Cells) (next : Translation) → Valid t → KeepsFree t →
    StopLeaves t left → NextOpens t left next → count_blocks t is_free ≤ count_blocks next is_free
stop_costs_none t left next v (inl none) crash o =
    counted_alike t next o (no_fewer t.numbers t.disk.blocks next.disk.blocks
    (λ s on free. none_lost v crash o none s on.die on.block free))
stop_costs_none t left next v (inr (inl one)) crash o =
    counted_alike t next o (one_costs_none t left next v crash o one)
stop_costs_none t left next v (inr (inr a)) crash o =
    counted_alike t next o (no_fewer t.numbers t.disk.blocks next.disk.blocks
    (λ s on free. opened_again v crash a o s free))

pub life_costs_none : (n : Numbers) (c left : Cells) (bad : Spot → Bool) (t next : Translation) (moves : List Move) →
    1 ≤ n.pages → CellsRight c → AreWithin n c → CellsSound c t.ledger.newest → IsOpenedTranslation n c bad t →
    AreAllowedMoves t moves → NoneFailsStale t moves → StopLeaves (moved_by t moves) left →
    IsOpenedTranslation n left (λ (s : Spot). is_bad ((moved_by t moves).disk.blocks s)) next →
    count_blocks (moved_by t moves) is_free ≤ count_blocks next is_free
life_costs_none n c left bad t next moves pages right within sound start may well crash o =
    let valid = opening_valid n c bad t pages right within sound start in
    let r = all_kept t moves valid (opening_keeps n c bad t start) may well in
    stop_costs_none (moved_by t moves) left next r.valid r.keeps crash
    (subst (λ z. IsOpenedTranslation z left (λ (s : Spot). is_bad ((moved_by t moves).disk.blocks s)) next)
    (sym (r.numbers ∙ start.numbers)) o)
