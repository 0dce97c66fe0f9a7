-- How many turns are left when a life begins, by the keys with a lost page.
use Rattle.power_loss.proofs.Common.{AreLost, AreWithin, Bool, Cells, CellsRight, CellsSound, IsMendingAt}
use Rattle.power_loss.proofs.Common.{IsOpenedTranslation, Key, List, Mark, Mended, Mending, Move, None, Numbers, Option}
use Rattle.power_loss.proofs.Common.{Repairing, Some, Spot, Translation, Unmarked, ap, arith, false, has_mark_number}
use Rattle.power_loss.proofs.Common.{length, true, ℕ, ◌+◌, ◌≤◌}
use Rattle.power_loss.proofs.MachineWords.{AreAllowedMoves, is_marking, mending_turns, turns_left, turns_of}
use Rattle.power_loss.proofs.openings.OpenedIsValid.{opening_valid}
use Rattle.power_loss.proofs.mending_steps.TurnsLeft.{Keeps, all_counted}
use Rattle.power_loss.proofs.repaired_keys.NoMoreKeys.{as_many}

-- A life begins

turns_at : (n : Numbers) {c : Cells} (m : Option Mark) {low top : ℕ} {lost : List Key} (w : Mending) (more : Bool) →
    AreLost c low top lost → IsMendingAt n c m low top w → turns_of w false more ≤ length lost + 2
turns_at n m (Unmarked None keys) true x y = omega arith
turns_at n m {lost} (Unmarked (Some fence) keys) true x y = let l = as_many y.2 x in omega arith
turns_at n m (Unmarked fence keys) false x y = omega arith
turns_at n m (Repairing left) more x y = absurd y
turns_at n m Mended more x y = omega arith

pub turns_at_opening : (n : Numbers) (c : Cells) (bad : Spot → Bool) (t : Translation) (lost : List Key) →
    IsOpenedTranslation n c bad t → AreLost c t.ledger.first_lost t.ledger.greatest_seen lost →
    turns_left t ≤ length lost + 2
turns_at_opening n c bad t lost o x =
    let l = turns_at n t.ledger.newest t.work.mending (has_mark_number t) x o.mending in
    let e = ap (λ s. turns_of t.work.mending (is_marking s) (has_mark_number t)) o.no_step in
    omega arith

pub life_turns : Keeps → (n : Numbers) (c : Cells) (bad : Spot → Bool) (t : Translation) (lost : List Key)
    (moves : List Move) → 1 ≤ n.pages → CellsRight c → AreWithin n c → CellsSound c t.ledger.newest →
    IsOpenedTranslation n c bad t → AreLost c t.ledger.first_lost t.ledger.greatest_seen lost →
    AreAllowedMoves t moves → mending_turns t moves ≤ length lost + 2
life_turns keep n c bad t lost moves pages right within sound start x may =
    let l = all_counted keep t moves (opening_valid n c bad t pages right within sound start) may in
    let r = turns_at_opening n c bad t lost start x in
    omega arith
