-- A mending that began with room has room after any moves, less a block for each program and erase that failed, so it
-- may go on until it is over.
use Rattle.power_loss.proofs.Common.{AreLost, AreWithin, Bool, Cells, CellsRight, CellsSound, IsAllowedMove}
use Rattle.power_loss.proofs.Common.{IsOpenedTranslation, Key, List, Move, Numbers, Spot, Translation, Valid, [], arith}
use Rattle.power_loss.proofs.Common.{false, if◌then◌else◌, is_free, is_mended, length, moved, subst, sum_by-cons, ℕ}
use Rattle.power_loss.proofs.Common.{◌*◌, ◌+◌, ◌∷◌, ◌≡◌, ◌≤◌}
use Rattle.power_loss.proofs.MachineWords.{AreAllowedMoves}
use Rattle.std.specs.List.{count_by}
use Rattle.ufs_spec.specs.Translation.{count_blocks}
use Rattle.power_loss.specs.Mending.{moved_by}
use Rattle.power_loss.specs.MendingRoom.{HasRoom, MayGoOn, MendsAlone, failures_of, fails_job}
use Rattle.power_loss.proofs.mending_steps.TurnsOfALife.{false_before}
use Rattle.power_loss.proofs.moves.MovesKeepCellsFitting.{move_stays}
use Rattle.power_loss.proofs.moves.MovesKeepValid.{all_keep}
use Rattle.power_loss.proofs.openings.OpenedIsValid.{opening_valid}
use Rattle.power_loss.proofs.room_to_mend.OwedWhileMending.{goes_on}
use Rattle.power_loss.proofs.room_to_mend.RoomInBlocks.{opening_alone, opening_room}
use Rattle.power_loss.proofs.room_to_mend.RoomOfFailures.{each_move, less_room}

-- Moves in a row

-- what was not mended behind moves was not before them
unmended_before : (t : Translation) (moves : List Move) → is_mended (moved_by t moves).work.mending ≡ false →
    is_mended t.work.mending ≡ false
unmended_before t [] un = un
unmended_before t (move ∷ moves) un = false_before (is_mended t.work.mending) (move_stays t move).mended
    (unmended_before (moved t move) moves un)

-- the mending alone takes pages, and has room even if so many blocks become bad
pub record Mends (failures : ℕ) (t : Translation) : Type 0 where
  pub valid : Valid t
  pub alone : MendsAlone t
  pub room : HasRoom failures t

pub move_mends : {t : Translation} (move : Move) (failures : ℕ) → Mends (failures + failures_of move) t →
    is_mended t.work.mending ≡ false → IsAllowedMove t move → Mends failures (moved t move)
move_mends {t} move failures m un may =
    let k = each_move move failures m.valid un m.alone m.room may in
    record { valid = all_keep t move m.valid may; alone = k.0; room = k.1 }

-- who has room for more failures has room for fewer
pub fewer_mend : (t : Translation) (more k : ℕ) → Mends (k + more) t → Mends k t
fewer_mend t more k m = record { valid = m.valid; alone = m.alone; room = less_room t more k m.room }

-- what fails first, and what fails behind it
pub failures_split : {A : Type 0} (test : A → Bool) (x : A) (xs : List A) (failures : ℕ) →
    failures + count_by test (x ∷ xs) ≡ failures + count_by test xs + (if test x then 1 else 0)
failures_split {A} test x xs failures =
    let e = sum_by-cons (λ (y : A). if test y then 1 else 0) x xs in
    omega (arith, e)

moves_mend : (t : Translation) (moves : List Move) (failures : ℕ) → Mends (failures + count_by fails_job moves) t →
    AreAllowedMoves t moves → is_mended (moved_by t moves).work.mending ≡ false → Mends failures (moved_by t moves)
moves_mend t [] failures m may un = fewer_mend t (count_by fails_job []) failures m
moves_mend t (move ∷ moves) failures m may un =
    let first = move_mends move (failures + count_by fails_job moves)
    (subst (λ k. Mends k t) (failures_split fails_job move moves failures) m)
    (unmended_before t (move ∷ moves) un) may.0 in
    moves_mend (moved t move) moves failures first may.1 un

pub moves_keep_room : (t : Translation) (moves : List Move) (failures : ℕ) → Valid t → MendsAlone t →
    HasRoom (failures + count_by fails_job moves) t → AreAllowedMoves t moves →
    is_mended (moved_by t moves).work.mending ≡ false →
    MendsAlone (moved_by t moves) × HasRoom failures (moved_by t moves)
moves_keep_room t moves failures v alone room may un =
    let m = moves_mend t moves failures (record { valid = v; alone = alone; room = room }) may un in (m.alone, m.room)

-- A life of the layer

pub none_more : (k : ℕ) → k ≡ 0 + k
none_more k = omega arith

pub mends_on : {t : Translation} → Mends 0 t → is_mended t.work.mending ≡ false → MayGoOn t
mends_on {t} m un = goes_on t m.valid un m.alone m.room

pub layer_goes_on : (n : Numbers) (c : Cells) (bad : Spot → Bool) (t : Translation) (lost : List Key)
    (moves : List Move) → 1 ≤ n.pages → CellsRight c → AreWithin n c → CellsSound c t.ledger.newest →
    IsOpenedTranslation n c bad t → AreLost c t.ledger.first_lost t.ledger.greatest_seen lost →
    length lost + 2 + count_by fails_job moves * n.pages ≤ n.pages * count_blocks t is_free → AreAllowedMoves t moves →
    is_mended (moved_by t moves).work.mending ≡ false → MayGoOn (moved_by t moves)
layer_goes_on n c bad t lost moves pages right within sound start x room may un = mends_on
    (moves_mend t moves 0
    (subst (λ k. Mends k t) (none_more (count_by fails_job moves)) (record {
      valid = opening_valid n c bad t pages right within sound start;
      alone = opening_alone n c bad t start;
      room = opening_room n c bad t lost (count_by fails_job moves) start x room;
    })) may un) un
