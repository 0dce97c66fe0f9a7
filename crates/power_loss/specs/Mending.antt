-- How many turns may still find a step due before the device is mended.
use Rattle.std.specs.Prelude.{◌&&◌, ℕ, suc, ◌+◌, not, Bool, true, false, if◌then◌else◌, List, [], ◌∷◌, count_by, length}
use Rattle.std.specs.Prelude.{Option, Some, None}
use Rattle.ufs_spec.specs.Moves.{IsAllowedMove, Move, TakeStep, moved}
use Rattle.ufs_spec.specs.Translation.{MarkStep, Mended, Mending, Repairing, Step, StepKind, Translation, Unmarked}
use Rattle.ufs_spec.specs.Translation.{has_mark_number, is_mended, is_step_due}
use Rattle.ufs_spec.specs.declared.events.Output.{Output}
use Rattle.ufs_spec.specs.declared.events.Output.TheVariants as output
use Rattle.ufs_spec.specs.declared.flash.Fence.{Fence}
use Rattle.ufs_spec.specs.declared.flash.Key.{Key}

-- Turns that are left

-- the step programs a mark, so neither a copy nor a repair
abbrev pub is_mark : StepKind → Bool
is_mark (MarkStep number fence) = true
is_mark kind = false

-- the step under way is a mark
abbrev pub is_marking : Option Step → Bool
is_marking None = false
is_marking (Some step) = is_mark step.kind

-- behind the first mark: none where it has no fence, else a repair for each lost key and the last mark
abbrev pub turns_behind : Option Fence → List Key → ℕ
turns_behind None lost = 0
turns_behind (Some fence) lost = suc (length lost)

-- by the mending, whether the step under way is a mark, and whether a mark number is left; a mark that needs a number
-- where none is left never comes
abbrev pub turns_of : Mending → Bool → Bool → ℕ
turns_of (Unmarked fence lost) true more = turns_behind fence lost
turns_of (Unmarked fence lost) false true = suc (turns_behind fence lost)
turns_of (Unmarked fence lost) false false = 0
turns_of (Repairing left) true more = length left
turns_of (Repairing left) false true = suc (length left)
turns_of (Repairing left) false false = length left
turns_of Mended marking more = 0

-- so many turns at most find a step due before the device is mended
abbrev pub turns_left : Translation → ℕ
turns_left t = turns_of t.work.mending (is_marking t.work.step) (has_mark_number t)

-- Moves

-- each of the moves is allowed where those before it lead
abbrev pub AreAllowedMoves : Translation → List Move → Type 0
AreAllowedMoves t [] = Unit {0}
AreAllowedMoves t (move ∷ moves) = IsAllowedMove t move × AreAllowedMoves (moved t move) moves

-- what the moves, one after another, make of the layer
abbrev pub moved_by : Translation → List Move → Translation
moved_by t [] = t
moved_by t (move ∷ moves) = moved_by (moved t move) moves

-- a turn that finds a step due while the device is not mended
abbrev pub is_mending_turn : Translation → Move → Bool
is_mending_turn t TakeStep = is_step_due t && not (is_mended t.work.mending)
is_mending_turn t move = false

-- how many of the moves are such turns
abbrev pub mending_turns : Translation → List Move → ℕ
mending_turns t [] = 0
mending_turns t (move ∷ moves) = (if is_mending_turn t move then 1 else 0) + mending_turns (moved t move) moves

-- Outputs

-- a turn that was answered true: it found a step due
abbrev pub is_true_turn : Output → Bool
is_true_turn (output.Turn due) = due
is_true_turn shown = false

-- how many of the outputs are such turns
abbrev pub true_turns : List Output → ℕ
true_turns shown = count_by is_true_turn shown
