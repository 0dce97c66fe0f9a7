-- Which failures of programs and erases the laws of room bear.
use Rattle.std.specs.Prelude.{ℕ, ◌<◌, List, [], ◌∷◌, Some}
use Rattle.ufs_spec.specs.Cells.{Cells}
use Rattle.ufs_spec.specs.Lives.{Leads, Lived}
use Rattle.ufs_spec.specs.Moves.{EndJob, Move, WentWrong, moved}
use Rattle.ufs_spec.specs.Refusals.{State}
use Rattle.ufs_spec.specs.Translation.{Translation, count_blocks, is_bad}
use Rattle.ufs_spec.specs.declared.events.Event.{Event}
use Rattle.ufs_spec.specs.declared.events.Event.TheVariants as event
use Rattle.ufs_spec.specs.declared.events.Output.{Output}
use Rattle.many_stops.specs.FreeOverStops.{FailsStale}

-- the failure of the die's job is borne: no more blocks are bad after it than are spare, and the job is not the erase
-- of a block with pages that may go beside another such block
pub record IsBorne (t : Translation) (die : ℕ) : Type 0 where
  pub spare : count_blocks t is_bad < t.numbers.spare
  pub alone : (left : Cells) → FailsStale t (EndJob die (WentWrong left)) → ⊥

-- Moves

abbrev pub MoveIsBorne : Translation → Move → Type 0
MoveIsBorne t (EndJob die (WentWrong left)) = IsBorne t die
MoveIsBorne t move = Unit {0}

-- each failure is borne
abbrev pub AreBorneMoves : Translation → List Move → Type 0
AreBorneMoves t [] = Unit {0}
AreBorneMoves t (move ∷ moves) = MoveIsBorne t move × AreBorneMoves (moved t move) moves

-- Events

abbrev pub EventIsBorne : State → Event → Type 0
EventIsBorne s (event.Fail die (Some leftover)) = IsBorne s.translation die
EventIsBorne s happening = Unit {0}

-- the same of the events of a life
abbrev pub AreBorne : State → List Event → List Output → Type 0
AreBorne s (e ∷ es) (o ∷ os) = EventIsBorne s e × ((t : State) → Leads s e o t → AreBorne t es os)
AreBorne s es os = Unit {0}

-- in this life each failure is borne
abbrev pub IsBorneLife : Lived → Type 0
IsBorneLife l = AreBorne l.start l.events l.outputs
