-- Moves and messages that leave the pages, the numbers, the state of each block and what is in the free ones: all but
-- the beginning and the end of a job.
use Rattle.device.proofs.Common.{Array, BlockState, Heard, Message, Move, Numbers, Spot, State, TakeStep, Translation}
use Rattle.device.proofs.Common.{Vacancy, [], ap, fills, lock_applied, moved, refl, replied, with_moves, ◌∙◌, ◌∷◌, ◌≡◌}
use Rattle.ufs_spec.specs.Machine.{hears}
use Rattle.ufs_spec.specs.Moves.{EndJob, GiveJob}
use Rattle.ufs_laws.proofs.walk.SmallChanges.{Change, IsQuiet, IsSmall, Moves, Small, changed, hears_small, kept}
use Rattle.ufs_laws.proofs.walk.SmallChanges.{replied_small, settled_small, small_quiet}
use Rattle.ufs_laws.proofs.walk.LayerEffects.{turn_only}

-- What is looked at

pub record LayerSeen : Type 0 where
  pub numbers : Numbers
  pub blocks : Spot → BlockState
  pub vacancies : Spot → Vacancy

pub record Seen : Type 0 where
  pub array : Array
  pub layer : LayerSeen

abbrev pub layer_seen : Translation → LayerSeen
layer_seen t = record { numbers = t.numbers; blocks = t.disk.blocks; vacancies = t.disk.vacancies }

abbrev pub seen_over : Array → LayerSeen → Seen
seen_over array layer = record { array = array; layer = layer }

abbrev pub seen : State → Seen
seen s = seen_over s.array (layer_seen s.translation)

-- Moves

abbrev SameLayer : Translation → Translation → Type 0
SameLayer t u = layer_seen u ≡ layer_seen t

quiet_same : (t : Translation) (move : Move) → IsQuiet move → SameLayer t (moved t move)
quiet_same t (GiveJob other flight) q = absurd q
quiet_same t (EndJob other ending) q = absurd q
quiet_same t TakeStep q = absurd q
quiet_same t move q = refl

-- States

abbrev pub SeesSame : State → State → Type 0
SeesSame s u = seen u ≡ seen s

-- small changes leave the layer, and the pages
small_sees : (s : State) (change : Change) → IsSmall change → SeesSame s (changed s change)
small_sees s (Moves move) is = ap (seen_over s.array) (quiet_same s.translation move (small_quiet move is))
small_sees s change is = refl

smalls_see : {s u : State} → Small s u → SeesSame s u
smalls_see h = kept SeesSame (record { self = λ s. refl; both = λ s t u h g. g ∙ h; one = small_sees }) h

-- to fill registers and to tell the lock are small changes
pub told_same : (s : State) → SeesSame s (lock_applied (fills s))
told_same s = smalls_see (settled_small s)

pub step_same : (s : State) → SeesSame s (with_moves s (TakeStep ∷ []))
step_same s = ap (λ (t : Translation). seen_over s.array (layer_seen t)) (turn_only s.translation).is

pub hears_same : (s : State) (h : Heard) → SeesSame s (hears s h)
hears_same s h = smalls_see (hears_small s h)

pub replied_same : (s : State) (m : Message) → SeesSame s (replied s m)
replied_same s m = smalls_see (replied_small s m)
