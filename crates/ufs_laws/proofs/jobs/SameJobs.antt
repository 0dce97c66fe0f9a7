-- Moves and messages that leave to each die the job that it does: all but the beginning and the end of a job.
use Rattle.ufs_laws.proofs.walk.SmallChanges.{IsQuiet, Small, layer_kept, hears_small, replied_small}
use Rattle.ufs_laws.proofs.Common.{Bool, EndJob, Erasing, Flight, GiveJob, Heard, Message, Move, None, Option}
use Rattle.ufs_laws.proofs.Common.{Programming, Reader, Reading, Some, State, TakeStep, Translation, [], ap, job_of}
use Rattle.ufs_laws.proofs.Common.{moved, option_map, refl, replied, with_moves, ℕ, ◌∙◌, ◌∷◌, ◌≡◌}
use Rattle.ufs_spec.specs.Machine.{hears}
use Rattle.ufs_spec.specs.Moves.{LetGo, LetGoAll, is_for, is_for_task, without_reader}
use Rattle.ufs_spec.specs.declared.flash.Job.{Job}
use Rattle.ufs_laws.proofs.walk.LayerEffects.{turn_only}

-- Moves

-- what a die does, for whomever it is
abbrev pub Does : State → ℕ → Option Job
Does s die = option_map job_of (s.translation.disk.flights die)

-- each die does what it did
abbrev pub SameJobs : Translation → Translation → Type 0
SameJobs t u = (die : ℕ) → option_map job_of (u.disk.flights die) ≡ option_map job_of (t.disk.flights die)

-- a read for nobody is the same job
reader_same : (is : Reader → Bool) (o : Option Flight) → option_map job_of (without_reader is o) ≡ option_map job_of o
reader_same is (Some (Reading reader place)) = refl
reader_same is (Some (Programming place cell)) = refl
reader_same is (Some (Erasing spot)) = refl
reader_same is None = refl

quiet_same : (t : Translation) (move : Move) → IsQuiet move → SameJobs t (moved t move)
quiet_same t (LetGo tag index) q die = reader_same (is_for tag index) (t.disk.flights die)
quiet_same t (LetGoAll tag) q die = reader_same (is_for_task tag) (t.disk.flights die)
quiet_same t (GiveJob other flight) q die = absurd q
quiet_same t (EndJob other ending) q die = absurd q
quiet_same t TakeStep q die = absurd q
quiet_same t move q die = refl

-- small changes leave them
pub small_same : {s u : State} → Small s u → SameJobs s.translation u.translation
small_same h =
    layer_kept SameJobs (record { self = λ t die. refl; both = λ t u v h g die. g die ∙ h die; one = quiet_same }) h

pub step_same : (s : State) → SameJobs s.translation (with_moves s (TakeStep ∷ [])).translation
step_same s die = ap (λ (t : Translation). option_map job_of (t.disk.flights die)) (turn_only s.translation).is

pub hears_same : (s : State) (h : Heard) → SameJobs s.translation (hears s h).translation
hears_same s h = small_same (hears_small s h)

pub replied_same : (s : State) (m : Message) → SameJobs s.translation (replied s m).translation
replied_same s m = small_same (replied_small s m)
