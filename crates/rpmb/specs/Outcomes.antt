-- Outcomes of requests, in the words of the definitions.
use Rattle.std.specs.Prelude.{◌≡◌, ℕ, ◌<◌, Bool, false, if◌then◌else◌, List, Option, Some, None}
use Rattle.ufs_spec.specs.Commands as command
use Rattle.ufs_spec.specs.Commands.{Command}
use Rattle.ufs_spec.specs.Exchanges.{Registers, invalid_list_field, sequence_error}
use Rattle.ufs_spec.specs.declared.exchanges.Status.{Status}
use Rattle.ufs_spec.specs.Frames.{Frame}
use Rattle.ufs_spec.specs.Rpmb as rules
use Rattle.ufs_spec.specs.Rpmb.{Region, RpmbOutcome, checks, command_in, first_failed, lacks_result, outcome_after}
use Rattle.ufs_spec.specs.Plain.{counter_end}
use Rattle.rpmb.specs.Requests.{payloads}
use Rattle.rpmb.specs.declared.regions.RegionState.{RegionState}
use Rattle.rpmb.specs.declared.outcomes.Accepted.{Accepted}
use Rattle.rpmb.specs.declared.outcomes.Accepted.TheVariants as accepted
use Rattle.rpmb.specs.declared.outcomes.Failure.{Failure}
use Rattle.rpmb.specs.declared.outcomes.Failure.TheVariants as failure
use Rattle.rpmb.specs.declared.outcomes.Outcome.{Outcome}
use Rattle.rpmb.specs.declared.outcomes.Outcome.TheVariants as outcome
use Rattle.rpmb.specs.declared.outcomes.Refusal.{Refusal}
use Rattle.rpmb.specs.declared.outcomes.Refusal.TheVariants as refusal

-- the status of frames that are refused
abbrev pub status_of : Refusal → Status
status_of refusal.Malformed = invalid_list_field
status_of refusal.NoResult = sequence_error

-- the result of a request that fails
abbrev pub code_of : Failure → ℕ
code_of failure.KeySet = 1
code_of failure.Authentication = 2
code_of failure.Counter = 3
code_of failure.Address = 4
code_of failure.Write = 5
code_of failure.NoKey = 7

-- the command that the region of this number accepts, if it accepts one: a write has the data of all frames
abbrev pub command_of : ℕ → List Frame → Accepted → Option Command
command_of number fs accepted.Nothing = None
command_of number fs (accepted.Key bytes) = Some (command.SetKey number bytes)
command_of number fs (accepted.Write address) =
    Some (command.RpmbWrite number address (payloads fs))

-- the outcome of these frames in the region of this number
abbrev pub outcome_of : ℕ → List Frame → Outcome → RpmbOutcome
outcome_of number fs (outcome.Refused why) = rules.Refused (status_of why)
outcome_of number fs (outcome.Results result what) = rules.Results result (command_of number fs what)

-- the outcome of a well-formed request to the region of this number
abbrev pub outcome_formed : ℕ → Region → Registers → Bool → Frame → List Frame → RpmbOutcome
outcome_formed number region r locked f fs =
    if lacks_result f r then rules.Refused sequence_error
    else outcome_after region (command_in number f fs) (first_failed (checks region locked f fs))

-- what was accepted may change what is kept of a region: a write finds the counter below its end
abbrev pub MayChange : Accepted → RegionState → Type 0
MayChange accepted.Nothing s = Unit {0}
MayChange (accepted.Key bytes) s = Unit {0}
MayChange (accepted.Write address) s = s.counter < counter_end

-- what is accepted by this outcome may change it
abbrev pub MayFollow : Outcome → RegionState → Type 0
MayFollow (outcome.Refused why) s = Unit {0}
MayFollow (outcome.Results result what) s = MayChange what s

-- whatever the outcome is, a locked device accepts nothing
abbrev pub AcceptsUnlocked : Bool → Outcome → Type 0
AcceptsUnlocked locked (outcome.Refused why) = Unit {0}
AcceptsUnlocked locked (outcome.Results result accepted.Nothing) = Unit {0}
AcceptsUnlocked locked (outcome.Results result (accepted.Key bytes)) = locked ≡ false
AcceptsUnlocked locked (outcome.Results result (accepted.Write address)) = locked ≡ false
