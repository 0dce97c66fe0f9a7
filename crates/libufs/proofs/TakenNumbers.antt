-- The number of a job that was asked for.
use Rattle.std.proofs.Common.{◌≡◌, ◌∙◌, ℕ, ap, refl}
use Rattle.std.specs.Prelude.{Bool, Option, Some, None}
use Rattle.ufs_spec.specs.declared.flash.Job.{Job}
use Rattle.ufs_handle.specs.Calls.{Called, Takes}
use Rattle.ufs_handle.specs.Exports.{GivesJob, IsJobShown, Numbered, is_given}
use Rattle.ufs_handle.specs.Kept.{HeldState}
use Rattle.ufs_handle.specs.Numbers.{flag_number, taken_number}
use Rattle.ufs_handle.specs.declared.fault.Fault.TheVariants as fault
use Rattle.ufs_handle.specs.declared.plain.PlainJob.{PlainJob}

-- that of whether one was given
same_number : (answer : Option (Option Job)) → flag_number (is_given answer) fault.Nothing ≡ taken_number answer
same_number None = refl
same_number (Some None) = refl
same_number (Some (Some job)) = refl

pub numbered : (die number : ℕ) (shown after : PlainJob) (before held : Option HeldState) (flag : Option Bool) →
    number ≡ flag_number flag fault.Nothing → GivesJob die shown after before flag held →
    Numbered taken_number number (λ answer. Called (Takes die) before answer held × IsJobShown answer shown after)
numbered die number shown after before held flag is given = (
  given.0,
  is ∙ ap (λ (f : Option Bool). flag_number f fault.Nothing) given.1 ∙ same_number given.0,
  (given.2, given.3),
)
