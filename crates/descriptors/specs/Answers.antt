-- What a query is answered, in the words of the definitions (JESD220, 10.7.9).
use Rattle.std.specs.Prelude.{◌≡◌, ℕ, Bool, true, false, Option, Some, None}
use Rattle.ufs_spec.specs.Commands.{Command, SetBoot, SetPermanent}
use Rattle.ufs_spec.specs.Plain.{Plain}
use Rattle.ufs_spec.specs.declared.configs.Numbers.{Numbers}
use Rattle.ufs_spec.specs.declared.volatile.Volatile.{Volatile}
use Rattle.ufs_spec.specs.Queries.{Query, setting_of, value_told, volatile_after}
use Rattle.descriptors.specs.Codes.{response_byte}
use Rattle.descriptors.specs.declared.answers.QueryAnswer.{QueryAnswer}
use Rattle.descriptors.specs.declared.answers.QueryAnswer.TheVariants as answer
use Rattle.descriptors.specs.declared.answers.Setting.{Setting}
use Rattle.descriptors.specs.declared.answers.Setting.TheVariants as setting
use Rattle.descriptors.specs.declared.answers.Told.{Told}

-- the command that a setting is
abbrev pub command_of : Setting → Command
command_of (setting.Boot boot) = SetBoot boot
command_of setting.Permanent = SetPermanent

-- the command of a setting, if there is one
abbrev pub command_in : Option Setting → Option Command
command_in None = None
command_in (Some s) = Some (command_of s)

-- the response code of an answer: 00h, success, of all that is more than a code
abbrev pub code_of : QueryAnswer → ℕ
code_of (answer.Code code) = response_byte code
code_of (answer.Told told) = 0x00
code_of (answer.Setting s) = 0x00

-- the answer is more than a response code: something is told, or a setting waits to be accepted
abbrev pub succeeds : QueryAnswer → Bool
succeeds (answer.Code code) = false
succeeds (answer.Told told) = true
succeeds (answer.Setting s) = true

-- the answer is that the query is a setting
abbrev pub is_setting : QueryAnswer → Bool
is_setting (answer.Code code) = false
is_setting (answer.Told told) = false
is_setting (answer.Setting s) = true

-- what is told of a query that is no setting, beside the bytes of a descriptor: what is volatile as the query leaves
-- it, and the value that is told of it
pub record IsTold (p : Plain) (n : Numbers) (mended : Bool) (was : Volatile) (q : Query) (told : Told) : Type 0 where
  pub no_setting : setting_of q ≡ None
  pub value : told.value ≡ value_told p (volatile_after n mended was q) q
  pub volatile : told.volatile ≡ volatile_after n mended was q

-- what the answer says beside its response code: what is told, or which setting the query is
abbrev pub Says : Plain → Numbers → (mended : Bool) → Volatile → Query → QueryAnswer → Type 0
Says p n mended was q (answer.Code code) = Unit {0}
Says p n mended was q (answer.Told told) = IsTold p n mended was q told
Says p n mended was q (answer.Setting s) = setting_of q ≡ Some (command_of s)
