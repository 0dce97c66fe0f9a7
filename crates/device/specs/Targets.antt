-- What a command is about: the unit whose blocks it reads or writes, and what is told of it and of its LUN (JESD220,
-- 10.8).
use Rattle.std.specs.Prelude.{Bool, Err, None, Ok, Option, Result, Some, bit_and, false, if◌then◌else◌, not, ℕ, ◌==◌}
use Rattle.std.specs.Prelude.{◌≡◌}
use Rattle.ufs_spec.specs.Begins.{sense_told, type_told}
use Rattle.ufs_spec.specs.declared.exchanges.Status.TheVariants.{CheckCondition}
use Rattle.ufs_spec.specs.Refusals.{Lun, Request, State, is_guarded, is_not_simple, lacks_unit, lun_of, meets_attention}
use Rattle.ufs_spec.specs.Refusals.{not_taken, numbers_of, refusal, unit_numbers_of, unit_of_request}
use Rattle.ufs_spec.specs.declared.configs.UnitSpec.{UnitSpec}
use Rattle.ufs_spec.specs.declared.scsi.Sense.{Sense}
use Rattle.ufs_spec.specs.declared.scsi.TheConstants.Sense.{INVALID_OPCODE, MESSAGE_ERROR, UNIT_ATTENTION}
use Rattle.device.specs.declared.targets.Target.{Target}

-- how many blocks a unit has, if there is one
abbrev pub blocks_in : Option UnitSpec → ℕ
blocks_in None = 0
blocks_in (Some u) = u.blocks

-- what a request is about
abbrev pub target_of : State → Request → Target
target_of s r = record {
  lun = r.lun;
  unit = unit_of_request s r;
  spec = unit_numbers_of s r;
  is_guarded = is_guarded s (unit_numbers_of s r);
  sense = sense_told s r;
  device_type = type_told s r;
}

-- the flags of a COMMAND have another task attribute than SIMPLE (JESD220, 10.7.1)
abbrev pub are_not_simple : ℕ → Bool
are_not_simple flags = not (bit_and flags 0x03 == 0)

-- what is said of a command whose LUN is there, or that is answered without one, by what of these is so: it meets the
-- attention of the LUN, it has another task attribute than SIMPLE, or the LUN does not take it
abbrev pub routing_told : (meets has_attribute is_untaken : Bool) → Option Sense
routing_told meets has_attribute is_untaken =
    if meets then Some UNIT_ATTENTION
    else if has_attribute then Some MESSAGE_ERROR
    else if is_untaken then Some INVALID_OPCODE
    else None

-- no line refuses the request that looks at its LUN, its task attribute or its operation code alone
pub record IsNamed (s : State) (r : Request) : Type 0 where
  pub lun : Option Lun
  pub named : lun_of (numbers_of s) r.lun ≡ lun
  pub there : lacks_unit s r lun ≡ false
  pub calm : meets_attention s r lun ≡ false
  pub simple : is_not_simple r ≡ false
  pub takes_it : not_taken (numbers_of s) r lun ≡ false

-- what the request is about; or the status that ends it, where one of these lines refuses it
abbrev pub IsRouted : State → Request → Result Target Sense → Type 0
IsRouted s r (Ok target) = IsNamed s r × (target ≡ target_of s r)
IsRouted s r (Err told) = refusal s r ≡ Some (CheckCondition told)
