-- Unit attentions of LUNs (SAM, unit attention condition), over what the device keeps: which LUN has one, which
-- commands end it, and what REQUEST SENSE tells.
use Rattle.std.specs.Prelude.{Bool, Err, None, Ok, Option, Result, Some, false, if◌then◌else◌, nat_lt, slice_get}
use Rattle.std.specs.Prelude.{slice_set, true, unwrap_or, ℕ, ◌&&◌, ◌==◌}
use Rattle.ufs_spec.specs.Begins.{nothing_wrong}
use Rattle.ufs_spec.specs.Exchanges.{sense}
use Rattle.ufs_spec.specs.Refusals.{lun_of}
use Rattle.ufs_spec.specs.declared.configs.Numbers.{Numbers}
use Rattle.ufs_spec.specs.declared.exchanges.Status.{Status}
use Rattle.ufs_spec.specs.declared.exchanges.Status.TheVariants.{CheckCondition}
use Rattle.ufs_spec.specs.declared.scsi.Sense.{Sense}
use Rattle.ufs_spec.specs.declared.volatile.Volatile.{Volatile}
use Rattle.lun_route.specs.Luns.{place_of}
use Rattle.device.specs.declared.plans.Identity.TheVariants as identity
use Rattle.device.specs.declared.plans.Plan.{Plan}
use Rattle.device.specs.declared.plans.Plan.TheVariants as plan
use Rattle.device.specs.declared.plans.Source.TheVariants as source

-- on a device with these numbers a LUN has an attention that stands at this place, if it has a place
abbrev pub attended_at : Numbers → Volatile → Option ℕ → Bool
attended_at n volatile None = false
attended_at n volatile (Some place) = nat_lt 0 n.profile && unwrap_or (slice_get volatile.attentions place) false

-- what is volatile once the LUN whose attention stands at this place has one, or none any more; if it has a place
abbrev pub with_attention_at : Option ℕ → Bool → Volatile → Volatile
with_attention_at None has_one volatile = volatile
with_attention_at (Some place) has_one volatile =
    record volatile { attentions = slice_set volatile.attentions place has_one }

-- the same of the LUN with this byte, if there is such a LUN
abbrev pub attention_set : Numbers → (lun : ℕ) → Bool → Volatile → Volatile
attention_set n lun has_one volatile = with_attention_at (place_of (lun_of n lun)) has_one volatile

-- What ends an attention

-- the status tells an attention: UNIT ATTENTION is the sense key of nothing else
abbrev pub is_attention : Status → Bool
is_attention (CheckCondition told) = told.key == 0x06
is_attention status = false

-- it is the plan of REQUEST SENSE
abbrev pub tells_sense : Plan → Bool
tells_sense (plan.Send (source.Identity (identity.Sense told)) size taken) = true
tells_sense todo = false

-- a command of which this was planned tells the attention of its LUN, which ends with that: it is refused with it, or
-- is REQUEST SENSE
abbrev pub tells_attention : Result Plan Status → Bool
tells_attention (Err status) = is_attention status
tells_attention (Ok todo) = tells_sense todo

-- what is volatile once this was planned for a command with this LUN byte, on a device with these numbers
abbrev pub volatile_left : Numbers → (lun : ℕ) → Result Plan Status → Volatile → Volatile
volatile_left n lun planned volatile =
    if tells_attention planned then attention_set n lun false volatile else volatile

-- What REQUEST SENSE tells

-- what is told at a LUN that is there, on a device of profile 1, by whether it has an attention and whether the device
-- is mended
abbrev pub sense_there : (attended mended : Bool) → Sense
sense_there attended mended =
    if attended then sense 0x06 0x29
    else if mended then nothing_wrong
    else record { key = 0x02; asc = 0x04; ascq = 0x01 }

-- the same of a LUN whose attention stands at this place, if there is such a LUN
abbrev pub sense_by : Option ℕ → (attended mended : Bool) → Sense
sense_by None attended mended = sense 0x05 0x25
sense_by (Some place) attended mended = sense_there attended mended

-- the same on a device of either profile
abbrev pub sense_of : Numbers → Option ℕ → (attended mended : Bool) → Sense
sense_of n place attended mended = if n.profile == 0 then nothing_wrong else sense_by place attended mended
