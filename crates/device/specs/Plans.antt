-- What a command does, or the status that ends it: the first line of the table that applies decides.
use Rattle.std.specs.Prelude.{Bool, Err, List, None, Ok, Option, Result, Some, [], if◌then◌else◌, min, ℕ, ◌*◌, ◌==◌}
use Rattle.std.specs.Prelude.{◌||◌, ◌∷◌, ◌≡◌}
use Rattle.std.specs.Int.{div_ceil}
use Rattle.ufs_spec.specs.CdbFields.{spelled_cdb}
use Rattle.ufs_spec.specs.Cdbs.{length_of}
use Rattle.ufs_spec.specs.Begins.{expected_of_write, unit_or_first}
use Rattle.ufs_spec.specs.Cdbs.{blocks_brought, brought}
use Rattle.ufs_spec.specs.Exchanges.{invalid_field, not_ready, self_test_failed, sequence_error, write_protected}
use Rattle.ufs_spec.specs.declared.exchanges.Status.TheVariants.{Busy}
use Rattle.ufs_spec.specs.Keys.{data_key}
use Rattle.ufs_spec.specs.Machine.{IsCdbIn}
use Rattle.ufs_spec.specs.Refusals.{Line, Request, State, fails_test, has_other_response, is_crowded, is_refused_write}
use Rattle.ufs_spec.specs.Refusals.{is_unready, lacks_response, line, numbers_of, refusal, told_count}
use Rattle.ufs_spec.specs.declared.configs.Numbers.{Numbers}
use Rattle.ufs_spec.specs.declared.configs.UnitSpec.{UnitSpec}
use Rattle.ufs_spec.specs.declared.operations.Told.{Told}
use Rattle.ufs_spec.specs.declared.operations.Told.TheVariants as told
use Rattle.ufs_spec.specs.declared.scsi.Cdb.{Cdb}
use Rattle.ufs_spec.specs.declared.scsi.Cdb.TheVariants as cdb
use Rattle.device.specs.declared.plans.Identity.{Identity}
use Rattle.device.specs.declared.plans.Identity.TheVariants as identity
use Rattle.device.specs.declared.plans.Plan.{Plan}
use Rattle.device.specs.declared.plans.Plan.TheVariants as plan
use Rattle.ufs_spec.specs.declared.exchanges.Purpose.{Purpose}
use Rattle.ufs_spec.specs.declared.exchanges.Status.{Status}
use Rattle.ufs_spec.specs.declared.exchanges.Purpose.TheVariants.{ForFrames, ForUnmap, ForWrite}
use Rattle.device.specs.declared.plans.Source.{Source}
use Rattle.device.specs.declared.plans.Source.TheVariants as source
use Rattle.device.specs.Lists.{frame_slots, list_slots}
use Rattle.device.specs.Targets.{IsNamed, blocks_in, target_of}
use Rattle.device.specs.declared.targets.Target.{Target}

-- What is checked

-- a COMMAND of these fields; its command is the one that its CDB spells
pub record IsRequest (r : Request) (flags lun expected : ℕ) (bytes : List ℕ) : Type 0 where
  pub flags_are : r.flags ≡ flags
  pub lun_is : r.lun ≡ lun
  pub expected_is : r.expected ≡ expected
  pub bytes_are : r.bytes ≡ bytes
  pub spelled : IsCdbIn (Some bytes) r.cdb

-- lines 8 to 11, which depend on what the device is now
abbrev pub lines_now : State → Option UnitSpec → (expected : ℕ) → Cdb → List Line
lines_now s unit expected command =
    line (is_unready s command) not_ready
    ∷ line (is_refused_write s unit command) write_protected
    ∷ line (fails_test s command) self_test_failed
    ∷ line (lacks_response s command) sequence_error
    ∷ line (has_other_response s command) invalid_field
    ∷ line (is_crowded s (brought expected command)) Busy
    ∷ []

-- Plans

-- the blocks that are sent are those that the host expects
abbrev pub read_plan : ℕ → ℕ → ℕ → ℕ → Plan
read_plan lun expected address blocks =
    if (blocks == 0) || (expected == 0) then plan.Nothing (4096 * blocks)
    else plan.Read (data_key lun address) (div_ceil (min expected (4096 * blocks)) 4096) (4096 * blocks)

-- a command that brings no data is done at once; any other claims its slots and asks for all of them
abbrev pub gather_plan : Purpose → ℕ → ℕ → Plan
gather_plan purpose size slots =
    if size == 0 then plan.Nothing 0
    else plan.Gather (record { purpose = purpose; length = size; came = 0 }) slots

-- a WRITE of so many bytes whose host brings no block is done at once; any other claims its slots and asks for its blocks
abbrev pub write_plan : (unit address blocks : ℕ) → Bool → (size : ℕ) → Plan
write_plan unit address blocks forced size =
    if blocks == 0 then plan.Drop size
    else plan.Gather (record { purpose = ForWrite unit address blocks forced; length = size; came = 0 }) blocks

-- a VERIFY of no blocks is done at once; any other reads its blocks, or compares them
abbrev pub verify_plan : (unit address blocks : ℕ) → (compared : Bool) → Plan
verify_plan unit address blocks compared =
    if blocks == 0 then plan.Nothing 0
    else if compared then plan.Compare (data_key unit address) blocks
    else plan.Verify (data_key unit address) blocks

-- how many bytes of data a command to this LUN has on a device with this configuration
abbrev pub length_on : Numbers → (lun : ℕ) → Cdb → ℕ
length_on n lun command = length_of (told_count n lun command) command

-- what a command about this target tells
abbrev pub identity_of : Target → Told → ℕ → Identity
identity_of to told.Sense select = identity.Sense to.sense
identity_of to told.Identity select = identity.Unit to.device_type
identity_of to told.Capacity select = identity.Capacity (blocks_in to.spec)
identity_of to told.Units select = identity.Luns select
identity_of to told.LongCapacity select = identity.LongCapacity (blocks_in to.spec)
identity_of to told.Page select = identity.Page to.lun select
identity_of to told.Modes select = identity.Modes select to.is_guarded
identity_of to told.ShortModes select = identity.ShortModes select to.is_guarded
identity_of to told.Operations select = identity.Operations select

-- what a command does that sends so many bytes from there
abbrev pub send_plan : ℕ → Source → ℕ → Plan
send_plan expected from size = plan.Send from size (min expected size)

-- a flush with IMMED is answered at once
abbrev pub flush_plan : Bool → Plan
flush_plan immediate = if immediate then plan.Nothing 0 else plan.Flush

-- what a command about this target does that passed the table, on a device with this configuration, where the host
-- expects so many bytes
abbrev pub plan_of : Numbers → Target → ℕ → Cdb → Plan
plan_of n to expected cdb.Nothing = plan.Nothing 0
plan_of n to expected (cdb.Tell what select allocation) =
    send_plan expected (source.Identity (identity_of to what select)) (length_on n to.lun (cdb.Tell what select allocation))
plan_of n to expected (cdb.Read address blocks) = read_plan (unit_or_first to.unit) expected address blocks
plan_of n to expected (cdb.Write address blocks forced) =
    write_plan (unit_or_first to.unit) address (blocks_brought expected blocks) forced (4096 * blocks)
plan_of n to expected (cdb.Flush immediate) = flush_plan immediate
plan_of n to expected (cdb.Verify address blocks compared) =
    verify_plan (unit_or_first to.unit) address blocks compared
plan_of n to expected (cdb.Prefetch address blocks) = plan.Nothing 0
plan_of n to expected (cdb.Diagnose tests) = plan.Nothing 0
plan_of n to expected (cdb.Unmap list) = gather_plan (ForUnmap (unit_or_first to.unit)) list (list_slots n list)
plan_of n to expected (cdb.SecurityOut region size) = gather_plan (ForFrames region) size frame_slots
plan_of n to expected (cdb.SecurityIn region size) = send_plan expected (source.Response region) size

-- how many bytes count as expected of a command of so many that gathers data for this purpose
abbrev pub counted_for : (expected : ℕ) → Purpose → ℕ → ℕ
counted_for expected (ForWrite unit address blocks forced) size = expected_of_write expected size
counted_for expected (ForUnmap unit) size = expected
counted_for expected (ForFrames region) size = expected

-- the same of a task for which this was planned
abbrev pub expected_for : (expected : ℕ) → Result Plan Status → ℕ
expected_for expected (Ok (plan.Gather w slots)) = counted_for expected w.purpose w.length
expected_for expected (Ok (plan.Drop size)) = expected_of_write expected size
expected_for expected (Ok (plan.Nothing size)) = expected
expected_for expected (Ok (plan.Read key blocks size)) = expected
expected_for expected (Ok (plan.Verify key blocks)) = expected
expected_for expected (Ok (plan.Compare key blocks)) = expected
expected_for expected (Ok (plan.Send from size taken)) = expected
expected_for expected (Ok plan.Flush) = expected
expected_for expected (Err told) = expected

-- a request that no line of the table refuses, and what it does
pub record Passes (s : State) (r : Request) (todo : Plan) : Type 0 where
  pub passed : refusal s r ≡ None
  pub named : IsNamed s r
  pub command : Cdb
  pub is : r.cdb ≡ Some command
  pub spelled : spelled_cdb r.bytes ≡ Some command
  pub todo_is : todo ≡ plan_of (numbers_of s) (target_of s r) r.expected command

-- the plan of a request, or the status that ends it
abbrev pub IsPlanned : State → Request → Result Plan Status → Type 0
IsPlanned s r (Err told) = refusal s r ≡ Some told
IsPlanned s r (Ok todo) = Passes s r todo
