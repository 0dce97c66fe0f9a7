-- Task management over what the device keeps (JESD220, 10.7.6 and 10.7.7).
use Rattle.std.specs.Prelude.{ℕ, ◌==◌, is_none, true, Bool, if◌then◌else◌, List, length, [], ◌∷◌, Some, None}
use Rattle.std.specs.List.{list_any}
use Rattle.ufs_spec.specs.Exchanges.{Task, empty_registers}
use Rattle.ufs_spec.specs.Management.{service_found, without_tasks}
use Rattle.ufs_spec.specs.Messages.{is_among}
use Rattle.ufs_spec.specs.Moves.{LetGoAll, Release, moved}
use Rattle.ufs_spec.specs.Refusals.{State, lun_of}
use Rattle.ufs_spec.specs.Translation.{Translation}
use Rattle.ufs_spec.specs.declared.configs.Numbers.{Numbers}
use Rattle.ufs_spec.specs.declared.volatile.Volatile.{Volatile}
use Rattle.ftl_core.specs.Public.{Claims, Core, with_claimed}
use Rattle.rpmb.specs.Kept.{Machine, machine_at, with_machine}
use Rattle.task_set.specs.Tasks.{brings_frames, is_meant, is_task_meant}
use Rattle.task_set.specs.declared.frames.Frames.{Frames}
use Rattle.task_set.specs.declared.tasks.Meant.{Meant}
use Rattle.device.specs.Attentions.{attention_set}
use Rattle.device.specs.Kept.{DeviceCore, IsLayerWith}
use Rattle.device.specs.Replies.{without_task}
use Rattle.device.specs.declared.management.Managing.{Managing}
use Rattle.device.specs.declared.management.Managing.TheVariants as managing

-- What is decided

-- the task with this LUN byte and this tag
abbrev pub one_task : ℕ → ℕ → Meant
one_task lun tag = record { lun = Some lun; tag = Some tag }

-- all tasks with this LUN byte
abbrev pub all_tasks : ℕ → Meant
all_tasks lun = record { lun = Some lun; tag = None }

-- what the function comes to, with this LUN byte and the tag that is meant
abbrev pub by_function : ℕ → ℕ → ℕ → Managing
by_function lun function meant =
    if function == 0x01 then managing.Aborts (one_task lun meant)
    else if is_among (0x02 ∷ 0x04 ∷ 0x08 ∷ []) function then managing.Aborts (all_tasks lun)
    else if function == 0x80 then managing.Asks (one_task lun meant)
    else if function == 0x81 then managing.Asks (all_tasks lun)
    else managing.NotSupported

-- the same on a device with this configuration, where the LUN byte may name no unit
abbrev pub function_on : Numbers → ℕ → ℕ → ℕ → Managing
function_on n lun function meant = if is_none (lun_of n lun) then managing.NoUnit else by_function lun function meant

-- its service response
abbrev pub service_by : DeviceCore → Managing → ℕ
service_by d (managing.Aborts aborted) = 0x00
service_by d (managing.Asks asked) = service_found (list_any (is_task_meant asked) d.tasks)
service_by d managing.NotSupported = 0x04
service_by d managing.NoUnit = 0x09

-- what is volatile once this function was asked for on the LUN with this byte: a logical unit reset leaves an attention,
-- if there is such a LUN
abbrev pub reset_left : Numbers → (lun function : ℕ) → Volatile → Volatile
reset_left n lun function volatile =
    if function == 0x08 then attention_set n lun true volatile else volatile

-- the specified task is one of those that are meant
abbrev pub means : Meant → Task → Bool
means who task = is_meant who task.lun task.tag

-- what it makes of the state: the tasks that are aborted are gone
abbrev pub carried : State → Managing → State
carried s (managing.Aborts aborted) = without_tasks s (means aborted)
carried s m = s

-- One task is aborted

-- the machines of the RPMB once a task is aborted that had this to do with frames of this region: if it brought some, no
-- register of the region holds anything
abbrev pub machines_after : Frames → ℕ → List Machine → List Machine
machines_after f region ms =
    if brings_frames f
    then with_machine ms region (record (machine_at ms region) { registers = empty_registers })
    else ms

-- what the device keeps then
abbrev pub forgotten : DeviceCore → Frames → ℕ → DeviceCore
forgotten d f region = record d { rpmb = machines_after f region d.rpmb }

-- what the device keeps, but for its layer, once the task at this position is aborted, which had this to do with frames
-- of this region
abbrev pub aborted_at : DeviceCore → ℕ → Frames → ℕ → DeviceCore
aborted_at d k f region = forgotten (without_task d k) f region

-- the layer then: what was claimed for the tag is given back, and what is kept for it is let go
abbrev pub HasLetGo : Core → Translation → Claims → ℕ → Type 0
HasLetGo after t claims tag =
    IsLayerWith after (moved (moved t (Release (length (claims tag)))) (LetGoAll tag)) (with_claimed claims tag [])
