-- What the laws of task management speak of (JESD220, 10.7.6).
use Rattle.std.specs.Prelude.{◌≡◌, ◌≢◌, ℕ, List, [], ◌∷◌, slice_get, Some}
use Rattle.ufs_spec.specs.Exchanges.{Task}
use Rattle.ufs_spec.specs.Machine.{Call, Host, Spelled}
use Rattle.ufs_spec.specs.Refusals.{Lun, State, lun_of, numbers_of}
use Rattle.ufs_spec.specs.declared.messages.Message.TheVariants as message

-- the LUN names a unit of this device, one of the configuration or a well-known one
abbrev pub HasUnit : State → ℕ → Type 0
HasUnit s lun = (unit : Lun) × (lun_of (numbers_of s) lun ≡ Some unit)

-- a task of this LUN is open
pub record HasTask (s : State) (lun : ℕ) : Type 0 where
  pub index : ℕ
  pub task : Task
  pub there : slice_get s.tasks index ≡ Some task
  pub lun_is : task.lun ≡ lun

-- the task of this LUN with this tag is open
pub record HasTaskOf (s : State) (lun tag : ℕ) : Type 0 where
  pub index : ℕ
  pub task : Task
  pub there : slice_get s.tasks index ≡ Some task
  pub lun_is : task.lun ≡ lun
  pub tag_is : task.tag ≡ tag

-- the call is no LINK EVENT
abbrev pub IsNoLinkEvent : Call → Type 0
IsNoLinkEvent (Host (Spelled (message.LinkEvent kind) c)) = ⊥
IsNoLinkEvent call = Unit {0}

-- the call is no reset, of a logical unit or of the link
abbrev pub IsNoReset : Call → Type 0
IsNoReset (Host (Spelled (message.TaskRequest lun tag function meant) c)) = function ≢ 0x08
IsNoReset (Host (Spelled (message.LinkEvent kind) c)) = ⊥
IsNoReset call = Unit {0}

-- the functions that there are: four abort tasks, and two ask for them
abbrev pub functions : List ℕ
functions = 0x01 ∷ 0x02 ∷ 0x04 ∷ 0x08 ∷ 0x80 ∷ 0x81 ∷ []
