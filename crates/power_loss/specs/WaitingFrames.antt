-- What open tasks and registers need so that each reply can be spelled: what waits in a register of the RPMB is always
-- frames of 512 bytes (JESD220, 12.4).
use Rattle.std.specs.Prelude.{◌≡◌, ℕ, ◌+◌, ◌*◌, ◌≤◌, true, List}
use Rattle.std.specs.Prelude.{[], ◌∷◌, All, length, slice_index_or, Option, Some, None}
use Rattle.std.specs.List.{AllByRecursion}
use Rattle.ufs_spec.specs.Exchanges.{Registers, RpmbRequest, Task}
use Rattle.ufs_spec.specs.Frames.{Frame}
use Rattle.ufs_spec.specs.Messages.{AreBytes}
use Rattle.ufs_spec.specs.Plain.{shape_of_numbers}
use Rattle.ufs_spec.specs.Refusals.{State, numbers_of}
use Rattle.ufs_laws.specs.Exchange.{Every}
use Rattle.ufs_laws.specs.Replies.{TaskSpeaks}
use Rattle.ufs_spec.specs.Rpmb.{read_data}
use Rattle.ufs_spec.specs.RpmbResponses.{is_success}

-- one to eight blocks are asked for, and they lie in the area, which has so many bytes
pub record AsksInside (area : ℕ) (f : Frame) : Type 0 where
  pub some : 1 ≤ f.count
  pub few : f.count ≤ 8
  pub within : 256 * (f.address + f.count) ≤ area

-- the nonce of a request is 16 bytes; one for data that passed its checks asks for blocks of the area
pub record AsksRightly (area : ℕ) (f : Frame) (result : ℕ) : Type 0 where
  pub nonce : length f.nonce ≡ 16
  pub nonce_bytes : AreBytes f.nonce
  pub inside : f.kind ≡ read_data → is_success result ≡ true → AsksInside area f

-- the same of the first of its frames
abbrev pub FramesAsk : ℕ → List Frame → ℕ → Type 0
FramesAsk area [] result = Unit {0}
FramesAsk area (f ∷ fs) result = AsksRightly area f result

-- the same of the request of a task, if it has one, where the areas of the regions have so many bytes
abbrev pub RequestAsks : List ℕ → Option RpmbRequest → Type 0
RequestAsks areas None = Unit {0}
RequestAsks areas (Some request) =
    FramesAsk (slice_index_or areas request.region 0) request.frames request.result

-- 512 bytes
abbrev pub IsFrameSaid : List ℕ → Type 0
IsFrameSaid bytes = (length bytes ≡ 512) × AreBytes bytes

-- what is in the registers of a region are frames, and no more than eight wait
pub record RegistersHold (r : Registers) : Type 0 where
  pub result : (bytes : List ℕ) → r.result ≡ Some bytes → IsFrameSaid bytes
  pub response : All IsFrameSaid r.response
  pub few : length r.response ≤ 8

-- the tasks' requests ask so, where the areas have so many bytes, and the registers hold frames
pub record FramesWaitOf (areas : List ℕ) (tasks : List Task) (registers : ℕ → Registers) : Type 0 where
  pub requests : AllByRecursion (λ (task : Task). RequestAsks areas task.request) tasks
  pub registers_hold : (region : ℕ) → RegistersHold (registers region)

-- the same of a state
abbrev pub FramesWait : State → Type 0
FramesWait s = FramesWaitOf (shape_of_numbers (numbers_of s)).areas s.tasks s.registers

-- what each reply of a task needs: its task's numbers fit their fields, and what waits in registers are frames
pub record TasksSpeak (s : State) : Type 0 where
  pub tasks : Every TaskSpeaks s.tasks
  pub frames : FramesWait s
