-- What frames ask for, in the words of the definitions.
use Rattle.std.specs.Prelude.{◌≡◌, ◌≢◌, ◌<◌, ◌/◌, ℕ, Bool, true, false, List, [], ◌∷◌, Option, Some, None, if◌then◌else◌}
use Rattle.std.specs.Prelude.{length, option_map, slice_get}
use Rattle.std.specs.List.{flat_map}
use Rattle.ufs_spec.specs.Frames.{Frame, frame_in, frames_in}
use Rattle.ufs_spec.specs.Rpmb.{is_well_formed, program_key, read_counter, read_data, read_result, write_data}
use Rattle.ufs_spec.specs.Plain.{counter_end}
use Rattle.rpmb.specs.declared.regions.RegionState.{RegionState}
use Rattle.ufs_spec.specs.FrameRequests.{reads_area}
use Rattle.rpmb.specs.declared.requests.AreaBlocks.{AreaBlocks}
use Rattle.rpmb.specs.declared.requests.Request.{Request}
use Rattle.rpmb.specs.declared.requests.Request.TheVariants as request

-- the frames that bytes are; bytes behind the last whole frame are not looked at
abbrev pub frames_of : List ℕ → List Frame
frames_of bytes = frames_in (length bytes / 512) bytes

-- the data of a frame
abbrev pub data_at : List Frame → ℕ → Option (List ℕ)
data_at fs index = option_map (λ (f : Frame). f.payload) (slice_get fs index)

-- the data of the frame that these bytes are
abbrev pub payload_in : List ℕ → List ℕ
payload_in bytes = (frame_in bytes).payload

-- the data of all frames, one block of 256 bytes after another
abbrev pub payloads : List Frame → List ℕ
payloads fs = flat_map (λ (f : Frame). f.payload) fs

-- the blocks of the area that are read for these frames, a request with this result, if it asks for data and passed its
-- checks
abbrev pub area_asked : List Frame → ℕ → Option AreaBlocks
area_asked [] code = None
area_asked (f ∷ fs) code = if reads_area f code then Some (record { address = f.address; count = f.count }) else None

-- the request says what the frame says
abbrev pub IsRequest : Request → Frame → Type 0
IsRequest (request.ProgramKey key) f = (f.kind ≡ program_key) × (key ≡ f.key_or_mac)
IsRequest request.ReadCounter f = f.kind ≡ read_counter
IsRequest (request.Write counter address count) f =
    (f.kind ≡ write_data) × (counter ≡ f.counter) × (address ≡ f.address) × (count ≡ f.count)
IsRequest (request.Read address count) f =
    (f.kind ≡ read_data) × (address ≡ f.address) × (count ≡ f.count)
IsRequest request.ReadResult f = f.kind ≡ read_result

-- no request has the frame's kind
pub record IsUnknown (f : Frame) : Type 0 where
  pub key : f.kind ≢ program_key
  pub counter : f.kind ≢ read_counter
  pub write : f.kind ≢ write_data
  pub read : f.kind ≢ read_data
  pub result : f.kind ≢ read_result

-- the frames are no request
abbrev pub AreMalformed : List Frame → Type 0
AreMalformed [] = Unit {0}
AreMalformed (f ∷ fs) = is_well_formed f fs ≡ false

-- the frames are this request
abbrev pub Asks : Request → List Frame → Type 0
Asks r [] = ⊥
Asks r (f ∷ fs) = IsRequest r f × (is_well_formed f fs ≡ true)

-- a write can pass its checks only if the counter is below its end
abbrev pub MayPass : Request → RegionState → Type 0
MayPass (request.ProgramKey key) s = Unit {0}
MayPass request.ReadCounter s = Unit {0}
MayPass (request.Write counter address count) s = s.counter < counter_end
MayPass (request.Read address count) s = Unit {0}
MayPass request.ReadResult s = Unit {0}

-- a key or a write passes its checks only if the device is not locked
abbrev pub PassesUnlocked : Bool → Request → Type 0
PassesUnlocked locked (request.ProgramKey key) = locked ≡ false
PassesUnlocked locked request.ReadCounter = Unit {0}
PassesUnlocked locked (request.Write counter address count) = locked ≡ false
PassesUnlocked locked (request.Read address count) = Unit {0}
PassesUnlocked locked request.ReadResult = Unit {0}
