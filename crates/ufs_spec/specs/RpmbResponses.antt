-- The answers of the replay protected memory block: the frames that answer a request, and the two registers in which
-- they wait for SECURITY PROTOCOL IN (JESD220, 12.4).
use Rattle.std.specs.Prelude.{ℕ, ◌+◌, ◌*◌, ◌==◌, ◌||◌, Bool, true, false, if◌then◌else◌, List, [], ◌∷◌, bit_or, drop}
use Rattle.std.specs.Prelude.{map, slice_get, take, Option, Some, None}
use Rattle.std.specs.List.{list_any}
use Rattle.ufs_spec.specs.Exchanges.{Registers, empty_registers}
use Rattle.ufs_spec.specs.declared.exchanges.ReadState.{ReadState}
use Rattle.ufs_spec.specs.declared.exchanges.ReadState.TheVariants.{NotRead, Unread, WasRead}
use Rattle.ufs_spec.specs.Frames.{Frame, frame_bytes}
use Rattle.ufs_spec.specs.Keys.{below}
use Rattle.ufs_spec.specs.Messages.{zeros}
use Rattle.ufs_spec.specs.Rpmb.{Region, frames_mac, program_key, read_counter, read_data, read_result, write_data}

-- ## Results

-- the page could not be read: the read failed, or gave another page
abbrev pub is_lost : ReadState → Bool
is_lost Unread = false
is_lost WasRead = false
is_lost NotRead = true

-- the result of a request for data, once each of its pages was read or could not be: if one could not, 6, read failure
-- (JESD220, 12.4.3), is joined to the result by or, so that bit 0080h stays
abbrev pub with_reads : List ReadState → ℕ → ℕ
with_reads pages result = if list_any is_lost pages then bit_or result 6 else result

-- the request did what it asked for: its result has no bit but 0080h
abbrev pub is_success : ℕ → Bool
is_success result = (result == 0) || (result == 0x80)

-- ## Response frames (JESD220, 12.4; the first frame of the request says what was asked)

-- a response of this kind with this result; what its kind does not name is zero
abbrev pub response_frame : ℕ → ℕ → Frame
response_frame kind result =
    record {
      stuff = zeros 196;
      key_or_mac = zeros 32;
      payload = zeros 256;
      nonce = zeros 16;
      counter = 0;
      address = 0;
      count = 0;
      result = result;
      kind = kind;
    }

-- 0100h, of a key that was to be programmed: the result alone
abbrev pub key_response : ℕ → Frame
key_response result = response_frame 0x0100 result

-- 0200h, of a request for the counter: the nonce as asked, and the counter
abbrev pub counter_response : Region → Frame → ℕ → Frame
counter_response region asked result =
    record (response_frame 0x0200 result) { nonce = asked.nonce; counter = region.counter }

-- 0300h, of a write: the address as asked, and the counter as the write leaves it. It has neither nonce nor count
abbrev pub write_response : Region → Frame → ℕ → Frame
write_response region asked result =
    record (response_frame 0x0300 result) { address = asked.address; counter = region.counter }

-- 0400h, of a request for data: these data, and nonce, address and count as asked
abbrev pub data_response : Frame → ℕ → List ℕ → Frame
data_response asked result payload =
    record (response_frame 0x0400 result) {
      payload = payload;
      nonce = asked.nonce;
      address = asked.address;
      count = asked.count;
    }

-- the block of 256 bytes of the area at an address
abbrev pub area_block : Region → ℕ → List ℕ
area_block region address = take 256 (drop (256 * address) region.area)

-- the frames of a request for data: one for each block that it counts; one without data if it failed
abbrev pub data_responses : Region → Frame → ℕ → List Frame
data_responses region asked result =
    if is_success result
    then map (λ i. data_response asked result (area_block region (asked.address + i))) (below asked.count)
    else data_response asked result (zeros 256) ∷ []

-- the last frame has this MAC; the others stay
abbrev pub with_last_mac : List ℕ → List Frame → List Frame
with_last_mac bytes [] = []
with_last_mac bytes (f ∷ []) = record f { key_or_mac = bytes } ∷ []
with_last_mac bytes (f ∷ g ∷ gs) = f ∷ with_last_mac bytes (g ∷ gs)

-- under a key the last frame has the MAC of all frames; without a key none has one
abbrev pub signed : Option (List ℕ) → List Frame → List Frame
signed None frames = frames
signed (Some key) frames = with_last_mac (frames_mac key frames) frames

-- the frames that answer a request, which leaves its region so and has this result. The response to a key has no MAC;
-- a request for a result has no response of its own, since the one in the result register is handed out
abbrev pub response_frames : Region → Frame → ℕ → List Frame
response_frames region asked result =
    if asked.kind == program_key then key_response result ∷ []
    else if asked.kind == read_counter then signed region.key (counter_response region asked result ∷ [])
    else if asked.kind == write_data then signed region.key (write_response region asked result ∷ [])
    else if asked.kind == read_data then signed region.key (data_responses region asked result)
    else []

-- ## Registers (JESD220, 12.4)

-- a key and a write leave their response in the result register, where a request for the result finds it; all other
-- kinds leave theirs in the response register
abbrev pub has_result_register : ℕ → Bool
has_result_register kind = (kind == program_key) || (kind == write_data)

-- what the last data of a request that is not refused leave of the registers: the response register is emptied, and
-- by a key or a write the result register too. What has no frame is refused, and empties nothing
abbrev pub emptied_by : List Frame → Registers → Registers
emptied_by [] r = r
emptied_by (asked ∷ more) r =
    if has_result_register asked.kind then empty_registers else record r { response = [] }

-- the frames of the result register: one, or none if no request left one
abbrev pub frames_of : Option (List ℕ) → List (List ℕ)
frames_of None = []
frames_of (Some bytes) = bytes ∷ []

-- what the GOOD of a request leaves in the registers, once it is due. A request for the result has the frame of the
-- result register handed out, and that register keeps it
abbrev pub filled_with : Region → List Frame → ℕ → Registers → Registers
filled_with region [] result r = r
filled_with region (asked ∷ more) result r =
    if has_result_register asked.kind
    then record r { result = slice_get (map frame_bytes (response_frames region asked result)) 0 }
    else if asked.kind == read_result then record r { response = frames_of r.result }
    else record r { response = map frame_bytes (response_frames region asked result) }
