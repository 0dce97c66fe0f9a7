-- The frames of the requests that are written.
use Rattle.std.specs.Prelude.{◌≡◌, ◌*◌, ℕ, List, [], ◌∷◌, length, map, Some}
use Rattle.std.specs.List.{flat_map}
use Rattle.hmac_sha256.specs.Hmac.{Holds}
use Rattle.ufs_spec.specs.Frames.{Frame, covered_bytes, frame_bytes}
use Rattle.ufs_spec.specs.Rpmb.{program_key, read_counter, read_data, read_result, write_data}
use Rattle.ufs_spec.specs.RpmbResponses.{response_frame, signed}
use Rattle.ufstool.specs.declared.requests.Sent.{Sent}
use Rattle.ufstool.specs.declared.rpmb.RpmbRequest.{RpmbRequest}
use Rattle.ufstool.specs.declared.rpmb.RpmbRequest.TheVariants.{ProgramKey, ReadCounter, ReadData, ReadResult}
use Rattle.ufstool.specs.declared.rpmb.RpmbRequest.TheVariants.{WriteData}

-- a request of this kind, all of whose other fields are zero
abbrev pub plain_request : ℕ → Frame
plain_request kind = response_frame kind 0

-- a frame that brings a block, without a MAC
abbrev pub block_request : ℕ → ℕ → ℕ → List ℕ → Frame
block_request counter address count block =
    record (plain_request write_data) { payload = block; counter = counter; address = address; count = count }

-- the frames that write these blocks: each has the count of all, and the last one the MAC of all
abbrev pub write_requests : List ℕ → ℕ → ℕ → List (List ℕ) → List Frame
write_requests key counter address blocks =
    signed (Some key) (map (block_request counter address (length blocks)) blocks)

-- the stuff bytes and the key or MAC have their lengths
abbrev pub HasWidths : Frame → Type 0
HasWidths f = (length f.stuff ≡ 196) × (length f.key_or_mac ≡ 32)

-- these frames came so far: their bytes are there, and the MAC under this key has what it covers of them
abbrev pub Gathers : Sent → List ℕ → List Frame → Type 0
Gathers s key frames =
    Holds s.hmac key (flat_map covered_bytes frames) × (s.«data».items ≡ flat_map frame_bytes frames)
    × (length s.«data».items ≡ 512 * length frames)

-- the frame that brings a key
abbrev pub key_sent : List ℕ → Frame
key_sent key = record (plain_request program_key) { key_or_mac = key }

-- the frame that asks for the write counter
abbrev pub counter_asked : List ℕ → Frame
counter_asked nonce = record (plain_request read_counter) { nonce = nonce }

-- the frame that asks for blocks
abbrev pub blocks_asked : ℕ → ℕ → List ℕ → Frame
blocks_asked address count nonce =
    record (plain_request read_data) { nonce = nonce; address = address; count = count }

-- the frames of a request
abbrev pub requested : RpmbRequest → List Frame
requested (ProgramKey key) = key_sent key.now ∷ []
requested (ReadCounter nonce) = counter_asked nonce ∷ []
requested (WriteData key counter address blocks) = write_requests key.now counter address blocks.now
requested (ReadData address count nonce) = blocks_asked address count nonce ∷ []
requested ReadResult = plain_request read_result ∷ []
