-- The frames of the replay protected memory block: 512 bytes, of which a MAC covers the last 284 (JESD220, 12.4).
use Rattle.std.specs.Prelude.{◌≡◌, ℕ, zero, suc, ◌<◌, ◌^◌, List, [], ◌∷◌, ◌++◌, length, take, drop}
use Rattle.byteorder.specs.Endian.{big_bytes}
use Rattle.ufs_bytes.specs.Fields.{field_at}
use Rattle.ufs_spec.specs.Messages.{AreBytes}

-- a frame of 512 bytes (JESD220, 12.4): 196 stuff bytes, the key or the MAC of 32, 256 of data, a nonce
-- of 16, and five numbers
pub record Frame : Type 0 where
  pub stuff : List ℕ
  pub key_or_mac : List ℕ
  pub payload : List ℕ
  pub nonce : List ℕ
  -- the write counter (4 bytes); the other numbers have 2
  pub counter : ℕ
  -- the first block of 256 bytes, and how many blocks
  pub address : ℕ
  pub count : ℕ
  pub result : ℕ
  -- which request or response it is
  pub kind : ℕ

-- the 284 bytes that the MAC covers: from the data on, so all but stuff bytes and MAC
abbrev pub covered_bytes : Frame → List ℕ
covered_bytes f =
    f.payload ++ f.nonce ++ big_bytes 4 f.counter ++ big_bytes 2 f.address ++ big_bytes 2 f.count ++ big_bytes 2
    f.result
    ++ big_bytes 2 f.kind

-- the 512 bytes of a frame, numbers with the highest byte first
abbrev pub frame_bytes : Frame → List ℕ
frame_bytes f = f.stuff ++ f.key_or_mac ++ covered_bytes f

-- the parts of a frame have their lengths, and its numbers fit their widths
pub record IsFrame (f : Frame) : Type 0 where
  pub stuff : (length f.stuff ≡ 196) × AreBytes f.stuff
  pub key_or_mac : (length f.key_or_mac ≡ 32) × AreBytes f.key_or_mac
  pub payload : (length f.payload ≡ 256) × AreBytes f.payload
  pub nonce : (length f.nonce ≡ 16) × AreBytes f.nonce
  pub counter : f.counter < 2 ^ 32
  pub address : f.address < 2 ^ 16
  pub count : f.count < 2 ^ 16
  pub result : f.result < 2 ^ 16
  pub kind : f.kind < 2 ^ 16

-- the frame that 512 bytes are (JESD220, 12.4): the parts by their places, the numbers with the highest byte first
abbrev pub frame_in : List ℕ → Frame
frame_in bytes =
    record {
      stuff = take 196 bytes;
      key_or_mac = take 32 (drop 196 bytes);
      payload = take 256 (drop 228 bytes);
      nonce = take 16 (drop 484 bytes);
      counter = field_at 4 500 bytes;
      address = field_at 2 504 bytes;
      count = field_at 2 506 bytes;
      result = field_at 2 508 bytes;
      kind = field_at 2 510 bytes;
    }

-- the frames that so many times 512 bytes are, one after another: the data of SECURITY PROTOCOL OUT
abbrev pub frames_in : ℕ → List ℕ → List Frame
frames_in zero bytes = []
frames_in (suc n) bytes = frame_in (take 512 bytes) ∷ frames_in n (drop 512 bytes)
