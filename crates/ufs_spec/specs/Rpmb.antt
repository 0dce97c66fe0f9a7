-- The replay protected memory block: the MAC of frames, and what a request does to its region (JESD220, 12.4; RFC 2104;
-- FIPS 180-4). Requests and their answers speak of one region (`Region` in Plain), whatever else the device holds. What
-- is refused, and in which order, is this profile's.
pub use Rattle.ufs_spec.specs.Plain.{Region, changed_by, region_of}
use Rattle.std.specs.Prelude.{ℕ, ◌+◌, ◌-◌, ◌*◌, ◌==◌, ◌&&◌, nat_lt, nat_le, not, Bool, true, false, if◌then◌else◌}
use Rattle.std.specs.Prelude.{is_none, is_some, List, [], ◌∷◌, ◌++◌, bit_or, bit_xor, length, map, replicate, Option}
use Rattle.std.specs.Prelude.{Some, None}
use Rattle.std.specs.List.{flat_map, list_all}
use Rattle.sha2.specs.Sha256.{sha256}
use Rattle.ufs_spec.specs.Commands.{Command, RpmbWrite, SetKey}
use Rattle.ufs_spec.specs.Exchanges.{Registers, invalid_list_field, sequence_error}
use Rattle.ufs_spec.specs.declared.exchanges.Status.{Status}
use Rattle.ufs_spec.specs.Frames.{Frame, covered_bytes}
use Rattle.ufs_spec.specs.Plain.{Region, changed_by, counter_end}

-- ## The MAC (RFC 2104, HMAC with SHA-256 of FIPS 180-4)

-- a key that is longer than the 64 bytes of a block of SHA-256 is replaced by its SHA-256 (RFC 2104, section 2)
abbrev pub short_key : List ℕ → List ℕ
short_key key = if nat_lt 64 (length key) then sha256 key else key

-- then it is filled with zeros to 64 bytes
abbrev pub padded_key : List ℕ → List ℕ
padded_key key = short_key key ++ replicate (64 - length (short_key key)) 0

-- the padded key, each byte of it xor one byte: 36h inside and 5Ch outside
abbrev pub keyed : ℕ → List ℕ → List ℕ
keyed pad key = map (λ b. bit_xor b pad) (padded_key key)

-- the MAC of a message (RFC 2104, section 2): the SHA-256 of the outer key and of the SHA-256 of the
-- inner key and the message
abbrev pub mac : List ℕ → List ℕ → List ℕ
mac key message = sha256 (keyed 0x5C key ++ sha256 (keyed 0x36 key ++ message))

-- the MAC of several frames is one: over what it covers in each, one frame after another
abbrev pub frames_mac : List ℕ → List Frame → List ℕ
frames_mac key frames = mac key (flat_map covered_bytes frames)

-- ## Requests: the kind of the first frame

-- the authentication key is set, once for ever; its frame brings the key in place of a MAC
abbrev pub program_key : ℕ
program_key = 1

-- the write counter is asked for
abbrev pub read_counter : ℕ
read_counter = 2

-- blocks are written to the RPMB area, under a MAC and the present counter
abbrev pub write_data : ℕ
write_data = 3

-- blocks of the RPMB area are asked for
abbrev pub read_data : ℕ
read_data = 4

-- the result of the last key or write request is asked for
abbrev pub read_result : ℕ
read_result = 5

-- the frames of a write agree in kind, counter, address and count
abbrev pub agrees : Frame → Frame → Bool
agrees f g = (f.kind == g.kind) && (f.counter == g.counter) && (f.address == g.address) && (f.count == g.count)

-- a write has as many frames as it counts, and they agree; a read counts 1 to 8 blocks; all but a write have one frame.
-- Other kinds than 1 to 5 are malformed
abbrev pub is_well_formed : Frame → List Frame → Bool
is_well_formed f fs =
    if f.kind == write_data then list_all (agrees f) fs && (f.count == length fs + 1)
    else (length fs == 0)
    && (if f.kind == read_data then nat_le 1 f.count && nat_le f.count 8 else nat_le 1 f.kind && nat_le f.kind 5)

-- ## Outcomes

-- what SECURITY PROTOCOL OUT does with its frames: it is refused with a status; or it has a result and, if the
-- request is accepted, a command
pub data RpmbOutcome : Type 0 where
  Refused : (status : Status) → RpmbOutcome
  Results : (result : ℕ) → (accepted : Option Command) → RpmbOutcome

-- a check of a request, and its result where it fails
pub record Check : Type 0 where
  pub fails : Bool
  pub result : ℕ

-- a check that fails in this case, with this result
abbrev pub fails_if : Bool → ℕ → Check
fails_if fails result = record { fails = fails; result = result }

-- the result of the first check that fails; None if all pass
abbrev pub first_failed : List Check → Option ℕ
first_failed [] = None
first_failed (c ∷ cs) = if c.fails then Some c.result else first_failed cs

-- a key is set; until then only setting it, and asking for a result, can succeed
abbrev pub has_key : Region → Bool
has_key region = is_some region.key

-- the request names blocks of 256 bytes past the end of the area
abbrev pub is_past_area : Region → Frame → Bool
is_past_area region f = nat_lt (length region.area) (256 * (f.address + f.count))

-- the MAC of a request is in its last frame; the other frames' are not looked at
abbrev pub last_mac : Frame → List Frame → List ℕ
last_mac f [] = f.key_or_mac
last_mac f (g ∷ gs) = last_mac g gs

-- whether two lists of bytes are equal
abbrev pub same_bytes : List ℕ → List ℕ → Bool
same_bytes [] [] = true
same_bytes (x ∷ xs) (y ∷ ys) = (x == y) && same_bytes xs ys
same_bytes _ _ = false

-- the MAC that came is not that of all frames of the request under the device's key; without a key none is right
abbrev pub has_wrong_mac : Option (List ℕ) → Frame → List Frame → Bool
has_wrong_mac None f fs = true
has_wrong_mac (Some key) f fs = not (same_bytes (last_mac f fs) (frames_mac key (f ∷ fs)))

-- the checks of each kind of request, in order, with the result that each gives (JESD220, 12.4.3): 1 general failure,
-- 2 authentication failure, 3 counter failure, 4 address failure, 5 write failure, 7 authentication key not yet
-- programmed. `locked`: the device takes no writes any more
abbrev pub checks : Region → Bool → Frame → List Frame → List Check
checks region locked f fs =
    if f.kind == program_key then fails_if (has_key region) 1 ∷ fails_if locked 5 ∷ []
    else if f.kind == write_data then
    fails_if (not (has_key region)) 7 ∷ fails_if (region.counter == counter_end) 5 ∷ fails_if (is_past_area region f) 4
    ∷ fails_if (has_wrong_mac region.key f fs) 2 ∷ fails_if (not (f.counter == region.counter)) 3
    ∷ fails_if locked 5 ∷ []
    else if f.kind == read_data then fails_if (not (has_key region)) 7 ∷ fails_if (is_past_area region f) 4 ∷ []
    else if f.kind == read_counter then fails_if (not (has_key region)) 7 ∷ []
    else []

-- the command of a request to the region of this number that passes its checks; only setting the key and a write
-- change anything
abbrev pub command_in : ℕ → Frame → List Frame → Option Command
command_in number f fs =
    if f.kind == program_key then Some (SetKey number f.key_or_mac)
    else if f.kind == write_data then
    Some (RpmbWrite number f.address (flat_map (λ (g : Frame). g.payload) (f ∷ fs)))
    else None

-- what a request leaves of its region: what its command makes of it, if it has one
abbrev pub applied : Region → Option Command → Region
applied region None = region
applied region (Some c) = changed_by region c

-- bit 0080h of a result says that the counter is at its end: a key is set, and the counter is FFFFFFFFh after the
-- request. So the last write that passes has the result 0080h
abbrev pub with_end_bit : Region → ℕ → ℕ
with_end_bit region result = if has_key region && (region.counter == counter_end) then bit_or result 0x80 else result

-- a request that failed a check has that check's result and accepts nothing; one that passed has result 0
abbrev pub outcome_after : Region → Option Command → Option ℕ → RpmbOutcome
outcome_after region accepted (Some result) = Results (with_end_bit region result) None
outcome_after region accepted None = Results (with_end_bit (applied region accepted) 0) accepted

-- a result is asked for, and none is there: no key or write request has left one in the result register
abbrev pub lacks_result : Frame → Registers → Bool
lacks_result f r = (f.kind == read_result) && is_none r.result

-- what SECURITY PROTOCOL OUT does with these frames, sent to the region of this number: malformed ones are refused with
-- 5/26/00, a result read without a result with 5/2C/00, else the checks decide. That the read of a page failed
-- (result 6) is no part of it
abbrev pub rpmb_outcome : ℕ → Region → Registers → Bool → List Frame → RpmbOutcome
rpmb_outcome number region r locked [] = Refused invalid_list_field
rpmb_outcome number region r locked (f ∷ fs) =
    if not (is_well_formed f fs) then Refused invalid_list_field
    else if lacks_result f r then Refused sequence_error
    else outcome_after region (command_in number f fs) (first_failed (checks region locked f fs))
