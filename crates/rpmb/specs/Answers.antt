-- The frames that answer a request.
use Rattle.std.specs.Prelude.{◌≡◌, ◌*◌, ◌≤◌, ℕ, true, false, Option, Some, None, List, [], ◌∷◌, drop, length, take}
use Rattle.std.specs.List.{flat_map, list_any}
use Rattle.ufs_spec.specs.Exchanges.{Registers}
use Rattle.ufs_spec.specs.declared.exchanges.ReadState.{ReadState}
use Rattle.ufs_spec.specs.Frames.{Frame, frame_bytes}
use Rattle.ufs_spec.specs.Rpmb.{Region, read_data}
use Rattle.ufs_spec.specs.RpmbResponses.{data_response, frames_of, is_lost, is_success}

-- the bytes of the response to a request for data, with these data
abbrev pub data_bytes : Frame → ℕ → List ℕ → List ℕ
data_bytes asked result block = frame_bytes (data_response asked result block)

-- the first two parts of the frame have their lengths, so that its MAC is where it has to be
pub record HasPlaces (f : Frame) : Type 0 where
  pub stuff : length f.stuff ≡ 196
  pub key_or_mac : length f.key_or_mac ≡ 32

-- so it is in all frames
abbrev pub HavePlaces : List Frame → Type 0
HavePlaces [] = Unit {0}
HavePlaces (f ∷ fs) = HasPlaces f × HavePlaces fs

-- these are the data of the blocks that are asked for, if the request did not fail
abbrev pub HasData : Region → Frame → ℕ → List ℕ → Type 0
HasData region asked result bytes =
    is_success result ≡ true
    → (length bytes ≡ 256 * asked.count) × (bytes ≡ take (256 * asked.count) (drop (256 * asked.address) region.area))

-- these are the data that a request asks for, if it asks for data
abbrev pub HasAskedData : Region → List Frame → ℕ → List ℕ → Type 0
HasAskedData region [] result bytes = Unit {0}
HasAskedData region (f ∷ fs) result bytes = f.kind ≡ read_data → HasData region f result bytes

-- what was read for a request is that, or a page of it could not be read
abbrev pub IsRead : Region → List Frame → ℕ → List ReadState → Option (List ℕ) → Type 0
IsRead region fs result pages None = list_any is_lost pages ≡ true
IsRead region fs result pages (Some bytes) = (list_any is_lost pages ≡ false) × HasAskedData region fs result bytes

-- at most eight blocks
abbrev pub AreFew : Option (List ℕ) → Type 0
AreFew None = Unit {0}
AreFew (Some bytes) = length bytes ≤ 2048

-- the bytes that wait for SECURITY PROTOCOL IN
abbrev pub waiting_in : Registers → List ℕ
waiting_in r = flat_map (λ frame. frame) r.response

-- the frames that the result register hands out
abbrev pub registered : Option (List ℕ) → List (List ℕ)
registered result = frames_of result
