-- What a write to the RPMB area has to be, so that it may be accepted (JESD220, 12.4).
use Rattle.std.specs.Prelude.{◌≡◌, ◌≢◌, ◌≤◌, ◌+◌, ◌*◌, ℕ, List, ◌∷◌, All, Option, None, Some, length}
use Rattle.ufs_spec.specs.Commands.{Command, RpmbWrite, SetKey}
use Rattle.ufs_spec.specs.Frames.{Frame}
use Rattle.ufs_spec.specs.Rpmb.{Region, frames_mac, last_mac}

-- a frame of a write says the same as its first one: its kind, the counter, the address and how many blocks
pub record SaysTheSame (first frame : Frame) : Type 0 where
  pub kind : frame.kind ≡ first.kind
  pub counter : frame.counter ≡ first.counter
  pub address : frame.address ≡ first.address
  pub count : frame.count ≡ first.count

-- a write that may be accepted: its frames say the same and are as many as it counts; the MAC in its last frame is that
-- of all of them under the region's key; it lies in the area; and it has the present counter, which is not at its end
pub record IsRightWrite (region : Region) (f : Frame) (fs : List Frame) : Type 0 where
  pub kind : f.kind ≡ 3
  pub agree : All (SaysTheSame f) fs
  pub count : f.count ≡ length (f ∷ fs)
  pub key : List ℕ
  pub is_key : region.key ≡ Some key
  pub mac : last_mac f fs ≡ frames_mac key (f ∷ fs)
  pub within : 256 * (f.address + f.count) ≤ length region.area
  pub counter : f.counter ≡ region.counter
  pub below_end : region.counter ≢ 0xFFFFFFFF

-- the RPMB region that a command names, if it names one
abbrev pub region_named : Command → Option ℕ
region_named (SetKey number bytes) = Some number
region_named (RpmbWrite number address bytes) = Some number
region_named c = None
