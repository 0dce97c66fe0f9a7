-- What the laws of RPMB requests speak of.
use Rattle.std.specs.Prelude.{◌≡◌, ◌⊎◌, ℕ, true, false, List}
use Rattle.ufs_spec.specs.Exchanges.{ReadBlock, Task}
use Rattle.ufs_spec.specs.declared.exchanges.ReadState.TheVariants.{NotRead, Unread, WasRead}
use Rattle.ufs_spec.specs.Frames.{Frame}
use Rattle.ufs_spec.specs.Refusals.{State, accepts_nothing, plain_now}
use Rattle.ufs_spec.specs.Replies.{is_at_hand, pin_of}
use Rattle.ufs_spec.specs.Rpmb.{RpmbOutcome, region_of, rpmb_outcome}

-- the request programs the key (1) or writes blocks (3); its response waits in the result register
abbrev pub IsKeyOrWrite : Frame → Type 0
IsKeyOrWrite f = (f.kind ≡ 1) ⊎ (f.kind ≡ 3)

-- the request did what it asked for: result 0, or 0080h with the counter at its end
abbrev pub IsSuccess : ℕ → Type 0
IsSuccess result = (result ≡ 0) ⊎ (result ≡ 0x80)

-- what is decided in this state of frames that were sent to this region
abbrev pub outcome_in : State → ℕ → List Frame → RpmbOutcome
outcome_in s region frames = rpmb_outcome region (region_of (plain_now s) region) (s.registers region) (accepts_nothing s)
    frames

-- this page, at an index of the pages that a task reads, still waits for its read
abbrev pub IsOwed : State → Task → ℕ → ReadBlock → Type 0
IsOwed s task index page =
    (page.state ≡ Unread) × (is_at_hand s.translation.work.rests (pin_of s task index) ≡ false)

-- it does not: it was read, could not be read, or is at hand
abbrev pub IsThere : State → Task → ℕ → ReadBlock → Type 0
IsThere s task index page =
    (page.state ≡ WasRead) ⊎ (page.state ≡ NotRead)
    ⊎ (is_at_hand s.translation.work.rests (pin_of s task index) ≡ true)
