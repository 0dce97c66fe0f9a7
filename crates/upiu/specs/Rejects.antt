-- The REJECT that answers a message whose transaction code no request has (JESD220, 10.7.10).
use Rattle.std.specs.Prelude.{List, None, Option, Some, ℕ, ◌∷◌, ◌&&◌, if◌then◌else◌, not, slice_index}
use Rattle.ufs_spec.specs.Messages.{has_other_code, header, is_short, request_codes, zeros}

-- with the LUN and the task tag of the message: response 01h, the target failed; basic header status 01h in byte 12, a wrong
-- transaction code; and an end-to-end status of 00h in byte 14
abbrev pub reject_bytes : List ℕ → List ℕ
reject_bytes message =
    header 0x3F 0x00 (slice_index message 2) (slice_index message 3) 0x00 0x01 0x00 0 (0x01 ∷ zeros 19)

-- only a whole header has a LUN and a task tag
abbrev pub reject_of : List ℕ → Option (List ℕ)
reject_of message =
    if not (is_short message) && has_other_code request_codes message then Some (reject_bytes message) else None
