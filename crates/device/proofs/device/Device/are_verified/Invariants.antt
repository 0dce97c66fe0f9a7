use Rattle.device.proofs.Common.{Translation, true, ℕ, ◌<◌, ◌≡◌}
use Rattle.ftl_core.specs.Public.{Describes}
use Rattle.device.specs.Replies.{is_verified}
use Rattle.device.proofs.device.Device.are_verified.Given as goal

-- each block so far needs no read any more
abbrev pub invariant-loop-index : goal.invariant-loop-index
invariant-loop-index l =
    (t : Translation) (k : ℕ) → Describes l.self.ftl t → k < l.index → is_verified t l.tag k ≡ true
