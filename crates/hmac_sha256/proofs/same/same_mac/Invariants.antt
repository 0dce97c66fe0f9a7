use Rattle.std.proofs.Common.{◌≡◌, ◌↔◌, take}
use Rattle.hmac_sha256.proofs.same.same_mac.Given as goal

-- no bit differs so far exactly if the bytes so far are the same
abbrev pub invariant-loop-i : goal.invariant-loop-i
invariant-loop-i l = (l.difference ≡ 0) ↔ (take l.i l.a ≡ take l.i l.b)
