use Rattle.std.proofs.Common.{◌≡◌, ◌++◌, bit_xor, map, take, drop}
use Rattle.hmac_sha256.proofs.keys.xored.Given as goal

-- the bytes so far are xor the pad, and the others are as they were
abbrev pub invariant-loop-byte : goal.invariant-loop-byte
invariant-loop-byte l =
    l.byte-items ≡ map (λ b. bit_xor b l.pad) (take l.byte-index l.block) ++ drop l.byte-index l.block
