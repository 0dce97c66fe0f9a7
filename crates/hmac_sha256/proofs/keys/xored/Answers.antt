use Rattle.std.proofs.Common.{arith}
use Rattle.hmac_sha256.proofs.KeyBlocks.{xored_more}
use Rattle.hmac_sha256.proofs.keys.xored.Goals as goal

pub loop-byte-preserved : goal.loop-byte-preserved
loop-byte-preserved c =
    xored_more c.args.pad c.args.block.now c.loop-byte.byte-items c.loop-byte.byte-index (omega arith)
    c.loop-byte.invariant
