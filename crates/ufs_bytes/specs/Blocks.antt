-- The bytes of a block.
use Rattle.std.specs.Prelude.{ℕ, List, replicate}

-- 4096 zeros
unfoldable pub zero_block : List ℕ
zero_block = replicate 4096 0
