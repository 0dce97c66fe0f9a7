use Rattle.std.proofs.Common.{◌++◌, take}
use Rattle.std.specs.List.{flat_map}
use Rattle.std.specs.Io.KnownBytes.{Appends}
use Rattle.ufsim.specs.Images.{die_bytes, head_bytes}
use Rattle.ufsim.proofs.image.write_image.Given as goal

-- the head and the dies so far are written
abbrev pub invariant-loop-die : goal.invariant-loop-die
invariant-loop-die g l =
    Appends (g.W.Write.contents l.fn.image) (g.W.Write.contents l.image)
    (head_bytes l.fn.sizes.dies l.fn.sizes.blocks l.fn.sizes.pages ++ flat_map die_bytes (take l.die-index l.dies))
