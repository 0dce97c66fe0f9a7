use Rattle.std.proofs.Common.{map, take}
use Rattle.ufstool.specs.Requests.{Gathers, block_request}
use Rattle.ufstool.proofs.requests.signed_frames.Given as goal

-- the frames of the blocks up to the index came so far
abbrev pub invariant-loop-block : goal.invariant-loop-block
invariant-loop-block l =
    Gathers l.sent l.key (map (block_request l.counter l.address l.number) (take l.block-index l.front))
