use Rattle.block_table.proofs.Common.{Stands}
use Rattle.block_table.specs.Buckets.{in_first}
use Rattle.block_table.proofs.buckets.BlockBuckets.fill_first.Given as goal

abbrev pub invariant-loop-place : goal.invariant-loop-place
invariant-loop-place l = Stands l.self l.initial.self.buckets l.initial.self.words (in_first l.place)
