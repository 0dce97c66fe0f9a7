use Rattle.recovery.proofs.Common.{FoundPage, IsPartitionPoint-from_clause, block_of, nat_le, rules}
use Rattle.std.proofs.lemmas.List.Sorted.{IsPartitionedBy-leb}
use Rattle.recovery.proofs.frees.Sorting.{cut_behind, sorted_rising}
use Rattle.recovery.proofs.free.end_of.Goals as goal

pub returns-clause-cut : goal.returns-clause-cut
returns-clause-cut c = λ rising.
    cut_behind (block_of c.args.blocks) c.args.pages.now c.args.block c.partition_point.result
    (IsPartitionPoint-from_clause (λ (e : FoundPage). nat_le (block_of c.args.blocks e) c.args.block) _ _
    c.partition_point.ensures.partitioned
    (IsPartitionedBy-leb (block_of c.args.blocks) c.args.pages.now c.args.block
    (sorted_rising (block_of c.args.blocks) c.args.pages.now rising))
    (λ a r q k. search rules))
