use Rattle.recovery.proofs.Common.{FoundPage, IsPartitionPoint-from_clause, block_of, nat_lt, rules}
use Rattle.std.proofs.lemmas.List.Sorted.{IsPartitionedBy-ltb}
use Rattle.recovery.proofs.frees.Sorting.{cut_below, sorted_rising}
use Rattle.recovery.proofs.free.first_in.Goals as goal

pub returns-clause-cut : goal.returns-clause-cut
returns-clause-cut c = λ rising.
    cut_below (block_of c.args.blocks) c.args.pages.now c.args.block c.partition_point.result
    (IsPartitionPoint-from_clause (λ (e : FoundPage). nat_lt (block_of c.args.blocks e) c.args.block) _ _
    c.partition_point.ensures.partitioned
    (IsPartitionedBy-ltb (block_of c.args.blocks) c.args.pages.now c.args.block
    (sorted_rising (block_of c.args.blocks) c.args.pages.now rising))
    (λ a r q k. search rules))
