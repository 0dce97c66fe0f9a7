use Rattle.recovery.proofs.Common.{FoundPage, IsPartitionPoint-from_clause, nat_lt, rules}
use Rattle.std.proofs.lemmas.List.Sorted.{IsPartitionedBy-ltb}
use Rattle.recovery.proofs.frees.Sorting.{cut_below, sorted_rising}
use Rattle.recovery.proofs.free.first_of_group.Goals as goal

pub returns-clause-cut : goal.returns-clause-cut
returns-clause-cut c = λ rising.
    cut_below (λ (e : FoundPage). e.tag.number) c.args.named.now c.args.number c.partition_point.result
    (IsPartitionPoint-from_clause (λ (e : FoundPage). nat_lt e.tag.number c.args.number) _ _
    c.partition_point.ensures.partitioned
    (IsPartitionedBy-ltb (λ (e : FoundPage). e.tag.number) c.args.named.now c.args.number
    (sorted_rising (λ (e : FoundPage). e.tag.number) c.args.named.now rising))
    (λ a r q k. search rules))
