use Rattle.recovery.proofs.Common.{FoundPage, IsPartitionPoint-from_clause, nat_le, rules}
use Rattle.std.proofs.lemmas.List.Sorted.{IsPartitionedBy-leb}
use Rattle.recovery.proofs.frees.Sorting.{cut_behind, sorted_rising}
use Rattle.recovery.proofs.free.end_of_group.Goals as goal

pub returns-clause-cut : goal.returns-clause-cut
returns-clause-cut c = λ rising.
    cut_behind (λ (e : FoundPage). e.tag.number) c.args.named.now c.args.number c.partition_point.result
    (IsPartitionPoint-from_clause (λ (e : FoundPage). nat_le e.tag.number c.args.number) _ _
    c.partition_point.ensures.partitioned
    (IsPartitionedBy-leb (λ (e : FoundPage). e.tag.number) c.args.named.now c.args.number
    (sorted_rising (λ (e : FoundPage). e.tag.number) c.args.named.now rising))
    (λ a r q k. search rules))
