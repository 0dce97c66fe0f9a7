use Rattle.recovery.proofs.Common.{Aged, rules}
use Rattle.std.proofs.lemmas.List.Sorted.{IsNonDecreasingBy-from_sort_by_key, answers_always}
use Rattle.recovery.proofs.frees.Sorting.{oldest_on}
use Rattle.recovery.proofs.free.by_age.Goals as goal

pub returns : goal.returns
returns c =
    oldest_on c.args.latests.now c.in_ok-order.order.items c.in_ok-order.ensures c.sort_by_key.new.self.items
    c.sort_by_key.ensures.permutation
    (IsNonDecreasingBy-from_sort_by_key (λ (a : Aged). a.latest) _ c.in_ok-sort_by_key.ensures.sorted
    (λ a r q k. search rules))
    (c.sort_by_key.ensures.stable (λ (a : Aged). a.latest) (answers_always _ _ _ (λ f a r g h. search rules)))
