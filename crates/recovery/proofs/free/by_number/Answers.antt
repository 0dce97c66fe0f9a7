use Rattle.recovery.proofs.Common.{FoundPage, List, rules, subst}
use Rattle.std.specs.List.Sorted.{IsPermutation}
use Rattle.std.proofs.lemmas.List.Sorted.{IsNonDecreasingBy-from_sort_by_key}
use Rattle.recovery.proofs.frees.Sorting.{rising_sorted, same_pages}
use Rattle.recovery.proofs.free.by_number.Goals as goal

pub returns-clause-same : goal.returns-clause-same
returns-clause-same c =
    same_pages c.args.pages.now c.sort_unstable_by_key.new.self.items
    (subst (λ (xs : List FoundPage). IsPermutation xs c.sort_unstable_by_key.new.self.items)
    c.in_ok-named.ensures.items c.sort_unstable_by_key.ensures.permutation)

pub returns-clause-rising : goal.returns-clause-rising
returns-clause-rising c =
    rising_sorted (λ (e : FoundPage). e.tag.number) c.sort_unstable_by_key.new.self.items
    (IsNonDecreasingBy-from_sort_by_key (λ (e : FoundPage). e.tag.number) _ c.sort_unstable_by_key.ensures.sorted
    (λ a r q k. search rules))
