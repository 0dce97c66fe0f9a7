use Rattle.std.proofs.Common.{◌≡◌, ◌∙◌, ◌≤◌, ℕ, List, map, subst, arith}
use Rattle.std.proofs.lemmas.List.{take_all}
use Rattle.std.proofs.lemmas.List.Elements.{All-map}
use Rattle.std.specs.List.{All}
use Rattle.ufs_handle.specs.Plain.{left_number}
use Rattle.ufs_handle.specs.declared.left.Left.{Left}
use Rattle.ufs_handle.specs.declared.left.Left.TheVariants as left
use Rattle.ufs_handle.proofs.plain.lefts_of.Goals as goal

is_small : (l : Left) → left_number l ≤ 2
is_small left.Old = omega arith
is_small left.New = omega arith
is_small left.Torn = omega arith

are_small : (lefts : List Left) (numbers : List ℕ) → map left_number lefts ≡ numbers → All (λ n. n ≤ 2) numbers
are_small lefts numbers same =
    subst (All (λ n. n ≤ 2)) same (All-map (λ n. n ≤ 2) left_number lefts (λ k d less. is_small _))

pub returns-clause-says : goal.returns-clause-says
returns-clause-says c = (
  omega arith,
  are_small c.loop-number.lefts.items c.args.numbers.now
      (c.loop-number.invariant ∙ take_all c.loop-number.number-index c.args.numbers.now (omega arith)),
)
