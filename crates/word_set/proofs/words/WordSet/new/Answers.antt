use Rattle.std.proofs.Common.{◌≡◌, ◌∙◌, ◌+◌, ◌/◌, ap, arith, length, replicate, List, ℕ}
use Rattle.std.proofs.lemmas.List.{length-replicate}
use Rattle.word_set.specs.Tests.{has_in}
use Rattle.word_set.proofs.Flags.{flags_none}
use Rattle.word_set.proofs.WordBits.{new_none}
use Rattle.word_set.proofs.words.WordSet.new.Goals as goal

pub invariant_of-result : goal.invariant_of-result
invariant_of-result c =
    let n = c.args.size / 64 + 1 in
    let xs = c.in_ok-words.words.items in
    let e : xs ≡ replicate n 0 = c.in_ok-words.ensures.items_if_clones_equal (λ y h. h) in
    record {
      few = omega (arith, c.ranges.size);
      whole = ap (λ (ys : List ℕ). length ys) e ∙ length-replicate {A = ℕ} n 0;
      below = λ p u. new_none n xs e p;
    }

pub returns : goal.returns
returns c =
    let n = c.args.size / 64 + 1 in
    let xs = c.in_ok-words.words.items in
    let e : xs ≡ replicate n 0 = c.in_ok-words.ensures.items_if_clones_equal (λ y h. h) in
    flags_none (has_in xs) 0 c.args.size (new_none n xs e)
