use Rattle.std.proofs.Common.{◌≡◌, ◌<◌, ◌≤◌, ◌+◌, ◌*◌, ℕ, false}
use Rattle.word_set.specs.Tests.{has_in}
use Rattle.word_set.proofs.words.first_in.Given as goal

abbrev pub invariant-loop-index : goal.invariant-loop-index
invariant-loop-index l = record {
  low : l.bit < 64;
  from : l.at ≤ l.index * 64 + l.bit;
  none : (j : ℕ) → l.at ≤ j → j < l.index * 64 + l.bit → has_in l.words j ≡ false;
}
