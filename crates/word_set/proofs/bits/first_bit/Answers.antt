use Rattle.std.proofs.Common.{arith}
use Rattle.word_set.proofs.WordBits.{lowest_left, none_left}
use Rattle.word_set.proofs.bits.first_bit.Goals as goal

pub returns-then-left-eq0 : goal.returns-then-left-eq0
returns-then-left-eq0 c = none_left c.args.word c.args.from c.requires (omega arith)

pub returns : goal.returns
returns c = lowest_left c.args.word c.args.from c.requires (omega arith) (omega arith)
