use Rattle.block_table.proofs.Common.{arith}
use Rattle.block_table.proofs.WordBits.{lowest_is}
use Rattle.block_table.proofs.buckets.lowest_bit.Goals as goal

pub returns-clause-some : goal.returns-clause-some
returns-clause-some c = (lowest_is c.args.word (omega arith) (omega arith)).1

pub returns-clause-within : goal.returns-clause-within
returns-clause-within c = (lowest_is c.args.word (omega arith) (omega arith)).0
