use Rattle.block_table.proofs.LowestWords.{bit_from}
use Rattle.block_table.proofs.buckets.from_bit.Goals as goal

pub returns : goal.returns
returns c = λ j l. bit_from c.args.word c.args.first j c.requires l
