use Rattle.block_table.proofs.Common.{Bool, ap, bit, sym, with_bit, ◌∙◌}
use Rattle.block_table.proofs.WordBits.{bit_clear, bit_set}
use Rattle.block_table.proofs.buckets.with_bit.Goals as goal

pub returns-then-one : goal.returns-then-one
returns-then-one c = λ j l.
    bit_set c.args.word c.args.place j c.requires
    ∙ sym (ap (λ (b : Bool). with_bit (bit c.args.word) c.args.place b j) c.if-one.true)

pub returns-else-one : goal.returns-else-one
returns-else-one c = λ j l.
    bit_clear c.args.word c.args.place j c.requires l
    ∙ sym (ap (λ (b : Bool). with_bit (bit c.args.word) c.args.place b j) c.if-one.false)
