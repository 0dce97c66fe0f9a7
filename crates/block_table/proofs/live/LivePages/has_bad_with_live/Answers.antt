use Rattle.block_table.proofs.Common.{ap, arith, bit, is_bad_at, ℕ, ◌∙◌, ◌≡◌}
use Rattle.block_table.proofs.VictimWords.{bad_found, bad_none, word_passed}
use Rattle.block_table.proofs.WordBits.{bit_zero}
use Rattle.block_table.proofs.live.LivePages.has_bad_with_live.Goals as goal

pub bad_with_live-requires : goal.bad_with_live-requires
bad_with_live-requires c = omega (arith, c.words-number-end.ensures.few)

pub returns-then-bad_with_live-ne0 : goal.returns-then-bad_with_live-ne0
returns-then-bad_with_live-ne0 c =
    bad_found c.args.self.now c.args.blocks.now c.loop-number.number c.bad_with_live.result c.bad_with_live.ensures
    (omega arith) c.bad_with_live.type_inv

pub loop-number-preserved : goal.loop-number-preserved
loop-number-preserved c =
    let e : c.bad_with_live.result ≡ 0 = omega arith in
    word_passed (is_bad_at c.args.self.now c.args.blocks.now) c.loop-number.number c.bad_with_live.result
    c.bad_with_live.ensures (λ j. ap (λ (word : ℕ). bit word j) e ∙ bit_zero j) c.loop-number.invariant

pub returns : goal.returns
returns c =
    bad_none c.args.self.now c.args.blocks.now c.loop-number.number
    (omega (arith, c.words-number-end.ensures.all)) c.loop-number.invariant
