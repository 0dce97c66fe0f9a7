use Rattle.std.proofs.Common.{arith, sym, ◌∙◌}
use Rattle.journal.proofs.HeldUnits.{count_equal, counts_more}
use Rattle.journal.proofs.bases.are_units.Goals as goal

pub returns-then-len-spec-clause-other : goal.returns-then-len-spec-clause-other
returns-then-len-spec-clause-other c =
    λ _ all.
    let v = c.index-blocks-index.result in
    let i = c.loop-index.index in
    let same = c.if-specs-blocks.false in
    let less = c.loop-index-test.true in
    let equal = count_equal c.args.blocks.now c.args.specs.now i v (record { blocks = 0; boot = 0; protect = 0 })
    (omega (arith, same, less)) less c.index-blocks-index.is all in
    c.if-len-spec.true (c.len.ensures ∙ v.ok.0 ∙ equal)

pub loop-index-preserved : goal.loop-index-preserved
loop-index-preserved c =
    let v = c.index-blocks-index.result in
    let equal = sym v.ok.0 ∙ sym c.len.ensures ∙ c.if-len-spec.false in
    counts_more c.args.blocks.now c.args.specs.now c.loop-index.index v (record { blocks = 0; boot = 0; protect = 0 })
    c.if-specs-blocks.false c.loop-index-test.true c.index-blocks-index.is equal c.loop-index.invariant
