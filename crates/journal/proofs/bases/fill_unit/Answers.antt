use Rattle.std.proofs.Common.{◌∙◌, ◌∷◌, [], ap, arith, get_or, sym}
use Rattle.ufs_spec.specs.Plain.{with_blocks}
use Rattle.journal.proofs.HeldUnits.{front_more}
use Rattle.journal.proofs.bases.fill_unit.Goals as goal

pub loop-address-preserved : goal.loop-address-preserved
loop-address-preserved c =
    let i = c.loop-address.address in
    let less = c.loop-address-test.true in
    let count = c.requires.count in
    let whole = c.requires.whole in
    c.set_block.ensures
    ∙ ap (with_blocks c.args.unit i (get_or c.args.blocks.now i [] ∷ [])) c.loop-address.invariant
    ∙ front_more c.args.plain.now c.args.unit i c.args.blocks.now c.requires.unit_in (omega (arith, less, count))
    (sym count ∙ whole)
