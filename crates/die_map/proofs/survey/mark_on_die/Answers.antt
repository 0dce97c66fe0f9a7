use Rattle.std.proofs.Common.{◌≡◌, ℕ, subst}
use Rattle.die_map.specs.Surveys.{IsMarkFound, IsReadTo}
use Rattle.die_map.proofs.MarkFacts.{die_end, die_read}
use Rattle.die_map.proofs.survey.mark_on_die.Goals as goal

pub loop-block-preserved : goal.loop-block-preserved
loop-block-preserved c = λ n cells shown r.
    c.mark_in_block-found.ensures n cells shown (c.loop-block.invariant n cells shown r)

pub returns : goal.returns
returns c = λ n cells shown r.
    let number = c.args.number in
    let found = c.loop-block.found in
    let end : c.loop-block.block ≡ n.blocks =
    die_end n cells number c.args.die.now c.loop-block.block c.blocks-block-end.result shown
    c.blocks-block-end.ensures c.loop-block.auto.block-end c.loop-block-test.false in
    die_read (λ s. IsMarkFound s found) n cells shown.within number
    (subst (λ (b : ℕ). IsReadTo (λ s. IsMarkFound s found) number b 0 cells) end
    (c.loop-block.invariant n cells shown r))
