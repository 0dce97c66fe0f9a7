use Rattle.device.proofs.Common.{sym, ◌∙◌}
use Rattle.device.proofs.dies_of_world.LeftoversApart.{apart_clash, apart_more}
use Rattle.device.proofs.leftovers.are_apart.Goals as goal

pub returns-then-has_die-clause-twice : goal.returns-then-has_die-clause-twice
returns-then-has_die-clause-twice c =
    λ _ apart.
    apart_clash c.args.leftovers.now c.loop-index.index c.index-leftovers-index.result c.die_of.result
    c.loop-index-test.true c.index-leftovers-index.is c.die_of.ensures (sym c.has_die.ensures ∙ c.if-has_die.true) apart

pub loop-index-preserved : goal.loop-index-preserved
loop-index-preserved c =
    apart_more c.args.leftovers.now c.loop-index.index c.index-leftovers-index.result c.die_of.result
    c.loop-index-test.true c.index-leftovers-index.is c.die_of.ensures (sym c.has_die.ensures ∙ c.if-has_die.false)
    c.loop-index.invariant
