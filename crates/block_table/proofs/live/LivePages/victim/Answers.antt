use Rattle.block_table.proofs.Common.{IsVictim, Lives, Some, Spot, ap, subst, sym, ◌+◌, ◌∙◌, ◌≤◌}
use Rattle.block_table.proofs.Searches.{no_victim_is, victim_is}
use Rattle.block_table.proofs.VictimBuckets.{first_is, none_left, none_more}
use Rattle.block_table.proofs.live.LivePages.victim.Goals as goal

pub returns-in-Some-clause-search : goal.returns-in-Some-clause-search
returns-in-Some-clause-search c =
    let f = first_is c.args.self.now c.args.blocks.now c.args.scarce c.loop-count.count c.in-Some.place
    c.loop-count.invariant c.in-Some.ensures in
    ap (λ (s : Spot). Some s) c.block_at.ensures ∙ victim_is c.args.self.now c.args.blocks.now c.args.scarce _ f

pub returns-in-Some-clause-least : goal.returns-in-Some-clause-least
returns-in-Some-clause-least c =
    let f = first_is c.args.self.now c.args.blocks.now c.args.scarce c.loop-count.count c.in-Some.place
    c.loop-count.invariant c.in-Some.ensures in
    subst (IsVictim c.args.self.now c.args.blocks.now c.args.scarce) (sym c.block_at.ensures) f

pub loop-count-preserved : goal.loop-count-preserved
loop-count-preserved c =
    none_more c.args.self.now c.args.blocks.now c.args.scarce c.loop-count.count c.loop-count.invariant
    c.in_default.ensures

pub returns-clause-search : goal.returns-clause-search
returns-clause-search c =
    no_victim_is c.args.self.now c.args.blocks.now c.args.scarce
    (none_left c.args.self.now c.args.blocks.now c.args.scarce c.loop-count.count
    (subst (λ (l : Lives). l.sizes.pages + 1 ≤ c.loop-count.count) c.self.view_is c.loop-count-test.false)
    c.loop-count.invariant)

pub returns-clause-least : goal.returns-clause-least
returns-clause-least c =
    none_left c.args.self.now c.args.blocks.now c.args.scarce c.loop-count.count
    (subst (λ (l : Lives). l.sizes.pages + 1 ≤ c.loop-count.count) c.self.view_is c.loop-count-test.false)
    c.loop-count.invariant
