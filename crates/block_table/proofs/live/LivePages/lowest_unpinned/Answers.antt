use Rattle.block_table.proofs.Common.{IsLowest, Lives, Some, arith, false, is_used_from, subst, sym, ℕ, ◌*◌, ◌+◌, ◌-◌}
use Rattle.block_table.proofs.Common.{◌<◌, ◌≡◌, ◌≤◌}
use Rattle.block_table.specs.Lowest.{IsLowestBlock}
use Rattle.block_table.proofs.LowestWords.{found_from, no_block, some_block}
use Rattle.block_table.proofs.live.LivePages.lowest_unpinned.Goals as goal

pub returns-in_default : goal.returns-in_default
returns-in_default c =
    let d = subst (λ (l : Lives). c.args.die < l.sizes.dies) c.self.view_is c.if-die-sizes.false in
    no_block c.args.self.now c.args.blocks.now c.args.state c.args.die d
    (subst (λ (l : Lives). (p : ℕ) → p < c.args.die * l.sizes.blocks + l.sizes.blocks →
    is_used_from c.args.self.now c.args.blocks.now c.args.state (c.args.die * l.sizes.blocks) p ≡ false)
    c.self.view_is c.in_default.ensures)

pub returns-then-place-end : goal.returns-then-place-end
returns-then-place-end c =
    let d = subst (λ (l : Lives). c.args.die < l.sizes.dies) c.self.view_is c.if-die-sizes.false in
    no_block c.args.self.now c.args.blocks.now c.args.state c.args.die d
    (subst (λ (l : Lives). (p : ℕ) → p < c.args.die * l.sizes.blocks + l.sizes.blocks →
    is_used_from c.args.self.now c.args.blocks.now c.args.state (c.args.die * l.sizes.blocks) p ≡ false)
    c.self.view_is (λ p m. c.in-Some.ensures.below p (omega (arith, c.if-place-end.true))))

pub returns : goal.returns
returns c =
    let d = subst (λ (l : Lives). c.args.die < l.sizes.dies) c.self.view_is c.if-die-sizes.false in
    let from = found_from c.args.self.now c.args.blocks.now c.args.state (c.args.die * c.self.inside.sizes.blocks)
    c.in-Some.place c.in-Some.ensures.passes in
    subst (λ (l : Lives). IsLowestBlock c.args.self.now c.args.blocks.now c.args.die c.args.state
    (Some (c.in-Some.place - c.args.die * l.sizes.blocks))) (sym c.self.view_is)
    (some_block c.args.self.now c.args.blocks.now c.args.state c.args.die c.in-Some.place d
    (subst (λ (l : Lives). c.in-Some.place < c.args.die * l.sizes.blocks + l.sizes.blocks) c.self.view_is
    c.if-place-end.false)
    (subst (λ (l : Lives). IsLowest
    (is_used_from c.args.self.now c.args.blocks.now c.args.state (c.args.die * l.sizes.blocks)) c.in-Some.place)
    c.self.view_is c.in-Some.ensures)
    (subst (λ (l : Lives). c.args.die * l.sizes.blocks ≤ c.in-Some.place) c.self.view_is from))
