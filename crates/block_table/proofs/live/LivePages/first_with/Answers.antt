use Rattle.block_table.proofs.Common.{Lives, false, is_victim_at, lives_of, subst, sym, ℕ, ◌≡◌, ◌≤◌}
use Rattle.block_table.proofs.VictimBuckets.{empty_none}
use Rattle.block_table.proofs.live.LivePages.first_with.Goals as goal

pub returns-then-is_empty : goal.returns-then-is_empty
returns-then-is_empty c =
    subst (λ (l : Lives). (p : ℕ) → is_victim_at l c.args.blocks.now c.args.scarce c.args.count p ≡ false)
    c.self.view_is
    (λ p. empty_none (lives_of c.self.inside) c.args.blocks.now c.args.scarce c.self.inside.counts.items
    c.self.inside.unpinned_with c.args.count
    (subst (λ (l : Lives). c.args.count ≤ l.sizes.pages) (sym c.self.view_is) c.requires)
    c.self.invariant.whole c.self.invariant.counted c.self.invariant.by_count p
    (c.is_empty.ensures.empty c.if-is_empty.true p))
