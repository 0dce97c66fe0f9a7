use Rattle.block_table.proofs.Common.{Lives, arith, blocks_in, subst, sym, ◌<◌}
use Rattle.block_table.proofs.Unpinned.{spot_die}
use Rattle.block_table.proofs.live.LivePages.block_at.Goals as goal

pub overflow_cast-result : goal.overflow_cast-result
overflow_cast-result c =
    let h = spot_die c.self.inside.sizes c.args.place
    (subst (λ (l : Lives). c.args.place < blocks_in l.sizes) (sym c.self.view_is) c.requires) in
    omega (arith, h)
