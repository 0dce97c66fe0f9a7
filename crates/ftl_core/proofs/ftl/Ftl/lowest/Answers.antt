use Rattle.ftl_core.proofs.Common.{Core, ap, arith, length, lowest, ◌<◌, ◌∙◌}
use Rattle.ftl_core.proofs.job_taken.UsedBlocks.{found_lowest}
use Rattle.ftl_core.proofs.ftl.Ftl.lowest.Goals as goal

pub returns : goal.returns
returns c =
    let f = c.self.inside in
    let rows = ap (λ (z : Core). length z.rows) c.self.view_is in
    let there : c.args.die < length f.blocks.rows = omega (arith, rows, c.requires) in
    found_lowest f c.self.invariant c.args.die c.args.state there c.lowest_unpinned.result c.lowest_unpinned.ensures
    ∙ ap (λ (z : Core). lowest z c.args.die c.args.state) c.self.view_is
