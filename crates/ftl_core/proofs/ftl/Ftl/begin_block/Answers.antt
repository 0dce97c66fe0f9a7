use Rattle.ftl_core.proofs.Common.{first_page, rules}
use Rattle.ftl_core.proofs.job_taken.BegunRows.{opened_rows}
use Rattle.ftl_core.proofs.ftl.Ftl.begin_block.Goals as goal

pub returns : goal.returns
returns c =
    let rows = opened_rows c.args.self.now.rows c.args.die c.args.row (first_page c.args.block) c.args.flight
    (search rules) in
    search (rules, rows)
