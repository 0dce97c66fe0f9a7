use Rattle.ftl_core.proofs.Common.{Core, ap, page_written, ◌∙◌}
use Rattle.ftl_core.proofs.ftl.Ftl.repair_written.Goals as goal

-- by hand, so that what is written otherwise does not fit at once
pub returns : goal.returns
returns c =
    c.page_written.ensures
    ∙ ap (λ (d : Core). page_written d c.args.die c.args.row c.args.row.filling) c.repair_over.ensures
