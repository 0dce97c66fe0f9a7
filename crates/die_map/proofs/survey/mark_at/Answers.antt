use Rattle.std.proofs.Common.{◌∙◌, ap}
use Rattle.ufs_laws.proofs.pages.PageIsOneCell.{one_cell}
use Rattle.ufs_spec.specs.Cells.{Cell}
use Rattle.page_tag.specs.Contents.{cell_of}
use Rattle.die_map.specs.Surveys.{mark_after}
use Rattle.die_map.proofs.survey.mark_at.Goals as goal

pub returns : goal.returns
returns c = λ x is.
    c.mark_after.ensures
    ∙ ap (λ (y : Cell). mark_after c.args.place y c.args.known)
    (one_cell c.args.page.now (cell_of c.content_of.result) x c.content_of.ensures is)
