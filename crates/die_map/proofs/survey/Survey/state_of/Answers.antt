use Rattle.std.proofs.Common.{◌∙◌, ap, sym}
use Rattle.ufs_laws.proofs.pages.PageIsOneCell.{one_cell}
use Rattle.ufs_spec.proofs.Facts.{cond-false}
use Rattle.page_tag.specs.Contents.{cell_of}
use Rattle.die_map.specs.States.{cell_state_of, is_free}
use Rattle.die_map.proofs.survey.Survey.state_of.Goals as goal

pub returns : goal.returns
returns c = λ x is.
    let page = c.args.page.now in
    c.content_state.ensures
    ∙ ap (cell_state_of c.args.self.now c.args.place)
    (one_cell page (cell_of c.content_of.result) x c.content_of.ensures is)
    ∙ sym (cond-false (is_free page) _ (cell_state_of c.args.self.now c.args.place x)
    (sym c.is_free.ensures ∙ c.if-is_free.false))
