use Rattle.std.proofs.Common.{◌∙◌, OnOk, Result, Ok, Err, ap}
use Rattle.ufs_laws.proofs.pages.PageIsOneCell.{one_cell}
use Rattle.ufs_spec.specs.Cells.{Cell}
use Rattle.page_tag.specs.Contents.{cell_of}
use Rattle.die_map.specs.Surveys.{pages_after, written_at}
use Rattle.die_map.proofs.survey.note_page.Goals as goal

on_ok : {A B : Type 0} {P Q : Type 0} (r : Result A B) → (P → Q) → OnOk r P → OnOk r Q
on_ok (Ok x) f h = f h
on_ok (Err e) f h = tt

pub returns : goal.returns
returns c =
    on_ok c.note_content.result
    (λ told x is a.
    told a
    ∙ ap (λ (y : Cell). pages_after c.args.place y c.args.mark (written_at c.args.newest.now) a)
    (one_cell c.args.page.now (cell_of c.content_of.result) x c.content_of.ensures is))
    c.note_content.ensures
