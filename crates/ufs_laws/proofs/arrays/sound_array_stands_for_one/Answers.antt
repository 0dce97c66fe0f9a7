use Rattle.ufs_laws.proofs.pages.PageIsOneCell.{one_cell}
use Rattle.ufs_laws.proofs.plain_contents.PlainFromContents.{same_contents}
use Rattle.ufs_laws.proofs.array_cells.StandsForOne.{PagesAreOne, PlainIsOne, content_one, kept_one, mark_one}
use Rattle.ufs_laws.proofs.array_cells.StandsForOne.{plain_one, recorded_one}
use Rattle.ufs_laws.proofs.arrays.sound_array_stands_for_one.Goals as goal

pub returns-clause-mark : goal.returns-clause-mark
returns-clause-mark c = mark_one

pub returns-clause-recorded : goal.returns-clause-recorded
returns-clause-recorded c = recorded_one

pub returns-clause-kept : goal.returns-clause-kept
returns-clause-kept c = kept_one

pub returns-clause-content : goal.returns-clause-content
returns-clause-content c = content_one

pages_are_one : PagesAreOne
pages_are_one = one_cell

plain_is_one : PlainIsOne
plain_is_one = same_contents

pub returns-clause-plain : goal.returns-clause-plain
returns-clause-plain c = plain_one pages_are_one plain_is_one
