use Rattle.ufs_laws.proofs.Common.{ap, inl, inr, page_of, refl, ◌∙◌}
use Rattle.ufs_laws.proofs.array_cells.CrashedCells.{block_left, old_left, page_left, pages_left, untouched}
use Rattle.ufs_laws.proofs.calls.a_crash_leaves_old_or_new.Goals as goal

pub returns-clause-old : goal.returns-clause-old
returns-clause-old c = old_left

pub returns-clause-new_page : goal.returns-clause-new_page
returns-clause-new_page c =
    λ array flights die p cell e here. page_left array flights p cell (page_of cell) (ap flights here ∙ e)
    (inr (inl refl))

pub returns-clause-torn_page : goal.returns-clause-torn_page
returns-clause-torn_page c =
    λ array flights die p cell torn e here wrong. page_left array flights p cell torn (ap flights here ∙ e)
    (inr (inr wrong))

pub returns-clause-blank_block : goal.returns-clause-blank_block
returns-clause-blank_block c = λ array flights die spot e here. block_left array flights spot (ap flights here ∙ e)

pub returns-clause-erased_block : goal.returns-clause-erased_block
returns-clause-erased_block c = λ n array flights die spot e here. pages_left n array flights spot (ap flights here ∙ e)

pub returns-clause-untouched : goal.returns-clause-untouched
returns-clause-untouched c = λ array left flights crash. untouched array flights left crash
