-- What a page is told to be, as a cell of the dies.
use Rattle.ufs_spec.specs.Cells.{Cell, GroupPage, MarkPage, Nothing}
use Rattle.ufs_spec.specs.Cells as cells
use Rattle.page_tag.specs.declared.contents.Content.{Content}
use Rattle.page_tag.specs.declared.contents.Content.TheVariants as content
use Rattle.page_tag.specs.declared.contents.Mark.{Mark}

-- a mark of the code's type in the words of the definitions
abbrev pub mark_of : Mark → cells.Mark
mark_of m = record { number = m.number; records = m.records; fence = m.fence; numbers = m.numbers }

-- what a page opens to, as a cell: nothing, a page of a group, or a mark
abbrev pub cell_of : Content → Cell
cell_of content.Nothing = Nothing
cell_of (content.Group opened) = GroupPage opened.tag opened.body
cell_of (content.Mark mark) = MarkPage (mark_of mark)
