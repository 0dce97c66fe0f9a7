use Rattle.ufs_laws.proofs.plain_contents.PlainFromContents.{contents_there, state_is_plain}
use Rattle.ufs_laws.proofs.array_cells.NewestFound.{holds, newest_mark, recorded}
use Rattle.ufs_laws.proofs.array_cells.StandsForSomething.{ContentsArePlain, ContentsAreThere, stands_for_something}
use Rattle.ufs_laws.proofs.array_cells.KeptNumberFound.{kept}
use Rattle.ufs_laws.proofs.arrays.array_stands_for_something.Goals as goal

pub returns-clause-mark : goal.returns-clause-mark
returns-clause-mark c = newest_mark

pub returns-clause-recorded : goal.returns-clause-recorded
returns-clause-recorded c = recorded

pub returns-clause-kept : goal.returns-clause-kept
returns-clause-kept c = kept

pub returns-clause-content : goal.returns-clause-content
returns-clause-content c = holds

are_plain : ContentsArePlain
are_plain = state_is_plain

are_there : ContentsAreThere
are_there = λ s f contents whole k is_key. contents_there s f contents k is_key

pub returns-clause-plain : goal.returns-clause-plain
returns-clause-plain c = stands_for_something are_plain are_there
