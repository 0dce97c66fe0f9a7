use Rattle.ufs_laws.proofs.refusals.ProfileLines.{capacity, changeable, delivered, diagnostic, modes_taken, page_told}
use Rattle.ufs_laws.proofs.refusals.ProfileLines.{prefetch, prefetch_of_none, pushed_out_taken, test_passed}
use Rattle.ufs_laws.proofs.profiles.profile_1_takes_more.Goals as goal

pub returns-clause-pushed_out : goal.returns-clause-pushed_out
returns-clause-pushed_out c = pushed_out_taken

pub returns-clause-page : goal.returns-clause-page
returns-clause-page c = page_told

pub returns-clause-modes : goal.returns-clause-modes
returns-clause-modes c = modes_taken

pub returns-clause-delivered : goal.returns-clause-delivered
returns-clause-delivered c = delivered

pub returns-clause-changeable : goal.returns-clause-changeable
returns-clause-changeable c = changeable

pub returns-clause-capacity : goal.returns-clause-capacity
returns-clause-capacity c = capacity

pub returns-clause-prefetch : goal.returns-clause-prefetch
returns-clause-prefetch c = prefetch

pub returns-clause-prefetch_of_none : goal.returns-clause-prefetch_of_none
returns-clause-prefetch_of_none c = prefetch_of_none

pub returns-clause-test : goal.returns-clause-test
returns-clause-test c = test_passed

pub returns-clause-diagnostic : goal.returns-clause-diagnostic
returns-clause-diagnostic c = diagnostic
