use Rattle.ufs_laws.proofs.refusals.ProfileLines.{above_the_action, action, beyond, beyond_alone, diagnostic_ready, no_mode_page, operation}
use Rattle.ufs_laws.proofs.refusals.ProfileLines.{page_refused, page_without_evpd, past, past_without_blocks, prefetch_ready}
use Rattle.ufs_laws.proofs.refusals.ProfileLines.{saved, saved_in_short, subpages, test_failed}
use Rattle.ufs_laws.proofs.profiles.each_line_of_profile_1_counts.Goals as goal

pub returns-clause-operation : goal.returns-clause-operation
returns-clause-operation c = operation

pub returns-clause-action : goal.returns-clause-action
returns-clause-action c = action

pub returns-clause-above_the_action : goal.returns-clause-above_the_action
returns-clause-above_the_action c = above_the_action

pub returns-clause-beyond : goal.returns-clause-beyond
returns-clause-beyond c = beyond

pub returns-clause-beyond_alone : goal.returns-clause-beyond_alone
returns-clause-beyond_alone c = beyond_alone

pub returns-clause-page : goal.returns-clause-page
returns-clause-page c = page_refused

pub returns-clause-page_without_evpd : goal.returns-clause-page_without_evpd
returns-clause-page_without_evpd c = page_without_evpd

pub returns-clause-subpages : goal.returns-clause-subpages
returns-clause-subpages c = subpages

pub returns-clause-saved : goal.returns-clause-saved
returns-clause-saved c = saved

pub returns-clause-saved_in_short : goal.returns-clause-saved_in_short
returns-clause-saved_in_short c = saved_in_short

pub returns-clause-past : goal.returns-clause-past
returns-clause-past c = past

pub returns-clause-past_without_blocks : goal.returns-clause-past_without_blocks
returns-clause-past_without_blocks c = past_without_blocks

pub returns-clause-prefetch_ready : goal.returns-clause-prefetch_ready
returns-clause-prefetch_ready c = prefetch_ready

pub returns-clause-diagnostic_ready : goal.returns-clause-diagnostic_ready
returns-clause-diagnostic_ready c = diagnostic_ready

pub returns-clause-test : goal.returns-clause-test
returns-clause-test c = test_failed

pub returns-clause-no_mode_page : goal.returns-clause-no_mode_page
returns-clause-no_mode_page c = no_mode_page
