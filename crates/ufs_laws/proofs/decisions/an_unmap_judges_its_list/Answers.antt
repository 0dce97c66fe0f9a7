use Rattle.ufs_laws.proofs.decided_data.ListsJudged as lists
use Rattle.ufs_laws.proofs.decisions.an_unmap_judges_its_list.Goals as goal

pub returns-clause-header : goal.returns-clause-header
returns-clause-header c = lists.header

pub returns-clause-header_alone : goal.returns-clause-header_alone
returns-clause-header_alone c = lists.header_alone

pub returns-clause-descriptor : goal.returns-clause-descriptor
returns-clause-descriptor c = lists.descriptor

pub returns-clause-past : goal.returns-clause-past
returns-clause-past c = lists.past

pub returns-clause-no_block : goal.returns-clause-no_block
returns-clause-no_block c = lists.no_block

pub returns-clause-lock : goal.returns-clause-lock
returns-clause-lock c = lists.lock

pub returns-clause-accepted : goal.returns-clause-accepted
returns-clause-accepted c = lists.accepted

pub returns-clause-gives_back : goal.returns-clause-gives_back
returns-clause-gives_back c = lists.gives_back

pub returns-clause-zeros : goal.returns-clause-zeros
returns-clause-zeros c = lists.zeros

pub returns-clause-others : goal.returns-clause-others
returns-clause-others c = lists.others
