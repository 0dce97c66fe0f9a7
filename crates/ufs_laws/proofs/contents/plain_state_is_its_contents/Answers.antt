use Rattle.ufs_laws.proofs.plain_contents.PlainFromContents.{back_again, contents_of, contents_there, same_contents}
use Rattle.ufs_laws.proofs.plain_contents.PlainFromContents.{state_is_plain}
use Rattle.ufs_laws.proofs.contents.plain_state_is_its_contents.Goals as goal

pub returns-clause-contents : goal.returns-clause-contents
returns-clause-contents c = contents_of

pub returns-clause-back : goal.returns-clause-back
returns-clause-back c = back_again

pub returns-clause-one : goal.returns-clause-one
returns-clause-one c = same_contents

pub returns-clause-plain : goal.returns-clause-plain
returns-clause-plain c = state_is_plain

pub returns-clause-there : goal.returns-clause-there
returns-clause-there c = contents_there
