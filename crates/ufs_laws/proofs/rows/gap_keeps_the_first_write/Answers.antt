use Rattle.ufs_laws.proofs.worked_rows.GapLists.{gap_first, gap_kept, gap_lost, gap_newest, gap_no_more, gap_sound}
use Rattle.ufs_laws.proofs.worked_rows.GapLists.{gap_torn}
use Rattle.ufs_laws.proofs.rows.gap_keeps_the_first_write.Goals as goal

pub returns-clause-mark : goal.returns-clause-mark
returns-clause-mark c = gap_newest

pub returns-clause-sound : goal.returns-clause-sound
returns-clause-sound c = gap_sound

pub returns-clause-kept : goal.returns-clause-kept
returns-clause-kept c = gap_kept

pub returns-clause-no_more : goal.returns-clause-no_more
returns-clause-no_more c = gap_no_more

pub returns-clause-first_write : goal.returns-clause-first_write
returns-clause-first_write c = gap_first

pub returns-clause-torn_write : goal.returns-clause-torn_write
returns-clause-torn_write c = gap_torn

pub returns-clause-lost_write : goal.returns-clause-lost_write
returns-clause-lost_write c = gap_lost
