use Rattle.ufs_laws.proofs.worked_rows.GapLists.{fenced_first, fenced_kept, fenced_lost, fenced_newest, fenced_sound}
use Rattle.ufs_laws.proofs.worked_rows.GapLists.{fenced_torn, last_first, last_kept, last_lost, last_new, last_newest}
use Rattle.ufs_laws.proofs.worked_rows.GapLists.{last_sound, last_torn}
use Rattle.ufs_laws.proofs.rows.write_after_the_gap_is_kept.Goals as goal

pub returns-clause-fenced_mark : goal.returns-clause-fenced_mark
returns-clause-fenced_mark c = fenced_newest

pub returns-clause-fenced_sound : goal.returns-clause-fenced_sound
returns-clause-fenced_sound c = fenced_sound

pub returns-clause-fenced_kept : goal.returns-clause-fenced_kept
returns-clause-fenced_kept c = fenced_kept

pub returns-clause-fenced_first : goal.returns-clause-fenced_first
returns-clause-fenced_first c = fenced_first

pub returns-clause-fenced_torn : goal.returns-clause-fenced_torn
returns-clause-fenced_torn c = fenced_torn

pub returns-clause-fenced_lost : goal.returns-clause-fenced_lost
returns-clause-fenced_lost c = fenced_lost

pub returns-clause-mark : goal.returns-clause-mark
returns-clause-mark c = last_newest

pub returns-clause-sound : goal.returns-clause-sound
returns-clause-sound c = last_sound

pub returns-clause-kept : goal.returns-clause-kept
returns-clause-kept c = last_kept

pub returns-clause-first_write : goal.returns-clause-first_write
returns-clause-first_write c = last_first

pub returns-clause-torn_write : goal.returns-clause-torn_write
returns-clause-torn_write c = last_torn

pub returns-clause-lost_write : goal.returns-clause-lost_write
returns-clause-lost_write c = last_lost

pub returns-clause-new_write : goal.returns-clause-new_write
returns-clause-new_write c = last_new
