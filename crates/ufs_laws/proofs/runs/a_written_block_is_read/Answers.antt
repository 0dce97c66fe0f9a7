use Rattle.ufs_laws.proofs.new_dies.NewDeviceExists.{new_opens}
use Rattle.ufs_laws.proofs.worked_run.RunEvents.{idle_7, idle_17, idle_21, is_held, is_mended, none_open, event_1}
use Rattle.ufs_laws.proofs.worked_run.RunEvents.{event_2, event_3, event_4, event_5, event_6, event_7, event_8, event_9}
use Rattle.ufs_laws.proofs.worked_run.RunEvents.{event_10, event_11, event_12, event_13, event_14, event_15, event_16}
use Rattle.ufs_laws.proofs.worked_run.RunEvents.{event_17, event_18, event_19, event_20, event_21, event_22, event_23}
use Rattle.ufs_laws.proofs.worked_run.RunEvents.{event_24}
use Rattle.ufs_laws.proofs.worked_run.RunLife.{life}
use Rattle.ufs_laws.proofs.worked_run.MessagesSaid.{data_said, read_said, write_said}
use Rattle.ufs_laws.proofs.runs.a_written_block_is_read.Goals as goal

pub returns-clause-new_device : goal.returns-clause-new_device
returns-clause-new_device c = new_opens

pub returns-clause-mark_is_ordered : goal.returns-clause-mark_is_ordered
returns-clause-mark_is_ordered c = λ s n. (event_1 s n).right

pub returns-clause-no_other_step : goal.returns-clause-no_other_step
returns-clause-no_other_step c = λ s n. (event_2 s n).right

pub returns-clause-block_is_erased : goal.returns-clause-block_is_erased
returns-clause-block_is_erased c = λ s n. (event_3 s n).right

pub returns-clause-die_is_busy : goal.returns-clause-die_is_busy
returns-clause-die_is_busy c = λ s n. (event_4 s n).right

pub returns-clause-erase_ends : goal.returns-clause-erase_ends
returns-clause-erase_ends c = λ s n. (event_5 s n).goes.right

pub returns-clause-mark_is_programmed : goal.returns-clause-mark_is_programmed
returns-clause-mark_is_programmed c = λ s n. (event_6 s n).right

pub returns-clause-mark_ends : goal.returns-clause-mark_ends
returns-clause-mark_ends c = λ s n. (event_7 s n).goes.right

pub returns-clause-is_mended : goal.returns-clause-is_mended
returns-clause-is_mended c = is_mended

pub returns-clause-no_more_steps : goal.returns-clause-no_more_steps
returns-clause-no_more_steps c = λ s n. (event_8 s n).right

pub returns-clause-write_can_be_said : goal.returns-clause-write_can_be_said
returns-clause-write_can_be_said c = write_said

pub returns-clause-write_is_taken : goal.returns-clause-write_is_taken
returns-clause-write_is_taken c = λ s n. (event_9 s n).right

pub returns-clause-data_are_asked_for : goal.returns-clause-data_are_asked_for
returns-clause-data_are_asked_for c = λ s n. (event_10 s n).right

pub returns-clause-once : goal.returns-clause-once
returns-clause-once c = λ s n. (event_11 s n).right

pub returns-clause-data_can_be_said : goal.returns-clause-data_can_be_said
returns-clause-data_can_be_said c = data_said

pub returns-clause-data_are_taken : goal.returns-clause-data_are_taken
returns-clause-data_are_taken c = λ s body n long. (event_12 s n body long).right

pub returns-clause-no_answer_before_the_program : goal.returns-clause-no_answer_before_the_program
returns-clause-no_answer_before_the_program c = λ s body n long. (event_13 s n body long).right

pub returns-clause-block_is_programmed : goal.returns-clause-block_is_programmed
returns-clause-block_is_programmed c = λ s body n long. (event_14 s n body long).right

pub returns-clause-no_answer_in_the_program : goal.returns-clause-no_answer_in_the_program
returns-clause-no_answer_in_the_program c = λ s body n long. (event_15 s n body long).right

pub returns-clause-program_is_done : goal.returns-clause-program_is_done
returns-clause-program_is_done c = λ s body n long. (event_16 s n body long).goes.right

pub returns-clause-write_is_answered : goal.returns-clause-write_is_answered
returns-clause-write_is_answered c = λ s body n long. (event_17 s n body long).right

pub returns-clause-write_is_held : goal.returns-clause-write_is_held
returns-clause-write_is_held c = λ s body n long. is_held s n body long

pub returns-clause-no_task_is_open : goal.returns-clause-no_task_is_open
returns-clause-no_task_is_open c = λ s body n long. none_open s n body long

pub returns-clause-read_can_be_said : goal.returns-clause-read_can_be_said
returns-clause-read_can_be_said c = read_said

pub returns-clause-read_is_taken : goal.returns-clause-read_is_taken
returns-clause-read_is_taken c = λ s body n long. (event_18 s n body long).right

pub returns-clause-no_data_before_the_read : goal.returns-clause-no_data_before_the_read
returns-clause-no_data_before_the_read c = λ s body n long. (event_19 s n body long).right

pub returns-clause-page_is_read : goal.returns-clause-page_is_read
returns-clause-page_is_read c = λ s body n long. (event_20 s n body long).right

pub returns-clause-read_is_done : goal.returns-clause-read_is_done
returns-clause-read_is_done c = λ s body n long. (event_21 s n body long).goes.right

pub returns-clause-block_is_sent : goal.returns-clause-block_is_sent
returns-clause-block_is_sent c = λ s body n long. (event_22 s n body long).right

pub returns-clause-read_is_answered : goal.returns-clause-read_is_answered
returns-clause-read_is_answered c = λ s body n long. (event_23 s n body long).right

pub returns-clause-nothing_more : goal.returns-clause-nothing_more
returns-clause-nothing_more c = λ s body n long. (event_24 s n body long).right

pub returns-clause-life : goal.returns-clause-life
returns-clause-life c = λ s body n long. life s n body long

pub returns-clause-no_job_behind_the_mark : goal.returns-clause-no_job_behind_the_mark
returns-clause-no_job_behind_the_mark c = λ s n. (idle_7 s n).right

pub returns-clause-no_job_behind_the_write : goal.returns-clause-no_job_behind_the_write
returns-clause-no_job_behind_the_write c = λ s body n long. (idle_17 s n body long).right

pub returns-clause-page_is_read_once : goal.returns-clause-page_is_read_once
returns-clause-page_is_read_once c = λ s body n long. (idle_21 s n body long).right
