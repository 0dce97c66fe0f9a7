use Rattle.power_loss.proofs.jobs_owed.RoomLeft.{block_room, least_left, more_left, own_room_is, page_room}
use Rattle.power_loss.proofs.owed_jobs.groups_leave_room.Goals as goal

pub returns-clause-room : goal.returns-clause-room
returns-clause-room c = own_room_is

pub returns-clause-page : goal.returns-clause-page
returns-clause-page c = page_room

pub returns-clause-block : goal.returns-clause-block
returns-clause-block c = block_room

pub returns-clause-least : goal.returns-clause-least
returns-clause-least c = least_left

pub returns-clause-more : goal.returns-clause-more
returns-clause-more c = more_left
