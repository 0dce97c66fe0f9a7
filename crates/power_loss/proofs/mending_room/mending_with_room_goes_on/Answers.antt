use Rattle.power_loss.proofs.room_to_mend.RoomInBlocks.{cache_fits, opening_alone, opening_room, least_room_mends}
use Rattle.power_loss.proofs.room_to_mend.LivesWithRoom.{layer_goes_on, moves_keep_room}
use Rattle.power_loss.proofs.room_to_mend.OwedWhileMending.{goes_on}
use Rattle.power_loss.proofs.room_to_mend.RoomOfFailures.{each_move}
use Rattle.power_loss.proofs.mending_room.mending_with_room_goes_on.Goals as goal

pub returns-clause-at_the_opening : goal.returns-clause-at_the_opening
returns-clause-at_the_opening c = opening_room

pub returns-clause-alone : goal.returns-clause-alone
returns-clause-alone c = opening_alone

pub returns-clause-each_move : goal.returns-clause-each_move
returns-clause-each_move c = λ t move failures v un alone room may. each_move move failures v un alone room may

pub returns-clause-moves : goal.returns-clause-moves
returns-clause-moves c = moves_keep_room

pub returns-clause-life : goal.returns-clause-life
returns-clause-life c = layer_goes_on

pub returns-clause-goes_on : goal.returns-clause-goes_on
returns-clause-goes_on c = goes_on

pub returns-clause-least_room : goal.returns-clause-least_room
returns-clause-least_room c = least_room_mends

pub returns-clause-cache : goal.returns-clause-cache
returns-clause-cache c = cache_fits
