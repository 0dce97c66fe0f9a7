use Rattle.many_stops.proofs.finding_room.LivesFindRoom.{blocks_of_a_mending, layer_finds_room, new_find_room}
use Rattle.many_stops.proofs.room_over_stops.each_opening_finds_room.Goals as goal

pub returns-clause-blocks : goal.returns-clause-blocks
returns-clause-blocks c = blocks_of_a_mending

pub returns-clause-new_dies : goal.returns-clause-new_dies
returns-clause-new_dies c = new_find_room

pub returns-clause-life : goal.returns-clause-life
returns-clause-life c = layer_finds_room
