use Rattle.power_loss.proofs.room_to_mend.DevicesWithRoom.{device_goes_on, device_with_least_room}
use Rattle.power_loss.proofs.mending_room.a_life_with_room_goes_on.Goals as goal

pub returns-clause-life : goal.returns-clause-life
returns-clause-life c = device_goes_on

pub returns-clause-least_room : goal.returns-clause-least_room
returns-clause-least_room c = device_with_least_room
