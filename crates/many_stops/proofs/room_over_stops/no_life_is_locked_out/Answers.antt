use Rattle.many_stops.proofs.finding_room.LivesFindRoom.{goes_on, lives_find_room, next_finds_room, runs_find_room}
use Rattle.many_stops.proofs.room_over_stops.no_life_is_locked_out.Goals as goal

pub returns-clause-goes_on : goal.returns-clause-goes_on
returns-clause-goes_on c = λ n array bad s t es os config blank sound few o room life fails un.
    goes_on n array bad s config blank sound few o room t es os life fails un

pub returns-clause-stop : goal.returns-clause-stop
returns-clause-stop c = λ n array bad s t next es os lefts left config blank sound few o room life borne stops p.
    next_finds_room n array bad s config blank sound few o room t next es os lefts left life borne stops p

pub returns-clause-lives : goal.returns-clause-lives
returns-clause-lives c = lives_find_room

pub returns-clause-runs : goal.returns-clause-runs
returns-clause-runs c = runs_find_room
