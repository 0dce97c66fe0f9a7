use Rattle.lanes.specs.declared.view.Made.TheVariants as made
use Rattle.lanes.proofs.Common.{lane_given}
use Rattle.lanes.proofs.calls.try_take.Given as goal

abbrev pub ghosts-put_back : goal.ghosts-put_back
ghosts-put_back g a = record {
  made = made.Take a._call.now a._answer.now;
  lane = lane_given a.seat.now.me.0.lane
      a._answer.now;
}
