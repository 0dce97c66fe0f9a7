use Rattle.lanes.specs.declared.view.Made.TheVariants as made
use Rattle.lanes.proofs.Common.{lane_ended}
use Rattle.lanes.proofs.calls.try_done.Given as goal

abbrev pub ghosts-put_back : goal.ghosts-put_back
ghosts-put_back g a = record {
  made = made.Done a._call.now.0 a._call.now.1.now a._answer.now;
  lane = lane_ended
      a.seat.now.me.0.lane a._call.now.2.now;
}
