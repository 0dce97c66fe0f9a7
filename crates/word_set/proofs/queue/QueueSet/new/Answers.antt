use Rattle.word_set.proofs.Places.{new_places}
use Rattle.word_set.proofs.queue.QueueSet.new.Goals as goal

pub returns : goal.returns
returns c = new_places c.args.size c.in_ok-slots.slots c.in_ok-slots.ensures
