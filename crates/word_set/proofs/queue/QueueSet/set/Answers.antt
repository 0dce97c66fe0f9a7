use Rattle.std.proofs.Common.{◌∙◌, ap, arith, ℕ}
use Rattle.word_set.specs.QueueRooms.{slot_of}
use Rattle.word_set.proofs.Places.{places_changed}
use Rattle.word_set.proofs.queue.QueueSet.set.Goals as goal

pub returns : goal.returns
returns c =
    let f = c.self.inside in
    let less = c.slot_of-slot.ensures.less in
    let size = c.size.ensures in
    places_changed f.first c.args.place c.slot_of-slot.result c.args.is_in f.slots c.set.new.self c.args.self.now
    c.self.invariant.inside c.requires c.self.view_is
    (c.slot_of-slot.ensures.what ∙ ap (λ (n : ℕ). slot_of n f.first c.args.place) size) (omega arith) c.set.ensures
