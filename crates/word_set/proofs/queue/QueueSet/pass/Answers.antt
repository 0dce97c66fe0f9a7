use Rattle.std.proofs.Common.{arith, inl, inr}
use Rattle.word_set.proofs.Places.{places_passed}
use Rattle.word_set.proofs.queue.QueueSet.pass.Goals as goal
use Rattle.word_set.proofs.queue.QueueSet.pass.Goals.{then-next-size, else-next-size}

pub returns : goal.returns
returns c =
    let f = c.self.inside in
    let size = c.size-size.ensures in
    places_passed f.first c.if-next-size.self f.slots c.set.new.self c.args.self.now c.self.invariant.inside
    (elim c.if-next-size.branch [
      | then-next-size w ↦ inl (omega (arith, w.if-next-size.true), w.self-is)
      | else-next-size w ↦ inr (omega (arith, w.if-next-size.false), w.self-is)
    ]) c.self.view_is c.set.ensures
