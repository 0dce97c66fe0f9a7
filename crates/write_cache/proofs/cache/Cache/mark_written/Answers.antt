use Rattle.write_cache.proofs.Common.{Queue, ap, arith, length, ◌∙◌}
use Rattle.write_cache.proofs.Deques.{written_length}
use Rattle.write_cache.proofs.cache.Cache.mark_written.Goals as goal

pub invariant_of-self : goal.invariant_of-self
invariant_of-self c =
    let ps = c.self.inside.pages.items in
    let is = c.mark_written.ensures in
    let long = ap (λ (q : Queue). length q.items) is ∙ written_length ps c.args.number c.args.index c.args.place in
    let slots = c.self.invariant.slots in
    record {
      slots = omega (arith, long, slots);
      fits = c.self.invariant.fits;
      room = ap (λ (q : Queue). q.room) is ∙ c.self.invariant.room;
      claim_room = c.self.invariant.claim_room;
      free_room = c.self.invariant.free_room;
      frontier = c.self.invariant.frontier;
      numbers = c.self.invariant.numbers;
      given = (let same = ap (λ (q : Queue). q.newest) is in
          let given = c.self.invariant.given in
          omega (arith, same, given));
    }
