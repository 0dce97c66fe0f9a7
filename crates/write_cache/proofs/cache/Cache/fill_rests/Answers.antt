use Rattle.write_cache.proofs.Common.{Queue, ap, arith, awaits, length, list_any, ◌∙◌}
use Rattle.write_cache.proofs.Fills.{none_waits, rests_length}
use Rattle.write_cache.proofs.cache.Cache.fill_rests.Goals as goal

pub invariant_of-self : goal.invariant_of-self
invariant_of-self c =
    let ps = c.self.inside.pages.items in
    let long = ap (λ (q : Queue). length q.items) c.fill_rests.ensures
    ∙ rests_length c.args.name c.args.block.now ps in
    let slots = c.self.invariant.slots in
    record {
      slots = omega (arith, long, slots);
      fits = c.self.invariant.fits;
      room = ap (λ (q : Queue). q.room) c.fill_rests.ensures ∙ c.self.invariant.room;
      claim_room = c.self.invariant.claim_room;
      free_room = c.self.invariant.free_room;
      frontier = c.self.invariant.frontier;
      numbers = c.self.invariant.numbers;
      given = (let same = ap (λ (q : Queue). q.newest) c.fill_rests.ensures in
          let given = c.self.invariant.given in
          omega (arith, same, given));
    }

pub returns-clause-none_waits : goal.returns-clause-none_waits
returns-clause-none_waits c =
    ap (λ (q : Queue). list_any (awaits c.args.name) q.items) c.fill_rests.ensures
    ∙ none_waits c.args.name c.args.block.now c.self.inside.pages.items
