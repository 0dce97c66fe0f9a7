use Rattle.write_cache.proofs.Common.{Bool, List, Pending, ap, arith, is_none, is_ready, length, rules, shortened}
use Rattle.write_cache.proofs.Common.{waits, ◌∙◌, ◌≡◌}
use Rattle.write_cache.proofs.LastPlaces.{newest_taken}
use Rattle.write_cache.proofs.Pushes.{first_again, taken}
use Rattle.write_cache.proofs.Readies.{taken_set}
use Rattle.write_cache.proofs.WrittenPlaces.{written_taken}
use Rattle.write_cache.proofs.pages.Pages.take_first.Goals as goal

pub invariant_of-self-2 : goal.invariant_of-self-2
invariant_of-self-2 c =
    let f = c.self.inside in
    let all = ap (λ (ps : List Pending). length ps) c.in_ok-page.ensures.items in
    let fits = c.self.invariant.fits in
    let pages_room = c.self.invariant.pages_room in
    let same_pages = c.pop_front.ensures.capacity in
    let ring_room = c.self.invariant.groups_room in
    let same_ring = c.shorten.ensures.room in
    let unwritten : c.is_none.result ≡ is_none c.in_ok-page.page.written = search rules in
    record {
      fits = omega (arith, all, fits);
      few = c.self.invariant.few;
      pages_room = omega (arith, pages_room, same_pages);
      groups_room = omega (arith, ring_room, same_ring);
      front = first_again f.front c.first_number-self-inside.result c.shorten.new.self.entries.items
          c.first_number-self-inside.ensures;
      runs = taken f.landed f.front f.newest c.first_number-self-inside.result f.groups.entries.items
          c.shorten.new.self.entries.items f.pages.items c.pop_front.new.self.items c.in_ok-page.page
          c.self.invariant.runs c.in_ok-page.ensures.items
          (c.shorten.ensures.after ∙ ap (λ (b : Bool). shortened b f.groups.entries.items) unwritten)
          c.first_number-self-inside.ensures;
      landed = omega arith;
      positions = newest_taken f.positions f.landed f.pages.items c.pop_front.new.self.items c.in_ok-page.page
          c.in_ok-page.ensures.items c.self.invariant.positions;
      written = written_taken f.written c.leave.new.self f.pages.items c.pop_front.new.self.items c.in_ok-page.page
          c.self.invariant.written c.in_ok-page.ensures.items c.leave.ensures.config c.leave.ensures.shared
          c.leave.ensures.first c.leave.ensures.at;
      ready = taken_set is_ready f.room f.ready c.pass.new.self f.pages.items c.pop_front.new.self.items
          c.in_ok-page.page c.self.invariant.ready c.in_ok-page.ensures.items c.pass.ensures;
      waiting = taken_set waits f.room f.waiting c.pass-2.new.self f.pages.items c.pop_front.new.self.items
          c.in_ok-page.page c.self.invariant.waiting c.in_ok-page.ensures.items c.pass-2.ensures;
    }
