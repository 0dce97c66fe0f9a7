use Rattle.write_cache.proofs.Common.{AreRuns, List, Pending, Shown, ap, arith, length, map, shown, subst, sym, ◌∙◌}
use Rattle.write_cache.proofs.Fills.{keys_kept, places_kept, rests_length, shown_kept}
use Rattle.write_cache.proofs.LastPlaces.{key_of, newest_same}
use Rattle.write_cache.proofs.Same.{place_of, rests_same}
use Rattle.write_cache.proofs.WrittenPlaces.{written_kept}
use Rattle.write_cache.proofs.pages.Pages.fill_rests.Goals as goal

pub fill_pages-requires-clause-few : goal.fill_pages-requires-clause-few
fill_pages-requires-clause-few c =
    let fits = c.self.invariant.fits in
    let few = c.self.invariant.few in
    omega (arith, fits, few)

pub fill_pages-requires-clause-room : goal.fill_pages-requires-clause-room
fill_pages-requires-clause-room c =
    let fits = c.self.invariant.fits in
    let flags = c.self.invariant.ready.flags_room in
    omega (arith, fits, flags)

pub fill_pages-requires-clause-waiting_room : goal.fill_pages-requires-clause-waiting_room
fill_pages-requires-clause-waiting_room c =
    let fits = c.self.invariant.fits in
    let flags = c.self.invariant.waiting.flags_room in
    omega (arith, fits, flags)

pub fill_pages-requires-clause-told : goal.fill_pages-requires-clause-told
fill_pages-requires-clause-told c = c.self.invariant.ready.told

pub fill_pages-requires-clause-waiting_told : goal.fill_pages-requires-clause-waiting_told
fill_pages-requires-clause-waiting_told c = c.self.invariant.waiting.told

pub invariant_of-self : goal.invariant_of-self
invariant_of-self c =
    let f = c.self.inside in
    let name = c.args.name in
    let block = c.args.block.now in
    let ps = f.pages.items in
    let is = c.fill_pages.ensures.after in
    let long = ap (λ (qs : List Pending). length qs) is ∙ rests_length name block ps in
    let fits = c.self.invariant.fits in
    let room = c.self.invariant.pages_room in
    let same_room = c.fill_pages.ensures.pages_room in
    record {
      fits = omega (arith, long, fits);
      few = c.self.invariant.few;
      pages_room = omega (arith, room, same_room);
      groups_room = c.self.invariant.groups_room;
      front = c.self.invariant.front;
      runs = subst (λ (xs : List Shown). AreRuns f.landed f.front f.newest f.groups.entries.items xs)
          (sym (ap (λ (qs : List Pending). map shown qs) is ∙ rests_same shown shown_kept name block ps))
          c.self.invariant.runs;
      landed = c.self.invariant.landed;
      positions = newest_same f.positions f.landed ps _
          (ap (λ (qs : List Pending). map key_of qs) is ∙ rests_same key_of keys_kept name block ps)
          c.self.invariant.positions;
      written = written_kept f.written ps _
          (ap (λ (qs : List Pending). map place_of qs) is ∙ rests_same place_of places_kept name block ps)
          c.self.invariant.written;
      ready = record {
        flags_room = let places = c.fill_pages.ensures.places in
            let flags = c.self.invariant.ready.flags_room in omega (arith, places, flags);
        told = c.fill_pages.ensures.tells;
      };
      waiting = record {
        flags_room = let places = c.fill_pages.ensures.waiting_places in
            let flags = c.self.invariant.waiting.flags_room in omega (arith, places, flags);
        told = c.fill_pages.ensures.waiting_tells;
      };
    }
