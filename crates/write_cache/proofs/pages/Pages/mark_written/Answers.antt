use Rattle.write_cache.proofs.Common.{AreRuns, GroupAt, List, Pending, Queue, ap, arith, first_number, length, map}
use Rattle.write_cache.proofs.Common.{refl, shown, slice_get, slice_set, subst, sym, written, ◌∙◌, ◌≡◌}
use Rattle.write_cache.specs.Queue.{queue_of}
use Rattle.write_cache.specs.Slots.{page_written}
use Rattle.write_cache.proofs.Deques.{unfound_told}
use Rattle.write_cache.proofs.LastPlaces.{key_of, newest_same}
use Rattle.write_cache.proofs.Marks.{first_marked, marked_length, marked_runs, none_marked}
use Rattle.write_cache.proofs.Readies.{found_within, rests_kept, written_ready}
use Rattle.write_cache.proofs.Same.{rest_of, written_same}
use Rattle.write_cache.proofs.Told.{told_rising, told_stands}
use Rattle.write_cache.proofs.MarkedPlaces.{written_marked}
use Rattle.write_cache.proofs.pages.Pages.mark_written.Goals as goal

pub find-requires : goal.find-requires
find-requires c = told_rising c.self.inside c.self.invariant

pub returns-in_default : goal.returns-in_default
returns-in_default c =
    let f = c.self.inside in
    sym c.self.view_is
    ∙ ap (λ (ps : List Pending). record (queue_of f) { items = ps })
    (unfound_told f.pages.items c.args.number c.args.index c.args.place
    (none_marked f.landed f.front f.newest c.args.number c.args.index f.groups.entries.items f.pages.items
    c.self.invariant.runs c.in_default.ensures))
    ∙ ap (λ (z : Queue). record z { items = page_written z.items c.args.number c.args.index c.args.place })
    c.self.view_is

pub place_in-found-requires-clause-stands : goal.place_in-found-requires-clause-stands
place_in-found-requires-clause-stands c =
    told_stands c.self.inside c.in-Some.entry.at c.in-Some.entry.group c.self.invariant c.in-Some.ensures.0

pub set-requires-in-Some-found : goal.set-requires-in-Some-found
set-requires-in-Some-found c =
    let f = c.self.inside in
    let within = found_within f.pages.items c.in-Some.entry.group.number c.args.index c.in-Some-found.at
    c.in-Some-found.ensures in
    let fits = c.self.invariant.fits in
    let flags = c.self.invariant.ready.flags_room in
    omega (arith, within, fits, flags)

pub mark-requires : goal.mark-requires
mark-requires c =
    let f = c.self.inside in
    let within = found_within f.pages.items c.in-Some.entry.group.number c.args.index c.in-Some-found.at
    c.in-Some-found.ensures in
    let fits = c.self.invariant.fits in
    let few = c.self.invariant.few in
    omega (arith, within, fits, few)

pub invariant_of-self : goal.invariant_of-self
invariant_of-self c =
    let f = c.self.inside in
    let g = c.in-Some.entry.group in
    let at = c.in-Some.entry.at in
    let k = c.in-Some-found.at in
    let is : c.set.new.self.entries.items ≡ slice_set f.groups.entries.items at (written g c.write_at-is_open.result) =
    c.set.ensures.after ∙ ap (λ (h : GroupAt). slice_set f.groups.entries.items at h) c.written.ensures in
    let long = ap (λ (ps : List Pending). length ps) c.write_at-is_open.ensures.after
    ∙ marked_length k c.args.place f.pages.items in
    let within = found_within f.pages.items g.number c.args.index k c.in-Some-found.ensures in
    let fits = c.self.invariant.fits in
    let few = c.self.invariant.few in
    let room = c.self.invariant.pages_room in
    let ring_room = c.self.invariant.groups_room in
    let same_room = c.write_at-is_open.ensures.room in
    let same_ring_room = c.set.ensures.room in
    record {
      fits = omega (arith, long, fits);
      few = c.self.invariant.few;
      pages_room = omega (arith, room, same_room);
      groups_room = omega (arith, ring_room, same_ring_room);
      front = c.self.invariant.front
          ∙ first_marked f.front at f.groups.entries.items g c.write_at-is_open.result c.in-Some.ensures.0
          ∙ ap (first_number f.front) (sym is);
      runs = subst (λ (gs : List GroupAt). AreRuns f.landed f.front f.newest gs
          (map shown c.write_at-is_open.new.pages.items)) (sym is)
          (marked_runs f.landed f.front f.newest at k c.args.index f.groups.entries.items f.pages.items
          c.write_at-is_open.new.pages.items g c.args.place c.write_at-is_open.result c.self.invariant.runs
          c.in-Some.ensures.0 (sym c.in-Some-found.ensures) c.write_at-is_open.ensures.was
          c.write_at-is_open.ensures.after);
      landed = c.self.invariant.landed;
      positions = newest_same f.positions f.landed f.pages.items c.write_at-is_open.new.pages.items
          (ap (λ (ps : List Pending). map key_of ps) c.write_at-is_open.ensures.after
          ∙ written_same key_of f.pages.items k c.args.place (λ p. refl) (slice_get f.pages.items k) refl)
          c.self.invariant.positions;
      written = written_marked f.written c.mark.new.self f.pages.items c.write_at-is_open.new.pages.items k c.args.place
          c.written_before-before.result c.self.invariant.written within (omega (arith, fits, few))
          c.written_before-before.ensures c.write_at-is_open.ensures.after c.mark.ensures.config c.mark.ensures.first
          c.mark.ensures.at c.mark.ensures.shared;
      ready = written_ready f.room k f.ready c.set-in-Some-found.new.self f.pages.items
          c.write_at-is_open.new.pages.items c.args.place c.self.invariant.ready
          within fits c.write_at-is_open.ensures.after c.set-in-Some-found.ensures;
      waiting = rests_kept f.room f.waiting f.pages.items c.write_at-is_open.new.pages.items
          (ap (λ (ps : List Pending). map rest_of ps) c.write_at-is_open.ensures.after
          ∙ written_same rest_of f.pages.items k c.args.place (λ p. refl) (slice_get f.pages.items k) refl)
          c.self.invariant.waiting;
    }
