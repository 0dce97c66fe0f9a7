use Rattle.write_cache.proofs.Common.{List, Pending, Queue, ap, arith, is_ready, length, length-append, length-map, map}
use Rattle.write_cache.proofs.Common.{shown, waits, wrapped, ℕ, ◌+◌, ◌∙◌}
use Rattle.std.specs.Prelude.{[], ◌-◌, ◌∷◌}
use Rattle.write_cache.proofs.LastPlaces.{newest_pushed}
use Rattle.write_cache.proofs.Pushes.{first_again, pushed}
use Rattle.write_cache.proofs.Readies.{pushed_set}
use Rattle.write_cache.proofs.Runs.{runs_length, short_at}
use Rattle.write_cache.proofs.WrittenPlaces.{written_pushed}
use Rattle.write_cache.proofs.pages.Pages.push.Goals as goal

pub note-requires-clause-room : goal.note-requires-clause-room
note-requires-clause-room c =
    let f = c.self.inside in
    let less = runs_length f.landed f.front f.newest f.groups.entries.items (map shown f.pages.items)
    c.self.invariant.runs in
    let long = length-map f.pages.items shown in
    let room = c.requires.room in
    let length_is = ap (λ (z : Queue). length z.items) c.self.view_is in
    let room_is = ap (λ (z : Queue). z.room) c.self.view_is in
    let ring_room = c.self.invariant.groups_room in
    omega (arith, less, long, room, length_is, room_is, ring_room)

pub note-requires-clause-few : goal.note-requires-clause-few
note-requires-clause-few c =
    let f = c.self.inside in
    let long = length-map f.pages.items shown in
    let room = c.requires.room in
    let length_is = ap (λ (z : Queue). length z.items) c.self.view_is in
    let room_is = ap (λ (z : Queue). z.room) c.self.view_is in
    let few = c.self.invariant.few in
    short_at f.landed f.front f.newest (length f.groups.entries.items - 1) f.groups.entries.items
    (map shown f.pages.items) c.self.invariant.runs (omega (arith, long, room, length_is, room_is, few))

pub set-requires : goal.set-requires
set-requires c =
    let long = c.len.ensures in
    let room = c.requires.room in
    let length_is = ap (λ (z : Queue). length z.items) c.self.view_is in
    let room_is = ap (λ (z : Queue). z.room) c.self.view_is in
    let flags = c.self.invariant.ready.flags_room in
    omega (arith, long, room, length_is, room_is, flags)

pub invariant_of-self : goal.invariant_of-self
invariant_of-self c =
    let f = c.self.inside in
    let p = c.args.page in
    let all = ap (λ (ps : List Pending). length ps) c.push_back_reserved.ensures.items
    ∙ length-append f.pages.items (p ∷ []) in
    let room = c.requires.room in
    let length_is = ap (λ (z : Queue). length z.items) c.self.view_is in
    let room_is = ap (λ (z : Queue). z.room) c.self.view_is in
    let newest_is = ap (λ (z : Queue). z.newest) c.self.view_is in
    let newer = c.requires.newer in
    let few = c.self.invariant.few in
    let pages_room = c.self.invariant.pages_room in
    let same_pages = c.push_back_reserved.ensures.capacity in
    let ring_room = c.self.invariant.groups_room in
    let same_ring = c.note.ensures.room in
    record {
      fits = omega (arith, all, room, length_is, room_is);
      few = few;
      pages_room = omega (arith, pages_room, same_pages);
      groups_room = omega (arith, ring_room, same_ring);
      front = first_again f.front c.first_number-self-inside.result c.note.new.self.entries.items
          c.first_number-self-inside.ensures;
      runs = pushed f.landed f.front f.newest c.first_number-self-inside.result f.groups.entries.items
          c.note.new.self.entries.items f.pages.items c.push_back_reserved.new.self.items p c.self.invariant.runs
          c.note.ensures.after c.push_back_reserved.ensures.items (omega (arith, newer, newest_is))
          c.requires.unwritten (omega (arith, room, length_is, room_is, few))
          c.first_number-self-inside.ensures;
      landed = c.self.invariant.landed;
      positions = newest_pushed f.positions c.note_at.new.self f.landed _ f.pages.items
          c.push_back_reserved.new.self.items p c.self.invariant.positions c.note_at.ensures.config
          c.note_at.ensures.at (ap (λ (n : ℕ). wrapped (f.landed + n)) (c.len.ensures ∙ f.pages.ok.0))
          c.push_back_reserved.ensures.items;
      written = written_pushed f.written f.pages.items c.push_back_reserved.new.self.items p c.self.invariant.written
          c.push_back_reserved.ensures.items c.requires.unwritten;
      ready = pushed_set is_ready f.room c.len-2.result f.ready c.set.new.self f.pages.items
          c.push_back_reserved.new.self.items p c.is_ready.result c.self.invariant.ready
          c.push_back_reserved.ensures.items (c.len-2.ensures ∙ f.pages.ok.0)
          (let many = c.len-2.ensures ∙ f.pages.ok.0 in omega (arith, many, room, length_is, room_is))
          c.is_ready.ensures c.set.ensures;
      waiting = pushed_set waits f.room c.len-3.result f.waiting c.set-2.new.self f.pages.items
          c.push_back_reserved.new.self.items p c.waits.result c.self.invariant.waiting
          c.push_back_reserved.ensures.items (c.len-3.ensures ∙ f.pages.ok.0)
          (let many = c.len-3.ensures ∙ f.pages.ok.0 in omega (arith, many, room, length_is, room_is))
          c.waits.ensures c.set-2.ensures;
    }
