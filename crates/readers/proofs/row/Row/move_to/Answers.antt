use Rattle.readers.proofs.Common.{Rises, ap, arith, count_by, is_slotted, is_wanted, length, length-map, map, moved_pin}
use Rattle.readers.proofs.Common.{pin_moves, refl, row_seen, subst, sym, ◌∙◌, ◌≡◌}
use Rattle.readers.proofs.Rises.{count_same, rises_same}
use Rattle.readers.proofs.Stays.{live_stays, none_come, none_counted, none_moved, row_stays}
use Rattle.readers.proofs.row.Row.move_to.Goals as goal

pub invariant_of-self : goal.invariant_of-self
invariant_of-self c =
    let f = c.self.inside in
    let change = moved_pin c.args.stored in
    let rises = c.self.invariant.rises in
    let few = c.self.invariant.few in
    let long = length-map f.pins.items change in
    let counted = f.pins.ok.0 in
    let is : c.move_pins.new.pins ≡ map change f.pins.items =
    c.move_pins.ensures ∙ ap (map change) c.make_contiguous-pins.ensures.value in
    let as_long = ap length is in
    let kept = c.make_contiguous-pins.ensures.writes_back c.move_pins.new.pins (omega (arith, as_long, long, counted))
    ∙ is in
    let kept_long = ap length kept in
    record {
      rises = subst (Rises f.reader 0 f.next) (sym kept)
          (rises_same change (λ p. (refl, refl)) f.reader 0 f.next f.pins.items rises);
      few = omega (arith, kept_long, long, few);
      room = c.self.invariant.room;
      wanted = c.self.invariant.wanted
          ∙ sym (ap (count_by is_wanted) kept ∙ count_same is_wanted change (λ p. refl) f.pins.items);
      slots = c.count_slots-self-inside.ensures;
    }

pub returns-then-self-eq0-clause-moved : goal.returns-then-self-eq0-clause-moved
returns-then-self-eq0-clause-moved c =
    let f = c.self.inside in
    row_stays (map (moved_pin c.args.stored)) (row_seen f) c.args.self.now c.self.view_is
    (none_moved c.args.stored f.pins.items
    (none_counted is_slotted f.pins.items (sym c.self.invariant.slots ∙ c.if-self-eq0.true)))

pub returns-then-self-eq0-clause-blocks : goal.returns-then-self-eq0-clause-blocks
returns-then-self-eq0-clause-blocks c =
    let f = c.self.inside in
    live_stays (pin_moves c.args.stored) c.args.live.now (row_seen f) c.args.self.now c.self.view_is
    (none_come c.args.stored f.pins.items c.args.live.now
    (none_counted is_slotted f.pins.items (sym c.self.invariant.slots ∙ c.if-self-eq0.true)))
