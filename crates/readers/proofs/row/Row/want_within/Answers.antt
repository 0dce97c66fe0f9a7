use Rattle.readers.proofs.Common.{Rises, ap, arith, count_by, is_slotted, length, length-map, map, refl, subst, sym}
use Rattle.readers.proofs.Common.{wanted_now, ◌∙◌, ◌≡◌}
use Rattle.readers.proofs.Rises.{count_same, rises_same}
use Rattle.readers.proofs.row.Row.want_within.Goals as goal

pub invariant_of-self : goal.invariant_of-self
invariant_of-self c =
    let f = c.self.inside in
    let change = wanted_now c.args.reader c.args.index in
    let rises = c.self.invariant.rises in
    let few = c.self.invariant.few in
    let long = length-map f.pins.items change in
    let counted = f.pins.ok.0 in
    let is : c.want.new.pins ≡ map change f.pins.items =
    c.want.ensures ∙ ap (map change) c.make_contiguous.ensures.value in
    let as_long = ap length is in
    let kept = c.make_contiguous.ensures.writes_back c.want.new.pins (omega (arith, as_long, long, counted))
    ∙ is in
    let kept_long = ap length kept in
    record {
      rises = subst (Rises f.reader 0 f.next) (sym kept)
          (rises_same change (λ p. (refl, refl)) f.reader 0 f.next f.pins.items rises);
      few = omega (arith, kept_long, long, few);
      room = c.self.invariant.room;
      wanted = c.count_wanted-self-inside.ensures;
      slots = c.self.invariant.slots
          ∙ sym (ap (count_by is_slotted) kept ∙ count_same is_slotted change (λ p. refl) f.pins.items);
    }
