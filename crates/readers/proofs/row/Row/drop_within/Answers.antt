use Rattle.readers.proofs.Common.{Pin, Rises, ap, arith, filter, is_pin_of, length, not, subst, sym, ◌∙◌, ◌≡◌}
use Rattle.readers.proofs.Rises.{rises_left}
use Rattle.readers.proofs.row.Row.drop_within.Goals as goal

pub invariant_of-self : goal.invariant_of-self
invariant_of-self c =
    let f = c.self.inside in
    let stays = λ (p : Pin). not (is_pin_of c.args.reader c.args.index p) in
    let value = c.make_contiguous.ensures.value in
    let long = c.make_contiguous.ensures.len in
    let same = c.make_contiguous.ensures.writes_back c.make_contiguous.result.now (omega (arith, long)) ∙ value in
    let is : c.drop_among.new.pins.items ≡ filter stays f.pins.items =
    c.drop_among.ensures.left ∙ ap (filter stays) same in
    let fewer = c.drop_among.ensures.fewer in
    let few = c.self.invariant.few in
    let as_many = ap length same in
    let room = c.self.invariant.room in
    let kept = c.drop_among.ensures.room in
    record {
      rises = subst (Rises f.reader 0 f.next) (sym is)
          (rises_left stays f.reader 0 f.next f.pins.items c.self.invariant.rises);
      few = omega (arith, fewer, few, as_many);
      room = omega (arith, room, kept);
      wanted = c.count_wanted-self-inside.ensures;
      slots = c.count_slots-self-inside.ensures;
    }
