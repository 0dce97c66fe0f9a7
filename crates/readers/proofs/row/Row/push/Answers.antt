use Rattle.readers.proofs.Common.{List, Pin, Rises, [], ap, arith, count_by, is_slotted, is_wanted, length}
use Rattle.readers.proofs.Common.{length-append, subst, sym, ℕ, ◌+◌, ◌∙◌, ◌∷◌}
use Rattle.readers.proofs.Rises.{count_more, rises_more}
use Rattle.readers.proofs.row.Row.push.Goals as goal

pub invariant_of-self : goal.invariant_of-self
invariant_of-self c =
    let f = c.self.inside in
    let p = c.args.pin in
    let is = c.push_back_reserved.ensures.items in
    let long = ap length is ∙ length-append f.pins.items (p ∷ []) in
    let counted = f.pins.ok.0 in
    let held = c.len.ensures in
    let fewer = c.if-len-ge-MOST_IN_ROW.false in
    let room = c.self.invariant.room in
    let stays = c.push_back_reserved.ensures.capacity in
    record {
      rises = subst (Rises f.reader 0 (p.index + 1)) (sym {A = List Pin} is)
          (rises_more f.reader 0 f.next p f.pins.items c.if-self-pin.false (omega arith) c.self.invariant.rises);
      few = omega (arith, long, counted, held, fewer);
      room = omega (arith, room, stays);
      wanted = ap (λ n. n + c.wants.result) c.self.invariant.wanted
          ∙ ap (λ n. count_by is_wanted f.pins.items + n) c.wants.ensures
          ∙ sym {A = ℕ} (count_more is_wanted f.pins.items p)
          ∙ sym {A = ℕ} (ap (count_by is_wanted) is);
      slots = ap (λ n. n + c.slots.result) c.self.invariant.slots
          ∙ ap (λ n. count_by is_slotted f.pins.items + n) c.slots.ensures
          ∙ sym {A = ℕ} (count_more is_slotted f.pins.items p)
          ∙ sym {A = ℕ} (ap (count_by is_slotted) is);
    }
