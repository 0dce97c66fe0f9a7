use Rattle.readers.proofs.Common.{List, Pin, Rises, ap, arith, count_by, is_slotted, is_wanted, length, subst, sym, ◌+◌}
use Rattle.readers.proofs.Common.{◌∙◌, ◌∷◌, ◌≡◌}
use Rattle.readers.proofs.Rises.{count_on}
use Rattle.readers.proofs.row.Row.set_first.Goals as goal

pub invariant_of-self : goal.invariant_of-self
invariant_of-self c =
    let f = c.self.inside in
    let p = c.in-Some.pin in
    let now : Pin = record p { wanted = c.args.wanted } in
    let left = c.pop_front.new.self.items in
    let was : f.pins.items ≡ p ∷ left = c.in-Some.ensures.items in
    let is = c.push_front_reserved.ensures.items in
    let was_long = ap length was in
    let long = ap length is in
    let few = c.self.invariant.few in
    let room = c.self.invariant.room in
    let popped = c.in-Some.ensures.capacity in
    let stays = c.push_front_reserved.ensures.capacity in
    let wanted : f.wanted ≡ c.wants.result + count_by is_wanted left =
    c.self.invariant.wanted ∙ ap (count_by is_wanted) was ∙ count_on is_wanted p left
    ∙ ap (λ n. n + count_by is_wanted left) (sym c.wants.ensures) in
    let counted = ap (count_by is_wanted) is ∙ count_on is_wanted now left
    ∙ ap (λ n. n + count_by is_wanted left) (sym c.wants-in-Some.ensures) in
    record {
      rises = subst (Rises f.reader 0 f.next) (sym {A = List Pin} is)
          (subst (Rises f.reader 0 f.next) was c.self.invariant.rises);
      few = omega (arith, was_long, long, few);
      room = omega (arith, room, popped, stays);
      wanted = omega (arith, wanted, counted);
      slots = c.self.invariant.slots ∙ ap (count_by is_slotted) was ∙ count_on is_slotted p left
          ∙ sym (ap (count_by is_slotted) is ∙ count_on is_slotted now left);
    }
