use Rattle.readers.proofs.Common.{Rises, ap, arith, count_by, is_slotted, is_wanted, length, subst, sym, ◌+◌, ◌∙◌, ◌∷◌}
use Rattle.readers.proofs.Common.{◌≡◌}
use Rattle.readers.proofs.Rises.{count_on, rises_on}
use Rattle.readers.proofs.row.Row.drop_first.Goals as goal

pub invariant_of-self : goal.invariant_of-self
invariant_of-self c =
    let f = c.self.inside in
    let p = c.in-Some.first in
    let left = c.pop_front.new.self.items in
    let is : f.pins.items ≡ p ∷ left = c.in-Some.ensures.items in
    let long = ap length is in
    let few = c.self.invariant.few in
    let room = c.self.invariant.room in
    let stays = c.in-Some.ensures.capacity in
    let wanted : f.wanted ≡ c.wants.result + count_by is_wanted left =
    c.self.invariant.wanted ∙ ap (count_by is_wanted) is ∙ count_on is_wanted p left
    ∙ ap (λ n. n + count_by is_wanted left) (sym c.wants.ensures) in
    let slots : f.slots ≡ c.slots.result + count_by is_slotted left =
    c.self.invariant.slots ∙ ap (count_by is_slotted) is ∙ count_on is_slotted p left
    ∙ ap (λ n. n + count_by is_slotted left) (sym c.slots.ensures) in
    record {
      rises = rises_on f.reader f.next p left (subst (Rises f.reader 0 f.next) is c.self.invariant.rises);
      few = omega (arith, long, few);
      room = omega (arith, room, stays);
      wanted = omega (arith, wanted);
      slots = omega (arith, slots);
    }
