-- A turn orders the step of the mending or of collection that is due.
use Rattle.ftl_core.proofs.Common.{Bool, Core, Describes, Fence, Kept, Key, List, None, Option, Order, OrderMark}
use Rattle.ftl_core.proofs.Common.{OrderRepair, Pending, Repairing, RestsKept, Some, Translation, [], all_keep}
use Rattle.ftl_core.proofs.Common.{and_parts, ap, drop, false, has_mark_number, has_stale, if◌then◌else◌, is_none}
use Rattle.ftl_core.proofs.Common.{is_some, mark_ordered, mending_kept, moved, none_is, not, refl, stepped, subst, sym}
use Rattle.ftl_core.proofs.Common.{true, waiting, ◌∙◌, ◌∷◌, ◌≡◌}
use Rattle.std.proofs.Common.{◌&&◌}
use Rattle.ufs_spec.specs.Moves.{TakeStep}
use Rattle.ufs_spec.specs.Translation as layer
use Rattle.ufs_spec.specs.Translation.{due_order}
use Rattle.ftl_core.specs.declared.books.Mending as kept
use Rattle.ftl_core.specs.declared.books.Mending.TheVariants as mendings
use Rattle.ftl_core.specs.Moves.{repair_ordered}
use Rattle.ftl_core.specs.Turns.{IsStepTurned, IsTurned, is_repair_due, is_step_due, is_turn_due, repair_turned}
use Rattle.ftl_core.proofs.live_pages.SameLive.{Facts, Knows, facts, knows_on, turned_same}
use Rattle.ftl_core.proofs.rests_owed.RestsStay.{turns_rests}
use Rattle.ftl_core.proofs.steps_ordered.CollectionsOrdered.{collection_due, collection_turned}
use Rattle.ftl_core.proofs.steps_ordered.CopiesOrdered.{IsOrdered, mark_copies}
use Rattle.ftl_core.proofs.steps_ordered.CopiesOrdered.{mark_turn, none_copied, order_if, repair_is_none}
use Rattle.ftl_core.proofs.steps_ordered.QuietLayers.{at_front, get_dropped, group_number, is_quiet, mark_number}
use Rattle.ftl_core.proofs.steps_ordered.QuietLayers.{may_agree, order_is, repair_due, some_if}
use Rattle.ftl_core.proofs.steps_ordered.RepairsOrdered.{repair_waits}

-- What is due

step_due : (c : Core) (t : Translation) (m : kept.Mending) → Describes c t → c.step ≡ None →
    t.work.mending ≡ mending_kept m (drop c.repaired c.lost) →
    is_step_due c m ≡ is_some (layer.next_order t (mending_kept m (drop c.repaired c.lost)) t.work.plan)
step_due c t (mendings.Unmarked fence) h none is =
    mark_number c t h.kept ∙ some_if (layer.has_mark_number t) (OrderMark fence)
step_due c t mendings.Repairing h none is =
    ap (is_repair_due c) (get_dropped c.lost c.repaired)
    ∙ repair_due c t (drop c.repaired c.lost) t.work.plan h none is
step_due c t mendings.Mended h none is = collection_due c t h

-- three tests, of which the last two go together
and_three : (a b x : Bool) → (a && b && x) ≡ ((a && b) && x)
and_three true b x = refl
and_three false b x = refl

-- a step is due where the definitions have one
pub turns_due : (c : Core) (t : Translation) → Describes c t → is_turn_due c ≡ layer.is_step_due t
turns_due c t h =
    and_three (is_none c.step) (not (has_stale c)) (is_step_due c c.mending)
    ∙ by (is_none c.step && not (has_stale c)) refl
  where
    by : (b : Bool) → (is_none c.step && not (has_stale c)) ≡ b →
        ((is_none c.step && not (has_stale c)) && is_step_due c c.mending) ≡ is_some (due_order t)
    by true e =
        ap (λ (x : Bool). x && is_step_due c c.mending) e
        ∙ step_due c t c.mending h (none_is c.step (and_parts (is_none c.step) (not (has_stale c)) e).0)
        h.kept.work.mending_is
        ∙ ap is_some (sym (order_is c t h.kept e))
    by false e =
        ap (λ (x : Bool). x && is_step_due c c.mending) e
        ∙ sym (ap (λ (x : Bool). is_some (if x then layer.next_order t t.work.mending t.work.plan else None))
        (sym (may_agree c t h.kept) ∙ e))

-- A mark

mark_due : (c : Core) (t : Translation) (fence : Option Fence) → Kept c t → has_mark_number c ≡ true →
    (if layer.has_mark_number t then Some (OrderMark fence) else None) ≡ Some (OrderMark fence)
mark_due c t fence k left = order_if (layer.has_mark_number t) (OrderMark fence) (sym (mark_number c t k) ∙ left)

mark_ordered_then : (c : Core) (t : Translation) (fence : Option Fence) → Describes c t → c.step ≡ None →
    has_mark_number c ≡ true →
    IsOrdered (mark_ordered c fence)
    (stepped t (if layer.has_mark_number t then Some (OrderMark fence) else None))
mark_ordered_then c t fence h none due =
    subst (λ (o : Option Order). IsOrdered (mark_ordered c fence) (stepped t o)) (sym (mark_due c t fence h.kept due))
    (record { kept = mark_turn c t fence h.kept none due; copies = mark_copies c t fence h.copies.planned })

-- A repair, or the mark behind the repairs

repair_turn : (c : Core) (t : Translation) (left : List Key) → Describes c t → c.step ≡ None →
    c.mending ≡ mendings.Repairing → drop c.repaired c.lost ≡ left → t.work.mending ≡ Repairing left →
    is_repair_due c (at_front left) ≡ true →
    IsOrdered (repair_turned c (at_front left)) (stepped t (layer.next_order t (Repairing left) t.work.plan))
repair_turn c t [] h none is at mending due = mark_ordered_then c t None h none due
repair_turn c t (k ∷ left) h none is at mending due =
    subst (λ (o : Option Order). IsOrdered (repair_ordered c k) (stepped t o))
    (sym (order_if (layer.has_number t) (OrderRepair k left) (sym (group_number c t h) ∙ due)))
    (record {
      kept = repair_waits c t k left h none is at mending (is_quiet c t (k ∷ left) h none mending);
      copies = none_copied t.disk.cells c.plan (layer.repair_ordered t k left).work.step h.copies.planned
          (repair_is_none t k left);
    })

-- Turns

turn_at : (c new : Core) (t : Translation) (m : kept.Mending) → Describes c t → c.step ≡ None → c.mending ≡ m →
    t.work.mending ≡ mending_kept m (drop c.repaired c.lost) → is_step_due c m ≡ true → IsStepTurned c m new →
    IsOrdered new (stepped t (layer.next_order t (mending_kept m (drop c.repaired c.lost)) t.work.plan))
turn_at c new t (mendings.Unmarked fence) h none is mending due turned =
    subst (λ (z : Core). IsOrdered z
    (stepped t (if layer.has_mark_number t then Some (OrderMark fence) else None))) (sym turned)
    (mark_ordered_then c t fence h none due)
turn_at c new t mendings.Repairing h none is mending due turned =
    let front = get_dropped c.lost c.repaired in
    subst (λ (z : Core). IsOrdered z (stepped t (layer.next_order t (Repairing (drop c.repaired c.lost)) t.work.plan)))
    (sym (turned ∙ ap (repair_turned c) front))
    (repair_turn c t (drop c.repaired c.lost) h none is refl mending (sym (ap (is_repair_due c) front) ∙ due))
turn_at c new t mendings.Mended h none is mending due turned = collection_turned c new t h none due turned

none_due : (o : Option Order) → is_some o ≡ false → o ≡ None
none_due None e = refl
none_due (Some x) e = cc

turned_by : (c new : Core) (t : Translation) → Describes c t → (due : Bool) → is_turn_due c ≡ due → IsTurned c due new →
    IsOrdered new (stepped t (due_order t))
turned_by c new t h false e turned =
    subst (λ (z : Core × Option Order). IsOrdered z.0 (stepped t z.1))
    (λ i. (sym turned i, sym (none_due (due_order t) (sym (turns_due c t h) ∙ e)) i))
    (record { kept = h.kept; copies = h.copies })
turned_by c new t h true e turned =
    let parts = and_parts (is_none c.step && not (has_stale c)) (is_step_due c c.mending)
    (sym (and_three (is_none c.step) (not (has_stale c)) (is_step_due c c.mending)) ∙ e) in
    let none = none_is c.step (and_parts (is_none c.step) (not (has_stale c)) parts.0).0 in
    subst (λ (o : Option Order). IsOrdered new (stepped t o)) (sym (order_is c t h.kept parts.0))
    (turn_at c new t c.mending h none refl h.kept.work.mending_is parts.1 turned)

turned_live : (c new : Core) → Knows (facts c) → (due : Bool) → IsTurned c due new → Knows (facts new)
turned_live c new h due turned = knows_on c new (turned_same c new due turned) h

pub turns_told : (c after : Core) (due : Bool) → due ≡ is_turn_due c → IsTurned c due after →
    (t : Translation) → Describes c t → Describes after (moved t TakeStep)
turns_told c after due is new t h =
    let ordered = turned_by c after t h due (sym is) new in
    record {
      valid = all_keep t TakeStep h.valid tt;
      kept = ordered.kept;
      live = turned_live c after h.live due new;
      copies = ordered.copies;
      rests = subst (λ (ps : List Pending). RestsKept (moved t TakeStep) (waiting ps))
          (sym (ap (λ (f : Facts). f.3) (turned_same c after due new)))
          (turns_rests t (waiting c.pages) h.valid h.rests);
    }
