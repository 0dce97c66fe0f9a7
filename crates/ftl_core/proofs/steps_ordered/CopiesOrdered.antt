-- A copy of a collection is ordered, or the mark that follows the copies.
use Rattle.ftl_core.proofs.Common.{All, All-tail, AreToRepair, Bool, Cell, Cells, Collection, CopiesKnown, CopyStep}
use Rattle.ftl_core.proofs.Common.{Core, Fence, GroupPage, IsOf, Kept, Key, Ledger, List, Name, None, Option, Order}
use Rattle.ftl_core.proofs.Common.{OrderPlanMark, Place, PlannedCopy, Some, Spot, Step, StepKind, Tag, Translation, []}
use Rattle.ftl_core.proofs.Common.{ap, arith, entry_for, entry_of, false, false≢true, greatest_number, has_mark_number}
use Rattle.ftl_core.proofs.Common.{if_true, if◌then◌else◌, key_of, keys_to_repair, mark_ordered, name_of, nat_le}
use Rattle.ftl_core.proofs.Common.{none-some, place_of, plan_next, refl, same_Some, stepped, subst, sym, true, ℕ, ◌<◌}
use Rattle.ftl_core.proofs.Common.{◌∙◌, ◌∷◌, ◌≡◌}
use Rattle.std.specs.Prelude.{drop, map, ◌+◌}
use Rattle.ufs_spec.specs.Disk as disk
use Rattle.ufs_spec.specs.Translation as layer
use Rattle.ufs_spec.specs.Translation.{with_plan}
use Rattle.collector.specs.Plans as plans
use Rattle.ftl_core.specs.declared.books.Step.TheVariants as steps
use Rattle.ftl_core.specs.Describes.{PlanKept, copying}
use Rattle.ftl_core.specs.Turns.{copy_ordered, is_next_due}
use Rattle.ftl_core.proofs.live_pages.NotedLive.{same_tag}
use Rattle.ftl_core.proofs.steps_ordered.MarksOrdered.{MayBegin, dies_on, mark_waits, no_reads}
use Rattle.ftl_core.proofs.steps_ordered.QuietLayers.{mark_number}

-- The plan

-- another collection is begun, or none
pub kept_planned : (c : Core) (t : Translation) (plan : Option Collection) (w : Option layer.Plan) → Kept c t →
    PlanKept t.numbers plan w →
    Kept (record c { plan = plan }) (record t { work = record t.work { plan = w } })
kept_planned c t plan w k now = record {
  numbers = k.numbers;
  blocks = k.blocks;
  dies = k.dies;
  fly = k.fly;
  ledger_kept = k.ledger_kept;
  work = record {
    mending_is = k.work.mending_is;
    step_is = k.work.step_is;
    to_repair = k.work.to_repair;
    next_mark = k.work.next_mark;
    repaired = k.work.repaired;
  };
  plan = now;
  claims = k.claims;
  pins = k.pins;
  differ = k.differ;
  reads = k.reads;
  step_reads = k.step_reads;
  readers = k.readers;
}

-- A copy

-- a page that may be copied: one of a group stands there, of this key and number, and its name stands
pub record IsCopyable (cells : Cells) (l : Ledger) (x : PlannedCopy) : Type 0 where
  pub tag : Tag
  pub body : List ℕ
  pub there : cells x.from ≡ GroupPage tag body
  pub known : entry_of l (name_of tag) ≡ Some (entry_for tag body)
  pub key : key_of tag ≡ x.key
  pub number : tag.number ≡ x.number
  pub place : Place
  pub stands : l.standing tag.number tag.index ≡ Some place

may_copy : (x : PlannedCopy) (f : Option disk.Flight) → MayBegin (steps.Copy x.number x.key x.from None) f
may_copy x None = tt
may_copy x (Some (disk.Reading who p)) = tt
may_copy x (Some (disk.Programming p (GroupPage tag body))) = refl
may_copy x (Some (disk.Programming p cell)) = tt
may_copy x (Some (disk.Erasing s)) = tt

-- the copy waits
copy_waits : (c : Core) (t : Translation) (x : PlannedCopy) → Kept c t → c.step ≡ None →
    (page : IsCopyable t.disk.cells t.ledger x) →
    Kept (record c { step = Some (steps.Copy x.number x.key x.from None) })
    (layer.with_step t (CopyStep (name_of page.tag) x.from) false)
copy_waits c t x k none page = record {
  numbers = k.numbers;
  blocks = k.blocks;
  dies = dies_on t.numbers t.disk.blocks t.disk.flights c.step (steps.Copy x.number x.key x.from None) c.rows none
      (λ die. may_copy x (t.disk.flights die)) k.dies;
  fly = k.fly;
  ledger_kept = k.ledger_kept;
  work = record {
    mending_is = k.work.mending_is;
    step_is = (
      name_of page.tag,
      refl,
      record {
        number_is = page.number;
        place = page.place;
        stands = page.stands;
        entry = entry_for page.tag page.body;
        known = page.known;
        key = page.key;
        copied = λ u e. absurd (none-some u e);
      },
    );
    to_repair = λ un. subst (λ (o : Option Step). AreToRepair t.ledger (keys_to_repair o (drop c.repaired c.lost))) none
        (k.work.to_repair un);
    next_mark = k.work.next_mark;
    repaired = k.work.repaired;
  };
  plan = k.plan;
  claims = k.claims;
  pins = k.pins;
  differ = k.differ;
  reads = k.reads;
  step_reads = no_reads t.disk.flights c.step (Some (steps.Copy x.number x.key x.from None)) none k.step_reads;
  readers = k.readers;
}

drop_first : (x : PlannedCopy) (xs ys : List PlannedCopy) → ys ≡ x ∷ xs → drop 1 ys ≡ xs
drop_first x xs ys e = ap (drop 1) e ∙ none_dropped xs
  where
    none_dropped : (zs : List PlannedCopy) → drop 0 zs ≡ zs
    none_dropped [] = refl
    none_dropped (z ∷ zs) = refl

-- Names of copies

name_in : Name → StepKind → Name
name_in other (CopyStep name from) = name
name_in other kind = other

pub place_in : Place → StepKind → Place
place_in other (CopyStep name from) = from
place_in other kind = other

kind_in : StepKind → Option layer.Step → StepKind
kind_in other None = other
kind_in other (Some s) = s.kind

same_copy : (name other : Name) (p q : Place) → Some (copying name p) ≡ Some (copying other q) →
    (name ≡ other) × (p ≡ q)
unfolding name_in place_in kind_in
same_copy name other p q e =
    let kind = ap (kind_in (CopyStep name p)) e in (ap (name_in name) kind, ap (place_in p) kind)

is_copy_kind : StepKind → Bool
is_copy_kind (CopyStep name from) = true
is_copy_kind kind = false

pub is_copy : Option layer.Step → Bool
is_copy None = false
is_copy (Some s) = is_copy_kind s.kind

-- no copy is under way once a mark or a repair is ordered
pub none_copied : (cells : Cells) (plan : Option Collection) (step : Option layer.Step) →
    ((p : Collection) → plan ≡ Some p → All (IsOf cells) p.copies) → is_copy step ≡ false →
    CopiesKnown cells plan step
unfolding is_copy is_copy_kind
none_copied cells plan step planned none = record {
  planned = planned;
  named = λ name from is. absurd (false≢true (sym none ∙ ap is_copy is));
}

marked_plan : (c : Core) (fence : Option Fence) → (mark_ordered c fence).plan ≡ c.plan
marked_plan c fence = by (nat_le c.next_mark greatest_number)
  where
    by : (x : Bool) → (if x then record c {
      step = Some (steps.Mark c.next_mark fence);
      next_mark = c.next_mark + 1;
    } else record c { step = None }).plan ≡ c.plan
    by true = refl
    by false = refl

-- a mark that is ordered leaves the copies that are planned
pub mark_copies : (c : Core) (t : Translation) (fence : Option Fence) →
    ((p : Collection) → c.plan ≡ Some p → All (IsOf t.disk.cells) p.copies) →
    CopiesKnown (layer.mark_ordered t fence).disk.cells (mark_ordered c fence).plan
    (layer.mark_ordered t fence).work.step
unfolding is_copy is_copy_kind
mark_copies c t fence planned =
    none_copied t.disk.cells (mark_ordered c fence).plan (layer.mark_ordered t fence).work.step
    (λ p e. planned p (sym (marked_plan c fence) ∙ e)) refl

-- a repair that is ordered is no copy
pub repair_is_none : (t : Translation) (k : Key) (left : List Key) →
    is_copy (layer.repair_ordered t k left).work.step ≡ false
unfolding is_copy is_copy_kind
repair_is_none t k left = refl

-- One order

-- what is kept once a step is ordered, and what is known of copies
pub record IsOrdered (c : Core) (t : Translation) : Type 0 where
  pub kept : Kept c t
  pub copies : CopiesKnown t.disk.cells c.plan t.work.step

-- a mark waits where a number is left
pub mark_turn : (c : Core) (t : Translation) (fence : Option Fence) → Kept c t → c.step ≡ None →
    has_mark_number c ≡ true → Kept (mark_ordered c fence) (layer.mark_ordered t fence)
mark_turn c t fence k none left =
    subst (λ (x : Core). Kept x (layer.mark_ordered t fence))
    (sym (if_true (nat_le c.next_mark greatest_number)
    (record c { step = Some (steps.Mark c.next_mark fence); next_mark = c.next_mark + 1 }) (record c { step = None })
    left))
    (mark_waits c t fence c.next_mark (t.ledger.marks + 1) k none refl (omega (arith, k.work.next_mark)) refl)

-- the order that is due where a number is left
pub order_if : (b : Bool) (o : Order) → b ≡ true → (if b then Some o else None) ≡ Some o
order_if true o e = refl
order_if false o e = cc

module _ (c : Core) (t : Translation) (k : Kept c t) (none : c.step ≡ None) (p : Collection)
    (inside : (p.victim.die < t.numbers.dies) × (p.victim.block < t.numbers.blocks))
    (planned : All (IsOf t.disk.cells) p.copies) where
  abbrev planning : Core
  planning = record c { plan = Some p }

  -- the plan with these copies is that of the layer
  with_copies : (q : Collection) → q.victim ≡ p.victim →
      Kept (record c { plan = Some q }) (with_plan t p.victim (map place_of q.copies))
  with_copies q same = kept_planned c t (Some q) (Some (record { victim = p.victim; copies = map place_of q.copies })) k
      (record {
        plan_is = λ i. Some (record { victim = sym same i; copies = map place_of q.copies });
        inside = λ r e. subst (λ (s : Spot). (s.die < t.numbers.dies) × (s.block < t.numbers.blocks))
            (sym same ∙ ap (λ (z : Collection). z.victim) (same_Some q r e)) inside;
      })

  -- no page is left to copy: the mark waits
  mark_next : p.copies ≡ [] → has_mark_number c ≡ true →
      IsOrdered (mark_ordered planning None) (layer.mark_ordered (with_plan t p.victim []) None)
  mark_next are left = record {
    kept = mark_turn planning (with_plan t p.victim []) None
        (subst (λ (xs : List PlannedCopy). Kept planning (with_plan t p.victim (map place_of xs))) are
        (with_copies p refl)) none left;
    copies = mark_copies planning (with_plan t p.victim []) None
        (λ q e. subst (λ (z : Collection). All (IsOf t.disk.cells) z.copies) (same_Some p q e) planned);
  }

  -- the first copy waits
  copy_next : (x : PlannedCopy) (xs : List PlannedCopy) → p.copies ≡ x ∷ xs → IsCopyable t.disk.cells t.ledger x →
      IsOrdered (copy_ordered planning x)
      (layer.copy_begun (with_plan t p.victim (map place_of xs)) x.from (t.disk.cells x.from))
  copy_next x xs are page =
      subst (λ (cell : Cell). IsOrdered (copy_ordered planning x)
      (layer.copy_begun (with_plan t p.victim (map place_of xs)) x.from cell)) (sym page.there)
      (record {
        kept = copy_waits (record c { plan = Some (plans.copy_ordered p) }) (with_plan t p.victim (map place_of xs)) x
            (subst (λ (ys : List PlannedCopy). Kept (record c { plan = Some (plans.copy_ordered p) })
            (with_plan t p.victim (map place_of ys))) (drop_first x xs p.copies are)
            (with_copies (plans.copy_ordered p) refl)) none page;
        copies = record {
          planned = λ q e. subst (λ (z : Collection). All (IsOf t.disk.cells) z.copies)
              (same_Some (plans.copy_ordered p) q e)
              (subst (All (IsOf t.disk.cells)) (sym (drop_first x xs p.copies are))
              (All-tail (IsOf t.disk.cells) x xs (subst (All (IsOf t.disk.cells)) are planned)));
          named = λ name from is tag body there.
              let same = same_copy (name_of page.tag) name x.from from is in
              ap name_of (same_tag tag page.tag body page.body
              (sym there ∙ ap t.disk.cells (sym same.1) ∙ page.there)) ∙ same.0;
        };
      })

  pub order_next : ((x : PlannedCopy) (xs : List PlannedCopy) → p.copies ≡ x ∷ xs →
      IsCopyable t.disk.cells t.ledger x) → is_next_due c p.copies ≡ true →
      IsOrdered (plan_next planning p.copies) (stepped t (layer.plan_order t p.victim (map place_of p.copies)))
  order_next pages due = by p.copies refl due
    where
      by : (xs : List PlannedCopy) → p.copies ≡ xs → is_next_due c xs ≡ true →
          IsOrdered (plan_next planning xs) (stepped t (layer.plan_order t p.victim (map place_of xs)))
      by [] are left =
          subst (λ (o : Option Order). IsOrdered (mark_ordered planning None) (stepped t o))
          (sym (order_if (layer.has_mark_number t) (OrderPlanMark p.victim) (sym (mark_number c t k) ∙ left)))
          (mark_next are left)
      by (x ∷ xs) are left = copy_next x xs are (pages x xs are)
