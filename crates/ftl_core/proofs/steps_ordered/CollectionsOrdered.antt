-- A collection begins, or goes on.
use Rattle.ftl_core.proofs.Common.{All, All-cons, All-head, All-nil, All-tail, Bool, Collection, Core, Describes}
use Rattle.ftl_core.proofs.Common.{IsNeededPage, IsOf, Kept, Key, List, Mended, None, Numbers, Option, Order}
use Rattle.ftl_core.proofs.Common.{OrderPlanMark, Place, PlannedCopy, Some, Spot, Tag, Translation, UnitMap, []}
use Rattle.ftl_core.proofs.Common.{and_from, and_parts, ap, below, false, filter, has_mark_number, if_true}
use Rattle.ftl_core.proofs.Common.{if◌then◌else◌, inl, inr, is_live, is_some, key_of, layer_plan, option_map, place_of}
use Rattle.ftl_core.proofs.Common.{plan_next, refl, stepped, subst, sym, true, victim, ℕ, ⊎_elim, ◌&&◌, ◌∙◌, ◌∷◌, ◌≡◌}
use Rattle.std.specs.Prelude.{map}
use Rattle.std.proofs.lemmas.List.Elements.{filter_passes}
use Rattle.ufs_spec.proofs.Lists.{at_contained, contained_at}
use Rattle.ufs_spec.specs.Disk as disk
use Rattle.ufs_spec.specs.Translation as layer
use Rattle.ufs_spec.specs.Translation.{is_live_cell}
use Rattle.power_loss.proofs.collected_blocks.FewestLivePages.{victim_is}
use Rattle.collector.specs.Plans.{IsCollected, IsNamed}
use Rattle.ftl_core.specs.Collects.{wants_collection}
use Rattle.ftl_core.specs.Turns.{IsCollectionTurned, is_collection_due, is_next_due, plan_turned}
use Rattle.ftl_core.proofs.collected.VictimsAgree.{lives_agree, victims_agree, wants_agree}
use Rattle.ftl_core.proofs.job_ended.CopiesOn.{of_places}
use Rattle.ftl_core.proofs.live_pages.NamesLive.{live_named, there_told, written_at}
use Rattle.ftl_core.proofs.live_pages.NotedLive.{IsPageOf, same_tag}
use Rattle.ftl_core.proofs.live_pages.StoredPages.{pending_right, stored_owned}
use Rattle.ftl_core.proofs.steps_ordered.QuietLayers.{mark_number, some_if}
use Rattle.ftl_core.proofs.steps_ordered.CopiesOrdered.{IsCopyable, IsOrdered, order_next}

-- A collection goes on

goes_on : (c : Core) (t : Translation) (p : Collection) → Describes c t → c.step ≡ None → c.plan ≡ Some p →
    is_next_due c p.copies ≡ true →
    IsOrdered (plan_next c p.copies) (stepped t (layer.plan_order t p.victim (map place_of p.copies)))
goes_on c t p h none is due =
    subst (λ (o : Option Collection). IsOrdered (plan_next (record c { plan = o }) p.copies)
    (stepped t (layer.plan_order t p.victim (map place_of p.copies)))) (sym is)
    (order_next c t h.kept none p (h.kept.plan.inside p is) (h.copies.planned p is) copyable due)
  where
    copyable : (x : PlannedCopy) (xs : List PlannedCopy) → p.copies ≡ x ∷ xs → IsCopyable t.disk.cells t.ledger x
    copyable x xs are =
        let needed = All-head (IsNeededPage t.disk.cells t.disk.finished t.disk.blocks t.disk.erasing) x.from
        (map place_of xs)
        (subst (λ (ys : List PlannedCopy). All
        (IsNeededPage t.disk.cells t.disk.finished t.disk.blocks t.disk.erasing) (map place_of ys)) are
        (h.valid.to_read.copied (layer_plan p) (h.kept.plan.plan_is ∙ ap (option_map layer_plan) is))) in
        let named = All-head (IsOf t.disk.cells) x xs
        (subst (All (IsOf t.disk.cells)) are (h.copies.planned p is)) needed.page.tag needed.page.body needed.page.there
        in
        let stands = h.valid.pages.stands x.from needed.page.tag needed.page.body needed.page.there needed.page.ended in
        record {
          tag = needed.page.tag;
          body = needed.page.body;
          there = needed.page.there;
          known = h.valid.pages.known x.from needed.page.tag needed.page.body needed.page.there;
          key = named.0;
          number = named.1;
          place = stands.0;
          stands = stands.1;
        }

-- A collection begins

module _ (c : Core) (t : Translation) (h : Describes c t) where
  -- what names a live page names its key and its group
  live_owned : (x : PlannedCopy) → IsNamed (record { numbers = c.numbers; places = c.places }) c.pages x →
      layer.is_live t x.from ≡ true → IsPageOf c.numbers t.disk.cells x.key x.number x.from
  live_owned x (inl (inl e)) live =
      subst (λ (z : ℕ × Place). IsPageOf c.numbers t.disk.cells x.key z.0 z.1) (λ i. (e.3 i, e.2 i))
      (stored_owned c t h.valid h.kept x.key e.0 e.1)
  live_owned x (inl (inr n)) live =
      let at = contained_at c.pages n.0 n.1 in
      let r = pending_right c t h.valid h.kept at.0 n.0 at.1 x.from n.2 in
      subst (λ (z : Key × ℕ). IsPageOf c.numbers t.disk.cells z.0 z.1 x.from) (λ i. (n.3 i, n.4 i)) r.1
  live_owned x (inr bare) live = absurd (⊎_elim
      (λ at. bare.durable at.0 at.1 at.2 at.3)
      (λ w. let at = written_at c.pages x.from w in
      bare.pending at.1 (at_contained c.pages at.0 at.1 at.2) at.3)
      (h.live.held x.from (live_named c t h x.from ∙ live)))

  live_of : (x : PlannedCopy) → IsPageOf c.numbers t.disk.cells x.key x.number x.from → IsOf t.disk.cells x
  live_of x page tag body there =
      let same = same_tag tag page.tag body page.body (sym there ∙ page.there) in
      (ap key_of same ∙ page.key, ap (λ (u : Tag). u.number) same ∙ page.number_is)

  live_copyable : (x : PlannedCopy) → IsPageOf c.numbers t.disk.cells x.key x.number x.from →
      layer.is_live t x.from ≡ true → IsCopyable t.disk.cells t.ledger x
  live_copyable x page live =
      let parts = and_parts _ _ (sym (ap (is_live_cell t.ledger x.from) page.there) ∙ live) in
      record {
        tag = page.tag;
        body = page.body;
        there = page.there;
        known = h.valid.pages.known x.from page.tag page.body page.there;
        key = page.key;
        number = page.number_is;
        place = x.from;
        stands = there_told x.from (t.ledger.standing page.tag.number page.tag.index) parts.0;
      }

  all_owned : (xs : List PlannedCopy) → All (IsNamed (record { numbers = c.numbers; places = c.places }) c.pages) xs →
      All (λ (x : PlannedCopy). layer.is_live t x.from ≡ true) xs → All (IsOf t.disk.cells) xs
  all_owned [] named live = All-nil (IsOf t.disk.cells)
  all_owned (x ∷ xs) named live =
      let m : UnitMap = record { numbers = c.numbers; places = c.places } in
      All-cons (IsOf t.disk.cells) x xs
      (live_of x (live_owned x (All-head (IsNamed m c.pages) x xs named)
      (All-head (λ (y : PlannedCopy). layer.is_live t y.from ≡ true) x xs live)))
      (all_owned xs (All-tail (IsNamed m c.pages) x xs named)
      (All-tail (λ (y : PlannedCopy). layer.is_live t y.from ≡ true) x xs live))

  module _ (p : Collection) (victim_found : victim c ≡ Some p.victim)
      (is : IsCollected c.live (record { numbers = c.numbers; places = c.places }) c.pages c.numbers.pages p) where
    -- its copies are those of the layer
    pub places_are : map place_of p.copies ≡ layer.live_places t p.victim
    places_are =
        is.places ∙ ap (λ (n : Numbers). filter (is_live c.live) (map (disk.place_in p.victim) (below n.pages)))
        h.kept.numbers
        ∙ lives_agree c t h p.victim

    victim_there : layer.victim t ≡ Some p.victim
    victim_there = sym (victims_agree c t h) ∙ victim_found

    all_live : All (λ (x : PlannedCopy). layer.is_live t x.from ≡ true) p.copies
    all_live = of_places (λ (q : Place). layer.is_live t q ≡ true) p.copies
        (subst (All (λ (q : Place). layer.is_live t q ≡ true)) (sym places_are)
        (filter_passes (layer.is_live t) (map (disk.place_in p.victim) (below t.numbers.pages))))

    begins : c.step ≡ None → is_next_due c p.copies ≡ true →
        IsOrdered (plan_next (record c { plan = Some p }) p.copies) (stepped t (layer.victim_order t (layer.victim t)))
    begins none due =
        let spot = (victim_is t p.victim victim_there).can.inside in
        subst (λ (o : Option Order). IsOrdered (plan_next (record c { plan = Some p }) p.copies) (stepped t o))
        (ap (layer.plan_order t p.victim) places_are ∙ sym (ap (layer.victim_order t) victim_there))
        (order_next c t h.kept none p (spot.die, spot.block) (all_owned p.copies is.names all_live)
        (λ x xs are.
        let live = All-head (λ (y : PlannedCopy). layer.is_live t y.from ≡ true) x xs
        (subst (All (λ (y : PlannedCopy). layer.is_live t y.from ≡ true)) are all_live) in
        let m : UnitMap = record { numbers = c.numbers; places = c.places } in
        live_copyable x (live_owned x
        (All-head (IsNamed m c.pages) x xs (subst (All (IsNamed m c.pages)) are is.names)) live) live)
        due)

-- What is due

next_is_due : (c : Core) (t : Translation) (s : Spot) (xs : List PlannedCopy) → Kept c t →
    is_next_due c xs ≡ is_some (layer.plan_order t s (map place_of xs))
next_is_due c t s [] k = mark_number c t k ∙ some_if (layer.has_mark_number t) (OrderPlanMark s)
next_is_due c t s (x ∷ xs) k = refl

marked_due : (c : Core) (xs : List PlannedCopy) → has_mark_number c ≡ true → is_next_due c xs ≡ true
marked_due c [] e = e
marked_due c (x ∷ xs) e = refl

-- where a number is left for its mark, the victim's collection begins
victim_due : (t : Translation) (o : Option Spot) → layer.has_mark_number t ≡ true →
    is_some (layer.victim_order t o) ≡ is_some o
victim_due t None left = refl
victim_due t (Some s) left = by (layer.live_places t s)
  where
    by : (ps : List Place) → is_some (layer.plan_order t s ps) ≡ true
    by [] = ap (λ (b : Bool). is_some (if b then Some (OrderPlanMark s) else None)) left
    by (q ∷ qs) = refl

begin_alike : (t : Translation) (wants number : Bool) (o : Option Spot) →
    (number ≡ true → is_some (layer.victim_order t o) ≡ is_some o) →
    (number && wants && is_some o) ≡ is_some (if wants && number then layer.victim_order t o else None)
begin_alike t true true o same = sym (same refl)
begin_alike t true false o same = refl
begin_alike t false true o same = refl
begin_alike t false false o same = refl

pub collection_due : (c : Core) (t : Translation) → Describes c t →
    is_collection_due c c.plan ≡ is_some (layer.next_order t Mended t.work.plan)
collection_due c t h = by c.plan refl
  where
    by : (o : Option Collection) → c.plan ≡ o →
        is_collection_due c o ≡ is_some (layer.next_order t Mended t.work.plan)
    by None e =
        (λ i. mark_number c t h.kept i && wants_agree c t h i && is_some (victims_agree c t h i))
        ∙ begin_alike t (layer.wants_collection t) (layer.has_mark_number t) (layer.victim t)
        (λ left. victim_due t (layer.victim t) left)
        ∙ sym (ap (λ (o : Option layer.Plan). is_some (layer.next_order t Mended o))
        (h.kept.plan.plan_is ∙ ap (option_map layer_plan) e))
    by (Some p) e =
        next_is_due c t p.victim p.copies h.kept
        ∙ sym (ap (λ (o : Option layer.Plan). is_some (layer.next_order t Mended o))
        (h.kept.plan.plan_is ∙ ap (option_map layer_plan) e))

-- what a turn makes of what is kept, where collection is due
pub collection_turned : (c new : Core) (t : Translation) → Describes c t → c.step ≡ None →
    is_collection_due c c.plan ≡ true → IsCollectionTurned c c.plan new →
    IsOrdered new (stepped t (layer.next_order t Mended t.work.plan))
collection_turned c new t h none due turned = by c.plan refl due turned
  where
    by : (o : Option Collection) → c.plan ≡ o → is_collection_due c o ≡ true → IsCollectionTurned c o new →
        IsOrdered new (stepped t (layer.next_order t Mended t.work.plan))
    by None e due turned =
        let b = turned.1 in
        let both = and_parts (has_mark_number c && wants_collection c) (is_some (victim c)) due in
        let left = and_parts (has_mark_number c) (wants_collection c) both.0 in
        let order : layer.next_order t Mended t.work.plan ≡ layer.victim_order t (layer.victim t) =
        ap (layer.next_order t Mended) (h.kept.plan.plan_is ∙ ap (option_map layer_plan) e)
        ∙ if_true (layer.wants_collection t && layer.has_mark_number t) (layer.victim_order t (layer.victim t)) None
        (and_from (layer.wants_collection t) (layer.has_mark_number t) (sym (wants_agree c t h) ∙ left.1)
        (sym (mark_number c t h.kept) ∙ left.0)) in
        subst (λ (z : Core × Option Order). IsOrdered z.0 (stepped t z.1))
        (λ i. (sym (turned.2 ∙ ap (λ (d : Core). plan_turned d d.plan) b.is) i, sym order i))
        (begins c t h b.plan b.victim_is b.collected none (marked_due c b.plan.copies left.0))
    by (Some p) e due turned =
        let order : layer.next_order t Mended t.work.plan
        ≡ layer.plan_order t p.victim (map place_of p.copies) =
        ap (layer.next_order t Mended) (h.kept.plan.plan_is ∙ ap (option_map layer_plan) e) in
        subst (λ (z : Core × Option Order). IsOrdered z.0 (stepped t z.1))
        (λ i. (sym turned i, sym order i))
        (goes_on c t p h none e due)
