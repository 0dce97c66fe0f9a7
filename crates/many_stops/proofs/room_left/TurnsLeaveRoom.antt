-- A turn leaves the room: a plan begins with no more pages than fill a block, and goes on with as many as it had left.
use Rattle.many_stops.proofs.Common.{Bad, Bool, CopyStep, Fence, HasHandedOut, HasOwnRoom, IsDue, IsHandedOut, Key}
use Rattle.many_stops.proofs.Common.{LeavesOwnRoom, LeavesRoom, List, MarkStep, Mended, Mending, Name, None, Option}
use Rattle.many_stops.proofs.Common.{Order, OrderCopy, OrderMark, OrderPlanMark, OrderRepair, Place, Plan, RepairStep}
use Rattle.many_stops.proofs.Common.{Repairing, Some, Spot, Step, Translation, Unmarked, Valid, [], ap, arith, at_most}
use Rattle.many_stops.proofs.Common.{bad_told, before_accepted, below, count_blocks, false, false≢true, inl, inr}
use Rattle.many_stops.proofs.Common.{is_bad, is_free, is_mended, kept_room, least_room, length, mark_ordered}
use Rattle.many_stops.proofs.Common.{may_go_bad, name_of, none-some, order_due, ordered, pages_of_plan, refl}
use Rattle.many_stops.proofs.Common.{repair_ordered, room_on_dies, same_Some, subst, suc, sym, true, true≢false, turned}
use Rattle.many_stops.proofs.Common.{turned_if, ℕ, ⊎_elim, ◌*◌, ◌+◌, ◌<◌, ◌∙◌, ◌∷◌, ◌≡◌, ◌≤◌}
use Rattle.std.proofs.Common.{All, map, not}
use Rattle.std.proofs.lemmas.List.{length-map}
use Rattle.std.proofs.lemmas.List.Filters.{length-filter_both}
use Rattle.ufs_spec.proofs.Lists.{length-below}
use Rattle.ufs_spec.specs.Disk.{place_in}
use Rattle.ufs_spec.specs.Translation.{copy_begun, is_live, live_count, with_plan}
use Rattle.ufs_laws.proofs.walk.LayerEffects.{IsMarkDue, IsPlanned}
use Rattle.power_loss.specs.Collection.{IsVictim}
use Rattle.power_loss.proofs.books.LayerParts.{NeededOf}
use Rattle.power_loss.proofs.collected_blocks.FewestLivePages.{victim_is}
use Rattle.power_loss.proofs.collected_blocks.LivePages.{live_needed}
use Rattle.power_loss.proofs.ordered_lists.ElementsAndOrders.{all_in}
use Rattle.many_stops.specs.RoomOfGroups.{PlanGains}
use Rattle.many_stops.proofs.room_left.RoomInOpenBlocks.{groups_most, rooms_no_less}
use Rattle.many_stops.proofs.room_left.RoomStays.{bad_room_begins, closed_is_not_bad, handed_mended, mark_is_no_copy}
use Rattle.many_stops.proofs.room_left.RoomStays.{no_less, one_copy, own_enough, repair_is_no_copy, step_of}

-- no more pages of a block are live than it has
live_within : (t : Translation) (s : Spot) → live_count t s ≤ t.numbers.pages
live_within t s =
    let places = map (place_in s) (below t.numbers.pages) in
    let both = length-filter_both (is_live t) (λ p. not (is_live t p)) (λ p. refl) places in
    let all = length-map (below t.numbers.pages) (place_in s) ∙ length-below t.numbers.pages in
    omega (arith, both, all)

module _ {t : Translation} (v : Valid t) (r : LeavesOwnRoom t) where
  -- Turns

  module _ (none : t.work.step ≡ None) where
    abbrev StepsTo : Option Step → Option Plan → Type 0
    StepsTo step plan = LeavesRoom t.numbers (before_accepted t.ledger) t.ledger.standing t.disk.cells t.disk.blocks
        t.disk.flights (is_mended t.work.mending) step plan

    idle_room : HasHandedOut t → HasOwnRoom t.numbers t.disk.blocks t.disk.flights None t.work.plan
    idle_room handed = subst (λ z. HasOwnRoom t.numbers t.disk.blocks t.disk.flights z t.work.plan) none (r.room handed)

    idle_gains : (pl : Plan) → t.work.plan ≡ Some pl → PlanGains t.numbers t.disk.blocks None pl
    idle_gains pl is = subst (λ z. PlanGains t.numbers t.disk.blocks z pl) none (r.gains pl is)

    -- a step that begins takes no more room than no step
    begun_room : (step : Step) → room_on_dies t.numbers t.disk.blocks None t.disk.flights ≤
        room_on_dies t.numbers t.disk.blocks (Some step) t.disk.flights
    begun_room step = rooms_no_less t.numbers t.disk.blocks t.disk.blocks None (Some step) t.disk.flights t.disk.flights
        (λ die. omega arith) (λ die. groups_most None (Some step) (λ name. refl) (t.disk.flights die))

    -- Steps of the mending

    due_unmended : (w : Mending) (fence : Option Fence) → IsMarkDue w fence → is_mended w ≡ false
    due_unmended (Unmarked first lost) fence due = refl
    due_unmended (Repairing left) fence due = refl
    due_unmended Mended fence due = absurd due

    unmended_plan : is_mended t.work.mending ≡ false → (pl : Plan) → t.work.plan ≡ Some pl → ⊥
    unmended_plan un pl is = true≢false (sym (ap is_mended (v.plan.mended pl is)) ∙ un)

    unmended_handed : is_mended t.work.mending ≡ false → HasHandedOut t → ⊥
    unmended_handed un handed = true≢false (sym (handed_mended v handed) ∙ un)

    mark_begins : (fence : Option Fence) → is_mended t.work.mending ≡ false → LeavesOwnRoom (mark_ordered t fence)
    mark_begins fence un = record {
      one_die = r.one_die;
      copied = λ name from there e. absurd (apart e);
      planned = λ mended s e. absurd (true≢false (sym mended ∙ un));
      gains = λ pl e. absurd (unmended_plan un pl e);
      room = λ h. absurd (unmended_handed un h);
    }
      where
        apart : {number : ℕ} {name : Name} {from : Place} {here there : Bool} →
            Some (step_of (MarkStep number fence) here) ≡ Some (step_of (CopyStep name from) there) → ⊥
        apart e = mark_is_no_copy (ap (λ (z : Step). z.kind) (same_Some _ _ e))

    repair_begins : (k : Key) (left : List Key) → is_mended t.work.mending ≡ false →
        LeavesOwnRoom (repair_ordered t k left)
    repair_begins k left un = record {
      one_die = r.one_die;
      copied = λ name from there e. absurd (apart e);
      planned = λ mended s e. absurd (false≢true mended);
      gains = λ pl e. absurd (unmended_plan un pl e);
      room = λ h. absurd (unmended_handed un (lower h));
    }
      where
        less : (a b c : ℕ) → a + (b + 1) < c → a + b < c
        less a b c l = omega (arith, l)

        lower : IsHandedOut (t.ledger.greatest_seen + (t.ledger.repairs + 1)) t.ledger.standing t.disk.cells
            t.disk.flights → HasHandedOut t
        lower (inl s) = inl (record {
          number = s.number;
          index = s.index;
          place = s.place;
          behind = less t.ledger.greatest_seen t.ledger.repairs s.number s.behind;
          stands = s.stands;
        })
        lower (inr (inl f)) = inr (inl (record {
          die = f.die;
          place = f.place;
          tag = f.tag;
          body = f.body;
          behind = less t.ledger.greatest_seen t.ledger.repairs f.tag.number f.behind;
          flies = f.flies;
        }))
        lower (inr (inr c)) = inr (inr (record {
          place = c.place;
          tag = c.tag;
          body = c.body;
          behind = less t.ledger.greatest_seen t.ledger.repairs c.tag.number c.behind;
          there = c.there;
        }))

        apart : {one : Name} {at : Option Place} {name : Name} {from : Place} {here there : Bool} →
            Some (step_of (RepairStep one at) here) ≡ Some (step_of (CopyStep name from) there) → ⊥
        apart e = repair_is_no_copy (ap (λ (z : Step). z.kind) (same_Some _ _ e))

    -- Steps of a plan

    -- a plan with these copies left, be it begun or next
    module _ (s : Spot) (copies : List Place) (mended : t.work.mending ≡ Mended) (is : IsPlanned t s copies) where
      abbrev its : Plan
      its = record { victim = s; copies = copies }

      next_gains : PlanGains t.numbers t.disk.blocks None its
      next_gains = ⊎_elim (λ e. idle_gains its e)
          (λ k.
          let c = (victim_is t s k.1).can in
          let so_many = ap (λ (xs : List Place). length xs) k.2 in
          record {
            inside = c.inside;
            most = two _ _ _ so_many (live_within t s)
                (⊎_elim (λ g. some _ _ g.2) (λ g. some_live _ _ g.2 (live_within t s)) c.gain);
            less = λ good. fits _ _ _ so_many (⊎_elim (λ g. g.2) (λ g. absurd (good g.0)) c.gain);
          }) is
        where
          fits : (a b c : ℕ) → a ≡ b → b < c → a + 0 + 1 ≤ c
          fits a b c e l = omega (arith, e, l)

          two : (a b c : ℕ) → a ≡ b → b ≤ c → 1 ≤ c → a + 0 + 1 ≤ 2 * c
          two a b c e l k = omega (arith, e, l, k)

          some : (a b : ℕ) → a < b → 1 ≤ b
          some a b l = omega (arith, l)

          some_live : (a b : ℕ) → 0 < a → a ≤ b → 1 ≤ b
          some_live a b l k = omega (arith, l, k)

      -- a bad block is collected only where no room is to be gained: so two blocks more are free than are kept
      bad_next : IsVictim t s → t.disk.blocks s ≡ Bad → kept_room t.numbers t.disk.blocks + 2 ≤ count_blocks t is_free
      bad_next victim bad =
          let c = victim.can in
          let d = c.inside.die in
          let own = own_enough t.numbers t.disk.blocks (omega (arith, d)) in
          ⊎_elim (λ g. absurd (closed_is_not_bad g.0 bad))
          (λ g. ⊎_elim (λ l. enough _ (least_room t.numbers) _ _ own l) (λ few. absurd (g.1 (inr few)))
          (at_most (least_room t.numbers + 2 + may_go_bad t.numbers (count_blocks t is_bad)) (count_blocks t is_free)))
          c.gain
        where
          enough : (kept least more free : ℕ) → kept ≤ least + more → least + 2 + more ≤ free → kept + 2 ≤ free
          enough kept least more free own l = omega (arith, own, l)

      -- as many blocks are free as groups leave, or the plan that is under way fits
      next_room : HasHandedOut t → HasOwnRoom t.numbers t.disk.blocks t.disk.flights None (Some its)
      next_room handed = ⊎_elim (λ e. subst (λ z. HasOwnRoom t.numbers t.disk.blocks t.disk.flights None z) e
          (idle_room handed))
          (λ k. record {
            any = ⊎_elim (λ l. inl l) (λ o. absurd (none-some o.under_way (sym k.0 ∙ o.is))) (idle_room handed).any;
            bad = λ bad. bad_room_begins t.numbers t.disk.blocks t.disk.flights None (Some its) next_gains.most
                (bad_next (victim_is t s k.1) (bad_told (t.disk.blocks s) bad));
          }) is

      plan_goes_on : (step : Step) (left : List Place) →
          ((name : Name) (from : Place) (there : Bool) → step ≡ record { kind = CopyStep name from; there = there } →
          (p : Place) × (t.ledger.standing name.number name.index ≡ Some p)) →
          pages_of_plan (Some (record { victim = s; copies = left })) (Some step) ≤ pages_of_plan (Some its) None →
          StepsTo (Some step) (Some (record { victim = s; copies = left }))
      plan_goes_on step left stands fewer = record {
        one_die = r.one_die;
        copied = λ name from there e. stands name from there (same_Some step _ e);
        planned = λ m x e. (record { victim = s; copies = left }, refl);
        gains = λ pl e. subst (λ z. PlanGains t.numbers t.disk.blocks (Some step) z) (same_Some _ pl e)
            (record {
              inside = next_gains.inside;
              most = no_less (pages_of_plan (Some (record { victim = s; copies = left })) (Some step))
                  (pages_of_plan (Some its) None) (2 * t.numbers.pages) fewer next_gains.most;
              less = λ good. no_less (pages_of_plan (Some (record { victim = s; copies = left })) (Some step))
                  (pages_of_plan (Some its) None) t.numbers.pages fewer (next_gains.less good);
            });
        room = λ h.
            let was = next_room h in
            record {
              any = ⊎_elim (λ l. inl l)
                  (λ o. inr (record {
                    short = o.short;
                    under_way = record { victim = s; copies = left };
                    is = refl;
                    good = λ bad. o.good (ap (λ (z : Plan). t.disk.blocks z.victim) (same_Some _ _ (sym o.is)) ∙ bad);
                    fits = no_less _ _ _ fewer (no_less _ _ _ o.fits (begun_room step));
                  })) was.any;
              bad = λ is.
                  let b = was.bad is in
                  record { kept = b.kept; fits = still _ _ _ _ _ fewer b.fits (begun_room step) };
            };
      }
        where
          still : (a b c d more : ℕ) → a ≤ b → b ≤ c + more → c ≤ d → a ≤ d + more
          still a b c d more l k m = omega (arith, l, k, m)

    -- the page that is copied next is there, and so its name stands
    next_there : (s : Spot) (p : Place) (left : List Place) → t.work.mending ≡ Mended → IsPlanned t s (p ∷ left) →
        NeededOf t p
    next_there s p left mended (inl e) =
        all_in (NeededOf t) p (p ∷ left) (v.to_read.copied (record { victim = s; copies = p ∷ left }) e) (inl refl)
    next_there s p left mended (inr k) = all_in (NeededOf t) p (p ∷ left)
        (subst (All (NeededOf t)) (sym k.2) (live_needed s v mended)) (inl refl)

    copy_begins : (s : Spot) (p : Place) (left : List Place) → t.work.mending ≡ Mended → IsPlanned t s (p ∷ left) →
        LeavesOwnRoom (copy_begun (with_plan t s left) p (t.disk.cells p))
    copy_begins s p left mended is =
        let g = (next_there s p left mended is).page in
        subst (λ c. LeavesOwnRoom (copy_begun (with_plan t s left) p c)) (sym g.there)
        (plan_goes_on s (p ∷ left) mended is (record { kind = CopyStep (name_of g.tag) p; there = false }) left
        (λ name from there e. subst (λ (z : Name). (q : Place) × (t.ledger.standing z.number z.index ≡ Some q))
        (copied_name e) (v.pages.stands p g.tag g.body g.there g.ended)) (one_less (length left)))
      where
        one_less : (a : ℕ) → a + 1 + 1 ≤ suc a + 0 + 1
        one_less a = omega arith

        copied_name : {one name : Name} {at from : Place} {here there : Bool} →
            step_of (CopyStep one at) here ≡ step_of (CopyStep name from) there → one ≡ name
        copied_name e = one_copy (ap (λ (z : Step). z.kind) e)

    plan_mark_begins : (s : Spot) → t.work.mending ≡ Mended → IsPlanned t s [] →
        LeavesOwnRoom (mark_ordered (with_plan t s []) None)
    plan_mark_begins s mended is =
        plan_goes_on s [] mended is (record { kind = MarkStep (t.ledger.marks + 1) None; there = true }) []
        (λ name from there e. absurd (mark_is_no_copy (ap (λ (z : Step). z.kind) e))) (omega arith)

  orders : (o : Order) → (t.work.step ≡ None) × IsDue t o → LeavesOwnRoom (ordered t o)
  orders (OrderMark fence) (none, (number, due)) =
      mark_begins none fence (due_unmended none t.work.mending fence due)
  orders (OrderRepair key left) (none, (number, is)) = repair_begins none key left (ap is_mended is)
  orders (OrderCopy s p left) (none, (mended, is)) = copy_begins none s p left mended is
  orders (OrderPlanMark s) (none, (number, mended, is)) = plan_mark_begins none s mended is

  pub turns : LeavesOwnRoom (turned t)
  turns = turned_if LeavesOwnRoom t (λ none. r) (λ o due. orders o (order_due t o due))
