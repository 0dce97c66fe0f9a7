-- The victim has the fewest live pages of all blocks that can be collected, and collection begins exactly when it is
-- due.
use Rattle.power_loss.proofs.Common.{◌≡◌, ℕ, ◌+◌, ◌*◌, ◌<◌, ◌≤◌, ◌⊎◌, ◌&&◌, not, is_none, is_some}
use Rattle.power_loss.proofs.Common.{if◌then◌else◌, Bool, true, false, List, [], ◌∷◌, Option, Some, None, refl, sym, ap}
use Rattle.power_loss.proofs.Common.{◌∙◌, subst, inl, inr, ⊎_elim, arith, lt-ltb, filter, list_any, none_is, and_parts}
use Rattle.power_loss.proofs.Common.{false≢true, ltb-false, ltb-true, not-true, or_cases, and_from, or_left, or_right}
use Rattle.power_loss.proofs.Common.{none-some, same_Some, cond-false, cond-true, cases_Bool, Cell, GroupPage}
use Rattle.power_loss.proofs.Common.{BlockState, Bad, Closed, Free, Spot, Stale, next_number, Mended, Mending, Order}
use Rattle.power_loss.proofs.Common.{OrderPlanMark}
use Rattle.power_loss.proofs.Common.{Plan, Translation, copy_begun, due_order, has_mark_number, is_free, is_locked}
use Rattle.power_loss.proofs.Common.{is_mended, is_pinned, is_step_due, live_places, next_order, ordered, plan_order}
use Rattle.power_loss.proofs.Common.{spots, stepped, turned, victim, victim_order, wants_collection, with_plan, Place}
use Rattle.power_loss.proofs.MachineWords.{IsBefore}
use Rattle.std.proofs.Common.{max, nat_lt}
use Rattle.ufs_spec.specs.Pages.{greatest_number}
use Rattle.ufs_spec.specs.Translation.{count_blocks, gains, has_stale, is_bad, is_bad_with_live, is_stale, is_vacant}
use Rattle.ufs_spec.specs.Translation.{least_of, live_count}
use Rattle.ufs_spec.specs.Translation.{has_few_free, is_bad, least_room, may_be_victim, may_go_bad, wanted_room}
use Rattle.power_loss.specs.Collection.{AreFewFree, CanBeCollected, IsBadWithLive, IsCollectionDue, IsRoomScarce}
use Rattle.power_loss.specs.Collection.{IsNoneStale, IsVictim}
use Rattle.power_loss.proofs.jobs_owed.ProgramsAndErases.{free_is}
use Rattle.ufs_laws.proofs.free_blocks.ErasesInOrder.{stale_is}
use Rattle.power_loss.proofs.ordered_lists.ElementsAndOrders.{IsIn, IsOrdered, filter_in, in_spots, kept_in}
use Rattle.power_loss.proofs.ordered_lists.ElementsAndOrders.{ordered_filter, spots_in, spots_ordered}

-- The least of a list

-- it is the first of all that have the least count
pub record IsFirstLeast {A : Type 0} (R : A → A → Type 0) (count : A → ℕ) (x : A) (xs : List A) : Type 0 where
  pub least : (y : A) → IsIn y xs → count x ≤ count y
  pub first : (y : A) → IsIn y xs → count y ≡ count x → R y x → ⊥

-- an order in which nothing comes before itself
record IsStrict {A : Type 0} (R : A → A → Type 0) : Type 0 where
  pub never : (x : A) → R x x → ⊥
  pub one_way : (x y : A) → R x y → R y x → ⊥

record IsLeastOf {A : Type 0} (R : A → A → Type 0) (count : A → ℕ) (best x : A) (xs : List A) : Type 0 where
  pub is_in : (best ≡ x) ⊎ IsIn x xs
  pub under : count x ≤ count best
  pub equal : count best ≡ count x → best ≡ x
  pub right : IsFirstLeast R count x xs

least_from : {A : Type 0} (R : A → A → Type 0) {count : A → ℕ} {best x : A} (xs : List A) → IsStrict R →
    IsOrdered R (best ∷ xs) → least_of count (Some best) xs ≡ Some x → IsLeastOf R count best x xs
least_from R {count} {best} {x} [] strict ordered h = record {
  is_in = inl (same_Some best x h);
  under = let e = ap count (same_Some best x h) in omega arith;
  equal = λ e. same_Some best x h;
  right = record { least = λ y i. absurd i; first = λ y i. absurd i };
}
least_from {A} R {count} {best} {x} (y ∷ ys) strict ordered h = ⊎_elim
    (λ e. less e (least_from R ys strict ordered.1
    (ap (λ z. least_of count (Some z) ys) (sym (cond-true (nat_lt (count y) (count best)) y best e)) ∙ h)))
    (λ e. more e
    (least_from R ys strict (λ z i. ordered.0 z (inr i), ordered.1.1)
    (ap (λ z. least_of count (Some z) ys) (sym (cond-false (nat_lt (count y) (count best)) y best e)) ∙ h)))
    (cases_Bool (nat_lt (count y) (count best)))
  where
    less : nat_lt (count y) (count best) ≡ true → IsLeastOf R count y x ys → IsLeastOf R count best x (y ∷ ys)
    less e r =
        let l = ltb-true (count y) (count best) e in
        let u = r.under in
        record {
          is_in = ⊎_elim (λ k. inr (inl k)) (λ k. inr (inr k)) r.is_in;
          under = omega arith;
          equal = λ k. absurd (omega arith);
          right = record {
            least = λ z i. ⊎_elim (λ (k : y ≡ z). let c = ap count k in omega arith) (λ k. r.right.least z k) i;
            first = λ z i c. ⊎_elim (λ (k : y ≡ z). λ before.
                strict.never x (subst (λ (w : A). R w x) (sym k ∙ r.equal (ap count k ∙ c)) before))
                (λ k. r.right.first z k c) i;
          };
        }

    more : nat_lt (count y) (count best) ≡ false → IsLeastOf R count best x ys → IsLeastOf R count best x (y ∷ ys)
    more e r =
        let l : count best ≤ count y = ltb-false (count y) (count best) e in
        let u = r.under in
        record {
          is_in = ⊎_elim (λ k. inl k) (λ k. inr (inr k)) r.is_in;
          under = u;
          equal = r.equal;
          right = record {
            least = λ z i. ⊎_elim (λ (k : y ≡ z). let c = ap count k in omega arith) (λ k. r.right.least z k) i;
            first = λ z i c. ⊎_elim
                (λ (k : y ≡ z). λ before.
                let d = ap count k in
                let same : best ≡ x = r.equal (omega arith) in
                strict.one_way best y (ordered.0 y (inl refl))
                (subst (λ (w : A). R w best) (sym k) (subst (λ (w : A). R z w) (sym same) before)))
                (λ k. r.right.first z k c) i;
          };
        }

first_least : {A : Type 0} (R : A → A → Type 0) {count : A → ℕ} {x : A} (xs : List A) → IsStrict R → IsOrdered R xs →
    least_of count None xs ≡ Some x → IsIn x xs × IsFirstLeast R count x xs
first_least R {x = x} [] strict ordered h = absurd (none-some x h)
first_least {A} R {count} {x} (y ∷ ys) strict ordered h =
    let r = least_from R ys strict ordered h in (
      ⊎_elim (λ k. inl k) (λ k. inr k) r.is_in,
      record {
        least = λ z i. ⊎_elim (λ (k : y ≡ z). let c = ap count k in let u = r.under in
            omega arith) (λ k. r.right.least z k) i;
        first = λ z i c. ⊎_elim (λ (k : y ≡ z). λ before.
            strict.never x (subst (λ (w : A). R w x) (sym k ∙ r.equal (ap count k ∙ c)) before))
            (λ k. r.right.first z k c) i;
      },
    )

none_least : {A : Type 0} (count : A → ℕ) (best : A) (xs : List A) → least_of count (Some best) xs ≡ None → ⊥
none_least count best [] h = none-some best (sym h)
none_least count best (y ∷ ys) h = none_least count (if nat_lt (count y) (count best) then y else best) ys h

least_none : {A : Type 0} (count : A → ℕ) (x : A) (xs : List A) → least_of count None xs ≡ None → IsIn x xs → ⊥
least_none count x [] h i = i
least_none count x (y ∷ ys) h i = none_least count y ys h

spots_strict : IsStrict IsBefore
spots_strict = record {
  never = λ x. ⊎_elim (λ l. omega arith) (λ l. let k = l.1 in omega arith);
  one_way = λ x y h. ⊎_elim
      (λ (l : y.die < x.die). ⊎_elim (λ (k : x.die < y.die). omega arith)
      (λ (k : (x.die ≡ y.die) × (x.block < y.block)). let e = k.0 in omega arith) h)
      (λ (l : (y.die ≡ x.die) × (y.block < x.block)).
      let e = l.0 in let m = l.1 in
      ⊎_elim (λ (k : x.die < y.die). omega arith) (λ (k : (x.die ≡ y.die) × (x.block < y.block)). let n = k.1 in
      omega arith) h);
}

-- The victim

-- fewer than the greater of two is fewer than one of them
under_either : (free a b more : ℕ) → free < max a b + more → (free < a + more) ⊎ (free < b + more)
under_either free a b more h = grind arith

under_one : (free a b more : ℕ) → (free < a + more) ⊎ (free < b + more) → free < max a b + more
under_one free a b more h = grind arith

few_told : (t : Translation) → has_few_free t ≡ true → AreFewFree t
few_told t h = under_either (count_blocks t is_free) (2 * t.numbers.dies + 4) (least_room t.numbers + 2)
    (may_go_bad t.numbers (count_blocks t is_bad))
    (ltb-true (count_blocks t is_free) (wanted_room t.numbers (count_blocks t is_bad)) h)

few_shown : (t : Translation) → AreFewFree t → has_few_free t ≡ true
few_shown t h = lt-ltb (count_blocks t is_free) (wanted_room t.numbers (count_blocks t is_bad))
    (under_one (count_blocks t is_free) (2 * t.numbers.dies + 4) (least_room t.numbers + 2)
    (may_go_bad t.numbers (count_blocks t is_bad)) h)

pub enough_told : (t : Translation) → has_few_free t ≡ false → AreFewFree t → ⊥
enough_told t none few = false≢true (sym none ∙ few_shown t few)

enough_shown : (t : Translation) → (AreFewFree t → ⊥) → has_few_free t ≡ false
enough_shown t enough = ⊎_elim (λ few. absurd (enough (few_told t few))) (λ h. h) (cases_Bool (has_few_free t))

abbrev Gains : Translation → Spot → Type 0
Gains t s = ((t.disk.blocks s ≡ Closed) × AreFewFree t × (live_count t s < t.numbers.pages))
    ⊎ ((t.disk.blocks s ≡ Bad) × (AreFewFree t → ⊥) × (0 < live_count t s))

gain_told : (t : Translation) (s : Spot) (state : BlockState) → t.disk.blocks s ≡ state → gains t s state ≡ true →
    Gains t s
gain_told t s Closed is h =
    let c = and_parts (has_few_free t) (nat_lt (live_count t s) t.numbers.pages) h in
    inl (is, few_told t c.0, ltb-true (live_count t s) t.numbers.pages c.1)
gain_told t s Bad is h =
    let c = and_parts (not (has_few_free t)) (nat_lt 0 (live_count t s)) h in
    inr (is, enough_told t (not-true (has_few_free t) c.0), ltb-true 0 (live_count t s) c.1)
gain_told t s state is h = absurd (false≢true h)

gain_shown : (t : Translation) (s : Spot) → Gains t s → gains t s (t.disk.blocks s) ≡ true
gain_shown t s (inl h) = ap (gains t s) h.0 ∙ and_from (has_few_free t) (nat_lt (live_count t s) t.numbers.pages)
    (few_shown t h.1) (lt-ltb (live_count t s) t.numbers.pages h.2)
gain_shown t s (inr h) = ap (gains t s) h.0 ∙ and_from (not (has_few_free t)) (nat_lt 0 (live_count t s))
    (ap not (enough_shown t h.1)) (lt-ltb 0 (live_count t s) h.2)

can_in : {t : Translation} {s : Spot} → CanBeCollected t s → IsIn s (filter (may_be_victim t) (spots t.numbers))
can_in {t} {s} c = kept_in (may_be_victim t) s (spots t.numbers) (in_spots c.inside)
    (and_from (not (is_pinned t s)) (gains t s (t.disk.blocks s)) (ap not c.unpinned) (gain_shown t s c.gain))

in_can : {t : Translation} {s : Spot} → IsIn s (filter (may_be_victim t) (spots t.numbers)) → CanBeCollected t s
in_can {t} {s} i =
    let r = filter_in (may_be_victim t) s (spots t.numbers) i in
    let b = and_parts (not (is_pinned t s)) (gains t s (t.disk.blocks s)) r.1 in
    record {
      inside = spots_in r.0;
      unpinned = not-true (is_pinned t s) b.0;
      gain = gain_told t s (t.disk.blocks s) refl b.1;
    }

pub victim_is : (t : Translation) (s : Spot) → victim t ≡ Some s → IsVictim t s
victim_is t s h =
    let r = first_least IsBefore (filter (may_be_victim t) (spots t.numbers)) spots_strict
    (ordered_filter IsBefore (may_be_victim t) (spots t.numbers) (spots_ordered t.numbers)) h in
    record { can = in_can r.0; least = λ a c. r.1.least a (can_in c); lowest = λ a c e. r.1.first a (can_in c) e }

pub victim_none : (t : Translation) (s : Spot) → victim t ≡ None → CanBeCollected t s → ⊥
victim_none t s h c = least_none (live_count t) s (filter (may_be_victim t) (spots t.numbers)) h (can_in c)

-- When collection is due

due_if : (b : Bool) (o : Option Order) → is_some (if b then o else None) ≡ true → (b ≡ true) × (is_some o ≡ true)
due_if true o h = (refl, h)
due_if false o h = cc

pub mended_told : (w : Mending) → is_mended w ≡ true → w ≡ Mended
mended_told Mended h = refl
mended_told w h = absurd (false≢true h)

pub any_in : {A : Type 0} (p : A → Bool) (xs : List A) → list_any p xs ≡ true → (x : A) × IsIn x xs × (p x ≡ true)
any_in p [] h = cc
any_in p (y ∷ ys) h = ⊎_elim (λ k. (y, inl refl, k)) (λ k. let r = any_in p ys k in (r.0, inr r.1, r.2))
    (or_cases (p y) (list_any p ys) h)

pub in_any : {A : Type 0} (p : A → Bool) (x : A) (xs : List A) → IsIn x xs → p x ≡ true → list_any p xs ≡ true
in_any p x [] i h = absurd i
in_any p x (y ∷ ys) (inl i) h = or_left (p y) (list_any p ys) (ap p i ∙ h)
in_any p x (y ∷ ys) (inr i) h = or_right (p y) (list_any p ys) (in_any p x ys i h)

pub bad_told : (x : BlockState) → is_bad x ≡ true → x ≡ Bad
bad_told Bad h = refl
bad_told state h = absurd (false≢true h)

live_told : {t : Translation} {s : Spot} → IsIn s (spots t.numbers) → is_bad_with_live t s ≡ true → IsBadWithLive t s
live_told {t} {s} i h =
    let a = and_parts (is_bad (t.disk.blocks s) && not (is_pinned t s)) (nat_lt 0 (live_count t s)) h in
    let b = and_parts (is_bad (t.disk.blocks s)) (not (is_pinned t s)) a.0 in
    record {
      inside = spots_in i;
      bad = bad_told (t.disk.blocks s) b.0;
      unpinned = not-true (is_pinned t s) b.1;
      live = ltb-true 0 (live_count t s) a.1;
    }

live_shown : {t : Translation} {s : Spot} → IsBadWithLive t s → is_bad_with_live t s ≡ true
live_shown {t} {s} r = and_from (is_bad (t.disk.blocks s) && not (is_pinned t s)) (nat_lt 0 (live_count t s))
    (and_from (is_bad (t.disk.blocks s)) (not (is_pinned t s)) (ap is_bad r.bad) (ap not r.unpinned))
    (lt-ltb 0 (live_count t s) r.live)

abbrev is_any_bad : Translation → Bool
is_any_bad t = list_any (is_bad_with_live t) (spots t.numbers)

scarce_told : (t : Translation) → wants_collection t ≡ true → IsRoomScarce t
scarce_told t h =
    ⊎_elim (λ k. inl (few_told t k))
    (λ k. let r = any_in (is_bad_with_live t) (spots t.numbers) k in inr (r.0, live_told r.1 r.2))
    (or_cases (has_few_free t) (is_any_bad t) h)

scarce_shown : (t : Translation) → IsRoomScarce t → wants_collection t ≡ true
scarce_shown t r =
    ⊎_elim (λ k. or_left (has_few_free t) (is_any_bad t) (few_shown t k))
    (λ (k : (s : Spot) × IsBadWithLive t s). or_right (has_few_free t) (is_any_bad t)
    (in_any (is_bad_with_live t) k.0 (spots t.numbers) (in_spots k.1.inside) (live_shown k.1))) r

-- a free block is still to be erased for what is in it, or none is

stale_vacant : (t : Translation) (s : Spot) → is_vacant t is_stale s ≡ true →
    (t.disk.blocks s ≡ Free) × (t.disk.vacancies s ≡ Stale)
stale_vacant t s h =
    let c = and_parts (is_free (t.disk.blocks s)) (is_stale (t.disk.vacancies s)) h in
    (free_is (t.disk.blocks s) c.0, stale_is (t.disk.vacancies s) c.1)

pub stale_told : (t : Translation) → has_stale t ≡ false → IsNoneStale t
stale_told t none s inside free stale =
    false≢true (sym none ∙ in_any (is_vacant t is_stale) s (spots t.numbers) (in_spots inside)
    (and_from (is_free (t.disk.blocks s)) (is_stale (t.disk.vacancies s)) (ap is_free free) (ap is_stale stale)))

pub stale_shown : (t : Translation) → IsNoneStale t → has_stale t ≡ false
stale_shown t none = ⊎_elim
    (λ h.
    let r = any_in (is_vacant t is_stale) (spots t.numbers) h in
    let v = stale_vacant t r.0 r.2 in
    absurd (none r.0 (spots_in r.1) v.0 v.1)) (λ h. h) (cases_Bool (has_stale t))

pub due_only : (t : Translation) → is_mended t.work.mending ≡ true → t.work.plan ≡ None → is_step_due t ≡ true →
    IsCollectionDue t
due_only t mended plan h =
    let a = due_if (is_none t.work.step && not (has_stale t)) (next_order t t.work.mending t.work.plan) h in
    let free = and_parts (is_none t.work.step) (not (has_stale t)) a.0 in
    let w = mended_told t.work.mending mended in
    let n : is_some (next_order t Mended None) ≡ true = ap is_some (λ j. next_order t (sym w j) (sym plan j)) ∙ a.1 in
    let b = due_if (wants_collection t && has_mark_number t) (victim_order t (victim t)) n in
    let c = and_parts (wants_collection t) (has_mark_number t) b.0 in
    record {
      mended = mended;
      no_step = none_is t.work.step free.0;
      no_plan = plan;
      none_stale = stale_told t (not-true (has_stale t) free.1);
      number = c.1;
      some = found (victim t) refl b.1;
      scarce = scarce_told t c.0;
    }
  where
    found : (o : Option Spot) → victim t ≡ o → is_some (victim_order t o) ≡ true → (s : Spot) × CanBeCollected t s
    found None is k = cc
    found (Some s) is k = (s, (victim_is t s is).can)

-- the order that comes of it
order_is : {t : Translation} → IsCollectionDue t → due_order t ≡ victim_order t (victim t)
order_is {t} d =
    (λ j. if is_none (d.no_step j) && not (stale_shown t d.none_stale j)
    then next_order t (mended_told t.work.mending d.mended j) (d.no_plan j) else None)
    ∙ cond-true (wants_collection t && has_mark_number t) (victim_order t (victim t)) None
    (and_from (wants_collection t) (has_mark_number t) (scarce_shown t d.scarce) d.number)

a_victim : {t : Translation} → IsCollectionDue t → (s : Spot) × (victim t ≡ Some s)
a_victim {t} d = go (victim t) refl
  where
    go : (o : Option Spot) → victim t ≡ o → (s : Spot) × (victim t ≡ Some s)
    go None is = absurd (victim_none t d.some.0 is d.some.1)
    go (Some s) is = (s, is)

some_plan : (t : Translation) (s : Spot) (copies : List Place) → has_mark_number t ≡ true →
    is_some (plan_order t s copies) ≡ true
some_plan t s [] h = ap is_some (cond-true (has_mark_number t) (Some (OrderPlanMark s)) None h)
some_plan t s (p ∷ ps) h = refl

pub due_is : (t : Translation) → IsCollectionDue t → is_step_due t ≡ true
due_is t d =
    let v = a_victim d in
    ap is_some (order_is d ∙ ap (victim_order t) v.1) ∙ some_plan t v.0 (live_places t v.0) d.number

copy_plans : (t : Translation) (p : Place) (cell : Cell) → (copy_begun t p cell).work.plan ≡ t.work.plan
copy_plans t p (GroupPage tag body) = refl
copy_plans t p cell = refl

plan_begins : (t : Translation) {s : Spot} (copies : List Place) → has_mark_number t ≡ true →
    (plan : Plan) × ((stepped t (plan_order t s copies)).work.plan ≡ Some plan) × (plan.victim ≡ s)
plan_begins t {s} [] h = (
  record { victim = s; copies = [] },
  ap (λ o. (stepped t o).work.plan) (cond-true (has_mark_number t) (Some (OrderPlanMark s)) None h),
  refl,
)
plan_begins t {s} (p ∷ ps) h = (
  record { victim = s; copies = ps },
  copy_plans (with_plan t s ps) p (t.disk.cells p),
  refl,
)

pub begins : (t : Translation) → IsCollectionDue t → (plan : Plan) × ((turned t).work.plan ≡ Some plan)
    × IsVictim t plan.victim
begins t d =
    let v = a_victim d in
    let p = plan_begins t (live_places t v.0) d.number in (
      p.0,
      ap (λ o. (stepped t o).work.plan) (order_is d ∙ ap (victim_order t) v.1) ∙ p.1,
      subst (IsVictim t) (sym p.2) (victim_is t v.0 v.1),
    )

-- The lock

pub locks : (t : Translation) →
    (t.numbers.spare < count_blocks t is_bad) ⊎ (greatest_number < next_number t.ledger) →
    is_locked t ≡ true
locks t h = ⊎_elim
    (λ k. or_left (nat_lt (t.numbers.spare) (count_blocks t is_bad)) (nat_lt greatest_number (next_number t.ledger))
    (lt-ltb (t.numbers.spare) (count_blocks t is_bad) k))
    (λ k. or_right (nat_lt (t.numbers.spare) (count_blocks t is_bad)) (nat_lt greatest_number (next_number t.ledger))
    (lt-ltb greatest_number (next_number t.ledger) k)) h

pub locks_only : (t : Translation) → is_locked t ≡ true → (t.numbers.spare < count_blocks t is_bad)
    ⊎ (greatest_number < next_number t.ledger)
locks_only t h = ⊎_elim (λ k. inl (ltb-true (t.numbers.spare) (count_blocks t is_bad) k))
    (λ k. inr (ltb-true greatest_number (next_number t.ledger) k))
    (or_cases (nat_lt (t.numbers.spare) (count_blocks t is_bad)) (nat_lt greatest_number (next_number t.ledger)) h)
