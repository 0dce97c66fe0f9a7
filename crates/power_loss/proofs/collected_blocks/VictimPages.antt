-- The block that a plan is begun with, and its live pages.
use Rattle.power_loss.proofs.Common.{◌≡◌, ℕ, ◌<◌, ◌⊎◌, ◌&&◌, true, List, map, Option, Some, None, slice_get, sym, ap}
use Rattle.power_loss.proofs.Common.{◌∙◌, subst, inl, inr, ⊎_elim, arith, lt-ltb, at_most, and_from, or_left, or_right}
use Rattle.power_loss.proofs.Common.{GroupPage, IsPlace, Nothing, key_of, Spot, place_in, spot_of, below, Entry, Ledger}
use Rattle.power_loss.proofs.Common.{Name, is_name, latest_durable, Mended, Translation, is_live, is_live_cell}
use Rattle.power_loss.proofs.Common.{is_needed, live_places, name_of, stands_there, victim, Key, Place, Tag}
use Rattle.power_loss.proofs.Common.{IsOverwritten, IsPageAt, book, OnePlanRight, StandsIn, Valid}
use Rattle.std.proofs.Common.{nat_lt}
use Rattle.power_loss.proofs.books.PagesByName.{page_one}
use Rattle.power_loss.proofs.collected_blocks.FewestLivePages.{victim_is}
use Rattle.power_loss.proofs.books.LastOfEachKey.{latest_or_overwritten}
use Rattle.power_loss.proofs.ordered_lists.ElementsAndOrders.{IsIn, has_at, in_below, in_map, kept_in}
use Rattle.power_loss.proofs.ordered_steps.MarksAndRepairs.{no_mark}
use Rattle.power_loss.proofs.ordered_steps.PlansAndCopies.{HoldsName, plan_with, stands_holds}
use Rattle.ufs_spec.proofs.Equalities.{place_self}

-- Its live pages

live_as : (l : Ledger) {p : Place} (name : Name) (k : Key) {o : Option Place} → o ≡ Some p → is_needed l name k ≡ true →
    (stands_there p o && is_needed l name k) ≡ true
live_as l {p} name k e h = and_from _ _ (ap (stands_there p) e ∙ place_self p) h

-- a page that stands there is live, where it is needed
live_page : {t : Translation} {n i : ℕ} (e : Entry) {p : Place} → Valid t → IsPageAt (book t) n i e →
    t.ledger.standing n i ≡ Some p → HoldsName t.disk.cells n i p →
    is_needed t.ledger (record { number = n; index = i }) e.item.key ≡ true → is_live t p ≡ true
live_page {t} {n} {i} e {p} v h s holds live = ap (is_live_cell t.ledger p) holds.there
    ∙ live_as t.ledger (name_of holds.tag) (key_of holds.tag)
    (ap (λ (z : Name). t.ledger.standing z.number z.index) name ∙ s) ((λ j. is_needed t.ledger (name j) (key j)) ∙ live)
  where
    name : name_of holds.tag ≡ record { number = n; index = i }
    name = λ k. record { number = holds.number k; index = holds.index k }

    f : Entry
    f = record { item = record { key = key_of holds.tag; body = holds.body }; size = holds.tag.size }

    known : IsPageAt (book t) n i f
    known = subst (λ (z : Name). IsPageAt (book t) z.number z.index f) name
        (v.pages.known p holds.tag holds.body holds.there)

    key : key_of holds.tag ≡ e.item.key
    key = ap (λ (x : Entry). x.item.key) (page_one (book t) n i f e known h)

-- a live page of the block is in the list
in_live_places : {t : Translation} {s : Spot} {p : Place} → Valid t → spot_of p ≡ s →
    (t.disk.cells p ≡ Nothing → ⊥) → is_live t p ≡ true → (j : ℕ) × (slice_get (live_places t s) j ≡ Some p)
in_live_places {t} {s} {p} v inside full live = has_at (live_places t s) p
    (kept_in (is_live t) p (map (place_in s) (below t.numbers.pages))
    (subst (λ (q : Place). IsIn q (map (place_in s) (below t.numbers.pages))) place
    (in_map (place_in s) p.page (below t.numbers.pages) (in_below t.numbers.pages p.page page))) live)
  where
    page : p.page < t.numbers.pages
    page = ⊎_elim
        (λ l. absurd (full (v.pages.within p (λ (is : IsPlace t.numbers p). let u = is.page in omega arith)))) (λ l. l)
        (at_most t.numbers.pages p.page)

    place : place_in s p.page ≡ p
    place = ap (λ (z : Spot). place_in z p.page) (sym inside)

nothing_group : (tag : Tag) (body : List ℕ) → GroupPage tag body ≡ Nothing → ⊥
nothing_group tag body e = cc

-- what stands in a block is overwritten, or is one of its live pages
stands_live : {t : Translation} {s : Spot} {n i : ℕ} {e : Entry} {p : Place} → Valid t → t.work.mending ≡ Mended →
    StandsIn (book t) t.ledger.standing s n i e p →
    IsOverwritten (book t) n e.item.key t.ledger.frontier ⊎ ((j : ℕ) × (slice_get (live_places t s) j ≡ Some p))
stands_live {t} {s} {n} {i} {e} {p} v mended h = ⊎_elim (λ o. inl o) held (stands_holds e v mended h.is h.known h.free)
  where
    name : Name
    name = record { number = n; index = i }

    listed : HoldsName t.disk.cells n i p → is_needed t.ledger name e.item.key ≡ true →
        (j : ℕ) × (slice_get (live_places t s) j ≡ Some p)
    listed holds live = in_live_places v h.inside (λ z. nothing_group holds.tag holds.body (sym holds.there ∙ z))
        (live_page e v h.is h.known holds live)

    held : HoldsName t.disk.cells n i p →
        IsOverwritten (book t) n e.item.key t.ledger.frontier ⊎ ((j : ℕ) × (slice_get (live_places t s) j ≡ Some p))
    held holds = ⊎_elim
        (λ l. ⊎_elim
        (λ live. inr (listed holds
        (or_right (nat_lt t.ledger.frontier n) (is_name name (latest_durable t.ledger e.item.key)) live))) (λ o. inl o)
        (latest_or_overwritten i e v mended h.is h.free l))
        (λ l. inr (listed holds
        (or_left (nat_lt t.ledger.frontier n) (is_name name (latest_durable t.ledger e.item.key))
        (lt-ltb t.ledger.frontier n l)))) (at_most n t.ledger.frontier)

-- a plan is begun with the live pages of its victim
pub victim_plan : {t : Translation} {s : Spot} → Valid t → t.work.step ≡ None → t.work.mending ≡ Mended →
    victim t ≡ Some s → OnePlanRight (book t) t.ledger.frontier t.ledger.standing t.disk.blocks t.disk.flights
    t.work.step (plan_with s (live_places t s))
victim_plan {t} {s} v none mended is = record {
  state = ⊎_elim (λ g. inl g.0) (λ g. inr g.0) (victim_is t s is).can.gain;
  copied = λ n i e p h. ⊎_elim (λ o. inl o) (λ j. inr (inl j)) (stands_live v mended h);
  flown = λ die q m h. absurd (no_mark none v.flights die q m h);
}
