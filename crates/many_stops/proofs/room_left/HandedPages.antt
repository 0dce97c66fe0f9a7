-- Whether a life handed out a page of its host can be told: its accepted groups have only so many pages, and the dies
-- only so many places.
use Rattle.many_stops.proofs.Common.{Bool, Cell, Cells, Entry, Flight, Flights, GroupPage, HasHandedOut, IsIn, List}
use Rattle.many_stops.proofs.Common.{MarkPage, Name, None, Nothing, Option, Place, Programming, Some, Standing}
use Rattle.many_stops.proofs.Common.{Translation, Valid, [], ap, arith, at_most, before_accepted, below, book, false}
use Rattle.many_stops.proofs.Common.{false≢true, inl, inr, length, name_of, name_told, none-some, refl, same_Some}
use Rattle.many_stops.proofs.Common.{subst, suc, sym, true, zero, ℕ, ⊎_elim, ◌+◌, ◌-◌, ◌<◌, ◌∙◌, ◌∷◌, ◌≡◌, ◌≤◌, ◌⊎◌}
use Rattle.std.proofs.Common.{is_some, ◌||◌}
use Rattle.std.specs.Prelude.{slice_get}
use Rattle.std.specs.List.{list_any}
use Rattle.std.proofs.lemmas.Option.{slice_get_within}
use Rattle.ufs_spec.proofs.Equalities.{name_self}
use Rattle.ufs_spec.proofs.Facts.{or_cases, or_left, or_right}
use Rattle.ufs_laws.proofs.deciding.SearchOverPlaces.{Greatest, greatest}
use Rattle.ufs_spec.specs.Keys.{Group}
use Rattle.ufs_spec.specs.Ledger.{accepted_groups, is_standing}
use Rattle.ufs_spec.specs.Translation.{flies_name, names_after, names_of, some_flight}
use Rattle.power_loss.specs.Book.{IsPageAt}
use Rattle.power_loss.proofs.books.FrontierClimbs.{get_drop}
use Rattle.power_loss.proofs.books.PagesByName.{page_new}
use Rattle.power_loss.proofs.collected_blocks.FewestLivePages.{any_in, in_any}
use Rattle.power_loss.proofs.jobs_owed.WhatWaits.{name_of_group}
use Rattle.power_loss.proofs.ordered_lists.ElementsAndOrders.{in_below, in_left, in_map, in_right}
use Rattle.many_stops.specs.RoomOfGroups.{FliesBehind, ShowsBehind, StandsBehind}
use Rattle.many_stops.proofs.room_left.RoomStays.{home_of}

-- Names of accepted groups

-- a page of a group of the list has a name in it
in_names : (n : ℕ) (gs : List Group) (at index : ℕ) {g : Group} → slice_get gs at ≡ Some g → index < length g →
    IsIn (record { number = n + suc at; index = index }) (names_after n gs)
in_names n [] at index {g} is l = absurd (none-some g is)
in_names n (x ∷ xs) zero index {g} is l = in_left (record { number = n + 1; index = index }) (names_of (n + 1) x)
    (names_after (n + 1) xs)
    (in_map (λ i. record { number = n + 1; index = i }) index (below (length x))
    (in_below (length x) index (let e = ap (λ (z : Group). length z) (same_Some x g is) in omega (arith, e, l))))
in_names n (x ∷ xs) (suc at) index is l =
    subst (λ k. IsIn (record { number = k; index = index }) (names_after n (x ∷ xs))) (more n at)
    (in_right (record { number = n + 1 + suc at; index = index }) (names_of (n + 1) x) (names_after (n + 1) xs)
    (in_names (n + 1) xs at index is l))
  where
    more : (n at : ℕ) → n + 1 + suc at ≡ n + suc (suc at)
    more n at = omega arith

-- the names of all pages of accepted groups
abbrev accepted_names : Translation → List Name
accepted_names t = names_after (before_accepted t.ledger) (accepted_groups t.ledger)

accepted_name : (t : Translation) (number index : ℕ) (e : Entry) → before_accepted t.ledger < number →
    IsPageAt (book t) number index e → IsIn (record { number = number; index = index }) (accepted_names t)
accepted_name t number index e behind is =
    let page = page_new (book t) number (above t.ledger.greatest_seen t.ledger.repairs number behind) is in
    let place = at_place t.ledger.greatest_seen t.ledger.repairs number behind in
    subst (λ k. IsIn (record { number = k; index = index }) (accepted_names t)) (number_is _ _ behind)
    (in_names (before_accepted t.ledger) (accepted_groups t.ledger) (number - before_accepted t.ledger - 1) index
    (get_drop t.ledger.groups t.ledger.repairs (number - before_accepted t.ledger - 1)
    ∙ ap (slice_get t.ledger.groups) place ∙ page.is)
    (slice_get_within page.group index e.item page.item))
  where
    above : (top repairs number : ℕ) → top + repairs < number → top < number
    above top repairs number l = omega (arith, l)

    at_place : (top repairs number : ℕ) → top + repairs < number →
        repairs + (number - (top + repairs) - 1) ≡ number - top - 1
    at_place top repairs number l = omega (arith, l)

    number_is : (before number : ℕ) → before < number → before + suc (number - before - 1) ≡ number
    number_is before number l = omega (arith, l)

-- Whether a page was handed out

abbrev was_handed : Translation → Name → Bool
was_handed t name = is_standing t.ledger name.number name.index || some_flight t (flies_name name)

stands_somewhere : (n i before : ℕ) (standing : Standing) (o : Option Place) → standing n i ≡ o →
    is_some o ≡ true → before < n → StandsBehind before standing
stands_somewhere n i before standing None e h behind = absurd (false≢true h)
stands_somewhere n i before standing (Some p) e h behind =
    record { number = n; index = i; place = p; behind = behind; stands = e }

flies_somewhere : {before : ℕ} {flights : Flights} (name : Name) (die : ℕ) (o : Option Flight) → flights die ≡ o →
    flies_name name o ≡ true → before < name.number → FliesBehind before flights
flies_somewhere name die (Some (Programming p (GroupPage tag body))) e h behind = record {
  die = die;
  place = p;
  tag = tag;
  body = body;
  behind = let same = ap (λ (z : Name). z.number) (name_told name (name_of tag) h) in omega (arith, same, behind);
  flies = e;
}
flies_somewhere name die o e h behind = absurd (false≢true h)

some_handed : (t : Translation) (name : Name) → IsIn name (accepted_names t) → was_handed t name ≡ true →
    HasHandedOut t
some_handed t name i h =
    let k = name_of_group (before_accepted t.ledger) (accepted_groups t.ledger) name i in
    let behind = later _ _ _ k.number in
    ⊎_elim (λ s. inl (stands_somewhere name.number name.index (before_accepted t.ledger) t.ledger.standing
    (t.ledger.standing name.number name.index) refl s behind))
    (λ f.
    let d = any_in (λ die. flies_name name (t.disk.flights die)) (below t.numbers.dies) f in
    inr (inl (flies_somewhere name d.0 (t.disk.flights d.0) refl d.2 behind)))
    (or_cases (is_standing t.ledger name.number name.index) (some_flight t (flies_name name)) h)
  where
    later : (n before at : ℕ) → n ≡ before + suc at → before < n
    later n before at e = omega (arith, e)

handed_shows : (t : Translation) → Valid t → StandsBehind (before_accepted t.ledger) t.ledger.standing
    ⊎ FliesBehind (before_accepted t.ledger) t.disk.flights → list_any (was_handed t) (accepted_names t) ≡ true
handed_shows t v (inl s) =
    let known = v.frontier.known s.number s.index s.place s.stands in
    let name : Name = record { number = s.number; index = s.index } in
    in_any (was_handed t) name (accepted_names t) (accepted_name t s.number s.index known.0 s.behind known.1)
    (or_left (is_standing t.ledger s.number s.index) (some_flight t (flies_name name)) (ap is_some s.stands))
handed_shows t v (inr f) =
    let name = name_of f.tag in
    in_any (was_handed t) name (accepted_names t)
    (accepted_name t f.tag.number f.tag.index _ f.behind (v.flights.known f.die f.place f.tag f.body f.flies))
    (or_right (is_standing t.ledger f.tag.number f.tag.index) (some_flight t (flies_name name))
    (in_any (λ die. flies_name name (t.disk.flights die)) f.die (below t.numbers.dies)
    (in_below t.numbers.dies f.die (home_of v f.die f.flies)) (ap (flies_name name) f.flies ∙ name_self name)))

-- Whether a page is there

abbrev number_in : Cell → ℕ
number_in (GroupPage tag body) = tag.number
number_in cell = 0

shown_at : (before : ℕ) (cells : Cells) (p : Place) (cell : Cell) → cells p ≡ cell → before < number_in cell →
    ShowsBehind before cells
shown_at before cells p Nothing e behind = absurd (omega (arith, behind))
shown_at before cells p (MarkPage m) e behind = absurd (omega (arith, behind))
shown_at before cells p (GroupPage tag body) e behind =
    record { place = p; tag = tag; body = body; behind = behind; there = e }

shows_or_not : (t : Translation) → Valid t → ShowsBehind (before_accepted t.ledger) t.disk.cells
    ⊎ (ShowsBehind (before_accepted t.ledger) t.disk.cells → ⊥)
shows_or_not t v = ⊎_elim (λ low. inr (λ c. none low c))
    (λ high. ⊎_elim (λ e. absurd (omega (arith, e, high)))
    (λ (r : (p : Place) × (number_in (t.disk.cells p) ≡ top.weight)).
    inl (shown_at (before_accepted t.ledger) t.disk.cells r.0 (t.disk.cells r.0) refl
    (let e = r.1 in omega (arith, e, high)))) top.reached)
    (at_most top.weight (before_accepted t.ledger))
  where
    top : Greatest t.disk.cells number_in
    top = greatest t.numbers t.disk.cells v.pages.within number_in refl

    none : top.weight ≤ before_accepted t.ledger → ShowsBehind (before_accepted t.ledger) t.disk.cells → ⊥
    none low c =
        let a = top.above c.place in
        let e = ap number_in c.there in
        let b = c.behind in
        omega (arith, low, a, e, b)

pub handed_or_not : (t : Translation) → Valid t → HasHandedOut t ⊎ (HasHandedOut t → ⊥)
handed_or_not t v = by (list_any (was_handed t) (accepted_names t)) refl (shows_or_not t v)
  where
    by : (b : Bool) → list_any (was_handed t) (accepted_names t) ≡ b →
        ShowsBehind (before_accepted t.ledger) t.disk.cells ⊎ (ShowsBehind (before_accepted t.ledger) t.disk.cells → ⊥) →
        HasHandedOut t ⊎ (HasHandedOut t → ⊥)
    by true e shown = let n = any_in (was_handed t) (accepted_names t) e in inl (some_handed t n.0 n.1 n.2)
    by false e (inl c) = inl (inr (inr c))
    by false e (inr none) = inr (λ h. ⊎_elim (λ s. false≢true (sym e ∙ handed_shows t v (inl s)))
        (λ k. ⊎_elim (λ f. false≢true (sym e ∙ handed_shows t v (inr f))) none k) h)
