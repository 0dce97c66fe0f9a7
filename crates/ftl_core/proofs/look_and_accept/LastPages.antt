-- The last page of a key, among the pages that are kept and among those of the ledger's groups.
use Rattle.ftl_core.proofs.Common.{Bool, Entry, IsLastOf, Key, List, Name, None, NoneOf, Option, PageKept, PagesKept}
use Rattle.ftl_core.proofs.Common.{Pending, Some, Translation, Valid, [], ap, arith, at_has, book, cases_Bool, entry_of}
use Rattle.ftl_core.proofs.Common.{false, get_drop, get_or, get_or_from_slice_get, has_at, inl, inr, last_page, length}
use Rattle.ftl_core.proofs.Common.{lt-ltb, name_at, names_after, names_of, none-some, option_and_then, option_map}
use Rattle.ftl_core.proofs.Common.{page_new, position, refl, same_Some, slice_get_within, subst, sym, true, ℕ, ⊎_elim}
use Rattle.ftl_core.proofs.Common.{◌+◌, ◌<◌, ◌∙◌, ◌∷◌, ◌≡◌, ◌≤◌, ◌⊎◌}
use Rattle.std.proofs.Common.{reverse, slice_get, ◌-◌}
use Rattle.std.specs.List.{position_or_len}
use Rattle.std.proofs.lemmas.List.{get_or-reverse, length-reverse}
use Rattle.std.proofs.lemmas.List.Sums.{position_or_len_is}
use Rattle.std.proofs.lemmas.Option.{slice_get-get_or}
use Rattle.ufs_spec.proofs.Facts.{at_most}
use Rattle.ufs_spec.proofs.Lists.{position_cases}
use Rattle.ufs_spec.proofs.Equalities.{key_self, key_told}
use Rattle.ufs_spec.specs.Keys as keys
use Rattle.power_loss.proofs.books.PagesByName.{new_page}
use Rattle.write_cache.specs.Slots.{is_page_of}
use Rattle.ftl_core.proofs.look_and_accept.Numbers.{behind}
use Rattle.ftl_core.proofs.pages.NamesBehind.{get_either, get_name, in_names, name_is, names_differ, names_in}
use Rattle.ftl_core.proofs.pages.PagesNamed.{names_get, pages_get}

-- Lists from behind

get_reverse : {X : Type 0} (xs : List X) (j : ℕ) (x : X) → slice_get (reverse xs) j ≡ Some x →
    (j < length xs) × (slice_get xs (length xs - 1 - j) ≡ Some x)
get_reverse xs j x h =
    let w = slice_get_within (reverse xs) j x h in
    let l : j < length xs = omega (arith, length-reverse xs) in (
      l,
      slice_get-get_or xs (length xs - 1 - j) x (omega arith)
          ∙ ap (λ z. Some z) (sym (get_or-reverse xs j x l) ∙ get_or_from_slice_get (reverse xs) j x x h),
    )

-- the position from behind of the last element that passes
last_position : {X : Type 0} (p : X → Bool) (xs : List X) (a : ℕ) (x : X) → slice_get xs a ≡ Some x → p x ≡ true →
    ((b : ℕ) (y : X) → slice_get xs b ≡ Some y → p y ≡ true → b ≤ a) →
    position p (reverse xs) ≡ Some (length xs - 1 - a)
last_position {X} p xs a x h passes last = let u = inside in rw first
    (rw (lt-ltb (length xs - 1 - a) (length (reverse xs)) (omega (arith, length-reverse xs))) refl)
  where
    inside : a < length xs
    inside = slice_get_within xs a x h

    fails : (k : ℕ) → k < length xs - 1 - a → p (get_or (reverse xs) k x) ≡ false
    fails k l =
        ⊎_elim
        (λ e.
        let u = last (length xs - 1 - k) (get_or xs (length xs - 1 - k) x)
        (slice_get-get_or xs (length xs - 1 - k) x (omega arith))
        (ap p (sym (get_or-reverse xs k x (omega arith))) ∙ e) in
        absurd (omega arith))
        (λ e. e)
        (cases_Bool (p (get_or (reverse xs) k x)))

    first : position_or_len p (reverse xs) ≡ length xs - 1 - a
    first =
        let u = inside in
        position_or_len_is p (reverse xs) (length xs - 1 - a) x (omega (arith, length-reverse xs)) fails
        (λ l. ap p (get_or-reverse xs (length xs - 1 - a) x (omega arith) ∙ ap (λ z. get_or xs z x) (omega arith)
        ∙ get_or_from_slice_get xs a x x h) ∙ passes)

-- the last page of the key, and where there is none
last_is : (k : Key) (ps : List Pending) (a : ℕ) (p : Pending) → slice_get ps a ≡ Some p → is_page_of k p ≡ true →
    ((b : ℕ) (q : Pending) → slice_get ps b ≡ Some q → is_page_of k q ≡ true → b ≤ a) → last_page k ps ≡ Some p
last_is k ps a p is passes last =
    let w = slice_get_within ps a p is in
    ap (λ (o : Option ℕ). option_and_then (slice_get ps) (option_map (λ behind. length ps - 1 - behind) o))
    (last_position (is_page_of k) ps a p is passes last)
    ∙ (ap (slice_get ps) (omega arith) ∙ is)

none_is : (k : Key) (ps : List Pending) →
    ((b : ℕ) (q : Pending) → slice_get ps b ≡ Some q → is_page_of k q ≡ true → ⊥) → last_page k ps ≡ None
none_is k ps none =
    ⊎_elim
    (λ (c : (i : ℕ) × (p : Pending) × (position (is_page_of k) (reverse ps) ≡ Some i) ×
    (slice_get (reverse ps) i ≡ Some p) × (is_page_of k p ≡ true)).
    let r = get_reverse ps c.0 c.1 c.3 in absurd (none (length ps - 1 - c.0) c.1 r.1 c.4))
    (λ c. ap
    (λ (o : Option ℕ). option_and_then (slice_get ps) (option_map (λ behind. length ps - 1 - behind) o)) c.0)
    (position_cases (is_page_of k) (reverse ps))

-- Names in order

-- the numbers of names rise
pub numbers_rise : (n : ℕ) (gs : List keys.Group) (i j : ℕ) (x y : Name) → i ≤ j →
    slice_get (names_after n gs) i ≡ Some x → slice_get (names_after n gs) j ≡ Some y → x.number ≤ y.number
numbers_rise n [] i j x y l h k = absurd (none-some x h)
numbers_rise n (g ∷ gs) i j x y l h k =
    by
    (numbers_rise (n + 1) gs (i - length (names_of (n + 1) g)) (j - length (names_of (n + 1) g)) x y)
    (get_either (names_of (n + 1) g) (names_after (n + 1) gs) i x h)
    (get_either (names_of (n + 1) g) (names_after (n + 1) gs) j y k)
  where
    by : (i - length (names_of (n + 1) g) ≤ j - length (names_of (n + 1) g) →
        slice_get (names_after (n + 1) gs) (i - length (names_of (n + 1) g)) ≡ Some x →
        slice_get (names_after (n + 1) gs) (j - length (names_of (n + 1) g)) ≡ Some y → x.number ≤ y.number) →
        ((i < length (names_of (n + 1) g)) × (slice_get (names_of (n + 1) g) i ≡ Some x))
        ⊎ ((length (names_of (n + 1) g) ≤ i)
        × (slice_get (names_after (n + 1) gs) (i - length (names_of (n + 1) g)) ≡ Some x)) →
        ((j < length (names_of (n + 1) g)) × (slice_get (names_of (n + 1) g) j ≡ Some y))
        ⊎ ((length (names_of (n + 1) g) ≤ j)
        × (slice_get (names_after (n + 1) gs) (j - length (names_of (n + 1) g)) ≡ Some y)) →
        x.number ≤ y.number
    by rest (inl a) (inl b) =
        let u = ap (λ (z : Name). z.number) (get_name (n + 1) i g x a.1).1 in
        let w = ap (λ (z : Name). z.number) (get_name (n + 1) j g y b.1).1 in
        omega (arith, u, w)
    by rest (inl a) (inr b) =
        let u = ap (λ (z : Name). z.number) (get_name (n + 1) i g x a.1).1 in
        let w = (in_names (n + 1) gs y
        (at_has (names_after (n + 1) gs) (j - length (names_of (n + 1) g)) y b.1)).above in
        omega (arith, u, w)
    by rest (inr a) (inl b) = let u = a.0 in let w = b.0 in absurd (omega (arith, u, w, l))
    by rest (inr a) (inr b) = let u = a.0 in let w = b.0 in rest (omega (arith, u, w, l)) a.1 b.1

-- Groups above the frontier

-- a page above the frontier is of one of the groups there
pub group_above : (t : Translation) (name : Name) (e : Entry) → Valid t → t.ledger.frontier < name.number →
    entry_of t.ledger name ≡ Some e →
    (g : keys.Group) × (slice_get (behind t.ledger) (name.number - t.ledger.frontier - 1) ≡ Some g)
    × (slice_get g name.index ≡ Some e.item)
group_above t name e v above is =
    let low = v.frontier.above in
    let p = page_new (book t) name.number (omega (arith, low, above)) is in (
      p.group,
      get_drop t.ledger.groups (t.ledger.frontier - t.ledger.greatest_seen) (name.number - t.ledger.frontier - 1)
          ∙ (ap (slice_get t.ledger.groups)
          (back t.ledger.greatest_seen t.ledger.frontier name.number low above) ∙ p.is),
      p.item,
    )
  where
    back : (top frontier n : ℕ) → top ≤ frontier → frontier < n → frontier - top + (n - frontier - 1) ≡ n - top - 1
    back top frontier n l m = omega arith

-- The last page of a key

-- a page of a group above the frontier that has the key, at its place among the names
pub record IsPendingOf (t : Translation) (k : Key) (at : ℕ) : Type 0 where
  pub name : Name
  pub there : slice_get (names_after t.ledger.frontier (behind t.ledger)) at ≡ Some name
  pub above : t.ledger.frontier < name.number
  pub entry : Entry
  pub is : entry_of t.ledger name ≡ Some entry
  pub key : entry.item.key ≡ k
  pub group : keys.Group
  pub of : slice_get (behind t.ledger) (name.number - t.ledger.frontier - 1) ≡ Some group
  pub has : slice_get group name.index ≡ Some entry.item

module _ (t : Translation) (v : Valid t) (ps : List Pending)
    (kept : PagesKept t.ledger.standing (entry_of t.ledger) ps (names_after t.ledger.frontier (behind t.ledger)))
    (k : Key) where
  -- a kept page of the key is a page of a group of the ledger that has it
  has_key : (b : ℕ) (q : Pending) → slice_get ps b ≡ Some q → is_page_of k q ≡ true → IsPendingOf t k b
  has_key b q at passes =
      let r = pages_get t.ledger.standing (entry_of t.ledger) ps (names_after t.ledger.frontier (behind t.ledger)) b q
      kept at in
      let above = (in_names t.ledger.frontier (behind t.ledger) r.0
      (at_has (names_after t.ledger.frontier (behind t.ledger)) b r.0 r.1)).above in
      let entry : Entry = record { item = record { key = q.key; body = r.2.body }; size = q.size } in
      let g = group_above t r.0 entry v above r.2.entry in
      record {
        name = r.0;
        there = r.1;
        above = above;
        entry = entry;
        is = r.2.entry;
        key = key_told q.key k passes;
        group = g.0;
        of = g.1;
        has = g.2;
      }

  -- the last one of the ledger is the last that is kept
  pub last_kept : (o : Option Name) (l : IsLastOf k t.ledger.frontier (behind t.ledger) o) →
      (p : Pending) × (last_page k ps ≡ Some p) × (p.number ≡ l.name.number) × (p.index ≡ l.name.index)
  last_kept o l = (
    page.0,
    last_is k ps spot.0 page.0 page.1 (subst (λ (z : Key). keys.same_key page.0.key z ≡ true) key (key_self page.0.key))
        last,
    page.2.number,
    page.2.index,
  )
    where
      spot : (a : ℕ) × (slice_get (names_after t.ledger.frontier (behind t.ledger)) a ≡ Some l.name)
      spot =
          let number = l.number in
          let at : l.name.number - t.ledger.frontier - 1 ≡ l.at = omega arith in
          has_at (names_after t.ledger.frontier (behind t.ledger)) l.name
          (names_in t.ledger.frontier (behind t.ledger) l.name
          (record {
            above = omega arith;
            group = l.group;
            is = ap (slice_get (behind t.ledger)) at ∙ l.there;
            index = slice_get_within l.group l.name.index l.item l.has;
          }))

      page : (p : Pending) × (slice_get ps spot.0 ≡ Some p) × PageKept t.ledger.standing (entry_of t.ledger) p l.name
      page = names_get t.ledger.standing (entry_of t.ledger) ps
          (names_after t.ledger.frontier (behind t.ledger)) spot.0 l.name kept spot.1

      -- it has the key
      there : entry_of t.ledger l.name ≡ Some (record { item = l.item; size = length l.group })
      there =
          let number = l.number in
          let low = v.frontier.above in
          let at : t.ledger.frontier - t.ledger.greatest_seen + l.at ≡ l.name.number - t.ledger.greatest_seen - 1 =
          omega arith in
          new_page (book t) l.name.number l.name.index (record { item = l.item; size = length l.group })
          (omega (arith, number, low))
          (record {
            group = l.group;
            is = ap (slice_get t.ledger.groups) (sym at)
                ∙ (sym (get_drop t.ledger.groups (t.ledger.frontier - t.ledger.greatest_seen) l.at) ∙ l.there);
            item = l.has;
            size = refl;
          })

      key : page.0.key ≡ k
      key =
          ap (λ (e : Entry). e.item.key)
          (same_Some (record { item = record { key = page.0.key; body = page.2.body }; size = page.0.size })
          (record { item = l.item; size = length l.group }) (sym page.2.entry ∙ there))
          ∙ l.key

      -- no page of the key is behind it
      last : (b : ℕ) (q : Pending) → slice_get ps b ≡ Some q → is_page_of k q ≡ true → b ≤ spot.0
      last b q at passes = ⊎_elim (λ h. h) (λ h. absurd (later h)) (at_most b spot.0)
        where
          r : IsPendingOf t k b
          r = has_key b q at passes

          later : spot.0 < b → ⊥
          later h =
              let number = l.number in
              let above = r.above in
              let group = l.last (r.name.number - t.ledger.frontier - 1) r.name.index r.group r.entry.item r.of r.has
              r.key in
              let rises = numbers_rise t.ledger.frontier (behind t.ledger) spot.0 b l.name r.name (omega arith) spot.1
              r.there in
              let same : r.name.number ≡ l.name.number = omega arith in
              let index = v.book_right.differ r.name.number r.name.index l.name.index r.entry
              (record { item = l.item; size = length l.group }) r.is
              (subst (λ (n : ℕ). entry_of t.ledger (name_at n l.name.index) ≡
              Some (record { item = l.item; size = length l.group })) (sym same) there)
              (r.key ∙ sym l.key) in
              let one : r.name ≡ l.name = name_is r.name same index in
              let at_one = names_differ t.ledger.frontier (behind t.ledger) spot.0 b l.name spot.1
              (r.there ∙ ap (λ (x : Name). Some x) one) in
              omega (arith, h, at_one)

  -- and where the ledger has none, none is kept
  pub none_kept : NoneOf k (behind t.ledger) → last_page k ps ≡ None
  none_kept none =
      none_is k ps (λ b q at passes.
      let r = has_key b q at passes in
      none (r.name.number - t.ledger.frontier - 1) r.name.index r.group r.entry.item r.of r.has r.key)
