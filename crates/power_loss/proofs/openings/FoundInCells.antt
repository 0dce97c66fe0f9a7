-- What an opening finds in cells: the page of each name, the greatest number seen, the lost keys in order, the mending
-- that is due and the state of each block.
use Rattle.ufs_spec.specs.Configs.{marked}
use Rattle.power_loss.proofs.Common.{AreLost, AreWithin, Bad, BlockState, Bool, Cell, Cells, Closed, Entry, Fence}
use Rattle.power_loss.proofs.Common.{Filling, Free, GroupPage, HasName, Holds, IsAtMost, IsEntry, IsFirst}
use Rattle.power_loss.proofs.Common.{IsGreatestSeen, IsMendingAt, IsPlace, Key, List, Mark, MarkPage, Mended, Mending}
use Rattle.power_loss.proofs.Common.{Name, None, Nothing, Numbers, Option, Place, Some, Spot, StandsAt, Tag, Unmarked}
use Rattle.power_loss.proofs.Common.{[], ap, arith, cases_Bool, false, fence_in, inl, inr, is_free, key_of, name_cases}
use Rattle.power_loss.proofs.Common.{name_of, page_not_nothing, refl, spot_of, subst, suc, sym, true, true≢false, ℕ}
use Rattle.power_loss.proofs.Common.{⊎_elim, ◌<◌, ◌∙◌, ◌∷◌, ◌≡◌, ◌≢◌, ◌≤◌, ◌⊎◌}
use Rattle.std.specs.Prelude.{max, if◌then◌else◌}
use Rattle.ufs_laws.proofs.deciding.SearchOverPlaces.{Decided, Greatest, greatest, is_place, some_cell, split}
use Rattle.ufs_laws.proofs.deciding.Connectives.{same_bytes}
use Rattle.ufs_spec.specs.Openings.{IsLost, IsNotHigher}
use Rattle.ufs_spec.specs.Plain.{steps_of}
use Rattle.ufs_spec.specs.Sound.{MarkSuits}
use Rattle.power_loss.proofs.books.PagesByName.{entry_for}
use Rattle.power_loss.proofs.ordered_lists.LowestPlaces.{lowest}
use Rattle.power_loss.proofs.ordered_lists.SortedKeys.{Below, Listed, at_has, collect, has_at, none_listed, one_listed}
use Rattle.power_loss.proofs.ordered_lists.SortedKeys.{ordered_at}

-- Pages by name

is_name : {a : Name} {b : Name} → Decided (a ≡ b)
is_name {a} {b} = ⊎_elim (λ h. inl h.1) (λ h. inr h.1) (name_cases a b)

abbrev pub IsNamed : Name → Cell → Type 0
IsNamed name (GroupPage t body) = name_of t ≡ name
IsNamed name other = ⊥

pub is_named : (name : Name) (x : Cell) → Decided (IsNamed name x)
is_named name (GroupPage t body) = is_name
is_named name x = inr (λ h. h)

pub named_page : {name : Name} (x : Cell) → IsNamed name x → (t : Tag) × (body : List ℕ) × (x ≡ GroupPage t body) ×
    (name_of t ≡ name)
named_page (GroupPage t body) h = (t, body, refl, h)
named_page x h = absurd h

pub has_name : (c : Cells) {name : Name} {p : Place} → HasName c name p → IsNamed name (c p)
has_name c {name} h = subst (IsNamed name) (sym h.2) h.3

module _ (n : Numbers) (c : Cells) (within : AreWithin n c) where
  -- the cells outside of the free blocks
  abbrev outside_free : (Spot → BlockState) → Cells
  outside_free blocks p = if is_free (blocks (spot_of p)) then Nothing else c p

  outside_within : (blocks : Spot → BlockState) → AreWithin n (outside_free blocks)
  outside_within blocks p out = by (is_free (blocks (spot_of p)))
    where
      by : (b : Bool) → (if b then Nothing else c p) ≡ Nothing
      by true = refl
      by false = within p out

  module _ (blocks : Spot → BlockState) (name : Name) where
    named_there : (p : Place) → IsNamed name (c p) → HasName c name p
    named_there p h = named_page (c p) h

    -- a page outside of the free blocks
    named_outside : (p : Place) → IsNamed name (outside_free blocks p) →
        (is_free (blocks (spot_of p)) ≡ false) × IsNamed name (c p)
    named_outside p h = by (is_free (blocks (spot_of p))) refl h
      where
        by : (b : Bool) → is_free (blocks (spot_of p)) ≡ b → IsNamed name (if b then Nothing else c p) →
            (is_free (blocks (spot_of p)) ≡ false) × IsNamed name (c p)
        by true e h = absurd h
        by false e h = (e, h)

    outside_named : (p : Place) → is_free (blocks (spot_of p)) ≡ false → IsNamed name (c p) →
        IsNamed name (outside_free blocks p)
    outside_named p e h = subst (λ b. IsNamed name (if b then Nothing else c p)) (sym e) h

    not_free : {x : BlockState} → is_free x ≡ false → x ≢ Free
    not_free e h = true≢false (sym (ap is_free h) ∙ e)

    free_is : (x : BlockState) → is_free x ≡ true → x ≡ Free
    free_is Free e = refl
    free_is (Filling next) e = cc
    free_is Closed e = cc
    free_is Bad e = cc

    abbrev IsLowestOutside : Place → Type 0
    IsLowestOutside p =
        IsNamed name (outside_free blocks p) ×
        ((q : Place) → IsNamed name (outside_free blocks q) → IsNotHigher p q)

    by_outside : (p : Place) → IsLowestOutside p → StandsAt c blocks name (Some p)
    by_outside p h =
        let o = named_outside p h.0 in (
          named_there p o.1,
          λ q g. ⊎_elim (λ f. inl (not_free o.0, free_is (blocks (spot_of q)) f))
              (λ f. inr (o.0 ∙ sym f, h.1 q (outside_named q f (has_name c g))))
              (cases_Bool (is_free (blocks (spot_of q)))),
        )

    by_any : ((q : Place) → IsNamed name (outside_free blocks q) → ⊥) →
        ((p : Place) × (IsNamed name (c p) × ((q : Place) → IsNamed name (c q) → IsNotHigher p q))) ⊎
        ((p : Place) → IsNamed name (c p) → ⊥) → (o : Option Place) × StandsAt c blocks name o
    by_any none (inl h) =
        let free = λ (q : Place) (g : IsNamed name (c q)). ⊎_elim (λ f. f)
        (λ f. absurd (none q (outside_named q f g))) (cases_Bool (is_free (blocks (spot_of q)))) in (
          Some h.0,
          (
            named_there h.0 h.1.0,
            λ q g. inr (free h.0 h.1.0 ∙ sym (free q (has_name c g)), h.1.1 q (has_name c g)),
          ),
        )
    by_any none (inr nowhere) = (None, λ p h. nowhere p (has_name c h))

    pub stands_at : (o : Option Place) × StandsAt c blocks name o
    stands_at = ⊎_elim (λ h. (Some h.0, by_outside h.0 h.1))
        (λ none. by_any none (lowest n c within (IsNamed name) (is_named name) (λ h. h)))
        (lowest n (outside_free blocks) (outside_within blocks) (IsNamed name) (is_named name) (λ h. h))

  entry_of : (t : Tag) (body : List ℕ) → Entry
  entry_of t body = entry_for t body

  pub is_entry : (name : Name) → (o : Option Entry) × IsEntry c name o
  unfolding entry_of
  is_entry name = ⊎_elim
      (λ h.
      let g = named_page (c h.0) h.1 in
      (Some (entry_of g.0 g.1), (h.0, g.0, g.2, g.3, refl, refl))) (λ no. (None, λ p h. no (p, has_name c h)))
      (some_cell n c within (IsNamed name) (is_named name) (λ h. h))

  -- The name that a key begins with

  pub first_of : (m : Option Mark) (kept : ℕ) (k : Key) (x : List ℕ) → Holds c m (suc kept) k x →
      (o : Option Name) × IsFirst c m kept k o
  first_of m kept k x (inl (p, t, h)) = (Some (name_of t), (p, t, x, h, refl))
  first_of m kept k x (inr (none, e)) = (None, none)

  -- The greatest number seen

  abbrev weight : Cell → ℕ
  weight Nothing = 0
  weight (GroupPage t body) = max t.number t.frontier
  weight (MarkPage m) = m.records

  abbrev last_of : Option Fence → ℕ
  last_of None = 0
  last_of (Some f) = f.last

  left_max : (a b : ℕ) → a ≤ max a b
  left_max a b = grind (arith)

  right_max : (a b : ℕ) → b ≤ max a b
  right_max a b = grind (arith)

  max_low : (a b x : ℕ) → a ≤ x → b ≤ x → max a b ≤ x
  max_low a b x l r = grind (arith)

  fence_low : (f : Option Fence) (x : ℕ) → ((g : Fence) → f ≡ Some g → g.last ≤ x) → last_of f ≤ x
  fence_low None x h = omega arith
  fence_low (Some g) x h = h g refl

  at_most : {m : Option Mark} {x : ℕ} → IsAtMost c m x → (p : Place) (y : Cell) → c p ≡ y → weight y ≤ x
  at_most h p Nothing e = omega arith
  at_most {x = x} h p (GroupPage t body) e =
      max_low t.number t.frontier x (h.numbers p t body e) (h.frontiers p t body e)
  at_most h p (MarkPage o) e = h.marks p o e

  module _ (m : Option Mark) (g : Greatest c weight) where
    top : ℕ
    top = max g.weight (last_of (fence_in m))

    above : (p : Place) (y : Cell) → c p ≡ y → weight y ≤ top
    unfolding top
    above p y e = let a = g.above p in let b = ap weight e in let l = left_max g.weight
        (last_of (fence_in m)) in omega arith

    least : (x : ℕ) → IsAtMost c m x → top ≤ x
    unfolding top
    least x h = max_low g.weight (last_of (fence_in m)) x
        (⊎_elim (λ e. omega arith) (λ r. let l = at_most h r.0 (c r.0) refl in let e = r.1 in omega arith) g.reached)
        (fence_low (fence_in m) x h.fence)

    is_top : IsGreatestSeen c m top
    unfolding top
    is_top = (
      record {
        numbers = λ p t body e. let a = above p
            (GroupPage t body) e in let b = left_max t.number t.frontier in omega arith;
        frontiers = λ p t body e. let a = above p
            (GroupPage t body) e in let b = right_max t.number t.frontier in omega arith;
        marks = λ p o e. above p (MarkPage o) e;
        fence = λ f e. let a = right_max g.weight (last_of (fence_in m)) in let b = (ap last_of (sym e)) in omega arith;
      },
      least,
    )

  pub some_top : (m : Option Mark) → (x : ℕ) × IsGreatestSeen c m x
  some_top m = let g = greatest n c within weight refl in (top m g, is_top m g)

  -- Lost keys

  abbrev LostAt : ℕ → ℕ → Cell → Key → Type 0
  LostAt low last (GroupPage t body) k = (key_of t ≡ k) × (low ≤ t.number) × (t.number ≤ last)
  LostAt low last other k = ⊥

  lost_at : (low last : ℕ) (x : Cell) → Listed (LostAt low last x)
  lost_at low last (GroupPage t body) = ⊎_elim
      (λ l. ⊎_elim (λ u. one_listed (LostAt low last (GroupPage t body)) (refl, l, u) (λ k h. h.0))
      (λ u. none_listed _ (λ k h. let x = h.2 in omega arith)) (split t.number last))
      (λ l. none_listed _ (λ k h. let x = h.1 in omega arith)) (split low t.number)
  lost_at low last x = none_listed _ (λ k h. h)

  abbrev at : ℕ → ℕ → ℕ → Place
  at die block page = record { die = die; block = block; page = page }

  abbrev LostOn : ℕ → ℕ → Key → Type 0
  LostOn low last = Below n.dies
      (λ die. Below n.blocks (λ block. Below n.pages (λ page. LostAt low last (c (at die block page)))))

  lost_on : (low last : ℕ) → Listed (LostOn low last)
  lost_on low last =
      collect (λ die. Below n.blocks (λ block. Below n.pages (λ page. LostAt low last (c (at die block page)))))
      (λ die. collect (λ block. Below n.pages (λ page. LostAt low last (c (at die block page))))
      (λ block. collect (λ page. LostAt low last (c (at die block page)))
      (λ page. lost_at low last (c (at die block page))) n.pages) n.blocks) n.dies

  told_lost : (low last : ℕ) (p : Place) (x : Cell) (k : Key) → c p ≡ x → LostAt low last x k → IsLost c low last k
  told_lost low last p (GroupPage t body) k e h = (p, t, body, e, h.0, h.1, h.2)
  told_lost low last p x k e h = absurd h

  inside : (p : Place) (t : Tag) (body : List ℕ) → c p ≡ GroupPage t body → IsPlace n p
  inside p t body e = ⊎_elim (λ i. i) (λ out. absurd (page_not_nothing _ _ _ refl (sym e ∙ within p out)))
      (is_place n p)

  lost_told : (low last : ℕ) (k : Key) → IsLost c low last k → LostOn low last k
  lost_told low last k h =
      let p : Place = h.0 in
      let i = inside p h.1 h.2 h.3 in
      (p.die, i.die, (p.block, i.block, (p.page, i.page, subst (λ x. LostAt low last x k) (sym h.3) (h.4, h.5, h.6))))

  are_lost : {low last : ℕ} → (keys : List Key) × AreLost c low last keys
  are_lost {low} {last} =
      let l = lost_on low last in (
        l.keys,
        record {
          ordered = ordered_at l.keys l.sorted;
          lost = λ i k e.
              let h = l.only k (at_has l.keys i k e) in
              told_lost low last (at h.0 h.2.0 h.2.2.0) (c (at h.0 h.2.0 h.2.2.0)) k refl h.2.2.2;
          all = λ k h. has_at l.keys k (l.has k (lost_told low last k h));
        },
      )

  -- Mending

  none_or : (f : Option Fence) → (f ≡ None) ⊎ ((g : Fence) × (f ≡ Some g))
  none_or None = inl refl
  none_or (Some g) = inr (g, refl)

  -- whether the newest mark has the numbers of the device
  same_numbers : (mark : Mark) → MarkSuits n mark.numbers → Dec (mark.numbers ≡ marked n)
  same_numbers mark (inl same) = yes same
  same_numbers mark (inr one) = of_one (same_bytes n.rpmb (steps_of n 0 ∷ 0 ∷ 0 ∷ 0 ∷ []))
    where
      of_one : Dec (n.rpmb ≡ steps_of n 0 ∷ 0 ∷ 0 ∷ 0 ∷ []) → Dec (mark.numbers ≡ marked n)
      of_one (yes e) = yes (one ∙ (λ i. record (marked n) { rpmb = sym e i }))
      of_one (no differ) = no (λ same. differ (ap (λ (x : Numbers). x.rpmb) (sym same ∙ one)))

  pub mending_at : (m : Option Mark) (low last : ℕ) → ((f : Fence) → fence_in m ≡ Some f → low ≤ last) →
      ((mark : Mark) → m ≡ Some mark → MarkSuits n mark.numbers) → (w : Mending) × IsMendingAt n c m low last w
  mending_at None low last wide suits =
      let keys = are_lost in
      ⊎_elim
      (λ l. (Unmarked (Some (record { first = low; last = last })) keys.0, ((λ h. h.0), (refl, refl, l), keys.1)))
      (λ l. (Unmarked None keys.0, ((λ h. h.0), (refl, l), keys.1))) (split low last)
  mending_at (Some mark) low last wide suits =
      let keys = are_lost in
      ⊎_elim
      (λ l. (
        Unmarked (Some (record { first = low; last = last })) keys.0,
        ((λ h. let x = h.2 in omega arith), (refl, refl, l), keys.1),
      ))
      (λ l. by (same_numbers mark (suits mark refl)) l) (split low last)
    where
      no_fence : last < low → mark.fence ≡ None
      no_fence l = ⊎_elim (λ e. e) (λ f. absurd (let x = wide f.0 f.1 in omega arith)) (none_or mark.fence)

      by : Dec (mark.numbers ≡ marked n) → last < low → (w : Mending) × IsMendingAt n c (Some mark) low last w
      by (yes same) l = (Mended, (same, no_fence l, l))
      by (no differ) l =
          let keys = are_lost in
          (Unmarked None keys.0, ((λ h. differ h.0), (no_fence l, l), keys.1))
