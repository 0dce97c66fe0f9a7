-- The newest pages, page by page.
use Rattle.std.proofs.Common.{◌≡◌, ◌∙◌, ◌&&◌, ◌==◌, ℕ, ◌≤◌, true, false, List, Option, Some, None}
use Rattle.std.proofs.Common.{⊎_elim, refl, sym, ap, subst, arith, nat_lt, eq-eqb}
use Rattle.std.proofs.lemmas.Map.Lookups.{exact_pairs, exact_unsigned}
use Rattle.std.specs.Ordering.{is_eq, nat_cmp, ordering_then}
use Rattle.std.specs.declared.cmp.Ordering.{Ordering}
use Rattle.std.specs.declared.cmp.Ordering.TheVariants.{Equal, Greater, Less}
use Rattle.ufs_spec.specs.Cells.{Cell, Cells, GroupPage, MarkPage, Nothing}
use Rattle.ufs_spec.specs.Disk.{at_place}
use Rattle.ufs_spec.specs.declared.flash.Place.{Place}
use Rattle.ufs_spec.specs.declared.flash.Tag.{Tag}
use Rattle.ufs_spec.proofs.CellKinds.{one_page, page_not_mark, page_not_nothing}
use Rattle.ufs_spec.proofs.Facts.{and_cases, and_parts, cases_Bool, cond-false, cond-true, le-ltb, ltb-false, ltb-true}
use Rattle.ufs_spec.proofs.Facts.{true_from_ne_false, true≢false}
use Rattle.ufs_spec.proofs.Updates.{at_place_is}
use Rattle.die_map.specs.Surveys.{Address, ArePagesFound, IsPageFound, address_cmp, address_of, is_fenced}
use Rattle.die_map.specs.Surveys.{is_newer_page, pages_after, same_address, with_page}
use Rattle.die_map.specs.declared.survey.FoundMark.{FoundMark}
use Rattle.die_map.specs.declared.survey.Written.{Written}
use Rattle.die_map.proofs.MarkFacts.{here, stays}

-- ## Addresses

equal_is : (r : Ordering) → is_eq r ≡ true → r ≡ Equal
equal_is Less e = cc
equal_is Equal e = refl
equal_is Greater e = cc

-- addresses that compare alike are one
one_address : (a b : Address) → same_address a b ≡ true → a ≡ b
one_address a b e =
    let told =
    exact_pairs (λ (x y : ℕ × ℕ). ordering_then (nat_cmp x.0 y.0) (nat_cmp x.1 y.1)) nat_cmp
    (exact_pairs nat_cmp nat_cmp exact_unsigned exact_unsigned) exact_unsigned ((a.0, a.1), a.2) ((b.0, b.1), b.2)
    (equal_is (address_cmp a b) e) in
    λ i. ((told i).0.0, (told i).0.1, (told i).1)

nat_same : (x : ℕ) → nat_cmp x x ≡ Equal
nat_same x =
    cond-false (nat_lt x x) Less _ (le-ltb x x (omega arith)) ∙ cond-true (x == x) Equal Greater (eq-eqb x x refl)

own_address : (a : Address) → same_address a a ≡ true
own_address a =
    ap (λ (r : Ordering). is_eq (ordering_then (ordering_then r (nat_cmp a.1 a.1)) (nat_cmp a.2 a.2))) (nat_same a.0)
    ∙ ap (λ (r : Ordering). is_eq (ordering_then r (nat_cmp a.2 a.2))) (nat_same a.1)
    ∙ ap is_eq (nat_same a.2)

-- ## One page more, at a place where nothing stood

-- a page with this number is not newer than the known one
abbrev Reaches : Option Written → ℕ → Type 0
Reaches None number = ⊥
Reaches (Some w) number = number ≤ w.number

-- a page with this number is not older than the known one
abbrev Passes : Option Written → ℕ → Type 0
Passes None number = Unit {0}
Passes (Some w) number = w.number ≤ number

newer_passes : (w : Option Written) (number : ℕ) → is_newer_page w number ≡ true → Passes w number
newer_passes None number e = tt
newer_passes (Some w) number e = let less = ltb-true w.number number e in omega (arith, less)

other_reaches : (w : Option Written) (number : ℕ) → is_newer_page w number ≡ false → Reaches w number
other_reaches None number e = absurd (true≢false e)
other_reaches (Some w) number e = ltb-false w.number number e

module _ (s : Cells) (p : Place) (x : Cell) (empty : s p ≡ Nothing) (mark : Option FoundMark) (a : Address) where
  abbrev after : Cells
  after = at_place s p x

  -- the known page stays the newest one, if it reaches the new one
  pub page_keeps : (w : Option Written)
      → ((u : Tag) (b : List ℕ) → x ≡ GroupPage u b → address_of u ≡ a → is_fenced mark u.number ≡ false
      → Reaches w u.number)
      → IsPageFound s mark a w → IsPageFound after mark a w
  page_keeps None reaches none = λ q u b h e.
      ⊎_elim (λ at. true_from_ne_false _ (λ free. reaches u b at.1 e free)) (λ apart. none q u b apart.1 e)
      (at_place_is s p x q (GroupPage u b) h)
  page_keeps (Some w) reaches ((t, body, at, of, number, free), most) = (
    (
      t,
      body,
      stays s p x empty w.place (GroupPage t body) (page_not_nothing (GroupPage t body) t body refl) at,
      of,
      number,
      free,
    ),
    λ q u b h e f.
        ⊎_elim (λ now. reaches u b now.1 e f) (λ apart. most q u b apart.1 e f)
        (at_place_is s p x q (GroupPage u b) h),
  )

module _ (s : Cells) (p : Place) (t : Tag) (body : List ℕ) (empty : s p ≡ Nothing) (mark : Option FoundMark)
    (a : Address) (of : address_of t ≡ a) (free : is_fenced mark t.number ≡ false) where
  abbrev written : Cells
  written = at_place s p (GroupPage t body)

  -- no page that was known is newer
  below : (w : Option Written) → Passes w t.number → IsPageFound s mark a w → (q : Place) (u : Tag) (b : List ℕ)
      → s q ≡ GroupPage u b → address_of u ≡ a → is_fenced mark u.number ≡ false → u.number ≤ t.number
  below None pass none q u b h e f = absurd (true≢false (sym (none q u b h e) ∙ f))
  below (Some w) pass (there, most) q u b h e f = let low = most q u b h e f in omega (arith, low, pass)

  -- the new page is the newest one
  pub page_new : (w : Option Written) → Passes w t.number → IsPageFound s mark a w
      → IsPageFound written mark a (Some (record { number = t.number; place = p }))
  page_new w pass known = (
    (t, body, here s p (GroupPage t body) empty, of, refl, free),
    λ q u b h e f.
        ⊎_elim
        (λ now.
        let same : t ≡ u = (one_page t u body b now.1).0 in
        let number = ap (λ (v : Tag). v.number) same in
        omega (arith, number))
        (λ apart. below w pass known q u b apart.1 e f) (at_place_is s p (GroupPage t body) q (GroupPage u b) h),
  )

-- whatever the page is
pub page_step : (s : Cells) (p : Place) (x : Cell) (mark : Option FoundMark) (found : Address → Option Written)
    → s p ≡ Nothing → ArePagesFound s mark found
    → ArePagesFound (at_place s p x) mark (pages_after p x mark found)
page_step s p Nothing mark found empty r = λ a.
    page_keeps s p Nothing empty mark a (found a)
    (λ u b e. absurd (page_not_nothing Nothing u b e refl)) (r a)
page_step s p (MarkPage m) mark found empty r = λ a.
    page_keeps s p (MarkPage m) empty mark a (found a)
    (λ u b e. absurd (page_not_mark (MarkPage m) u b m e refl)) (r a)
page_step s p (GroupPage t body) mark found empty r = λ a.
    ⊎_elim (λ (covered : is_fenced mark t.number ≡ true). fenced a covered)
    (λ (free : is_fenced mark t.number ≡ false). counts a free) (cases_Bool (is_fenced mark t.number))
  where
    -- the known page of an address stays, if the new page is fenced, of another address or not newer
    keeps : (a : Address) → (address_of t ≡ a → is_fenced mark t.number ≡ false → Reaches (found a) t.number)
        → IsPageFound (at_place s p (GroupPage t body)) mark a (found a)
    keeps a reaches =
        page_keeps s p (GroupPage t body) empty mark a (found a)
        (λ u b e.
        let same : t ≡ u = (one_page t u body b e).0 in
        subst (λ (v : Tag). address_of v ≡ a → is_fenced mark v.number ≡ false → Reaches (found a) v.number) same
        reaches) (r a)

    fenced : (a : Address) → is_fenced mark t.number ≡ true
        → IsPageFound (at_place s p (GroupPage t body)) mark a (pages_after p (GroupPage t body) mark found a)
    fenced a covered =
        subst (IsPageFound (at_place s p (GroupPage t body)) mark a)
        (sym (cond-true (is_fenced mark t.number) (found a) (with_page p t found a) covered))
        (keeps a (λ e f. absurd (true≢false (sym covered ∙ f))))

    noted : (a : Address) → is_fenced mark t.number ≡ false
        → IsPageFound (at_place s p (GroupPage t body)) mark a (with_page p t found a)
    noted a free =
        ⊎_elim
        (λ (takes : (same_address (address_of t) a && is_newer_page (found (address_of t)) t.number) ≡ true).
        let both = and_parts (same_address (address_of t) a) (is_newer_page (found (address_of t)) t.number) takes in
        let one = one_address (address_of t) a both.0 in
        subst (IsPageFound (at_place s p (GroupPage t body)) mark a)
        (sym (cond-true _ (Some (record { number = t.number; place = p })) (found a) takes))
        (page_new s p t body empty mark a one free (found a)
        (newer_passes (found a) t.number
        (subst (λ (b : Address). is_newer_page (found b) t.number ≡ true) one both.1)) (r a)))
        (λ (leaves : (same_address (address_of t) a && is_newer_page (found (address_of t)) t.number) ≡ false).
        subst (IsPageFound (at_place s p (GroupPage t body)) mark a)
        (sym (cond-false _ (Some (record { number = t.number; place = p })) (found a) leaves))
        (keeps a (λ e f. reached a e leaves)))
        (cases_Bool (same_address (address_of t) a && is_newer_page (found (address_of t)) t.number))
      where
        reached : (a : Address) → address_of t ≡ a
            → (same_address (address_of t) a && is_newer_page (found (address_of t)) t.number) ≡ false
            → Reaches (found a) t.number
        reached a e leaves =
            let own : same_address (address_of t) a ≡ true =
            subst (λ (b : Address). same_address (address_of t) b ≡ true) e (own_address (address_of t)) in
            let older : is_newer_page (found (address_of t)) t.number ≡ false =
            ⊎_elim (λ (apart : same_address (address_of t) a ≡ false). absurd (true≢false (sym own ∙ apart)))
            (λ (old : is_newer_page (found (address_of t)) t.number ≡ false). old)
            (and_cases (same_address (address_of t) a) (is_newer_page (found (address_of t)) t.number) leaves) in
            subst (λ (b : Address). Reaches (found b) t.number) e
            (other_reaches (found (address_of t)) t.number older)

    counts : (a : Address) → is_fenced mark t.number ≡ false
        → IsPageFound (at_place s p (GroupPage t body)) mark a (pages_after p (GroupPage t body) mark found a)
    counts a free =
        subst (IsPageFound (at_place s p (GroupPage t body)) mark a)
        (sym (cond-false (is_fenced mark t.number) (found a) (with_page p t found a) free)) (noted a free)
