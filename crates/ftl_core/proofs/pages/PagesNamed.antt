-- The pages of pending groups and their names, one beside the other.
use Rattle.ftl_core.proofs.Common.{Entry, IsIn, List, Name, Option, PageKept, PagesKept, Pending, Some, Standing, []}
use Rattle.ftl_core.proofs.Common.{and_from, and_parts, any_here, ap, arith, at_has, drop, eq-eqb, eqb-true, find_some}
use Rattle.ftl_core.proofs.Common.{found_in, has_at, is_named, length, name_at, none-some, position, position_told}
use Rattle.ftl_core.proofs.Common.{refl, same_Some, slice_get, subst, suc, sym, take, true, zero, ℕ, ◌++◌, ◌∙◌, ◌∷◌}
use Rattle.ftl_core.proofs.Common.{◌≡◌}
use Rattle.std.proofs.Common.{find, ◌==◌}
use Rattle.ufs_spec.proofs.Lists.{position_any}
use Rattle.ftl_core.proofs.pages.NamesBehind.{name_is}

-- Position by position

pub same_count : (st : Standing) (en : Name → Option Entry) (ps : List Pending) (names : List Name) →
    PagesKept st en ps names → length ps ≡ length names
same_count st en [] [] h = refl
same_count st en [] (x ∷ names) h = absurd h
same_count st en (p ∷ ps) [] h = absurd h
same_count st en (p ∷ ps) (x ∷ names) h = ap suc (same_count st en ps names h.1)

-- a page has a name
pub pages_get : (st : Standing) (en : Name → Option Entry) (ps : List Pending) (names : List Name) (k : ℕ)
    (p : Pending) → PagesKept st en ps names → slice_get ps k ≡ Some p →
    (name : Name) × (slice_get names k ≡ Some name) × PageKept st en p name
pages_get st en [] names k p h at = absurd (none-some p at)
pages_get st en (q ∷ ps) [] k p h at = absurd h
pages_get st en (q ∷ ps) (x ∷ names) zero p h at = (
  x,
  refl,
  subst (λ (y : Pending). PageKept st en y x)
      (same_Some q p at) h.0,
)
pages_get st en (q ∷ ps) (x ∷ names) (suc k) p h at = pages_get st en ps names k p h.1 at

-- and a name has a page
pub names_get : (st : Standing) (en : Name → Option Entry) (ps : List Pending) (names : List Name) (k : ℕ)
    (name : Name) → PagesKept st en ps names → slice_get names k ≡ Some name →
    (p : Pending) × (slice_get ps k ≡ Some p) × PageKept st en p name
names_get st en [] [] k name h at = absurd (none-some name at)
names_get st en [] (x ∷ names) k name h at = absurd h
names_get st en (p ∷ ps) [] k name h at = absurd h
names_get st en (p ∷ ps) (x ∷ names) zero name h at = (
  p,
  refl,
  subst (λ (y : Name). PageKept st en p y)
      (same_Some x name at) h.0,
)
names_get st en (p ∷ ps) (x ∷ names) (suc k) name h at = names_get st en ps names k name h.1 at

-- pages that are kept under names at the same positions are kept
pub pages_kept : (st : Standing) (en : Name → Option Entry) (ps : List Pending) (names : List Name) →
    length ps ≡ length names →
    ((k : ℕ) (p : Pending) (name : Name) → slice_get ps k ≡ Some p → slice_get names k ≡ Some name →
    PageKept st en p name) → PagesKept st en ps names
pages_kept st en [] [] e each = tt
pages_kept st en [] (x ∷ names) e each = absurd (omega arith)
pages_kept st en (p ∷ ps) [] e each = absurd (omega arith)
pages_kept st en (p ∷ ps) (x ∷ names) e each =
    (each 0 p x refl refl, pages_kept st en ps names (omega arith) (λ k q name h i. each (suc k) q name h i))

-- By name

-- a page that is kept under a name is of its number and index
pub named_true : (st : Standing) (en : Name → Option Entry) (p : Pending) (name : Name) → PageKept st en p name →
    is_named name.number name.index p ≡ true
named_true st en p name h =
    and_from (p.number == name.number) (p.index == name.index) (eq-eqb p.number name.number h.number)
    (eq-eqb p.index name.index h.index)

-- and what is of a number and an index is kept under that name
pub name_told : (st : Standing) (en : Name → Option Entry) (p : Pending) (name : Name) (number index : ℕ) →
    PageKept st en p name → is_named number index p ≡ true → name ≡ name_at number index
name_told st en p name number index h e =
    let r = and_parts (p.number == number) (p.index == index) e in
    name_is name (sym h.number ∙ eqb-true p.number number r.0) (sym h.index ∙ eqb-true p.index index r.1)

-- what stands first under a number and an index is kept under that name
pub found_named : (st : Standing) (en : Name → Option Entry) (ps : List Pending) (names : List Name)
    (number index k : ℕ) → PagesKept st en ps names → position (is_named number index) ps ≡ Some k →
    (p : Pending) × (slice_get ps k ≡ Some p) × (slice_get names k ≡ Some (name_at number index))
    × PageKept st en p (name_at number index)
found_named st en ps names number index k h at =
    let r = position_told (is_named number index) ps k at in
    let m = pages_get st en ps names k r.0 h r.1 in
    let e = name_told st en r.0 m.0 number index m.2 r.2 in
    (r.0, r.1, m.1 ∙ ap Some e, subst (PageKept st en r.0) e m.2)

pub find_named : (st : Standing) (en : Name → Option Entry) (ps : List Pending) (names : List Name)
    (number index : ℕ) (p : Pending) → PagesKept st en ps names → find (is_named number index) ps ≡ Some p →
    IsIn (name_at number index) names × PageKept st en p (name_at number index)
find_named st en ps names number index p h found =
    let r = found_in (is_named number index) ps p found in
    let there = has_at ps p r.0 in
    let m = pages_get st en ps names there.0 p h there.1 in
    let e = name_told st en p m.0 number index m.2 r.1 in
    (at_has names there.0 (name_at number index) (m.1 ∙ ap Some e), subst (PageKept st en p) e m.2)

-- the page with a name's number and index
pub position_named : (st : Standing) (en : Name → Option Entry) (ps : List Pending) (names : List Name) (name : Name) →
    PagesKept st en ps names → IsIn name names →
    (k : ℕ) × (p : Pending) × (position (is_named name.number name.index) ps ≡ Some k) × (slice_get ps k ≡ Some p)
    × (slice_get names k ≡ Some name) × PageKept st en p name
position_named st en ps names name h here =
    let there = has_at names name here in
    let page = names_get st en ps names there.0 name h there.1 in
    let first = position_any (is_named name.number name.index) ps
    (any_here (is_named name.number name.index) ps there.0 page.0 page.1 (named_true st en page.0 name page.2)) in
    let r = found_named st en ps names name.number name.index first.0 h first.2 in
    (first.0, r.0, first.2, r.1, r.2, r.3)

pub page_named : (st : Standing) (en : Name → Option Entry) (ps : List Pending) (names : List Name) (name : Name) →
    PagesKept st en ps names → IsIn name names →
    (p : Pending) × (find (is_named name.number name.index) ps ≡ Some p) × PageKept st en p name
page_named st en ps names name h here =
    let there = has_at names name here in
    let page = names_get st en ps names there.0 name h there.1 in
    let found = find_some (is_named name.number name.index) ps there.0 page.0 page.1
    (named_true st en page.0 name page.2) in
    (found.0, found.1, (find_named st en ps names name.number name.index found.0 h found.1).1)

-- More pages

pub pages_more : (st : Standing) (en : Name → Option Entry) (ps qs : List Pending) (names more : List Name) →
    PagesKept st en ps names → PagesKept st en qs more → PagesKept st en (ps ++ qs) (names ++ more)
pages_more st en [] qs [] more h k = k
pages_more st en [] qs (x ∷ names) more h k = absurd h
pages_more st en (p ∷ ps) qs [] more h k = absurd h
pages_more st en (p ∷ ps) qs (x ∷ names) more h k = (h.0, pages_more st en ps qs names more h.1 k)

-- and apart again
pub pages_apart : (st : Standing) (en : Name → Option Entry) (ps : List Pending) (names more : List Name) →
    PagesKept st en ps (names ++ more) →
    PagesKept st en (take (length names) ps) names × PagesKept st en (drop (length names) ps) more
pages_apart st en ps [] more h = (tt, h)
pages_apart st en [] (x ∷ names) more h = absurd h
pages_apart st en (p ∷ ps) (x ∷ names) more h =
    let r = pages_apart st en ps names more h.1 in ((h.0, r.0), r.1)

-- where the names have the same entries and stand at the same places, the pages are kept as before
pub page_same : (st other : Standing) (en changed : Name → Option Entry) (p : Pending) (name : Name) →
    other name.number name.index ≡ st name.number name.index → changed name ≡ en name → PageKept st en p name →
    PageKept other changed p name
page_same st other en changed p name stands entry h = record {
  number = h.number;
  index = h.index;
  body = h.body;
  entry = entry ∙ h.entry;
  group_page = h.group_page;
  stands = stands ∙ h.stands;
  whole = h.whole;
}

-- where each entry is known still
pub pages_known : (st : Standing) (en changed : Name → Option Entry) (ps : List Pending) (names : List Name) →
    ((name : Name) (e : Entry) → en name ≡ Some e → changed name ≡ Some e) → PagesKept st en ps names →
    PagesKept st changed ps names
pages_known st en changed [] [] known h = tt
pages_known st en changed [] (x ∷ names) known h = absurd h
pages_known st en changed (p ∷ ps) [] known h = absurd h
pages_known st en changed (p ∷ ps) (x ∷ names) known h = (
  record {
    number = h.0.number;
    index = h.0.index;
    body = h.0.body;
    entry = known x (record { item = record { key = p.key; body = h.0.body }; size = p.size }) h.0.entry;
    group_page = h.0.group_page;
    stands = h.0.stands;
    whole = h.0.whole;
  },
  pages_known st en changed ps names known h.1,
)
