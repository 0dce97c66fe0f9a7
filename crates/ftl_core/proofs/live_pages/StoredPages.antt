-- Where the durable content of a key stands there is a page of this key, and so is where a pending page is written.
use Rattle.ftl_core.proofs.Common.{Cells, Core, Entry, FirstRight, Group, GroupPage, HasKey, IsKey, IsLastOf, IsPageAt}
use Rattle.ftl_core.proofs.Common.{Kept, Key, List, Name, NoneOf, Nothing, Numbers, Option, PageKept, Pending, Place}
use Rattle.ftl_core.proofs.Common.{Some, Stored, Tag, Translation, Valid, ap, arith, at_has, book, cases_Bool, entry_of}
use Rattle.ftl_core.proofs.Common.{false≢true, has_page, is_mended, key_of, latest_cases, latest_durable, length}
use Rattle.ftl_core.proofs.Common.{name_is, name_of, names_pending, page_not_nothing, page_within, pending, refl}
use Rattle.ftl_core.proofs.Common.{same_Some, shape_of_numbers, sizes_of, slice_get, stored_of, subst, sym, take, true}
use Rattle.ftl_core.proofs.Common.{ℕ, ⊎_elim, ◌-◌, ◌<◌, ◌∙◌, ◌≡◌, ◌≤◌}
use Rattle.ufs_spec.proofs.Facts.{lt-ltb}
use Rattle.ufs_spec.proofs.Lists.{get_take}
use Rattle.ufs_spec.specs.Cells.{IsPlace}
use Rattle.power_loss.proofs.kept_pages.UnmendedPages.{new_secure, unmended_secure}
use Rattle.power_loss.proofs.books.LayerParts.{SecureOf}
use Rattle.power_loss.proofs.books.PagesByName.{old_page}
use Rattle.power_loss.proofs.kept_pages.LookedUpPages.{last_page, latest_right, latest_secure, secure_page}
use Rattle.power_loss.proofs.kept_pages.LookedUpPages.{settled_mended}
use Rattle.ftl_core.proofs.live_pages.DurableLive.{IsNew, IsWrittenRight}
use Rattle.ftl_core.proofs.live_pages.NotedLive.{AreOwned, IsPageOf, key_stored, same_tag}
use Rattle.ftl_core.proofs.pages.NamesBehind.{in_names, names_differ}
use Rattle.ftl_core.proofs.pages.PagesNamed.{pages_get}
use Rattle.ftl_core.proofs.pages.StoredNames.{AreAlike, stored_there}

-- Places

pub place_inside : (n : Numbers) (p : Place) → IsPlace n p → has_page (sizes_of n) p ≡ true
place_inside n p h =
    rw (lt-ltb p.die n.dies h.die) (rw (lt-ltb p.block n.blocks h.block) (lt-ltb p.page n.pages h.page))

page_inside : (n : Numbers) (cells : Cells) (p : Place) (tag : Tag) (body : List ℕ) →
    ((q : Place) → (IsPlace n q → ⊥) → cells q ≡ Nothing) → cells p ≡ GroupPage tag body →
    has_page (sizes_of n) p ≡ true
page_inside n cells p tag body within there = ⊎_elim (λ h. h)
    (λ h. absurd (page_not_nothing (cells p) tag body there
    (within p (λ i. false≢true (sym h ∙ place_inside n p i)))))
    (cases_Bool (has_page (sizes_of n) p))

-- The page of a key at the frontier

-- it is of the key
pub durable_entry : (t : Translation) (k : Key) (name : Name) → Valid t → HasKey (book t) k →
    latest_durable t.ledger k ≡ Some name →
    (e : Entry) × IsPageAt (book t) name.number name.index e × (e.item.key ≡ k) × (name.number ≤ t.ledger.frontier)
durable_entry t k name v has e = ⊎_elim
    (λ (l : IsLastOf k t.ledger.greatest_seen groups (latest_durable t.ledger k)).
    let there = get_take (t.ledger.frontier - t.ledger.greatest_seen) t.ledger.groups l.at l.group l.there in
    let entry : Entry = record { item = l.item; size = length l.group } in (
      entry,
      subst (λ (z : Name). IsPageAt (book t) z.number z.index entry) (same_Some l.name name (sym l.is ∙ e))
          (last_page (book t) k groups (latest_durable t.ledger k) l there.1),
      l.key,
      (let same = ap (λ (z : Name). z.number) (same_Some l.name name (sym l.is ∙ e)) in
          let number = l.number in let less = there.0 in omega (arith, same, number, less)),
    ))
    (λ (r : (latest_durable t.ledger k ≡ t.ledger.first_page k) × NoneOf k groups).
    let first = subst (FirstRight (book t) k) (sym r.0 ∙ e) (v.book_right.first_page k has) in (
      first.0,
      old_page (book t) name.number name.index
          (v.book_right.old_within name.number name.index first.0 first.1) first.1,
      first.2,
      (let old = v.book_right.old_within name.number name.index first.0 first.1 in let low = v.frontier.above in
          omega (arith, old, low)),
    ))
    (latest_cases k t.ledger.greatest_seen groups (t.ledger.first_page k))
  where
    groups : List Group
    groups = take (t.ledger.frontier - t.ledger.greatest_seen) t.ledger.groups

-- and no erase is near it
durable_secure : (t : Translation) (k : Key) (name : Name) (p : Place) → Valid t → HasKey (book t) k →
    latest_durable t.ledger k ≡ Some name → t.ledger.standing name.number name.index ≡ Some p →
    SecureOf t name.number name.index
durable_secure t k name p v has e known = ⊎_elim
    (λ m.
    let s = settled_mended t t.work.mending m v.mending in
    latest_secure t k v s (latest_right t k name v s.0 has e) known)
    (λ un. unmended_secure k (take (t.ledger.frontier - t.ledger.greatest_seen) t.ledger.groups)
    (latest_durable t.ledger k) name v un has refl e known)
    (cases_Bool (is_mended t.work.mending))

-- A page above the frontier that stands

above_secure : (t : Translation) (name : Name) (e : Entry) (p : Place) → Valid t →
    IsPageAt (book t) name.number name.index e → t.ledger.frontier < name.number →
    t.ledger.standing name.number name.index ≡ Some p → SecureOf t name.number name.index
above_secure t name e p v is above known = ⊎_elim
    (λ m.
    let s = settled_mended t t.work.mending m v.mending in
    ⊎_elim (λ h. h)
    (λ o.
    let newer = o.by.newer in
    let within = o.by.within in
    let last = page_within (book t) name.number name.index e is in
    ⊎_elim (λ l. absurd (omega (arith, newer, within, above, l))) (λ l. absurd (omega (arith, last, above, l))) s.1)
    (v.safe.safe name.number name.index e p is known
    (λ lost. let to = lost.to in let seen = v.frontier.above in omega (arith, to, seen, above))))
    (λ un. new_secure name.number name.index v un (let seen = v.frontier.above in omega (arith, seen, above)) known)
    (cases_Bool (is_mended t.work.mending))

-- the page there is of the key, stands under its name, and has the key's content at the frontier
pub record IsNamedPage (t : Translation) (k : Key) (p : Place) : Type 0 where
  pub tag : Tag
  pub body : List ℕ
  pub there : t.disk.cells p ≡ GroupPage tag body
  pub key : key_of tag ≡ k
  pub latest : latest_durable t.ledger k ≡ Some (name_of tag)
  pub stands : t.ledger.standing tag.number tag.index ≡ Some p

-- or its group is above the frontier
pub record IsPageAbove (t : Translation) (p : Place) : Type 0 where
  pub tag : Tag
  pub body : List ℕ
  pub there : t.disk.cells p ≡ GroupPage tag body
  pub above : t.ledger.frontier < tag.number
  pub stands : t.ledger.standing tag.number tag.index ≡ Some p

-- What stands securely is a page of its key

module _ (c : Core) (t : Translation) (v : Valid t) (h : Kept c t) where
  secure_owned : (name : Name) (e : Entry) (k : Key) (p : Place) → SecureOf t name.number name.index →
      t.ledger.standing name.number name.index ≡ Some p → IsPageAt (book t) name.number name.index e →
      e.item.key ≡ k → IsPageOf c.numbers t.disk.cells k name.number p
  secure_owned name e k p secure known is key =
      let page = secure_page {name = name} known secure in
      let told = v.pages.known p page.tag page.body page.there in
      let named : IsPageAt (book t) (name_of page.tag).number (name_of page.tag).index e =
      subst (λ (z : Name). IsPageAt (book t) z.number z.index e) (sym page.is) is in
      record {
        tag = page.tag;
        body = page.body;
        there = page.there;
        key = ap (λ (z : Entry). z.item.key) (same_Some _ e (sym told ∙ named)) ∙ key;
        number_is = ap (λ (z : Name). z.number) page.is;
        inside = ap (λ (n : Numbers). has_page (sizes_of n) p) h.numbers
            ∙ page_inside t.numbers t.disk.cells p page.tag page.body v.pages.within page.there;
      }

  -- what is stored of a key is its page at the frontier, which stands
  module _ (k : Key) (s : Stored) (e : stored_of c k ≡ Some s) where
    device_has : HasKey (book t) k
    device_has = subst (λ (n : Numbers). IsKey (shape_of_numbers n) k) h.numbers (key_stored c.numbers c.places k s e)

    frontier_page : (latest_durable t.ledger k ≡ Some s.name)
        × (t.ledger.standing s.name.number s.name.index ≡ Some s.place)
    frontier_page = stored_there t.ledger.standing s (latest_durable t.ledger k)
        (subst (λ (o : Option Stored). AreAlike t.ledger.standing o (latest_durable t.ledger k)) e
        (h.ledger_kept.places k (key_stored c.numbers c.places k s e)))

    frontier_entry : (e : Entry) × IsPageAt (book t) s.name.number s.name.index e × (e.item.key ≡ k)
        × (s.name.number ≤ t.ledger.frontier)
    frontier_entry = durable_entry t k s.name v device_has frontier_page.0

  pub stored_owned : AreOwned t.disk.cells c
  stored_owned k s e =
      let r = frontier_page k s e in
      let x = frontier_entry k s e in
      secure_owned s.name x.0 k s.place (durable_secure t k s.name s.place v (device_has k s e) r.0 r.1) r.1 x.1 x.2

  pub stored_named : (k : Key) (s : Stored) → stored_of c k ≡ Some s → IsNamedPage t k s.place
  stored_named k s e =
      let r = frontier_page k s e in
      let page = secure_page {name = s.name} r.1 (durable_secure t k s.name s.place v (device_has k s e) r.0 r.1) in
      let owned = stored_owned k s e in
      record {
        tag = page.tag;
        body = page.body;
        there = page.there;
        key = ap key_of (same_tag page.tag owned.tag page.body owned.body (sym page.there ∙ owned.there)) ∙ owned.key;
        latest = r.0 ∙ ap (λ (z : Name). Some z) (sym page.is);
        stands = subst (λ (z : Name). t.ledger.standing z.number z.index ≡ Some s.place) (sym page.is) r.1;
      }

  pub pending_right : (j : ℕ) (p : Pending) → slice_get c.pages j ≡ Some p →
      IsWrittenRight c.numbers t.disk.cells p
  pending_right j p at place written =
      let r = pages_get t.ledger.standing (entry_of t.ledger) c.pages (names_pending t.ledger) j p
      h.ledger_kept.pages at in
      let name = r.0 in
      let kept = r.2 in
      let above = (in_names t.ledger.frontier (pending t.ledger) name
      (at_has (names_pending t.ledger) j name r.1)).above in
      let stands = kept.stands ∙ written in
      let entry : Entry = record { item = record { key = p.key; body = kept.body }; size = p.size } in (
        subst (λ (n : Numbers). IsKey (shape_of_numbers n) p.key) (sym h.numbers)
            (v.book_right.keys name.number name.index entry kept.entry),
        subst (λ (n : ℕ). IsPageOf c.numbers t.disk.cells p.key n place) (sym kept.number)
            (secure_owned name entry p.key place (above_secure t name entry place v kept.entry above stands) stands
            kept.entry refl),
      )

  -- What is pending is new

  pub pending_new : (j : ℕ) (p : Pending) → slice_get c.pages j ≡ Some p → IsNew c.numbers c.places p
  pending_new j p at s e same =
      let low = (frontier_entry p.key s e).3 in
      let up = above in
      let number = r.2.number in
      omega (arith, low, up, number, same)
    where
      r : (name : Name) × (slice_get (names_pending t.ledger) j ≡ Some name)
          × PageKept t.ledger.standing (entry_of t.ledger) p name
      r = pages_get t.ledger.standing (entry_of t.ledger) c.pages (names_pending t.ledger) j p h.ledger_kept.pages at

      above : t.ledger.frontier < r.0.number
      above = (in_names t.ledger.frontier (pending t.ledger) r.0 (at_has (names_pending t.ledger) j r.0 r.1)).above

  pub pending_apart : (i j : ℕ) (p q : Pending) → slice_get c.pages i ≡ Some p → slice_get c.pages j ≡ Some q →
      p.key ≡ q.key → p.number ≡ q.number → i ≡ j
  pending_apart i j p q at there key number =
      let a = pages_get t.ledger.standing (entry_of t.ledger) c.pages (names_pending t.ledger) i p
      h.ledger_kept.pages at in
      let b = pages_get t.ledger.standing (entry_of t.ledger) c.pages (names_pending t.ledger) j q h.ledger_kept.pages
      there in
      let numbers : a.0.number ≡ b.0.number = sym a.2.number ∙ number ∙ b.2.number in
      let f : Entry = record { item = record { key = q.key; body = b.2.body }; size = q.size } in
      let second : IsPageAt (book t) a.0.number b.0.index f =
      subst (λ (n : ℕ). IsPageAt (book t) n b.0.index f) (sym numbers) b.2.entry in
      let indexes = v.book_right.differ a.0.number a.0.index b.0.index
      (record { item = record { key = p.key; body = a.2.body }; size = p.size }) f a.2.entry second key in
      names_differ t.ledger.frontier (pending t.ledger) i j a.0 a.1
      (b.1 ∙ ap (λ (z : Name). Some z) (name_is b.0 a.0 (sym numbers) (sym indexes)))

  pub pending_named : (j : ℕ) (q : Pending) (p : Place) → slice_get c.pages j ≡ Some q → q.written ≡ Some p →
      IsPageAbove t p
  pending_named j q p at written =
      let r = pages_get t.ledger.standing (entry_of t.ledger) c.pages (names_pending t.ledger) j q
      h.ledger_kept.pages at in
      let above = (in_names t.ledger.frontier (pending t.ledger) r.0 (at_has (names_pending t.ledger) j r.0 r.1)).above
      in
      let stands = r.2.stands ∙ written in
      let page = secure_page {name = r.0} stands (above_secure t r.0 _ p v r.2.entry above stands) in
      record {
        tag = page.tag;
        body = page.body;
        there = page.there;
        above = subst (λ (z : Name). t.ledger.frontier < z.number) (sym page.is) above;
        stands = subst (λ (z : Name). t.ledger.standing z.number z.index ≡ Some p) (sym page.is) stands;
      }
