-- The copy of a page stands: the places that are kept of contents and of pending pages are those of the ledger then.
use Rattle.ftl_core.proofs.Common.{Core, Describes, Entry, HasKey, IsKey, IsPageAt, Key, LedgerKept, List, Name}
use Rattle.ftl_core.proofs.Common.{Numbers, Option, PageKept, PagesKept, Pending, Place, Some, Standing, Stored}
use Rattle.ftl_core.proofs.Common.{Translation, [], ap, arith, at_has, book, entry_of, find, is_mended, is_named}
use Rattle.ftl_core.proofs.Common.{latest_durable, name_is, names_pending, pending, places_noted, position_of, refl}
use Rattle.ftl_core.proofs.Common.{same_Some, shape_of_numbers, slice_get, slice_set, stored_in, stored_of, subst, suc}
use Rattle.ftl_core.proofs.Common.{sym, true, written_at, written_if, ℕ, ⊎_elim, ◌<◌, ◌∙◌, ◌∷◌, ◌≡◌, ◌≢◌, ◌≤◌}
use Rattle.ufs_spec.proofs.Equalities.{key_cases}
use Rattle.ufs_spec.specs.Ledger.{at_name}
use Rattle.write_cache.specs.Slots.{page_written}
use Rattle.ftl_core.proofs.group_settled.NotedPlaces.{places_length, stored_here, stored_other}
use Rattle.ftl_core.proofs.group_settled.PageStands.{IsPending, at_here, at_other, pages_put, with_page}
use Rattle.ftl_core.proofs.group_settled.PageWritten.{pending_of}
use Rattle.ftl_core.proofs.live_pages.StoredPages.{durable_entry}
use Rattle.ftl_core.proofs.pages.NamesBehind.{in_names, names_differ}
use Rattle.ftl_core.proofs.pages.PagesNamed.{page_named}
use Rattle.ftl_core.proofs.pages.StoredNames.{AreAlike, name_there, stored_is, stored_still, stored_there}

-- Where another page stands, nothing changes

stored_beside : (standing : Standing) (name : Name) (p : Place) (s : Option Stored) (o : Option Name) →
    ((m : Name) → o ≡ Some m → m ≢ name) → AreAlike standing s o → AreAlike (at_name standing name (Some p)) s o
stored_beside standing name p s o apart k = stored_still standing (at_name standing name (Some p)) s o
    (λ m is. at_other standing name m p (apart m is)) k

pages_beside : (standing : Standing) (entries : Name → Option Entry) (name : Name) (p : Place) (ps : List Pending)
    (names : List Name) → ((j : ℕ) (m : Name) → slice_get names j ≡ Some m → m ≢ name) →
    PagesKept standing entries ps names → PagesKept (at_name standing name (Some p)) entries ps names
pages_beside standing entries name p [] [] apart h = tt
pages_beside standing entries name p [] (m ∷ ms) apart h = absurd h
pages_beside standing entries name p (q ∷ qs) [] apart h = absurd h
pages_beside standing entries name p (q ∷ qs) (m ∷ ms) apart h = (
  record {
    number = h.0.number;
    index = h.0.index;
    body = h.0.body;
    entry = h.0.entry;
    group_page = h.0.group_page;
    stands = at_other standing name m p (apart 0 m refl) ∙ h.0.stands;
    whole = h.0.whole;
  },
  pages_beside standing entries name p qs ms (λ j x e. apart (suc j) x e) h.1,
)

-- The page of a name and of a key, which stood

module _ (c : Core) (t : Translation) (h : Describes c t) (name : Name) (k : Key) (place : Place) (e : Entry)
    (known : IsPageAt (book t) name.number name.index e) (key : e.item.key ≡ k) where
  has : HasKey (book t) k
  has = subst (HasKey (book t)) key (h.valid.book_right.keys name.number name.index e known)

  pub is_key : IsKey (shape_of_numbers c.numbers) k
  is_key = subst (λ (n : Numbers). IsKey (shape_of_numbers n) k) (sym h.kept.numbers) has

  here_is : (j : Key) → IsKey (shape_of_numbers c.numbers) j → HasKey (book t) j
  here_is j is = subst (λ (n : Numbers). IsKey (shape_of_numbers n) j) h.kept.numbers is

  -- the durable page of another key is another one
  other_key : (j : Key) (m : Name) → HasKey (book t) j → latest_durable t.ledger j ≡ Some m → j ≢ k → m ≢ name
  other_key j m isj is apart same =
      let d = durable_entry t j m h.valid isj is in
      apart (sym d.2 ∙ ap (λ (x : Entry). x.item.key)
      (same_Some d.0 e (sym d.1 ∙ ap (entry_of t.ledger) same ∙ known)) ∙ key)

  -- that of the key with the page's number is the page
  same_page : (m : Name) → latest_durable t.ledger k ≡ Some m → m.number ≡ name.number → m ≡ name
  same_page m is number =
      let d = durable_entry t k m h.valid has is in
      let there : IsPageAt (book t) name.number m.index d.0 =
      subst (λ (n : ℕ). IsPageAt (book t) n m.index d.0) number d.1 in
      name_is m name number
      (h.valid.book_right.differ name.number m.index name.index d.0 e there known (d.2 ∙ sym key))

  durable_low : (j : Key) (m : Name) → HasKey (book t) j → latest_durable t.ledger j ≡ Some m →
      m.number ≤ t.ledger.frontier
  durable_low j m isj is = (durable_entry t j m h.valid isj is).3

  -- the names of pending pages are above the frontier
  pending_above : (j : ℕ) (m : Name) → slice_get (names_pending t.ledger) j ≡ Some m → t.ledger.frontier < m.number
  pending_above j m at = (in_names t.ledger.frontier (pending t.ledger) m
      (at_has (names_pending t.ledger) j m at)).above

  pages_stay : name.number ≤ t.ledger.frontier →
      PagesKept (with_page t.ledger name place).standing (entry_of t.ledger) c.pages (names_pending t.ledger)
  pages_stay low =
      pages_beside t.ledger.standing (entry_of t.ledger) name place c.pages (names_pending t.ledger)
      (λ j m at same.
      let above = pending_above j m at in
      let n = ap (λ (z : Name). z.number) same in
      absurd (omega (arith, above, n, low)))
      h.kept.ledger_kept.pages

  -- it is the content of its key: the key reads from the copy
  module _ (low : name.number ≤ t.ledger.frontier) (s : Stored) (now : stored_of c k ≡ Some s)
      (current : s.name.number ≡ name.number) where
    abbrev moved : Stored
    moved = record { name = name; place = place }

    latest_stored : latest_durable t.ledger k ≡ Some s.name
    latest_stored = (stored_there t.ledger.standing s (latest_durable t.ledger k)
        (subst (λ (o : Option Stored). AreAlike t.ledger.standing o (latest_durable t.ledger k)) now
        (h.kept.ledger_kept.places k is_key))).0

    pub stored_name : s.name ≡ name
    stored_name = same_page s.name latest_stored current

    latest_is : latest_durable t.ledger k ≡ Some name
    latest_is = latest_stored ∙ ap (λ (z : Name). Some z) stored_name

    place_noted : (j : Key) → IsKey (shape_of_numbers c.numbers) j →
        AreAlike (with_page t.ledger name place).standing
        (stored_in c.numbers (places_noted c.places moved (position_of c.numbers k)) j) (latest_durable t.ledger j)
    place_noted j isj = ⊎_elim
        (λ same. subst (λ (z : Key). AreAlike (with_page t.ledger name place).standing
        (stored_in c.numbers (places_noted c.places moved (position_of c.numbers k)) z) (latest_durable t.ledger z))
        (sym same.1)
        (subst (λ (z : Option Stored × Option Name). AreAlike (with_page t.ledger name place).standing z.0 z.1)
        (λ i. (sym (stored_here c k moved h.kept.ledger_kept.keys is_key) i, sym latest_is i))
        (stored_is (with_page t.ledger name place).standing moved name refl
        (at_here t.ledger.standing name name place refl))))
        (λ other.
        subst (λ (z : Option Stored). AreAlike (with_page t.ledger name place).standing z (latest_durable t.ledger j))
        (sym (stored_other c k j moved (λ f. other.1 (sym f)) is_key isj))
        (stored_beside t.ledger.standing name place (stored_of c j) (latest_durable t.ledger j)
        (λ m is. other_key j m (here_is j isj) is other.1) (h.kept.ledger_kept.places j isj)))
        (key_cases j k)

    pub ledger_moved : LedgerKept c.numbers (places_noted c.places moved (position_of c.numbers k)) c.pages c.frontier
        c.last (with_page t.ledger name place)
    ledger_moved = record {
      frontier = h.kept.ledger_kept.frontier;
      last_given = h.kept.ledger_kept.last_given;
      pages = pages_stay low;
      keys = (let same = places_length c.places moved (position_of c.numbers k) in
          let long = h.kept.ledger_kept.keys in omega (arith, same, long));
      places = place_noted;
    }

  -- or another page is: nothing changes
  pub ledger_left : name.number ≤ t.ledger.frontier →
      ((s : Stored) → stored_of c k ≡ Some s → s.name.number ≢ name.number) →
      LedgerKept c.numbers c.places c.pages c.frontier c.last (with_page t.ledger name place)
  ledger_left low old = record {
    frontier = h.kept.ledger_kept.frontier;
    last_given = h.kept.ledger_kept.last_given;
    pages = pages_stay low;
    keys = h.kept.ledger_kept.keys;
    places = λ j isj. stored_beside t.ledger.standing name place (stored_of c j) (latest_durable t.ledger j)
        (λ m is same. ⊎_elim
        (λ (x : _ × (j ≡ k)). not_it m same
        (subst (AreAlike t.ledger.standing (stored_of c k)) (ap (latest_durable t.ledger) (sym x.1) ∙ is)
        (h.kept.ledger_kept.places k is_key)))
        (λ (x : _ × (j ≢ k)). other_key j m (here_is j isj) is x.1 same)
        (key_cases j k))
        (h.kept.ledger_kept.places j isj);
  }
    where
      not_it : (m : Name) → m ≡ name → AreAlike t.ledger.standing (stored_of c k) (Some m) → ⊥
      not_it m same alike =
          let r = name_there t.ledger.standing (stored_of c k) m alike in
          old r.0 r.1 (ap (λ (z : Name). z.number) (r.2 ∙ same))

  -- its group is pending: the page is written where the copy is
  module _ (mended : is_mended t.work.mending ≡ true) (above : t.ledger.frontier < name.number) where
    pub pending_page : IsPending c t.ledger name
    pending_page = pending_of c t name e h mended above known

    -- which is how it is found
    pub found : (q : Pending) × (find (is_named name.number name.index) c.pages ≡ Some q)
        × PageKept t.ledger.standing (entry_of t.ledger) q name
    found = page_named t.ledger.standing (entry_of t.ledger) c.pages (names_pending t.ledger) name
        h.kept.ledger_kept.pages (at_has (names_pending t.ledger) pending_page.at name pending_page.named)

    abbrev pub now_written : List Pending
    now_written = slice_set c.pages pending_page.at (record pending_page.page { written = Some place })

    pub pages_are : page_written c.pages name.number name.index place ≡ now_written
    pages_are =
        ap (λ (o : Option ℕ). written_if c.pages place o) pending_page.is
        ∙ ap (λ (o : Option Pending). written_at c.pages pending_page.at place o) pending_page.there

    pub ledger_pending : LedgerKept c.numbers c.places now_written c.frontier c.last (with_page t.ledger name place)
    ledger_pending = record {
      frontier = h.kept.ledger_kept.frontier;
      last_given = h.kept.ledger_kept.last_given;
      pages = pages_put t.ledger.standing (entry_of t.ledger) name place c.pages (names_pending t.ledger)
          pending_page.at pending_page.page h.kept.ledger_kept.pages pending_page.there pending_page.named
          (names_differ t.ledger.frontier (pending t.ledger));
      keys = h.kept.ledger_kept.keys;
      places = λ j isj. stored_beside t.ledger.standing name place (stored_of c j) (latest_durable t.ledger j)
          (λ m is same.
          let low = durable_low j m (here_is j isj) is in
          let n = ap (λ (z : Name). z.number) same in
          let up = above in
          absurd (omega (arith, low, n, up)))
          (h.kept.ledger_kept.places j isj);
    }
