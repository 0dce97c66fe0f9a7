-- The page of a pending group stands: what is kept of pages, places and flights before any group becomes durable.
use Rattle.ftl_core.proofs.Common.{Core, DieRow, Entry, Flight, GroupPage, IsFlight, IsIn, Kept, Ledger, LedgerKept}
use Rattle.ftl_core.proofs.Common.{List, Name, None, Numbers, OpenBlock, Option, PageKept, PagesFly, PagesKept, Pending}
use Rattle.ftl_core.proofs.Common.{Place, Some, Standing, Step, Stored, Translation, WritesGroup, ap, at_die, entry_of}
use Rattle.ftl_core.proofs.Common.{false, flies_name, is_named, latest_durable, name_cases, name_is, name_of, name_self}
use Rattle.ftl_core.proofs.Common.{names_pending, none_some, pending, pending_written, position, refl, same_Some}
use Rattle.ftl_core.proofs.Common.{same_name, set_length, slice_get, slice_set, stored_in, subst, sym, true, with_live}
use Rattle.ftl_core.proofs.Common.{written_at, written_if, ℕ, ⊎_elim, ◌∙◌, ◌≡◌, ◌≢◌}
use Rattle.ufs_spec.specs.Disk as disk
use Rattle.ufs_spec.specs.Ledger.{at_name}
use Rattle.power_loss.proofs.books.SmallFacts.{at_name_cases}
use Rattle.block_table.specs.declared.rows.Flight.TheVariants as flight
use Rattle.ftl_core.proofs.job_taken.Flown.{fly_over, wrote_before}
use Rattle.ftl_core.proofs.opened.ListParts.{get_set}
use Rattle.ftl_core.proofs.pages.NamesBehind.{names_differ}
use Rattle.ftl_core.proofs.pages.PagesNamed.{pages_get, pages_kept, position_named, same_count}
use Rattle.ftl_core.proofs.pages.StoredNames.{AreAlike, name_there, stored_still}

-- The ledger

abbrev pub with_page : Ledger → Name → Place → Ledger
with_page l name p = record l { standing = at_name l.standing name (Some p) }

pub at_other : (standing : Standing) (name m : Name) (p : Place) → m ≢ name →
    at_name standing name (Some p) m.number m.index ≡ standing m.number m.index
at_other standing name m p apart = ⊎_elim (λ h. absurd (apart (name_is m name h.0 h.1))) (λ h. h.1)
    (at_name_cases standing name (Some p) m.number m.index)

pub at_here : (standing : Standing) (name m : Name) (p : Place) → m ≡ name →
    at_name standing name (Some p) m.number m.index ≡ Some p
at_here standing name m p e =
    ⊎_elim (λ h. h.2) (λ h. absurd (h.0 (ap (λ (z : Name). z.number) e, ap (λ (z : Name). z.index) e)))
    (at_name_cases standing name (Some p) m.number m.index)

-- what stood stands, there or elsewhere
pub stands_on : (standing : Standing) (name : Name) (p : Place) (m : Name) (q : Place) →
    standing m.number m.index ≡ Some q →
    (r : Place) × (at_name standing name (Some p) m.number m.index ≡ Some r)
stands_on standing name p m q is = ⊎_elim
    (λ (e : (same_name m name ≡ true) × (m ≡ name)). (p, at_here standing name m p e.1))
    (λ (e : (same_name m name ≡ false) × (m ≢ name)). (q, at_other standing name m p e.1 ∙ is))
    (name_cases m name)

-- where the page of a new name stands, what stood does so too
pub stored_on : (standing : Standing) (name : Name) (p : Place) → standing name.number name.index ≡ None →
    (s : Option Stored) (o : Option Name) → AreAlike standing s o → AreAlike (at_name standing name (Some p)) s o
stored_on standing name p new s o k = stored_still standing (at_name standing name (Some p)) s o
    (λ m is.
    let r = name_there standing s m (subst (AreAlike standing s) is k) in
    at_other standing name m p
    (λ same. none_some r.0.place (sym new ∙ sym (ap (λ (z : Name). standing z.number z.index) same) ∙ r.3))) k

-- the page at a position stands under the name at that position
page_at : (st : Standing) (en : Name → Option Entry) (ps : List Pending) (names : List Name) (k : ℕ) (p : Pending)
    (name : Name) → PagesKept st en ps names → slice_get ps k ≡ Some p → slice_get names k ≡ Some name →
    PageKept st en p name
page_at st en ps names k p name h at named =
    let r = pages_get st en ps names k p h at in
    subst (PageKept st en p) (same_Some r.0 name (sym r.1 ∙ named)) r.2

-- the page of one name stands, and each name has one position
pub pages_put : (st : Standing) (en : Name → Option Entry) (name : Name) (place : Place) (ps : List Pending)
    (names : List Name) (k : ℕ) (p : Pending) → PagesKept st en ps names → slice_get ps k ≡ Some p →
    slice_get names k ≡ Some name →
    ((i j : ℕ) (m : Name) → slice_get names i ≡ Some m → slice_get names j ≡ Some m → i ≡ j) →
    PagesKept (at_name st name (Some place)) en (slice_set ps k (record p { written = Some place })) names
pages_put st en name place ps names k p h at named differ =
    pages_kept (at_name st name (Some place)) en (slice_set ps k (record p { written = Some place })) names
    (set_length ps k (record p { written = Some place }) ∙ same_count st en ps names h) each
  where
    here : PageKept st en p name
    here = page_at st en ps names k p name h at named

    put : PageKept (at_name st name (Some place)) en (record p { written = Some place }) name
    put = record {
      number = here.number;
      index = here.index;
      body = here.body;
      entry = here.entry;
      group_page = here.group_page;
      stands = at_here st name name place refl;
      whole = here.whole;
    }

    stays : (j : ℕ) (q : Pending) (m : Name) → j ≢ k → slice_get ps j ≡ Some q → slice_get names j ≡ Some m →
        PageKept (at_name st name (Some place)) en q m
    stays j q m apart got is =
        let there = page_at st en ps names j q m h got is in
        record {
          number = there.number;
          index = there.index;
          body = there.body;
          entry = there.entry;
          group_page = there.group_page;
          stands = at_other st name m place
              (λ e. apart (differ j k name (is ∙ ap (λ (z : Name). Some z) e) named)) ∙ there.stands;
          whole = there.whole;
        }

    each : (j : ℕ) (q : Pending) (m : Name) →
        slice_get (slice_set ps k (record p { written = Some place })) j ≡ Some q → slice_get names j ≡ Some m →
        PageKept (at_name st name (Some place)) en q m
    each j q m got is = ⊎_elim
        (λ (e : (j ≡ k) × (record p { written = Some place } ≡ q)).
        subst (λ (z : Pending × Name). PageKept (at_name st name (Some place)) en z.0 z.1)
        (λ i. (e.1 i, same_Some name m (sym named ∙ sym (ap (slice_get names) e.0) ∙ is) i)) put)
        (λ (e : (j ≢ k) × (slice_get ps j ≡ Some q)). stays j q m e.0 e.1 is)
        (get_set ps k (record p { written = Some place }) j q got)

-- the page of a group in flight stands: no group is durable yet by that
pub ledger_written : (n : Numbers) (places : List (Option Stored)) (pages : List Pending) (frontier last : ℕ)
    (l : Ledger) (name : Name) (place : Place) (k : ℕ) (p : Pending) →
    LedgerKept n places pages frontier last l → l.standing name.number name.index ≡ None →
    slice_get pages k ≡ Some p → slice_get (names_pending l) k ≡ Some name →
    LedgerKept n places (slice_set pages k (record p { written = Some place })) frontier last (with_page l name place)
ledger_written n places pages frontier last l name place k p h new at named = record {
  frontier = h.frontier;
  last_given = h.last_given;
  pages = pages_put l.standing (entry_of l) name place pages (names_pending l) k p h.pages at named
      (names_differ l.frontier (pending l));
  keys = h.keys;
  places = λ key isk. stored_on l.standing name place new (stored_in n places key) (latest_durable l key)
      (h.places key isk);
}

-- the page that one die wrote flies no more
pub fly_written : (standing : Standing) (flights : ℕ → Option disk.Flight) (die : ℕ) (rows : List DieRow)
    (filling : Option OpenBlock) (name : Name) (p : Place) → PagesFly standing flights rows →
    ((d : ℕ) (m : Name) → WritesGroup rows d m.number m.index → flies_name m (flights d) ≡ true) →
    flies_name name (flights die) ≡ true →
    PagesFly (at_name standing name (Some p)) (at_die flights die None)
    (slice_set rows die (record { filling = filling; flight = None }))
fly_written standing flights die rows filling name p h flies flown = record {
  one = (fly_over standing flights die rows filling h).one;
  new = λ d number index w.
      let before = wrote_before rows die filling d number index w in
      let m : Name = record { number = number; index = index } in
      ⊎_elim
      (λ (e : (same_name m name ≡ true) × (m ≡ name)).
      absurd (before.1 (h.one d die name
      (subst (λ (z : Name). flies_name z (flights d) ≡ true) e.1 (flies d m before.0)) flown)))
      (λ (e : (same_name m name ≡ false) × (m ≢ name)). at_other standing name m p e.1
      ∙ h.new d number index before.0)
      (name_cases m name);
}

-- the job of a die that writes a group's page is the program of that page
pub group_flies : (n : Numbers) (step : Option Step) (die number index : ℕ) (place : Place) (filling : Option OpenBlock)
    (f : Option Flight) (g : Option disk.Flight) → f ≡ Some (flight.Group place number index) →
    IsFlight n step die filling f g → flies_name (record { number = number; index = index }) g ≡ true
group_flies n step die number index place filling f g is h = by g (subst
    (λ (z : Option Flight). IsFlight n step die filling z g) is h)
  where
    name : Name
    name = record { number = number; index = index }

    by : (g : Option disk.Flight) → IsFlight n step die filling (Some (flight.Group place number index)) g →
        flies_name name g ≡ true
    by (Some (disk.Programming p (GroupPage tag body))) h =
        subst (λ (z : Name). same_name name z ≡ true) (name_is name (name_of tag) (sym h.2) (sym h.3))
        (name_self name)
    by g h = absurd h

pub writers_fly : (c : Core) (t : Translation) → Kept c t → (d : ℕ) (m : Name) →
    WritesGroup c.rows d m.number m.index → flies_name m (t.disk.flights d) ≡ true
writers_fly c t k d m w =
    group_flies t.numbers c.step d m.number m.index w.place w.book.filling w.book.flight (t.disk.flights d) w.job
    (k.dies.each d w.book w.there).job

-- Which page

-- the pending page with this name
pub record IsPending (c : Core) (l : Ledger) (name : Name) : Type 0 where
  pub at : ℕ
  pub page : Pending
  pub is : position (is_named name.number name.index) c.pages ≡ Some at
  pub there : slice_get c.pages at ≡ Some page
  pub named : slice_get (names_pending l) at ≡ Some name

pub is_pending : (c : Core) (l : Ledger) (name : Name) → PagesKept l.standing (entry_of l) c.pages (names_pending l) →
    IsIn name (names_pending l) → IsPending c l name
is_pending c l name h here =
    let r = position_named l.standing (entry_of l) c.pages (names_pending l) name h here in
    record { at = r.0; page = r.1; is = r.2; there = r.3; named = r.4 }

-- it is written
pub written_there : (c : Core) (l : Ledger) (name : Name) (place : Place) (h : IsPending c l name) →
    pending_written c name.number name.index place ≡ record c {
      pages = slice_set c.pages h.at (record h.page { written = Some place });
      live = with_live c.live place true;
    }
written_there c l name place h =
    ap (λ (o : Option ℕ). record c { pages = written_if c.pages place o; live = with_live c.live place true }) h.is
    ∙ ap (λ (o : Option Pending). record c {
      pages = written_at c.pages h.at place o;
      live = with_live c.live place true;
    }) h.there
