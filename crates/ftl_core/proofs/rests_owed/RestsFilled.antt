-- A read brings the rest of all pages that wait for it: the first of them is laid over what was read, and each later one
-- over the one before it, so that each has what its group has.
use Rattle.ftl_core.proofs.Common.{Bool, Contains, Core, Describes, Entry, FromPage, GroupPage, IsIn, IsPageAt, List}
use Rattle.ftl_core.proofs.Common.{Name, Option, OwedSource, PageKept, PagesKept, Pending, Place, Some, Tag}
use Rattle.ftl_core.proofs.Common.{Translation, [], ap, arith, at_has, awaited_read, awaits, book, cases_lt, completed}
use Rattle.ftl_core.proofs.Common.{completed_by, contained_in, entry_of, false, filter_map, has_at, if◌then◌else◌}
use Rattle.ftl_core.proofs.Common.{in_contained, in_mapped, kept_in, name_self, names_pending, own_name, page_one}
use Rattle.ftl_core.proofs.Common.{part_of, pending, read_from, refl, rest_kept, rest_of_name, rests_filled, same_Some}
use Rattle.ftl_core.proofs.Common.{same_name, slice_get, source_kept, subst, suc, sym, true, true≢false, waiting, waits}
use Rattle.ftl_core.proofs.Common.{with_part_of, ℕ, ⊎_elim, ◌+◌, ◌<◌, ◌∙◌, ◌∷◌, ◌≡◌, ◌≤◌}
use Rattle.std.proofs.Common.{is_some}
use Rattle.ufs_spec.specs.Translation as layer
use Rattle.power_loss.specs.LaidRests.{contents_below}
use Rattle.power_loss.proofs.laid_rests.LaidContents.{laid_next, laid_page, laid_slot}
use Rattle.write_cache.specs.declared.rests.OwedSource.TheVariants as owed
use Rattle.write_cache.specs.declared.rests.Rest as cache
use Rattle.ftl_core.specs.RestsKept.{IsLaid}
use Rattle.ftl_core.proofs.look_and_accept.LastPages.{numbers_rise}
use Rattle.ftl_core.proofs.pages.NamesBehind.{name_is, names_differ}
use Rattle.ftl_core.proofs.rests_owed.RestsNamed.{IsRestOfPage, all_rests, held_at, one_page, own_place, rest_page}
use Rattle.ftl_core.proofs.rests_owed.RestsLeft.{awaits_by, awaits_rest}

-- What the pages have

module _ (c : Core) (t : Translation) (h : Describes c t) (name : Name) (place : Place) (tag : Tag) (body : List ℕ)
    (there : t.disk.cells place ≡ GroupPage tag body)
    (owed_rest : Contains t.work.rests (record { name = name; source = FromPage place })) where
  -- the rest of a page in the layer
  abbrev rest_now : Pending → cache.Rest → layer.Rest
  rest_now p rest = record { name = own_name p; source = source_kept rest.source }

  in_rests : (p : Pending) (rest : cache.Rest) → IsIn p c.pages → p.rest ≡ Some rest →
      Contains t.work.rests (rest_now p rest)
  in_rests p rest here e = subst (λ (rs : List layer.Rest). Contains rs (rest_now p rest)) (sym (all_rests c t h))
      (in_contained (filter_map rest_kept c.pages)
      (in_mapped rest_kept p c.pages here (ap (rest_of_name (own_name p)) e)))

  abbrev entry_at : (p : Pending) → List ℕ → Entry
  entry_at p x = record { item = record { key = p.key; body = x }; size = p.size }

  -- the page whose read this is
  reads_it : IsRestOfPage c.pages (record { name = name; source = FromPage place })
  reads_it = rest_page c.pages (record { name = name; source = FromPage place })
      (subst (IsIn (record { name = name; source = FromPage place })) (all_rests c t h)
      (contained_in t.work.rests owed_rest))

  -- each page that awaits the read is of that page's key
  key_of_read : (k : ℕ) (p : Pending) → slice_get c.pages k ≡ Some p → awaits name p ≡ true → p.key ≡ reads_it.page.key
  key_of_read k p at is = by r.0.source refl
    where
      r : (rest : cache.Rest) × (p.rest ≡ Some rest)
          × (read_from (own_name p) (source_kept rest.source) ≡ name)
      r = awaits_rest name p is

      here : IsIn p c.pages
      here = at_has c.pages k p at

      by : (source : OwedSource) → r.0.source ≡ source → p.key ≡ reads_it.page.key
      by (owed.Page n q) e =
          let own : own_name p ≡ name = sym (ap (λ (s : OwedSource). read_from (own_name p) (source_kept s)) e) ∙ r.2 in
          ap (λ (z : Pending). z.key) (one_page c t h p reads_it.page here reads_it.there (own ∙ reads_it.name))
      by (owed.Slot n) e =
          let other : n ≡ name = sym (ap (λ (s : OwedSource). read_from (own_name p) (source_kept s)) e) ∙ r.2 in
          let kept = held_at c t h k p at in
          let first = laid_slot t (rest_now p r.0) n (entry_at p kept.body) h.rests.laid (in_rests p r.0 here r.1)
          (ap source_kept e) kept.entry in
          let its = has_at c.pages reads_it.page reads_it.there in
          let read = held_at c t h its.0 reads_it.page its.1 in
          sym first.key
          ∙ ap (λ (x : Entry). x.item.key) (page_one (book t) name.number name.index first.entry
          (entry_at reads_it.page read.body)
          (subst (λ (z : Name). IsPageAt (book t) z.number z.index first.entry) other first.page)
          (subst (λ (z : Name). IsPageAt (book t) z.number z.index (entry_at reads_it.page read.body))
          (sym reads_it.name) read.entry))

  -- pages lie in the order of their numbers
  rises : (i j : ℕ) (p q : Pending) → i ≤ j → slice_get c.pages i ≡ Some p → slice_get c.pages j ≡ Some q →
      p.number ≤ q.number
  rises i j p q l at also = numbers_rise t.ledger.frontier (pending t.ledger) i j (own_name p) (own_name q) l
      (own_place c t h i p at) (own_place c t h j q also)

  -- and those of one key are of different groups
  rises_on : (i j : ℕ) (p q : Pending) → i < j → slice_get c.pages i ≡ Some p → slice_get c.pages j ≡ Some q →
      p.key ≡ q.key → p.number < q.number
  rises_on i j p q l at also key =
      ⊎_elim
      (λ (high : p.number < q.number). high)
      (λ (low : q.number ≤ p.number).
      let up = rises i j p q (omega (arith, l)) at also in
      let same : p.number ≡ q.number = omega (arith, low, up) in
      let x = held_at c t h i p at in
      let y = held_at c t h j q also in
      let index = h.valid.book_right.differ p.number p.index q.index (entry_at p x.body) (entry_at q y.body) x.entry
      (subst (λ (n : ℕ). IsPageAt (book t) n q.index (entry_at q y.body)) (sym same) y.entry) key in
      let one = one_page c t h p q (at_has c.pages i p at) (at_has c.pages j q also)
      (λ z. record { number = same z; index = index z }) in
      absurd (apart i j p q l at also one))
      (cases_lt p.number q.number)
    where
      apart : (i j : ℕ) (p q : Pending) → i < j → slice_get c.pages i ≡ Some p → slice_get c.pages j ≡ Some q →
          p ≡ q → ⊥
      apart i j p q l at also one =
          let same = names_differ t.ledger.frontier (pending t.ledger) i j (own_name p) (own_place c t h i p at)
          (own_place c t h j q also ∙ ap (λ (z : Pending). Some (own_name z)) (sym one)) in
          omega (arith, l, same)

  -- from a position on, the first page that awaits the read is laid over these bytes
  abbrev IsLaidNext : ℕ → List ℕ → Type 0
  IsLaidNext k base = (j : ℕ) (q : Pending) → k ≤ j → slice_get c.pages j ≡ Some q → awaits name q ≡ true →
      ((m : ℕ) (r : Pending) → k ≤ m → m < j → slice_get c.pages m ≡ Some r → awaits name r ≡ false) →
      contents_below (book t) q.number q.key ≡ base

  -- of all pages the first is laid over what was read
  first_laid : IsLaidNext 0 body
  first_laid j q least at is none = by r.0.source refl
    where
      r : (rest : cache.Rest) × (q.rest ≡ Some rest)
          × (read_from (own_name q) (source_kept rest.source) ≡ name)
      r = awaits_rest name q is

      here : IsIn q c.pages
      here = at_has c.pages j q at

      kept : PageKept t.ledger.standing (entry_of t.ledger) q (own_name q)
      kept = held_at c t h j q at

      same_body : (u v : Tag) (x y : List ℕ) → GroupPage u x ≡ GroupPage v y → x ≡ y
      same_body u v x y e = cc

      reads_own : (m : ℕ) → slice_get c.pages m ≡ Some reads_it.page → awaits name reads_it.page ≡ true
      reads_own m also =
          awaits_by name reads_it.page reads_it.owed reads_it.is
          ∙ ap (λ (s : layer.Source). same_name (read_from (own_name reads_it.page) s) name) (sym reads_it.source)
          ∙ ap (λ (n : Name). same_name n name) (sym reads_it.name)
          ∙ name_self name

      by : (source : OwedSource) → r.0.source ≡ source → contents_below (book t) q.number q.key ≡ body
      by (owed.Page n p) e =
          let own : own_name q ≡ name = sym (ap (λ (s : OwedSource). read_from (own_name q) (source_kept s)) e) ∙ r.2 in
          let same : q ≡ reads_it.page = one_page c t h q reads_it.page here reads_it.there (own ∙ reads_it.name) in
          let its : r.0 ≡ reads_it.owed = same_Some r.0 reads_it.owed
          (sym r.1 ∙ ap (λ (z : Pending). z.rest) same ∙ reads_it.is) in
          let source : source_kept r.0.source ≡ FromPage place =
          ap (λ (z : cache.Rest). source_kept z.source) its ∙ sym reads_it.source in
          let holds = laid_page t (rest_now q r.0) place (entry_at q kept.body) h.valid h.rests.laid
          (in_rests q r.0 here r.1) source kept.entry in
          sym holds.body_is ∙ same_body holds.tag tag holds.body body (sym holds.there ∙ there)
      by (owed.Slot n) e =
          let other : n ≡ name = sym (ap (λ (s : OwedSource). read_from (own_name q) (source_kept s)) e) ∙ r.2 in
          let first = laid_slot t (rest_now q r.0) n (entry_at q kept.body) h.rests.laid (in_rests q r.0 here r.1)
          (ap source_kept e) kept.entry in
          let its = has_at c.pages reads_it.page reads_it.there in
          let less : n.number < q.number = first.older in
          let low : reads_it.page.number < q.number =
          subst (λ (z : ℕ). z < q.number) (ap (λ (z : Name). z.number) (other ∙ reads_it.name)) less in
          absurd (⊎_elim
          (λ (before : its.0 < j). true≢false (sym (reads_own its.0 its.1)
          ∙ none its.0 reads_it.page (omega arith) before its.1))
          (λ (behind : j ≤ its.0). let up = rises j its.0 q reads_it.page behind at its.1 in omega (arith, up, low))
          (cases_lt its.0 j))

  -- and behind a page that awaits the read, the next one is laid over it
  next_laid : (k : ℕ) (p : Pending) → slice_get c.pages k ≡ Some p → awaits name p ≡ true →
      (kept : PageKept t.ledger.standing (entry_of t.ledger) p (own_name p)) → IsLaidNext (suc k) kept.body
  next_laid k p at is kept j q least also too none =
      (laid_next t (rest_now p a.0) (rest_now q b.0) name (entry_at p kept.body) (entry_at q other.body) h.valid
      h.rests.laid (in_rests p a.0 (at_has c.pages k p at) a.1) (in_rests q b.0 (at_has c.pages j q also) b.1) a.2 b.2
      kept.entry other.entry
      (rises_on k j p q (omega (arith, least)) at also
      (key_of_read k p at is ∙ sym (key_of_read j q also too))) between).1
    where
      a : (rest : cache.Rest) × (p.rest ≡ Some rest)
          × (read_from (own_name p) (source_kept rest.source) ≡ name)
      a = awaits_rest name p is

      b : (rest : cache.Rest) × (q.rest ≡ Some rest)
          × (read_from (own_name q) (source_kept rest.source) ≡ name)
      b = awaits_rest name q too

      other : PageKept t.ledger.standing (entry_of t.ledger) q (own_name q)
      other = held_at c t h j q also

      between : (rest : layer.Rest) → Contains t.work.rests rest → awaited_read rest ≡ name →
          p.number < rest.name.number → rest.name.number < q.number → ⊥
      between rest inside waits_for low high =
          let x = rest_page c.pages rest (subst (IsIn rest) (all_rests c t h) (contained_in t.work.rests inside)) in
          let m = has_at c.pages x.page x.there in
          let number : rest.name.number ≡ x.page.number = ap (λ (n : Name). n.number) x.name in
          let awaits_it : awaits name x.page ≡ true =
          awaits_by name x.page x.owed x.is
          ∙ ap (λ (s : layer.Source). same_name (read_from (own_name x.page) s) name) (sym x.source)
          ∙ ap (λ (n : Name). same_name (read_from n rest.source) name) (sym x.name)
          ∙ ap (λ (n : Name). same_name n name) waits_for
          ∙ name_self name in
          ⊎_elim
          (λ (before : m.0 < suc k).
          let up = rises m.0 k x.page p (omega (arith, before)) m.1 at in omega (arith, up, low, number))
          (λ (from : suc k ≤ m.0).
          ⊎_elim
          (λ (inside : m.0 < j). true≢false (sym awaits_it ∙ none m.0 x.page from inside m.1))
          (λ (behind : j ≤ m.0).
          let up = rises j m.0 q x.page behind also m.1 in omega (arith, up, high, number))
          (cases_lt m.0 j))
          (cases_lt m.0 (suc k))

  -- a page that is laid over what its key has below its group is kept whole
  laid_kept : (k : ℕ) (p : Pending) (n : Name) (base : List ℕ) → slice_get c.pages k ≡ Some p →
      awaits name p ≡ true → PageKept t.ledger.standing (entry_of t.ledger) p n →
      contents_below (book t) p.number p.key ≡ base →
      PageKept t.ledger.standing (entry_of t.ledger) (completed base p) n × ((kept : PageKept t.ledger.standing
      (entry_of t.ledger) p (own_name p)) → kept.body ≡ (completed base p).body)
  laid_kept k p n base at is kept below = (
    subst (λ (o : Option cache.Rest). PageKept t.ledger.standing (entry_of t.ledger) (completed_by base o p) n)
        (sym r.1) now,
    λ own. body_same own ∙ sym (ap (λ (o : Option cache.Rest). (completed_by base o p).body) r.1),
  )
    where
      r : (rest : cache.Rest) × (p.rest ≡ Some rest)
          × (read_from (own_name p) (source_kept rest.source) ≡ name)
      r = awaits_rest name p is

      laid : IsLaid (book t) p r.0
      laid = (h.rests.each p r.0 (in_contained (waiting c.pages)
          (kept_in waits p c.pages (at_has c.pages k p at) (ap is_some r.1))) r.1).laid

      over : laid.entry.item.body ≡ with_part_of r.0.part (part_of r.0.part p.body) base
      over = laid.body ∙ ap (with_part_of r.0.part (part_of r.0.part p.body)) below

      body_same : (own : PageKept t.ledger.standing (entry_of t.ledger) p (own_name p)) →
          own.body ≡ with_part_of r.0.part (part_of r.0.part p.body) base
      body_same own =
          ap (λ (x : Entry). x.item.body) (same_Some (entry_at p own.body) laid.entry (sym own.entry ∙ laid.is)) ∙ over

      now : PageKept t.ledger.standing (entry_of t.ledger) (completed_by base (Some r.0) p) n
      now = record {
        number = kept.number;
        index = kept.index;
        body = kept.body;
        entry = kept.entry;
        group_page = kept.group_page;
        stands = kept.stands;
        whole = λ e. sym (ap (λ (x : Entry). x.item.body)
            (same_Some (entry_at p kept.body) laid.entry
            (sym kept.entry ∙ ap (entry_of t.ledger) (name_is n (sym kept.number) (sym kept.index)) ∙ laid.is)) ∙ over);
      }

  filled_on : (k : ℕ) (ps : List Pending) (names : List Name) (base : List ℕ) →
      ((i : ℕ) → slice_get ps i ≡ slice_get c.pages (k + i)) →
      PagesKept t.ledger.standing (entry_of t.ledger) ps names → IsLaidNext k base →
      PagesKept t.ledger.standing (entry_of t.ledger) (rests_filled name base ps) names
  filled_on k [] [] base at kept next = tt
  filled_on k [] (n ∷ names) base at kept next = absurd kept
  filled_on k (p ∷ ps) [] base at kept next = absurd kept
  filled_on k (p ∷ ps) (n ∷ names) base at kept next =
      by (awaits name p) refl
      (λ x more. filled_on (suc k) ps names x (λ i. at (suc i) ∙ ap (slice_get c.pages) (one_on k i)) kept.1 more)
    where
      one_on : (k i : ℕ) → k + suc i ≡ suc k + i
      one_on k i = omega arith

      here : slice_get c.pages k ≡ Some p
      here = ap (slice_get c.pages) (from k) ∙ sym (at 0)
        where
          from : (k : ℕ) → k ≡ k + 0
          from k = omega arith

      same_page : (r : Pending) → slice_get c.pages k ≡ Some r → r ≡ p
      same_page r e = same_Some r p (sym e ∙ here)

      by : (a : Bool) → awaits name p ≡ a →
          ((x : List ℕ) → IsLaidNext (suc k) x →
          PagesKept t.ledger.standing (entry_of t.ledger) (rests_filled name x ps) names) →
          PagesKept t.ledger.standing (entry_of t.ledger) (if a then completed base p ∷
          rests_filled name (completed base p).body ps else p ∷ rests_filled name base ps) (n ∷ names)
      by true is more =
          let below = next k p (omega arith) here is (λ m r low high e. absurd (omega (arith, low, high))) in
          let now = laid_kept k p n base here is kept.0 below in
          let own = held_at c t h k p here in
          (now.0, more (completed base p).body (subst (IsLaidNext (suc k)) (now.1 own) (next_laid k p here is own)))
      by false is more = (
        kept.0,
        more base (λ j q least also too none. next j q (omega (arith, least)) also too
            (λ m r low high e. ⊎_elim
            (λ (first : m < suc k).
            let m_is : m ≡ k = omega (arith, low, first) in
            ap (awaits name) (same_page r (sym (ap (slice_get c.pages) m_is) ∙ e)) ∙ is)
            (λ (later : suc k ≤ m). none m r later high e)
            (cases_lt m (suc k)))),
      )

  -- so all pages are kept once the rest was brought
  pub filled_kept : PagesKept t.ledger.standing (entry_of t.ledger) (rests_filled name body c.pages)
      (names_pending t.ledger)
  filled_kept = filled_on 0 c.pages (names_pending t.ledger) body (λ i. ap (slice_get c.pages) (at_zero i))
      h.kept.ledger_kept.pages first_laid
    where
      at_zero : (i : ℕ) → i ≡ 0 + i
      at_zero i = omega arith
