-- Pending pages and their names: which of them passes a test first, and what it is programmed as.
use Rattle.ftl_core.proofs.Common.{Bool, Core, Describes, Entry, GroupPage, IsIn, List, Name, Option, PageKept}
use Rattle.ftl_core.proofs.Common.{PagesKept, Pending, Some, Standing, Translation, [], ap, at_has, entry_of, false}
use Rattle.ftl_core.proofs.Common.{find, inl, inr, is_named, name_at, names_pending, option_map, refl, subst, sym, true}
use Rattle.ftl_core.proofs.Common.{◌∙◌, ◌∷◌, ◌≡◌}
use Rattle.std.specs.Prelude.{cond}
use Rattle.ufs_spec.specs.Translation.{cell_now, cell_of_entry}
use Rattle.ftl_core.specs.Moves.{tag_of_page}
use Rattle.ftl_core.proofs.pages.NamesBehind.{name_is}
use Rattle.ftl_core.proofs.pages.PagesNamed.{page_named, pages_get}
use Rattle.ftl_core.proofs.pins.FoundPins.{found_there}

abbrev pub page_name : Pending → Name
page_name p = name_at p.number p.index

module _ (standing : Standing) (entries : Name → Option Entry) where
  -- a page is kept under the name that it says
  named : (p : Pending) (name : Name) → PageKept standing entries p name → name ≡ page_name p
  named p name k = name_is name (sym k.number) (sym k.index)

  -- the first page that passes has the first name that does, where each page passes if its name does
  pub pages_found : (test : Pending → Bool) (is : Name → Bool) (ps : List Pending) (names : List Name) →
      ((p : Pending) (name : Name) → IsIn p ps → PageKept standing entries p name → test p ≡ is name) →
      PagesKept standing entries ps names → find is names ≡ option_map page_name (find test ps)
  pages_found test is [] [] same k = refl
  pages_found test is [] (name ∷ names) same k = absurd k
  pages_found test is (p ∷ ps) [] same k = absurd k
  pages_found test is (p ∷ ps) (name ∷ names) same k =
      by (test p) (is name) (same p name (inl refl) k.0)
      (pages_found test is ps names (λ q n there kept. same q n (inr there) kept) k.1)
    where
      by : (a b : Bool) → a ≡ b → find is names ≡ option_map page_name (find test ps) →
          cond b (Some name) (find is names) ≡ option_map page_name (cond a (Some p) (find test ps))
      by true true e rest = ap (λ (z : Name). Some z) (named p name k.0)
      by true false e rest = cc
      by false true e rest = cc
      by false false e rest = rest

  -- what is found among the pages is kept under its name, which is among the names
  pub kept_found : (test : Pending → Bool) (ps : List Pending) (names : List Name) (p : Pending) →
      PagesKept standing entries ps names → find test ps ≡ Some p →
      IsIn (page_name p) names × PageKept standing entries p (page_name p)
  kept_found test ps names p k found =
      let at = found_there test ps p found in
      let r = pages_get standing entries ps names at.0 p k at.1 in
      let e = named p r.0 r.2 in
      (at_has names at.0 (page_name p) (r.1 ∙ ap Some e), subst (PageKept standing entries p) e r.2)

-- the pending page of a name is found by it, and is what the name is programmed as now
pub record IsProgrammed (c : Core) (t : Translation) (name : Name) : Type 0 where
  pub page : Pending
  pub found : find (is_named name.number name.index) c.pages ≡ Some page
  pub kept : PageKept t.ledger.standing (entry_of t.ledger) page name
  pub cell : cell_now t.ledger name ≡ GroupPage
      (tag_of_page page.key page.number page.index page.size c.frontier) kept.body

pub page_programmed : (c : Core) (t : Translation) (test : Pending → Bool) (p : Pending) → Describes c t →
    find test c.pages ≡ Some p → IsProgrammed c t (page_name p)
page_programmed c t test p h found = record {
  page = q.0;
  found = q.1;
  kept = q.2;
  cell = ap (λ (e : Option Entry). cell_of_entry (page_name p) e t.ledger.frontier) q.2.entry
      ∙ (λ i. GroupPage (tag_of_page q.0.key (sym q.2.number i) (sym q.2.index i) q.0.size
      (sym h.kept.ledger_kept.frontier i)) q.2.body);
}
  where
    q : (q : Pending) × (find (is_named p.number p.index) c.pages ≡ Some q)
        × PageKept t.ledger.standing (entry_of t.ledger) q (page_name p)
    q = page_named t.ledger.standing (entry_of t.ledger) c.pages (names_pending t.ledger) (page_name p)
        h.kept.ledger_kept.pages
        (kept_found t.ledger.standing (entry_of t.ledger) test c.pages (names_pending t.ledger) p
        h.kept.ledger_kept.pages found).0
