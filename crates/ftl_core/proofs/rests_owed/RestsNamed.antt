-- Which pending pages wait for their rests: by name as the layer says it, and by the block that they are read from.
use Rattle.ftl_core.proofs.Common.{Bool, Core, Describes, IsIn, List, Name, None, Option, OwedSource, PageKept, Pending}
use Rattle.ftl_core.proofs.Common.{Some, Spot, Translation, [], any_here, ap, at_has, cases_Bool, cons_option, entry_of}
use Rattle.ftl_core.proofs.Common.{false, false≢true, filter_map, has_at, in_mapped, is_rest_of, keeps_page, list_any}
use Rattle.ftl_core.proofs.Common.{look_of_source, mapped_in, name_cases, name_self, names_pending, none-some, own_name}
use Rattle.ftl_core.proofs.Common.{pending, refl, rest_kept, rest_look, rest_of_name, same_Some, same_name, slice_get}
use Rattle.ftl_core.proofs.Common.{source_kept, subst, sym, true, true≢false, waiting, waits, ℕ, ⊎_elim, ◌||◌, ◌∙◌, ◌∷◌}
use Rattle.ftl_core.proofs.Common.{◌≡◌}
use Rattle.std.proofs.Common.{is_some}
use Rattle.std.specs.Prelude.{cond}
use Rattle.ufs_spec.proofs.Lists.{any_told}
use Rattle.ufs_spec.specs.Translation as layer
use Rattle.write_cache.specs.declared.rests.OwedSource.TheVariants as owed
use Rattle.write_cache.specs.declared.rests.Rest as cache
use Rattle.ftl_core.specs.Moves.{reads_block}
use Rattle.ftl_core.proofs.pages.NamesBehind.{name_is, names_differ}
use Rattle.ftl_core.proofs.pages.PagesNamed.{pages_get}

-- All rests

-- those of the pages that wait are those of all pages
pub waiting_rests : (ps : List Pending) → filter_map rest_kept (waiting ps) ≡ filter_map rest_kept ps
waiting_rests [] = refl
waiting_rests (p ∷ ps) = by (waiting_rests ps) p.rest refl
  where
    by : filter_map rest_kept (waiting ps) ≡ filter_map rest_kept ps → (o : Option cache.Rest) → p.rest ≡ o →
        filter_map rest_kept (cond (waits p) (p ∷ waiting ps) (waiting ps)) ≡
        cons_option (rest_kept p) (filter_map rest_kept ps)
    by behind None e =
        ap (λ (b : Bool). filter_map rest_kept (cond b (p ∷ waiting ps) (waiting ps))) (ap is_some e)
        ∙ behind
        ∙ sym (ap (λ (o : Option layer.Rest). cons_option o (filter_map rest_kept ps))
        (ap (rest_of_name (own_name p)) e))
    by behind (Some r) e =
        ap (λ (b : Bool). filter_map rest_kept (cond b (p ∷ waiting ps) (waiting ps))) (ap is_some e)
        ∙ ap (cons_option (rest_kept p)) behind

-- what a page waits for, if it waits
pub waits_rest : (p : Pending) → waits p ≡ true → (rest : cache.Rest) × (p.rest ≡ Some rest)
waits_rest p e = by p.rest refl
  where
    by : (o : Option cache.Rest) → p.rest ≡ o → (rest : cache.Rest) × (p.rest ≡ Some rest)
    by None is = absurd (false≢true (sym (ap is_some is) ∙ e))
    by (Some rest) is = (rest, is)

pub whole_rest : (p : Pending) → waits p ≡ false → p.rest ≡ None
whole_rest p e = by p.rest refl
  where
    by : (o : Option cache.Rest) → p.rest ≡ o → p.rest ≡ None
    by None is = is
    by (Some rest) is = absurd (true≢false (sym (ap is_some is) ∙ e))

-- a rest of the layer is of a page that waits for it
pub record IsRestOfPage (ps : List Pending) (rest : layer.Rest) : Type 0 where
  pub page : Pending
  pub there : IsIn page ps
  pub owed : cache.Rest
  pub is : page.rest ≡ Some owed
  pub name : rest.name ≡ own_name page
  pub source : rest.source ≡ source_kept owed.source

pub rest_page : (ps : List Pending) (rest : layer.Rest) → IsIn rest (filter_map rest_kept ps) → IsRestOfPage ps rest
rest_page ps rest there =
    let r = mapped_in rest_kept ps there in by r.0 r.1 r.0.rest refl r.2
  where
    by : (p : Pending) → IsIn p ps → (o : Option cache.Rest) → p.rest ≡ o → rest_kept p ≡ Some rest →
        IsRestOfPage ps rest
    by p here None e is = absurd (none-some rest (sym (ap (rest_of_name (own_name p)) e) ∙ is))
    by p here (Some r) e is =
        let same : record { name = own_name p; source = source_kept r.source } ≡ rest =
        same_Some (record { name = own_name p; source = source_kept r.source }) rest
        (sym (ap (rest_of_name (own_name p)) e) ∙ is) in record {
          page = p;
          there = here;
          owed = r;
          is = e;
          name = ap (λ (x : layer.Rest). x.name) (sym same);
          source = ap (λ (x : layer.Rest). x.source) (sym same);
        }

-- By block

block_read : (s : Spot) (name : Name) (o : Option cache.Rest) (xs : List layer.Rest) (b : Bool) →
    b ≡ list_any (λ (rest : layer.Rest). layer.reads_from s rest.source) xs →
    (keeps_page s.die s.block (rest_look o) || b)
    ≡ list_any (λ (rest : layer.Rest). layer.reads_from s rest.source) (cons_option (rest_of_name name o) xs)
block_read s name None xs b h = h
block_read s name (Some rest) xs b h = by rest.source
  where
    by : (source : OwedSource) → (keeps_page s.die s.block (look_of_source source) || b)
        ≡ (layer.reads_from s (source_kept source)
        || list_any (λ (rest : layer.Rest). layer.reads_from s rest.source) xs)
    by (owed.Page n place) = ap (λ (x : Bool). keeps_page s.die s.block (look_of_source (owed.Page n place)) || x) h
    by (owed.Slot n) = h

pub blocks_read : (s : Spot) (ps : List Pending) →
    list_any (reads_block s.die s.block) ps
    ≡ list_any (λ (rest : layer.Rest). layer.reads_from s rest.source) (filter_map rest_kept ps)
blocks_read s [] = refl
blocks_read s (p ∷ ps) = block_read s (own_name p) p.rest (filter_map rest_kept ps)
    (list_any (reads_block s.die s.block) ps) (blocks_read s ps)

-- By name

module _ (c : Core) (t : Translation) (h : Describes c t) where
  pub all_rests : t.work.rests ≡ filter_map rest_kept c.pages
  all_rests = h.rests.are ∙ waiting_rests c.pages

  -- the layer reads the same blocks for rests
  pub rests_read : (s : Spot) → list_any (reads_block s.die s.block) c.pages
      ≡ list_any (λ (rest : layer.Rest). layer.reads_from s rest.source) t.work.rests
  rests_read s = blocks_read s c.pages
      ∙ ap (list_any (λ (rest : layer.Rest). layer.reads_from s rest.source)) (sym all_rests)

  -- a pending page is kept under its own name
  pub own_place : (k : ℕ) (p : Pending) → slice_get c.pages k ≡ Some p →
      slice_get (names_pending t.ledger) k ≡ Some (own_name p)
  own_place k p at =
      let r = pages_get t.ledger.standing (entry_of t.ledger) c.pages (names_pending t.ledger) k p
      h.kept.ledger_kept.pages at in
      r.1 ∙ ap (λ (n : Name). Some n) (name_is r.0 (sym r.2.number) (sym r.2.index))

  -- and as its name has it
  pub held_at : (k : ℕ) (p : Pending) → slice_get c.pages k ≡ Some p →
      PageKept t.ledger.standing (entry_of t.ledger) p (own_name p)
  held_at k p at =
      let r = pages_get t.ledger.standing (entry_of t.ledger) c.pages (names_pending t.ledger) k p
      h.kept.ledger_kept.pages at in
      subst (PageKept t.ledger.standing (entry_of t.ledger) p) (name_is r.0 (sym r.2.number) (sym r.2.index)) r.2

  -- no two pages are of one name
  pub one_page : (p q : Pending) → IsIn p c.pages → IsIn q c.pages → own_name p ≡ own_name q → p ≡ q
  one_page p q here there same =
      let a = has_at c.pages p here in
      let b = has_at c.pages q there in
      let at = names_differ t.ledger.frontier (pending t.ledger) a.0 b.0 (own_name p) (own_place a.0 p a.1)
      (own_place b.0 q b.1 ∙ ap (λ (n : Name). Some n) (sym same)) in
      same_Some p q (sym a.1 ∙ ap (slice_get c.pages) at ∙ b.1)

  -- a pending page waits exactly if a rest of the layer is of its name
  pub rest_named : (p : Pending) → IsIn p c.pages → list_any (is_rest_of (own_name p)) t.work.rests ≡ waits p
  rest_named p here = by (waits p) refl
    where
      told : list_any (is_rest_of (own_name p)) t.work.rests ≡ true → waits p ≡ true
      told e =
          let r = any_told (is_rest_of (own_name p)) t.work.rests e in
          let page = rest_page c.pages r.1
          (subst (IsIn r.1) all_rests (at_has t.work.rests r.0 r.1 r.2)) in
          let same : p ≡ page.page = one_page p page.page here page.there (own_told r.1 r.3 ∙ page.name) in
          ap waits same ∙ ap is_some page.is
        where
          own_told : (rest : layer.Rest) → same_name rest.name (own_name p) ≡ true → own_name p ≡ rest.name
          own_told rest e = ⊎_elim (λ k. sym k.1) (λ k. absurd (false≢true (sym k.0 ∙ e)))
              (name_cases rest.name (own_name p))

      by : (b : Bool) → waits p ≡ b → list_any (is_rest_of (own_name p)) t.work.rests ≡ b
      by true e =
          let r = waits_rest p e in
          let rest : layer.Rest = record { name = own_name p; source = source_kept r.0.source } in
          let there = has_at t.work.rests rest (subst (IsIn rest) (sym all_rests)
          (in_all p here (ap (rest_of_name (own_name p)) r.1))) in
          any_here (is_rest_of (own_name p)) t.work.rests there.0 rest there.1 (name_self (own_name p))
        where
          in_all : {rest : layer.Rest} (q : Pending) → IsIn q c.pages → rest_kept q ≡ Some rest →
              IsIn rest (filter_map rest_kept c.pages)
          in_all q there e = in_mapped rest_kept q c.pages there e
      by false e = ⊎_elim (λ k. absurd (true≢false (sym (told k) ∙ e))) (λ k. k)
          (cases_Bool (list_any (is_rest_of (own_name p)) t.work.rests))
