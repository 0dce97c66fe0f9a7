-- Where the rest comes from of a page that a command has in part: the layer finds what the ledger has, by the last
-- pending page of the key, or by where its durable content stands.
use Rattle.ftl_core.proofs.Common.{Cells, Contains, Core, Describes, Entry, GroupPage, InSlot, IsIn, IsKey, IsNumbered}
use Rattle.ftl_core.proofs.Common.{Key, List, Looked, Name, None, Option, OwedSource, PageKept, Pending, Some, Stored}
use Rattle.ftl_core.proofs.Common.{Tag, Translation, ap, at_has, awaited_by, awaited_read, book, content_by, content_of}
use Rattle.ftl_core.proofs.Common.{entry_of, filter_in, find, find_some, found_in, has_at, in_contained, is_mended}
use Rattle.ftl_core.proofs.Common.{is_named, is_rest_of, is_some, kept_in, last_page, look, mapped_in, none-some}
use Rattle.ftl_core.proofs.Common.{option_and_then, option_map, own_name, page_one, pending, read_by, read_from, refl}
use Rattle.ftl_core.proofs.Common.{rest_kept, rest_of_name, same_Some, shape_of_numbers, slice_get, source_kept}
use Rattle.ftl_core.proofs.Common.{stored_of, subst, sym, true, unwrap_or, waiting, waits, ℕ, ◌∙◌, ◌≡◌}
use Rattle.ufs_spec.proofs.CellKinds.{one_page}
use Rattle.ufs_spec.proofs.Equalities.{name_told}
use Rattle.ufs_spec.specs.Ledger.{all_contents, latest}
use Rattle.ufs_spec.specs.Plain.{zero_block}
use Rattle.ufs_spec.specs.Translation.{FromSlot, Rest, source_of}
use Rattle.power_loss.specs.Shown.{IsShown}
use Rattle.power_loss.proofs.books.LayerParts.{LookedOf}
use Rattle.power_loss.proofs.collected_blocks.FewestLivePages.{mended_told}
use Rattle.power_loss.proofs.kept_pages.LookedUpPages.{look_right}
use Rattle.power_loss.proofs.laid_rests.BelowGroups.{rest_is_found}
use Rattle.power_loss.proofs.shown_blocks.LooksShowContents.{latest_has, looked_has}
use Rattle.write_cache.specs.declared.rests.OwedSource.TheVariants as owed
use Rattle.write_cache.specs.declared.rests.Rest as cache
use Rattle.write_cache.specs.declared.rests.RestSource.{RestSource}
use Rattle.write_cache.specs.declared.rests.RestSource.TheVariants as source
use Rattle.write_cache.specs.Rests.{base_in}
use Rattle.write_cache.specs.Slots.{last_of}
use Rattle.ftl_core.specs.Moves.{looked_at}
use Rattle.ftl_core.specs.Pinned.{look_of_source}
use Rattle.ftl_core.specs.Rests.{last_source, slot_source, stored_source}
use Rattle.ftl_core.proofs.look_and_accept.LookedUp.{looks}
use Rattle.ftl_core.proofs.pages.NamesBehind.{name_is, names_differ}
use Rattle.ftl_core.proofs.pages.PagesNamed.{named_true, name_told as told_by_name, pages_get}
use Rattle.ftl_core.proofs.rests_owed.RestsStay.{rest_there}

-- what is owed of a rest from there
abbrev pub owed_of : RestSource → Option OwedSource
owed_of source.Nothing = None
owed_of (source.Slot name) = None
owed_of (source.Page name place) = Some (owed.Page name place)
owed_of (source.Owed name) = Some (owed.Slot name)

-- the source is that of a rest of the key: what is owed is what the layer owes, where nothing is the content is there,
-- and the page that is read has its number
pub record IsFound (pages : List Pending) (cells : Cells) (rests : List Rest) (looked : Looked) (content : List ℕ)
    (s : RestSource) : Type 0 where
  pub owes : option_map source_kept (owed_of s) ≡ source_of rests looked
  pub there : owed_of s ≡ None → base_in pages zero_block s ≡ content
  pub numbered : (o : OwedSource) → owed_of s ≡ Some o → IsNumbered cells (look_of_source o)

-- where a rest is owed it is put over nothing
pub owed_base : (pages : List Pending) (body : List ℕ) (s : RestSource) (o : OwedSource) → owed_of s ≡ Some o →
    base_in pages body s ≡ body
owed_base pages body source.Nothing o e = absurd (none-some o e)
owed_base pages body (source.Slot name) o e = absurd (none-some o e)
owed_base pages body (source.Page name place) o e = refl
owed_base pages body (source.Owed name) o e = refl

-- the read of a rest is told alike
same_read : (own : Name) (s : OwedSource) → read_from own (source_kept s) ≡ read_by own s
same_read own (owed.Page name place) = refl
same_read own (owed.Slot name) = refl

-- a rest that is kept is of the name
kept_told : (name : Name) (o : Option cache.Rest) (s : Rest) → rest_of_name name o ≡ Some s →
    (r : cache.Rest) × (o ≡ Some r) × (s.name ≡ name)
kept_told name None s e = absurd (none-some s e)
kept_told name (Some r) s e =
    (r, refl, ap (λ (x : Rest). x.name) (sym (same_Some (record { name = name; source = source_kept r.source }) s e)))

-- the page that is found is there
page_at : (ps : List Pending) (o : Option ℕ) (p : Pending) → option_and_then (slice_get ps) o ≡ Some p → IsIn p ps
page_at ps None p e = absurd (none-some p e)
page_at ps (Some i) p e = at_has ps i p e

module _ (c : Core) (t : Translation) (h : Describes c t) where
  -- a pending page is kept under its own name
  kept_page : (p : Pending) → IsIn p c.pages → PageKept t.ledger.standing (entry_of t.ledger) p (own_name p)
  kept_page p here =
      let at = has_at c.pages p here in
      let k = pages_get t.ledger.standing (entry_of t.ledger) c.pages _ at.0 p h.kept.ledger_kept.pages at.1 in
      subst (PageKept t.ledger.standing (entry_of t.ledger) p) (name_is k.0 (sym k.2.number) (sym k.2.index)) k.2

  -- two pending pages of one name are one
  pub one_of_name : (p q : Pending) → IsIn p c.pages → IsIn q c.pages → own_name q ≡ own_name p → q ≡ p
  one_of_name p q here there same =
      let i = has_at c.pages p here in
      let j = has_at c.pages q there in
      let a = pages_get t.ledger.standing (entry_of t.ledger) c.pages _ i.0 p h.kept.ledger_kept.pages i.1 in
      let b = pages_get t.ledger.standing (entry_of t.ledger) c.pages _ j.0 q h.kept.ledger_kept.pages j.1 in
      let at = names_differ t.ledger.frontier (pending t.ledger) j.0 i.0 (own_name p)
      (b.1 ∙ ap (λ (n : Name). Some n) (name_is b.0 (sym b.2.number) (sym b.2.index) ∙ same))
      (a.1 ∙ ap (λ (n : Name). Some n) (name_is a.0 (sym a.2.number) (sym a.2.index))) in
      same_Some q p (sym j.1 ∙ (ap (slice_get c.pages) at ∙ i.1))

  -- a page that does not wait has no rest in the layer
  none_owed : (p : Pending) → IsIn p c.pages → p.rest ≡ None → find (is_rest_of (own_name p)) t.work.rests ≡ None
  none_owed p here whole = by (find (is_rest_of (own_name p)) t.work.rests) refl
    where
      by : (o : Option Rest) → find (is_rest_of (own_name p)) t.work.rests ≡ o → o ≡ None
      by None e = refl
      by (Some s) e =
          let f = found_in (is_rest_of (own_name p)) t.work.rests s e in
          let q = mapped_in rest_kept (waiting c.pages) (subst (λ (xs : List Rest). IsIn s xs) h.rests.are f.0) in
          let k = kept_told (own_name q.0) q.0.rest s q.2 in
          let one = one_of_name p q.0 here (filter_in waits q.0 c.pages q.1).0
          (sym k.2 ∙ name_told s.name (own_name p) f.1) in
          absurd (none-some k.0 (sym whole ∙ (ap (λ (x : Pending). x.rest) (sym one) ∙ k.1)))

  -- and one that waits has one, which waits for the same read
  one_owed : (p : Pending) (r : cache.Rest) → IsIn p c.pages → p.rest ≡ Some r →
      (s : Rest) × (find (is_rest_of (own_name p)) t.work.rests ≡ Some s)
      × (awaited_read s ≡ read_by (own_name p) r.source)
  one_owed p r here waits_for = (f.0, f.1, awaits)
    where
      rest : Rest
      rest = record { name = own_name p; source = source_kept r.source }

      there : Contains t.work.rests rest
      there = rest_there t (waiting c.pages) h.rests p r
          (in_contained (waiting c.pages) (kept_in waits p c.pages here (ap is_some waits_for))) waits_for

      f : (s : Rest) × (find (is_rest_of (own_name p)) t.work.rests ≡ Some s)
      f = rest_is_found (own_name p) t.work.rests rest there refl

      awaits : awaited_read f.0 ≡ read_by (own_name p) r.source
      awaits =
          let at = found_in (is_rest_of (own_name p)) t.work.rests f.0 f.1 in
          h.rests.laid.one_read f.0 rest (in_contained t.work.rests at.0) there (name_told f.0.name (own_name p) at.1)
          ∙ same_read (own_name p) r.source

  -- the slot of a page that does not wait has its body
  slot_base : (p : Pending) → IsIn p c.pages → p.rest ≡ None → base_in c.pages zero_block (source.Slot (own_name p)) ≡
      p.body
  slot_base p here whole =
      let at = has_at c.pages p here in
      let some = find_some (is_named p.number p.index) c.pages at.0 p at.1
      (named_true t.ledger.standing (entry_of t.ledger) p (own_name p) (kept_page p here)) in
      let f = found_in (is_named p.number p.index) c.pages some.0 some.1 in
      let one = one_of_name p some.0 here f.0
      (told_by_name t.ledger.standing (entry_of t.ledger) some.0 (own_name some.0) p.number p.index
      (kept_page some.0 f.0) f.1) in
      ap (λ (o : Option Pending). unwrap_or (option_and_then content_of o) zero_block)
      (some.1 ∙ ap (λ (x : Pending). Some x) one)
      ∙ ap (λ (o : Option cache.Rest). unwrap_or (content_by o p.body) zero_block) whole

  module _ (mended : is_mended t.work.mending ≡ true) (k : Key) (is : IsKey (shape_of_numbers t.numbers) k) where
    abbrev Found : RestSource → Type 0
    Found s = IsFound c.pages t.disk.cells t.work.rests (look t.ledger k) (all_contents t.ledger k) s

    shown : IsShown t.ledger k (look t.ledger k) (all_contents t.ledger k)
    shown = looked_has k (latest t.ledger k) (all_contents t.ledger k) h.valid
        (latest_has h.valid (mended_told t.work.mending mended) is)

    -- it is the last pending page of the key
    module _ (p : Pending) (last : last_page k c.pages ≡ Some p) where
      here : IsIn p c.pages
      here = page_at c.pages (last_of k c.pages) p last

      in_slot : look t.ledger k ≡ InSlot (own_name p)
      in_slot =
          sym (looks c t h mended k is) ∙ ap (λ (o : Option Pending). looked_at o (stored_of c k)) last

      body : p.rest ≡ None → p.body ≡ all_contents t.ledger k
      body whole =
          let page = subst (λ (x : Looked). IsShown t.ledger k x (all_contents t.ledger k)) in_slot shown in
          let kept = kept_page p here in
          kept.whole whole
          ∙ (ap (λ (e : Entry). e.item.body)
          (page_one (book t) p.number p.index
          (record { item = record { key = p.key; body = kept.body }; size = p.size }) page.entry kept.entry page.is)
          ∙ page.body_is)

      slot_found : (o : Option cache.Rest) → p.rest ≡ o → Found (slot_source (own_name p) (awaited_by (own_name p) o))
      slot_found None e = record {
        owes = sym (ap (source_of t.work.rests) in_slot
            ∙ ap (option_map (λ (s : Rest). FromSlot (awaited_read s))) (none_owed p here e));
        there = λ none. slot_base p here e ∙ body e;
        numbered = λ o x. absurd (none-some o x);
      }
      slot_found (Some r) e =
          let one = one_owed p r here e in
          record {
            owes = sym (ap (source_of t.work.rests) in_slot
                ∙ (ap (option_map (λ (s : Rest). FromSlot (awaited_read s))) one.1
                ∙ ap (λ (n : Name). Some (FromSlot n)) one.2));
            there = λ none. absurd (none-some _ (sym none));
            numbered = λ o x.
                subst (λ (z : OwedSource). IsNumbered t.disk.cells (look_of_source z))
                (same_Some (owed.Slot (read_by (own_name p) r.source)) o x) tt;
          }

    -- none is pending
    stored_found : (o : Option Stored) → look t.ledger k ≡ looked_at None o → Found (stored_source o)
    stored_found None e = record {
      owes = sym (ap (source_of t.work.rests) e);
      there = λ none. sym (subst (λ (x : Looked). IsShown t.ledger k x (all_contents t.ledger k)) e shown);
      numbered = λ o x. absurd (none-some o x);
    }
    stored_found (Some s) e = record {
      owes = sym (ap (source_of t.work.rests) e);
      there = λ none. absurd (none-some _ (sym none));
      numbered = λ o x.
          subst (λ (z : OwedSource). IsNumbered t.disk.cells (look_of_source z))
          (same_Some (owed.Page s.name s.place) o x) number;
    }
      where
        number : (tag : Tag) (body : List ℕ) → t.disk.cells s.place ≡ GroupPage tag body → tag.number ≡ s.name.number
        number tag body at =
            let page = subst (LookedOf t) e (look_right k h.valid is) in
            ap (λ (x : Tag). x.number) (sym (one_page page.tag tag page.body body (sym page.there ∙ at)).0)
            ∙ ap (λ (n : Name). n.number) page.is

    pub source_found : Found (last_source (last_page k c.pages) (stored_of c k))
    source_found = by (last_page k c.pages) refl
      where
        by : (o : Option Pending) → last_page k c.pages ≡ o → Found (last_source o (stored_of c k))
        by None e = stored_found (stored_of c k)
            (sym (looks c t h mended k is) ∙ ap (λ (x : Option Pending). looked_at x (stored_of c k)) e)
        by (Some p) e = slot_found p e p.rest refl
