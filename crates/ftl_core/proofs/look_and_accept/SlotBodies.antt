-- The slot of a page of a pending group has the page's body.
use Rattle.ftl_core.proofs.Common.{Core, Describes, Entry, IsIn, List, Name, None, Pending, Rest, Some, Translation}
use Rattle.ftl_core.proofs.Common.{and_parts, ap, content_by, content_of, entry_of, eqb-true, false, found_in}
use Rattle.ftl_core.proofs.Common.{is_mended, is_named, is_rest_of, list_any, names_after, option_and_then, own_name}
use Rattle.ftl_core.proofs.Common.{refl, same_Some, slice_get_within, sym, true, waits, ℕ, ◌<◌, ◌∙◌, ◌≡◌}
use Rattle.std.proofs.Common.{find, ◌==◌}
use Rattle.std.specs.Prelude.{Option}
use Rattle.ftl_core.proofs.rests_owed.RestsNamed.{rest_named, waits_rest, whole_rest}
use Rattle.ftl_core.specs.Moves.{slot_of}
use Rattle.ftl_core.proofs.look_and_accept.LastPages.{group_above}
use Rattle.ftl_core.proofs.look_and_accept.Numbers.{behind, kept_pages}
use Rattle.ftl_core.proofs.pages.NamesBehind.{IsOfGroups, name_is, names_in}
use Rattle.ftl_core.proofs.pages.PagesNamed.{page_named}

-- above the frontier a name is of one of the groups there
above_frontier : (c : Core) (t : Translation) (name : Name) (e : Entry) → Describes c t →
    t.ledger.frontier < name.number → entry_of t.ledger name ≡ Some e →
    IsOfGroups t.ledger.frontier (behind t.ledger) name
above_frontier c t name e h above is =
    let g = group_above t name e h.valid above is in
    record { above = above; group = g.0; is = g.1; index = slice_get_within g.0 name.index e.item g.2 }

-- a page that is found by its name is one of the pages, and has that name
found_page : (c : Core) (name : Name) (p : Pending) → find (is_named name.number name.index) c.pages ≡ Some p →
    IsIn p c.pages × (name ≡ own_name p)
found_page c name p found =
    let r = found_in (is_named name.number name.index) c.pages p found in
    let e = and_parts (p.number == name.number) (p.index == name.index) r.1 in
    (r.0, name_is name (sym (eqb-true p.number name.number e.0)) (sym (eqb-true p.index name.index e.1)))

-- it waits exactly if a rest is of the name
waits_named : (c : Core) (t : Translation) (name : Name) (p : Pending) → Describes c t →
    find (is_named name.number name.index) c.pages ≡ Some p → list_any (is_rest_of name) t.work.rests ≡ waits p
waits_named c t name p h found =
    let r = found_page c name p found in
    ap (λ (n : Name). list_any (is_rest_of n) t.work.rests) r.1 ∙ rest_named c t h p r.0

-- the slot of a page that is not durable has the page's body, if no rest of it is owed
pub slot_is : (c : Core) (t : Translation) (name : Name) (e : Entry) → Describes c t → is_mended t.work.mending ≡ true →
    t.ledger.frontier < name.number → entry_of t.ledger name ≡ Some e →
    list_any (is_rest_of name) t.work.rests ≡ false → slot_of c name ≡ Some e.item.body
slot_is c t name e h mended above is none =
    let p = page_named t.ledger.standing (entry_of t.ledger) c.pages (names_after t.ledger.frontier (behind t.ledger))
    name (kept_pages c t h mended)
    (names_in t.ledger.frontier (behind t.ledger) name (above_frontier c t name e h above is)) in
    let whole = whole_rest p.0 (sym (waits_named c t name p.0 h p.1) ∙ none) in
    ap (option_and_then content_of) p.1
    ∙ ap (λ (rest : Option Rest). content_by rest p.0.body) whole
    ∙ ap (λ (body : List ℕ). Some body) (p.2.whole whole)
    ∙ ap (λ (x : Entry). Some x.item.body)
    (same_Some (record { item = record { key = p.0.key; body = p.2.body }; size = p.0.size }) e
    (sym p.2.entry ∙ is))

-- and nothing, if one is
pub slot_waits : (c : Core) (t : Translation) (name : Name) → Describes c t →
    list_any (is_rest_of name) t.work.rests ≡ true → slot_of c name ≡ None
slot_waits c t name h some = by (find (is_named name.number name.index) c.pages) refl
  where
    by : (o : Option Pending) → find (is_named name.number name.index) c.pages ≡ o → slot_of c name ≡ None
    by None e = ap (option_and_then content_of) e
    by (Some p) e =
        let rest = waits_rest p (sym (waits_named c t name p h e) ∙ some) in
        ap (option_and_then content_of) e ∙ ap (λ (o : Option Rest). content_by o p.body) rest.1
