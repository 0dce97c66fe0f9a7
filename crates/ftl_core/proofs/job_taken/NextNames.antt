-- The first pending page that waits is the page of the first name that waits.
use Rattle.ftl_core.proofs.Common.{Bool, Core, Describes, Entry, IsIn, IsPageAt, List, Name, None, Option, PageKept}
use Rattle.ftl_core.proofs.Common.{Pending, Place, Rest, Some, Translation, [], and_true, ap, arith, before_accepted}
use Rattle.ftl_core.proofs.Common.{below, book, drop, entry_of, false, find_behind, flies_name, found_in, get_below}
use Rattle.ftl_core.proofs.Common.{get_drop, get_there, is_mended, is_named, is_rest_of, length, list_any, map}
use Rattle.ftl_core.proofs.Common.{names_after, names_pending, none_is, own_name, page_waits, pending, refl}
use Rattle.ftl_core.proofs.Common.{some_flight, suc, sym, true, two_ways, waits, writes_page, zero, ℕ, ⊎_elim, ◌++◌}
use Rattle.ftl_core.proofs.Common.{◌+◌, ◌<◌, ◌∙◌, ◌∷◌, ◌≡◌, ◌≤◌}
use Rattle.std.proofs.Common.{find, is_none, is_some, not, option_map, slice_get, ◌&&◌, ◌-◌}
use Rattle.ufs_spec.specs.Keys as keys
use Rattle.ufs_spec.specs.Ledger.{accepted_groups}
use Rattle.ufs_spec.specs.Translation as layer
use Rattle.ufs_spec.specs.Translation.{waiting_name}
use Rattle.power_loss.proofs.books.PagesByName.{new_page}
use Rattle.ftl_core.specs.Takes.{page_waiting}
use Rattle.ftl_core.proofs.job_taken.Flown.{writes_agree}
use Rattle.ftl_core.proofs.job_taken.Mended.{no_repair, none_accepted, none_waiting}
use Rattle.ftl_core.proofs.job_taken.NextPages.{IsProgrammed, page_name, pages_found}
use Rattle.ftl_core.proofs.pages.NamesBehind.{name_is}
use Rattle.ftl_core.proofs.rests_owed.RestsNamed.{one_page, rest_named}

-- Names

-- names that do not pass are skipped
skips_front : {X Y : Type 0} (p : X → Bool) (f : Y → X) (ys : List Y) (zs : List X) →
    ((j : ℕ) (y : Y) → slice_get ys j ≡ Some y → p (f y) ≡ false) →
    find p (map f ys ++ zs) ≡ find p zs
skips_front p f [] zs none = refl
skips_front p f (y ∷ ys) zs none = find_behind p (f y) (map f ys ++ zs) (none 0 y refl)
    ∙ skips_front p f ys zs (λ j x h. none (suc j) x h)

skips_names : (p : Name → Bool) (d n : ℕ) (gs : List keys.Group) →
    ((j i : ℕ) (g : keys.Group) → j < d → slice_get gs j ≡ Some g → i < length g →
    p (record { number = n + suc j; index = i }) ≡ false) →
    find p (names_after n gs) ≡ find p (names_after (n + d) (drop d gs))
skips_names p zero n gs none = ap (λ z. find p (names_after z gs)) (same n)
  where
    same : (n : ℕ) → n ≡ n + 0
    same n = omega arith
skips_names p (suc d) n [] none = refl
skips_names p (suc d) n (g ∷ gs) none =
    skips_front p (λ i. record { number = n + 1; index = i }) (below (length g)) (names_after (n + 1) gs)
    (λ j i h. none 0 i g (omega arith) refl (get_below (length g) j i h).1)
    ∙ skips_names p d (n + 1) gs (λ j i h l at u. ap (λ z. p (record { number = z; index = i })) (next n j)
    ∙ none (suc j) i h (omega arith) at u)
    ∙ ap (λ z. find p (names_after z (drop d gs))) (moved n d)
  where
    next : (n j : ℕ) → n + 1 + suc j ≡ n + suc (suc j)
    next n j = omega arith

    moved : (n d : ℕ) → n + 1 + d ≡ n + suc d
    moved n d = omega arith

-- a page of a group of this life is known
page_there : (t : Translation) (j i : ℕ) (g : keys.Group) → slice_get t.ledger.groups j ≡ Some g → i < length g →
    (e : Entry) × IsPageAt (book t) (t.ledger.greatest_seen + suc j) i e
page_there t j i g at u =
    let x = get_there g i u in (
      record { item = x.0; size = length g },
      new_page (book t) (t.ledger.greatest_seen + suc j) i (record { item = x.0; size = length g }) (omega arith)
          (record {
            group = g;
            is = ap (slice_get t.ledger.groups) (back t.ledger.greatest_seen j) ∙ at;
            item = x.1;
            size = refl;
          }),
    )
  where
    back : (top j : ℕ) → top + suc j - top - 1 ≡ j
    back top j = omega arith

-- a page waits if its name does
waits_alike : (c : Core) (t : Translation) → Describes c t → is_mended t.work.mending ≡ true → (p : Pending)
    (name : Name) → IsIn p c.pages → PageKept t.ledger.standing (entry_of t.ledger) p name →
    page_waits c.rows p ≡ layer.waits t name
waits_alike c t h mended p name here k =
    sym ((λ i. not (is_some (t.ledger.standing name.number name.index)) && not (some_flight t (flies_name name))
    && not (rest_there i))
    ∙ and_same (not (is_some (t.ledger.standing name.number name.index)) && not (some_flight t (flies_name name)))
    (is_none p.written && not (list_any (writes_page p.number p.index) c.rows)) (waits p) (is_none p.rest)
    ((λ i. not (is_some (k.stands i)) && not (some_flight t (flies_name name)))
    ∙ by p.written refl
    ∙ (λ i. not (is_some p.written) && not (list_any (writes_page (sym k.number i) (sym k.index i)) c.rows))
    ∙ none_is p.written (not (list_any (writes_page p.number p.index) c.rows)))
    (not_waits p.rest))
  where
    own : name ≡ own_name p
    own = name_is name (sym k.number) (sym k.index)

    rest_there : list_any (is_rest_of name) t.work.rests ≡ waits p
    rest_there = ap (λ (n : Name). list_any (is_rest_of n) t.work.rests) own ∙ rest_named c t h p here

    not_waits : (o : Option Rest) → not (is_some o) ≡ is_none o
    not_waits None = refl
    not_waits (Some rest) = refl

    and_same : (a b w n : Bool) → a ≡ b → not w ≡ n → (a && not w) ≡ (b && n)
    and_same a b w n e f = λ i. e i && f i

    by : (o : Option Place) → p.written ≡ o →
        (not (is_some o) && not (some_flight t (flies_name name)))
        ≡ (not (is_some o) && not (list_any (writes_page name.number name.index) c.rows))
    by None e = ap not (sym (writes_agree c t name h.kept (k.stands ∙ e) (no_repair c t h mended)))
    by (Some place) e = refl

    none_is : (o : Option Place) (b : Bool) → (not (is_some o) && b) ≡ (is_none o && b)
    none_is None b = refl
    none_is (Some p) b = refl

-- the name that waits is that of the first page that waits
mended_name : (c : Core) (t : Translation) → Describes c t → is_mended t.work.mending ≡ true →
    waiting_name t ≡ option_map page_name (page_waiting c)
mended_name c t h mended =
    skips_names (layer.waits t)
    (t.ledger.frontier - before_accepted t.ledger) (before_accepted t.ledger) (accepted_groups t.ledger) standing_below
    ∙ ap (λ z. find (layer.waits t) (names_after z (pending t.ledger)))
    (up (before_accepted t.ledger) t.ledger.frontier (h.kept.work.repaired mended))
    ∙ pages_found t.ledger.standing (entry_of t.ledger) (page_waits c.rows) (layer.waits t) c.pages
    (names_pending t.ledger) (waits_alike c t h mended) h.kept.ledger_kept.pages
  where
    up : (n m : ℕ) → n ≤ m → n + (m - n) ≡ m
    up n m l = omega arith

    number_is : (top repairs j : ℕ) → top + suc (repairs + j) ≡ top + repairs + suc j
    number_is top repairs j = omega arith

    standing_below : (j i : ℕ) (g : keys.Group) → j < t.ledger.frontier - before_accepted t.ledger →
        slice_get (accepted_groups t.ledger) j ≡ Some g → i < length g →
        layer.waits t (record { number = before_accepted t.ledger + suc j; index = i }) ≡ false
    standing_below j i g l at u =
        let e = page_there t (t.ledger.repairs + j) i g (sym (get_drop t.ledger.groups t.ledger.repairs j) ∙ at) u in
        let p = h.valid.frontier.stand (t.ledger.greatest_seen + suc (t.ledger.repairs + j)) i e.0 (omega arith) e.1 in
        ap (λ (o : Option Place). not (is_some o) && not
        (some_flight t (flies_name (record { number = before_accepted t.ledger + suc j; index = i })))
        && not (list_any (is_rest_of (record { number = before_accepted t.ledger + suc j; index = i })) t.work.rests))
        (ap (λ (z : ℕ). t.ledger.standing z i) (sym (number_is t.ledger.greatest_seen t.ledger.repairs j)) ∙ p.1)

-- until the device is mended none waits
pub next_name : (c : Core) (t : Translation) → Describes c t →
    waiting_name t ≡ option_map page_name (page_waiting c)
next_name c t h = ⊎_elim (mended_name c t h) none (two_ways (is_mended t.work.mending))
  where
    none : is_mended t.work.mending ≡ false → waiting_name t ≡ option_map page_name (page_waiting c)
    none unmended =
        ap (λ z. find (layer.waits t) (names_after (before_accepted t.ledger) z)) (none_accepted t h.valid unmended)
        ∙ ap (λ (ps : List Pending). option_map page_name (find (page_waits c.rows) ps))
        (sym (none_waiting c t h unmended))

-- the page that waits first is the one as which its name is programmed, and it waits for no rest
pub first_whole : (c : Core) (t : Translation) (p : Pending) → Describes c t →
    (r : IsProgrammed c t (page_name p)) → page_waiting c ≡ Some p → r.page.rest ≡ None
first_whole c t p h r first =
    let mine = found_in (page_waits c.rows) c.pages p first in
    let its = found_in (is_named p.number p.index) c.pages r.page r.found in
    let same : r.page ≡ p = one_page c t h r.page p its.0 mine.0
    (λ i. record { number = r.kept.number i; index = r.kept.index i }) in
    ap (λ (q : Pending). q.rest) same
    ∙ none_is p.rest (and_true (is_none p.written && not (list_any (writes_page p.number p.index) c.rows))
    (is_none p.rest) mine.1).1
