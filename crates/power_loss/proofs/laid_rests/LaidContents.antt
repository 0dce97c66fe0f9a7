-- What the page of a rest holds, and how the parts of the groups that wait for one read lie over it, one after another.
use Rattle.power_loss.proofs.Common.{◌≡◌, ℕ, suc, ◌+◌, ◌-◌, ◌<◌, ◌≤◌, List, length, take, Some, slice_get}
use Rattle.power_loss.proofs.Common.{refl, sym, ap, ◌∙◌, subst, ⊎_elim, arith, Contains, none-some, same_Some, at_most}
use Rattle.power_loss.proofs.Common.{Group, Item, Entry, Name, FromPage, FromSlot}
use Rattle.power_loss.proofs.Common.{Rest, Source, Translation, Key, Place, book, IsPageAt, Valid}
use Rattle.ufs_spec.specs.Ledger.{entry_of}
use Rattle.ufs_spec.specs.Translation.{awaited_read, read_from}
use Rattle.power_loss.specs.LaidRests.{HoldsBelow, IsOfFirst, NoneBetween, RestLaid}
use Rattle.power_loss.specs.LaidRests.{RestsLaid, SourceLaid, contents_below}
use Rattle.power_loss.proofs.books.LastOfEachKey.{get_take, take_get}
use Rattle.power_loss.proofs.books.LayerParts.{SourceOf}
use Rattle.power_loss.proofs.books.PagesByName.{IsNewPage, new_page, page_new, page_one}
use Rattle.power_loss.proofs.ordered_lists.ElementsAndOrders.{all_in, contained_in}
use Rattle.power_loss.proofs.shown_blocks.LooksShowContents.{put_at}

abbrev LaidAt : Translation → Rest → Type 0
LaidAt t rest = RestLaid (book t) t.ledger.standing t.disk.flights t.work.step t.disk.cells t.work.rests rest

-- the entry of a rest's page is one
entry_is : (t : Translation) (rest : Rest) (e : Entry) (r : LaidAt t rest) → entry_of t.ledger rest.name ≡ Some e →
    r.entry ≡ e
entry_is t rest e r is = same_Some r.entry e (sym r.is ∙ is)

-- The page

pub laid_page : (t : Translation) (rest : Rest) (place : Place) (e : Entry) → Valid t → RestsLaid t →
    Contains t.work.rests rest → rest.source ≡ FromPage place → entry_of t.ledger rest.name ≡ Some e →
    HoldsBelow (book t) t.disk.cells rest.name e.item.key place
laid_page t rest place e v h there source is =
    let r = h.each rest there in
    let right : SourceOf t rest.source =
    all_in (λ (x : Rest). SourceOf t x.source) rest t.work.rests v.rests.each (contained_in t.work.rests there) in
    let page = (subst (SourceOf t) source right).1 in
    let laid : SourceLaid (book t) t.disk.cells t.work.rests rest.name e.item.key (FromPage place) =
    subst (λ (x : Entry). SourceLaid (book t) t.disk.cells t.work.rests rest.name x.item.key (FromPage place))
    (entry_is t rest e r is)
    (subst (SourceLaid (book t) t.disk.cells t.work.rests rest.name r.entry.item.key) source r.laid) in
    let holds = laid page.tag page.body page.there in
    record { tag = page.tag; body = page.body; there = page.there; key = holds.0; body_is = holds.1 }

pub laid_slot : (t : Translation) (rest : Rest) (other : Name) (e : Entry) → RestsLaid t → Contains t.work.rests rest →
    rest.source ≡ FromSlot other → entry_of t.ledger rest.name ≡ Some e →
    IsOfFirst (book t) t.work.rests rest.name other e.item.key
laid_slot t rest other e h there source is =
    let r = h.each rest there in
    subst (λ (x : Entry). IsOfFirst (book t) t.work.rests rest.name other x.item.key) (entry_is t rest e r is)
    (subst (SourceLaid (book t) t.disk.cells t.work.rests rest.name r.entry.item.key) source r.laid)

-- The page of the read that a rest waits for is of the rest's key

-- it is of the key
record IsReadOf (t : Translation) (read : Name) (k : Key) : Type 0 where
  pub entry : Entry
  pub page : IsPageAt (book t) read.number read.index entry
  pub key : entry.item.key ≡ k

read_key : (t : Translation) (rest : Rest) (r : LaidAt t rest) → IsReadOf t (awaited_read rest) r.entry.item.key
read_key t rest r = by rest.source refl r.laid
  where
    by : (source : Source) → rest.source ≡ source →
        SourceLaid (book t) t.disk.cells t.work.rests rest.name r.entry.item.key source →
        IsReadOf t (awaited_read rest) r.entry.item.key
    by (FromPage place) e h = subst (λ (n : Name). IsReadOf t n r.entry.item.key) (sym (ap (read_from rest.name) e))
        (record { entry = r.entry; page = r.is; key = refl })
    by (FromSlot other) e h = subst (λ (n : Name). IsReadOf t n r.entry.item.key) (sym (ap (read_from rest.name) e))
        (record { entry = h.entry; page = h.page; key = h.key })

same_key : (t : Translation) (a b : Rest) (read : Name) (x : LaidAt t a) (y : LaidAt t b) → awaited_read a ≡ read →
    awaited_read b ≡ read → x.entry.item.key ≡ y.entry.item.key
same_key t a b read x y first second =
    let p : IsReadOf t read x.entry.item.key =
    subst (λ (n : Name). IsReadOf t n x.entry.item.key) first (read_key t a x) in
    let q : IsReadOf t read y.entry.item.key =
    subst (λ (n : Name). IsReadOf t n y.entry.item.key) second (read_key t b y) in
    sym p.key
    ∙ (ap (λ (z : Entry). z.item.key)
    (page_one (book t) read.number read.index p.entry q.entry p.page q.page) ∙ q.key)

-- One after another

-- below a number a key has the content of the last page below it
content_of_last : (t : Translation) (n i m : ℕ) (e : Entry) → Valid t → t.ledger.greatest_seen < n →
    IsPageAt (book t) n i e → n < m →
    ((l j : ℕ) (x : Entry) → n < l → l < m → IsPageAt (book t) l j x → x.item.key ≡ e.item.key → ⊥) →
    contents_below (book t) m e.item.key ≡ e.item.body
content_of_last t n i m e v new page less none =
    put_at t.ledger.base groups (n - top - 1) i p.group e.item
    (take_get (m - top - 1) t.ledger.groups (n - top - 1) p.group (omega (arith, less, new)) p.is) p.item refl one last
  where
    top : ℕ
    top = t.ledger.greatest_seen

    groups : List Group
    groups = take (m - top - 1) t.ledger.groups

    p : IsNewPage t.ledger.groups (n - top - 1) i e
    p = page_new (book t) n new page

    one : (j : ℕ) (y : Item) → slice_get p.group j ≡ Some y → y.key ≡ e.item.key → y.body ≡ e.item.body
    one j y at key =
        let x : Entry = record { item = y; size = length p.group } in
        let there : IsPageAt (book t) n j x =
        new_page (book t) n j x new (record { group = p.group; is = p.is; item = at; size = refl }) in
        let index = v.book_right.differ n j i x e there page key in
        ap (λ (z : Item). z.body) (same_Some y e.item (sym at ∙ (ap (slice_get p.group) index ∙ p.item)))

    last : (l j : ℕ) (g : Group) (y : Item) → slice_get groups l ≡ Some g → slice_get g j ≡ Some y →
        y.key ≡ e.item.key → l ≤ n - top - 1
    last l j g y at is key = ⊎_elim (λ low. low) (λ high. absurd (later high)) (at_most l (n - top - 1))
      where
        there : (l < m - top - 1) × (slice_get t.ledger.groups l ≡ Some g)
        there = get_take (m - top - 1) t.ledger.groups l g at

        number : l + suc top - top - 1 ≡ l
        number = omega arith

        later : n - top - 1 < l → ⊥
        later high =
            let x : Entry = record { item = y; size = length g } in
            let within = there.0 in
            none (l + suc top) j x (omega (arith, high, new)) (omega (arith, within, less, new))
            (new_page (book t) (l + suc top) j x (omega arith)
            (record { group = g; is = ap (slice_get t.ledger.groups) number ∙ there.1; item = is; size = refl })) key

pub laid_next : (t : Translation) (a b : Rest) (read : Name) (x y : Entry) → Valid t → RestsLaid t →
    Contains t.work.rests a → Contains t.work.rests b → awaited_read a ≡ read → awaited_read b ≡ read →
    entry_of t.ledger a.name ≡ Some x → entry_of t.ledger b.name ≡ Some y → a.name.number < b.name.number →
    NoneBetween t.work.rests read a.name.number b.name.number →
    (x.item.key ≡ y.item.key) × (contents_below (book t) b.name.number y.item.key ≡ x.item.body)
laid_next t a b read x y v h first second reads waits is also less none = (key, content)
  where
    r : LaidAt t a
    r = h.each a first

    s : LaidAt t b
    s = h.each b second

    key : x.item.key ≡ y.item.key
    key = ap (λ (z : Entry). z.item.key) (sym (entry_is t a x r is))
        ∙ (same_key t a b read r s reads waits ∙ ap (λ (z : Entry). z.item.key) (entry_is t b y s also))

    new : t.ledger.greatest_seen < a.name.number
    new = ⊎_elim
        (λ low. let at = v.frontier.stand a.name.number a.name.index r.entry low r.is in
        absurd (none-some at.0 (sym r.nowhere ∙ at.1)))
        (λ high. let base = v.frontier.above in omega (arith, high, base)) (at_most a.name.number t.ledger.frontier)

    between : (l j : ℕ) (z : Entry) → a.name.number < l → l < b.name.number → IsPageAt (book t) l j z →
        z.item.key ≡ x.item.key → ⊥
    between l j z low high page same =
        let w = r.later l j z (omega (arith, low)) page
        (same ∙ ap (λ (u : Entry). u.item.key) (sym (entry_is t a x r is))) in
        let number = w.number in
        none w.rest w.there (w.awaits ∙ reads) (omega (arith, low, number)) (omega (arith, high, number))

    content : contents_below (book t) b.name.number y.item.key ≡ x.item.body
    content = subst (λ (k : Key). contents_below (book t) b.name.number k ≡ x.item.body) key
        (content_of_last t a.name.number a.name.index b.name.number x v new is less between)
