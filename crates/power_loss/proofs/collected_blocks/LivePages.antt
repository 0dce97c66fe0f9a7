-- A live page of a mended device is pending, or the newest of its key at or under the frontier: it is there, in a block
-- that is not free, and nothing but its copy spends it.
use Rattle.power_loss.proofs.Common.{◌≡◌, ◌≢◌, ℕ, ◌-◌, ◌<◌, ◌≤◌, ◌&&◌, Bool, true, false, take, All, List, map, Option}
use Rattle.power_loss.proofs.Common.{Some, None, refl, sym, ap, ◌∙◌, subst, inl, inr, ⊎_elim, arith, All-weaker}
use Rattle.power_loss.proofs.Common.{and_parts, false≢true, ltb-true, or_cases, same_Some, Cell, GroupPage, Mark}
use Rattle.power_loss.proofs.Common.{key_of, same_place, Erasing, Free, IsNewestFinished, IsReplaced, SpentBy, Spot}
use Rattle.power_loss.proofs.Common.{spot_of, HasCopy, Spent, place_in, with_erasing, below, recorded_in, Entry, Name}
use Rattle.power_loss.proofs.Common.{is_name, latest_durable, MayTake, Mended, Mending, Repairing, Translation}
use Rattle.power_loss.proofs.Common.{Unmarked, is_live, is_live_cell, is_mended, is_needed, live_places, name_of}
use Rattle.power_loss.proofs.Common.{stands_there, Key, Place, Tag, IsLostNumber, IsPageAt, IsPlainMark, book}
use Rattle.power_loss.proofs.Common.{MarksRight, Valid}
use Rattle.std.proofs.Common.{nat_lt}
use Rattle.std.proofs.lemmas.List.Elements.{filter_passes}
use Rattle.power_loss.proofs.books.PagesByName.{is_old, written_more}
use Rattle.power_loss.proofs.kept_pages.LookedUpPages.{AreRewritten, IsLatest, latest_right}
use Rattle.power_loss.proofs.jobs_owed.ProgramsAndErases.{erase_owed}
use Rattle.power_loss.proofs.kept_pages.ReadsStay.{needed_secure}
use Rattle.power_loss.proofs.kept_pages.UnmendedPages.{new_secure, unmended_secure}
use Rattle.power_loss.proofs.spent.ErasedIsSpent.{entry_for, fenced_none, lost_or_not}
use Rattle.ufs_spec.proofs.Equalities.{is_name_told, place_told}
use Rattle.power_loss.proofs.books.LayerParts.{NeededOf, SecureOf, MendingOf}

-- What a live page is

-- it stands under its name, and is needed
live_told : {p : Place} (o : Option Place) {needed : Bool} → (stands_there p o && needed) ≡ true →
    (o ≡ Some p) × (needed ≡ true)
live_told None h = absurd (false≢true h)
live_told {p} (Some at) {needed} h =
    let r = and_parts (same_place at p) needed h in
    (ap Some (place_told at p r.0), r.1)

-- only the page of a group is live
live_is_page : (t : Translation) (p : Place) (cell : Cell) → is_live_cell t.ledger p cell ≡ true →
    (tag : Tag) × (body : List ℕ) × (cell ≡ GroupPage tag body)
live_is_page t p (GroupPage tag body) live = (tag, body, refl)
live_is_page t p cell live = absurd (false≢true live)

-- no page of its key that is at or under the frontier is newer than the one that has the key's content there
latest_newest : {t : Translation} {name : Name} {k : Key} → AreRewritten t → IsLatest t k name →
    (n i : ℕ) (x : Entry) → IsPageAt (book t) n i x → x.item.key ≡ k → n ≤ t.ledger.frontier → n ≤ name.number
latest_newest {t} again l n i x h key u = ⊎_elim
    (λ lost.
    let w = again n i x lost (is_old (book t) n i x lost.to h) in
    let new = w.new in
    let old = lost.to in
    let up = l.newest w.number w.index w.page w.is (w.key ∙ key) (λ z. let to = z.to in omega arith) w.within in
    omega arith) (λ kept. l.newest n i x h key kept u) (lost_or_not)

-- it is not lost, and no newer page of its key is at or under what the newest mark records
record LiveRight (t : Translation) (m : Mark) (p : Place) (tag : Tag) : Type 0 where
  known : t.ledger.standing tag.number tag.index ≡ Some p
  kept : IsLostNumber (book t) tag.number → ⊥
  newest : (n i : ℕ) (x : Entry) → IsPageAt (book t) n i x → x.item.key ≡ key_of tag → n ≤ m.records → n ≤ tag.number

live_right : {t : Translation} {m : Mark} {p : Place} {tag : Tag} (body : List ℕ) → Valid t →
    IsPlainMark (book t) m → m.records ≤ t.ledger.frontier → t.disk.cells p ≡ GroupPage tag body →
    is_live_cell t.ledger p (GroupPage tag body) ≡ true → LiveRight t m p tag
live_right {t} {m} {p} {tag} body v plain under h live = ⊎_elim (λ b. pending (ltb-true t.ledger.frontier tag.number b))
    (λ b. durable (is_name_told (name_of tag) (latest_durable t.ledger (key_of tag)) b))
    (or_cases (nat_lt t.ledger.frontier tag.number) (is_name (name_of tag) (latest_durable t.ledger (key_of tag)))
    told.1)
  where
    told : (t.ledger.standing tag.number tag.index ≡ Some p) × (is_needed t.ledger (name_of tag) (key_of tag) ≡ true)
    told = live_told (t.ledger.standing tag.number tag.index) live

    pending : t.ledger.frontier < tag.number → LiveRight t m p tag
    pending above = record {
      known = told.0;
      kept = λ lost. let to = lost.to in let top = v.frontier.above in omega arith;
      newest = λ n i x k key r. omega arith;
    }

    again : AreRewritten t
    again n i x lost old =
        written_more (book t) x.item.key m.records t.ledger.frontier under (plain.repaired n i x lost old)

    durable : latest_durable t.ledger (key_of tag) ≡ Some (name_of tag) → LiveRight t m p tag
    durable e =
        let has = v.book_right.keys tag.number tag.index (entry_for tag body) (v.pages.known p tag body h) in
        let l = latest_right t (key_of tag) (name_of tag) v again has e in
        record {
          known = told.0;
          kept = l.free;
          newest = λ n i x k key r. latest_newest again l n i x k key (omega arith);
        }

abbrev IsSecureAs : Translation → Tag → Type 0
IsSecureAs t tag = SecureOf t tag.number tag.index

-- it stands safely itself, since none that is newer stands for it
live_secure : {t : Translation} {m : Mark} {p : Place} {tag : Tag} (body : List ℕ) → Valid t →
    t.ledger.newest ≡ Some m → t.disk.cells p ≡ GroupPage tag body → LiveRight t m p tag → IsSecureAs t tag
live_secure {t} {m} {p} {tag} body v is h l = ⊎_elim (λ c. c)
    (λ o.
    let e : recorded_in t.ledger.newest ≡ m.records = ap recorded_in is in
    let w = o.by.within in
    let z = o.by.newer in
    let n = l.newest o.by.number o.by.index o.by.page o.by.is o.by.key (omega arith) in
    absurd (omega arith))
    (v.safe.safe tag.number tag.index (entry_for tag body) p (v.pages.known p tag body h) l.known l.kept)

-- Its copy alone spends it

replaced_never : {t : Translation} {m : Mark} {p : Place} {tag : Tag} → Valid t → LiveRight t m p tag →
    IsReplaced (with_erasing t.disk (spot_of p)) m tag → ⊥
replaced_never v l r =
    let known = v.pages.known r.place r.tag r.body r.there in
    let n = l.newest r.tag.number r.tag.index (entry_for r.tag r.body) known r.key r.recorded in
    let z = r.newer in
    omega arith

copy_alone : {t : Translation} {m : Mark} {p : Place} {tag : Tag} {body : List ℕ} → Valid t → LiveRight t m p tag →
    m.fence ≡ None → SpentBy (with_erasing t.disk (spot_of p)) m (GroupPage tag body) →
    HasCopy (with_erasing t.disk (spot_of p)) tag body
copy_alone {m = m} {tag = tag} v l none (inl fenced) = absurd (fenced_none m.fence tag.number none fenced)
copy_alone v l none (inr (inl copy)) = copy
copy_alone {t} {m} {p} {tag} v l none (inr (inr r)) = absurd (replaced_never v l r)

pub newest_is : (t : Translation) (s : Spot) (m other : Mark) → MarksRight (book t) t.ledger.frontier t.ledger.marks
    t.disk.cells t.disk.finished t.disk.blocks t.disk.erasing t.disk.flights m →
    IsNewestFinished (with_erasing t.disk s) other → other ≡ m
newest_is t s m other right n =
    let up = right.ended n.stands.place other n.stands.there n.stands.finished in
    let down = n.newest right.stands.place m right.stands.there right.stands.ended in
    right.same n.stands.place right.stands.place other m n.stands.there right.stands.there (omega arith)

mended_copy : {t : Translation} (w : Mending) (p : Place) {tag : Tag} {body : List ℕ} → Valid t → MendingOf t w →
    is_mended w ≡ true → t.disk.cells p ≡ GroupPage tag body → is_live t p ≡ true → Spent t.disk p →
    HasCopy (with_erasing t.disk (spot_of p)) tag body
mended_copy {t} Mended p {tag} {body} v r mended h live go = copy_alone v
    (live_right body v r.more r.right.within h (sym (ap (is_live_cell t.ledger p) h) ∙ live)) r.more.none
    (subst (λ z. SpentBy (with_erasing t.disk (spot_of p)) z (GroupPage tag body))
    (newest_is t (spot_of p) r.mark go.0 r.right go.1) (subst (SpentBy (with_erasing t.disk (spot_of p)) go.0) h go.2))
mended_copy w p v r mended h live go = absurd (false≢true mended)

pub live_has_copy : (t : Translation) (p : Place) (tag : Tag) (body : List ℕ) → Valid t →
    is_mended t.work.mending ≡ true → t.disk.cells p ≡ GroupPage tag body → is_live t p ≡ true → Spent t.disk p →
    HasCopy (with_erasing t.disk (spot_of p)) tag body
live_has_copy t p tag body v = mended_copy t.work.mending p v v.mending

-- A block that is erased has no live page

-- a live page of an unmended device stands securely
unmended_free : (t : Translation) (p : Place) (tag : Tag) (body : List ℕ) → Valid t →
    is_mended t.work.mending ≡ false → t.disk.cells p ≡ GroupPage tag body →
    is_live_cell t.ledger p (GroupPage tag body) ≡ true → t.disk.blocks (spot_of p) ≡ Free → ⊥
unmended_free t p tag body v un h live free =
    let at = same_Some secure.place p (sym secure.known ∙ told.0) in
    secure.needed (ap (λ z. t.disk.blocks (spot_of z)) at ∙ free)
  where
    told : (t.ledger.standing tag.number tag.index ≡ Some p) × (is_needed t.ledger (name_of tag) (key_of tag) ≡ true)
    told = live_told (t.ledger.standing tag.number tag.index) live

    secure : SecureOf t tag.number tag.index
    secure = ⊎_elim
        (λ b.
        let above = ltb-true t.ledger.frontier tag.number b in
        let low = v.frontier.above in
        new_secure tag.number tag.index v un (omega arith) told.0)
        (λ b. unmended_secure (key_of tag) (take (t.ledger.frontier - t.ledger.greatest_seen) t.ledger.groups)
        (latest_durable t.ledger (key_of tag)) (name_of tag) v un
        (v.book_right.keys tag.number tag.index (entry_for tag body) (v.pages.known p tag body h)) refl
        (is_name_told (name_of tag) (latest_durable t.ledger (key_of tag)) b) told.0)
        (or_cases (nat_lt t.ledger.frontier tag.number) (is_name (name_of tag) (latest_durable t.ledger (key_of tag)))
        told.1)

never_free : (t : Translation) (w : Mending) (p : Place) (tag : Tag) (body : List ℕ) → Valid t →
    t.work.mending ≡ w → MendingOf t w → t.disk.cells p ≡ GroupPage tag body →
    is_live_cell t.ledger p (GroupPage tag body) ≡ true → t.disk.blocks (spot_of p) ≡ Free → ⊥
never_free t (Unmarked fence lost) p tag body v is r h live free =
    unmended_free t p tag body v (ap is_mended is) h live free
never_free t (Repairing left) p tag body v is r h live free = unmended_free t p tag body v (ap is_mended is) h live free
never_free t Mended p tag body v is r h live free =
    let l = live_right body v r.more r.right.within h live in
    let c = live_secure body v r.is h l in
    let at = same_Some c.place p (sym c.known ∙ l.known) in
    c.needed (ap (λ z. t.disk.blocks (spot_of z)) at ∙ free)

pub live_never_erased : (t : Translation) (die : ℕ) (s : Spot) (p : Place) → Valid t →
    MayTake t die (Some (Erasing s)) → is_live t p ≡ true → spot_of p ≢ s
live_never_erased t die s p v may live at =
    let o = erase_owed t die s may in
    let page = live_is_page t p (t.disk.cells p) live in
    never_free t t.work.mending p page.0 page.1 v refl v.mending page.2
    (sym (ap (is_live_cell t.ledger p) page.2) ∙ live)
    (ap t.disk.blocks at ∙ o.free)

-- The live pages of a block are there

live_cell : {t : Translation} {p : Place} (cell : Cell) → Valid t → MendingOf t Mended → t.disk.cells p ≡ cell →
    is_live_cell t.ledger p cell ≡ true → NeededOf t p
live_cell {t} {p} (GroupPage tag body) v r at live =
    let l = live_right body v r.more r.right.within at live in
    needed_secure (name_of tag) l.known (live_secure body v r.is at l)
live_cell cell v r at live = absurd (false≢true live)

pub live_needed : {t : Translation} (s : Spot) → Valid t → t.work.mending ≡ Mended → All (NeededOf t) (live_places t s)
live_needed {t} s v mended = All-weaker (λ (p : Place). is_live t p ≡ true) (NeededOf t)
    (λ p h. live_cell (t.disk.cells p) v (subst (MendingOf t) mended v.mending) refl h) (live_places t s)
    (filter_passes (is_live t) (map (place_in s) (below t.numbers.pages)))
