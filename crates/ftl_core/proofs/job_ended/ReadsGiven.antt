-- What the end of a read gives to its reader: the block, if the page is the one that was looked up.
use Rattle.ftl_core.proofs.Common.{Bool, Cells, Core, Describes, Ending, Entry, ForNobody, ForRest, ForStep, ForTask}
use Rattle.ftl_core.proofs.Common.{GroupPage, IsAnother, IsBodyOf, IsCell, IsEndingOf, IsLookOf, IsPageAt, IsWanted}
use Rattle.ftl_core.proofs.Common.{Key, List, Looked, Name, None, OnPage, Option, Outcome, Page, Pin, PinKept, Place}
use Rattle.ftl_core.proofs.Common.{ReadRight, ReadWrong, Reader, Some, Tag, Translation, Valid, WentWell, WentWrong}
use Rattle.ftl_core.proofs.Common.{and_true, ap, book, entry_of, eq_self, false≢true, find, get_or_from_slice_get}
use Rattle.ftl_core.proofs.Common.{is_pin_of, is_read, key_of, page_one, refl, slice_get, slice_get_within, subst, sym}
use Rattle.ftl_core.proofs.Common.{true, ℕ, ◌&&◌, ◌==◌, ◌∙◌, ◌≡◌}
use Rattle.ufs_spec.proofs.Facts.{key_is}
use Rattle.ufs_spec.specs.Cells.{Opens}
use Rattle.ufs_spec.specs.Disk as disk
use Rattle.ufs_spec.specs.Translation as layer
use Rattle.ufs_spec.specs.declared.flash.Outcome.TheVariants as outcome
use Rattle.ufs_laws.proofs.pages.SealedOnce.{body_opened}
use Rattle.power_loss.specs.Invariant.{IsGroupPage, LookedRight}
use Rattle.power_loss.proofs.books.SmallFacts.{eq_told}
use Rattle.ftl_core.specs.Ended.{EndedNow}
use Rattle.ftl_core.specs.Ended as ended
use Rattle.ftl_core.specs.Describes.{IsTold}
use Rattle.ftl_core.specs.Gives.{Gives, GivesIf, IsBodyLooked, IsGivenTo, names}
use Rattle.ftl_core.proofs.pins.PinsAlike.{pins_at}
use Rattle.ftl_core.proofs.job_ended.ReadsEnded.{read_ends}
use Rattle.ftl_core.proofs.pins.FoundPins.{found_there}

-- What is given

-- the page of the key and the number stands there
pub record IsPageOf (cells : Cells) (place : Place) (k : Key) (n : ℕ) : Type 0 where
  pub tag : Tag
  pub body : List ℕ
  pub there : cells place ≡ GroupPage tag body
  pub key : key_of tag ≡ k
  pub number : tag.number ≡ n

-- a tag of the key and the number, as the code tests it

named : (t : Tag) (k : Key) (n : ℕ) → key_of t ≡ k → t.number ≡ n → names t k n ≡ true
named t k n e f =
    ap (λ (x : Key). names t x n) (sym e) ∙ ap (λ (m : ℕ). names t (key_of t) m) (sym f)
    ∙ all (t.kind == t.kind) (t.unit == t.unit) (t.address == t.address) (t.number == t.number) (eq_self t.kind)
    (eq_self t.unit) (eq_self t.address) (eq_self t.number)
  where
    all : (a b c d : Bool) → a ≡ true → b ≡ true → c ≡ true → d ≡ true → (a && b && c && d) ≡ true
    all a b c d p q r s = ap (λ (x : Bool). x && b && c && d) p ∙ ap (λ (x : Bool). true && x && c && d) q
        ∙ ap (λ (x : Bool). true && true && x && d) r ∙ s

names_told : (t : Tag) (k : Key) (n : ℕ) → names t k n ≡ true → (key_of t ≡ k) × (t.number ≡ n)
names_told t k n h =
    let r = and_true ((t.kind == k.kind) && (t.unit == k.unit) && (t.address == k.address)) (t.number == n) h in
    let u = and_true ((t.kind == k.kind) && (t.unit == k.unit)) (t.address == k.address) r.0 in
    let w = and_true (t.kind == k.kind) (t.unit == k.unit) u.0 in (
      key_is (key_of t) k (eq_told t.kind k.kind w.0) (eq_told t.unit k.unit w.1)
          (eq_told t.address k.address u.1),
      eq_told t.number n r.1,
    )

-- the page that was wanted gives its body
pub right_body : (page : Page) (cells : Cells) (place : Place) (k : Key) (n : ℕ) (body : Option (List ℕ))
    (w : IsPageOf cells place k n) →
    IsCell page (cells place) → IsBodyOf page k n body → body ≡ Some w.body
right_body page cells place k n body w cell is = known body refl
  where
    opens : Opens page w.tag w.body
    opens = (subst (IsCell page) w.there cell).0

    known : (o : Option (List ℕ)) → body ≡ o → o ≡ Some w.body
    known None e = absurd (is.none e w.tag w.body opens.tag_right (named w.tag k n w.key w.number) opens.sealed)
    known (Some b) e = let f = is.found b e in ap Some (sym f.4.holds ∙ body_opened page w.tag w.body opens)

-- another page gives none
pub wrong_body : (page : Page) (cells : Cells) (place : Place) (k : Key) (n : ℕ) (body : Option (List ℕ)) →
    IsPageOf cells place k n →
    IsAnother page (cells place) → IsBodyOf page k n body → body ≡ None
wrong_body page cells place k n body w other is = known body refl
  where
    another : IsAnother page (GroupPage w.tag w.body)
    another = subst (IsAnother page) w.there other

    known : (o : Option (List ℕ)) → body ≡ o → o ≡ None
    known None e = refl
    known (Some b) e =
        let f = is.found b e in
        let m = names_told f.0 k n f.3 in
        absurd (another f.0 b (record { tag_right = f.1; body_right = f.2; sealed = f.4 }) (m.0 ∙ sym w.key)
        (m.1 ∙ sym w.number))

-- the page that a pin looks at stands there
pub page_of_pin : (c : Core) (t : Translation) (k : ℕ) (x : Pin) (name : Name) (place : Place) → Describes c t →
    slice_get c.pins k ≡ Some x →
    x.looked ≡ OnPage name place → IsPageOf t.disk.cells place x.key name.number
page_of_pin c t k x name place h at looks =
    let known = v.pages.known place page.tag page.body page.there in
    let one = page_one (book t) name.number name.index _ of_key.0
    (subst (λ (z : Name). IsPageAt (book t) z.number z.index
    (record { item = record { key = key_of page.tag; body = page.body }; size = page.tag.size })) page.is known)
    of_key.1 in record {
      tag = page.tag;
      body = page.body;
      there = page.there;
      key = ap (λ (e : Entry). e.item.key) one ∙ of_key.2;
      number = ap (λ (z : Name). z.number) page.is;
    }
  where
    v : Valid t
    v = h.valid

    r : (q : layer.Pin) × (slice_get t.pins k ≡ Some q) × PinKept t.ledger.frontier (entry_of t.ledger) x q
    r = pins_at t.ledger.frontier (entry_of t.ledger) c.pins t.pins k x h.kept.pins at

    looked : r.0.looked ≡ OnPage name place
    looked = r.2.looked ∙ looks

    page : IsGroupPage t.disk.cells t.disk.finished t.disk.erasing name place
    page =
        subst (LookedRight (book t) t.ledger.frontier t.disk.cells t.disk.finished t.disk.erasing) looked
        (subst (λ (q : layer.Pin). LookedRight
        (book t) t.ledger.frontier t.disk.cells t.disk.finished t.disk.erasing q.looked)
        (get_or_from_slice_get t.pins k r.0 r.0 r.1) (v.pins.each k r.0 (slice_get_within t.pins k r.0 r.1)))

    of_key : (e : Entry) × (entry_of t.ledger name ≡ Some e) × (e.item.key ≡ x.key)
    of_key = subst (IsLookOf t.ledger.frontier (entry_of t.ledger) x.key) looked r.2.there

-- what its reader is told, who wants the page
given_told : (cells : Cells) (reader index : ℕ) (place : Place) (o : Outcome) (ending : Ending) (e : EndedNow) (x : Pin)
    (name : Name) (given : Option (List ℕ)) →
    x.looked ≡ OnPage name place → IsPageOf cells place x.key name.number →
    IsEndingOf cells (Some (disk.Reading (ForTask reader index) place)) o ending →
    IsGivenTo o (Some x) given → e ≡ ended.Read reader index given →
    IsTold cells (Some (disk.Reading (ForTask reader index) place)) ending e
given_told cells reader index place (outcome.Read page) ReadRight e x name given looks w is gives told = (
  w.tag,
  w.body,
  w.there,
  told ∙ ap (ended.Read reader index)
      (right_body page cells place x.key name.number given w is.1
      (subst (λ (l : Looked). IsBodyLooked page x.key l given) looks gives)),
)
given_told cells reader index place (outcome.Read page) ReadWrong e x name given looks w is gives told =
    told ∙ ap (ended.Read reader index)
    (wrong_body page cells place x.key name.number given w is.1
    (subst (λ (l : Looked). IsBodyLooked page x.key l given) looks gives))
given_told cells reader index place outcome.ReadFailed ReadWrong e x name given looks w is gives told = told
    ∙ ap (ended.Read reader index) gives
given_told cells reader index place outcome.Done ending e x name given looks w is gives told = absurd (false≢true is.0)
given_told cells reader index place outcome.Failed ending e x name given looks w is gives told = absurd (false≢true is.0)
given_told cells reader index place o ending e x name given looks w is gives told = absurd is.1

read_is_over : (cells : Cells) (who : Reader) (place : Place) (o : Outcome) (ending : Ending) →
    IsEndingOf cells (Some (disk.Reading who place)) o ending → is_read o ≡ true
read_is_over cells who place = read_ends (λ (d : Bool) (e : Ending). d ≡ true) cells who place refl refl

pub task_told : (c : Core) (t : Translation) (die reader index : ℕ) (place : Place) (o : Outcome) (ending : Ending)
    (r : Option EndedNow) → Describes c t →
    t.disk.flights die ≡ Some (disk.Reading (ForTask reader index) place) →
    IsEndingOf t.disk.cells (Some (disk.Reading (ForTask reader index) place)) o ending →
    GivesIf (is_read o) c o (ForTask reader index) r →
    (e : EndedNow) × (r ≡ Some e) × IsTold t.disk.cells (Some (disk.Reading (ForTask reader index) place)) ending e
task_told c t die reader index place o ending r h flies is gives = (
  given.0,
  given.1,
  given_told t.disk.cells reader index place o ending given.0 w.0 w.2.name given.2.0 w.2.looks
      (page_of_pin c t at.0 w.0 w.2.name place h at.1 w.2.looks)
      is
      (subst (λ (p : Option Pin). IsGivenTo o p given.2.0) w.1 given.2.1)
      given.2.2,
)
  where
    given : (e : EndedNow) × (r ≡ Some e) × Gives c o (ForTask reader index) e
    given = subst (λ (z : Bool). GivesIf z c o (ForTask reader index) r)
        (read_is_over t.disk.cells (ForTask reader index) place o ending is) gives

    w : (p : Pin) × (find (is_pin_of reader index) c.pins ≡ Some p) × IsWanted place p
    w = h.kept.reads die reader index place flies

    at : (k : ℕ) × (slice_get c.pins k ≡ Some w.0)
    at = found_there (is_pin_of reader index) c.pins w.0 w.1

-- a read for nobody or for the step under way tells nothing
pub other_told : (c : Core) (cells : Cells) (who : Reader) (reader : Reader) (place : Place) (o : Outcome)
    (ending : Ending) (r : Option EndedNow) → ((e : EndedNow) → Gives c o reader e → e ≡ ended.Other) →
    ((x : Ending) → IsTold cells (Some (disk.Reading who place)) x ended.Other) →
    IsEndingOf cells (Some (disk.Reading who place)) o ending → GivesIf (is_read o) c o reader r →
    (e : EndedNow) × (r ≡ Some e) × IsTold cells (Some (disk.Reading who place)) ending e
other_told c cells who reader place o ending r nothing told is gives =
    let g = subst (λ (z : Bool). GivesIf z c o reader r) (read_is_over cells who place o ending is) gives in
    (g.0, g.1, subst (IsTold cells (Some (disk.Reading who place)) ending) (sym (nothing g.0 g.2)) (told ending))

pub lost_told : (c : Core) (cells : Cells) (place : Place) (o : Outcome) (ending : Ending) (r : Option EndedNow) →
    IsEndingOf cells (Some (disk.Reading ForNobody place)) o ending → GivesIf (is_read o) c o ForNobody r →
    (e : EndedNow) × (r ≡ Some e) × IsTold cells (Some (disk.Reading ForNobody place)) ending e
lost_told c cells place o ending r = other_told c cells ForNobody ForNobody place o ending r (λ e k. k) by
  where
    by : (x : Ending) → IsTold cells (Some (disk.Reading ForNobody place)) x ended.Other
    by ReadRight = refl
    by ReadWrong = refl
    by WentWell = refl
    by (WentWrong left) = refl

pub rest_told : (c : Core) (cells : Cells) (number index : ℕ) (place : Place) (o : Outcome) (ending : Ending)
    (r : Option EndedNow) → IsEndingOf cells (Some (disk.Reading (ForRest number index) place)) o ending →
    GivesIf (is_read o) c o (ForRest number index) r →
    (e : EndedNow) × (r ≡ Some e) × IsTold cells (Some (disk.Reading (ForRest number index) place)) ending e
rest_told c cells number index place o ending r =
    other_told c cells (ForRest number index) (ForRest number index) place o ending r (λ e k. k) by
  where
    by : (x : Ending) → IsTold cells (Some (disk.Reading (ForRest number index) place)) x ended.Other
    by ReadRight = refl
    by ReadWrong = refl
    by WentWell = refl
    by (WentWrong left) = refl

pub step_told : (c : Core) (cells : Cells) (place : Place) (o : Outcome) (ending : Ending) (r : Option EndedNow) →
    IsEndingOf cells (Some (disk.Reading ForStep place)) o ending → GivesIf (is_read o) c o ForStep r →
    (e : EndedNow) × (r ≡ Some e) × IsTold cells (Some (disk.Reading ForStep place)) ending e
step_told c cells place o ending r = other_told c cells ForStep ForStep place o ending r (λ e k. k) by
  where
    by : (x : Ending) → IsTold cells (Some (disk.Reading ForStep place)) x ended.Other
    by ReadRight = refl
    by ReadWrong = refl
    by WentWell = refl
    by (WentWrong left) = refl
