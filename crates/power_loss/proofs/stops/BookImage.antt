-- What an image of the book is, and that a stop leaves one once a mark of the life, or the one it began with, is
-- finished.
use Rattle.ufs_spec.specs.Configs.{marked as as_marked}
use Rattle.power_loss.proofs.Common.{◌≡◌, ℕ, ◌≤◌, ◌⊎◌, List, [], Option, Some, None, slice_get, refl, sym, ap, ◌∙◌}
use Rattle.power_loss.proofs.Common.{subst, inl, inr, ⊎_elim, arith, Cells, GroupPage, Mark, MarkPage, Group, Item}
use Rattle.power_loss.proofs.Common.{HasPage, IsNewestMark, recorded_in, Entry, Translation, Place, Tag, AreWholeAbove}
use Rattle.power_loss.proofs.Common.{Book, BookRight, IsFenceMark, IsKnown, IsLostNumber, IsOverwritten, IsPageAt}
use Rattle.power_loss.proofs.Common.{IsPlainMark, book, last_number, IsLaterMark, IsSafe, Valid}
use Rattle.power_loss.specs.Invariant.{OpeningRight}
use Rattle.power_loss.proofs.books.LayerParts.{MarksOf, StopLeaves, SecureOf}
use Rattle.power_loss.proofs.stops.LeftCells.{known, mark_from, mark_stays, marks_differ, page_stays, recorded}

-- the page is there, or one that overwrites it at or under the bound is
abbrev pub IsShown : Book → ℕ → Cells → ℕ → ℕ → Entry → Type 0
IsShown b marked c n i e = HasPage c n i ⊎ ((o : IsOverwritten b n e.item.key marked) × HasPage c o.number o.index)

-- the fence of the mark is what is lost, and all groups of this life are repairs
pub record IsRepairing (b : Book) (m : Mark) : Type 0 where
  pub fence : IsFenceMark b m
  pub repairs : (j i : ℕ) (g : Group) (item : Item) → slice_get b.groups j ≡ Some g → slice_get g i ≡ Some item →
      item.body ≡ b.base item.key

-- the cells show the book up to the frontier, and m is their newest mark
pub record Image (b : Book) (frontier marked : ℕ) (c : Cells) (m : Mark) : Type 0 where
  pub right : BookRight b
  pub top : b.greatest_seen ≤ frontier
  pub last : frontier ≤ last_number b
  pub known : (p : Place) (t : Tag) (body : List ℕ) → c p ≡ GroupPage t body → IsKnown b t body
  pub recorded : (p : Place) (t : Tag) (body : List ℕ) → c p ≡ GroupPage t body → t.frontier ≤ frontier
  pub marks : (p : Place) (other : Mark) → c p ≡ MarkPage other → other.records ≤ frontier
  pub same : (p q : Place) (a other : Mark) → c p ≡ MarkPage a → c q ≡ MarkPage other → a.number ≡ other.number →
      a ≡ other
  pub place : Place
  pub there : c place ≡ MarkPage m
  pub above : marked ≤ m.records
  pub good : IsRepairing b m ⊎ IsPlainMark b m
  pub whole : AreWholeAbove b m.records
  pub shown : (n i : ℕ) (e : Entry) → n ≤ frontier → IsPageAt b n i e → (IsLostNumber b n → ⊥) →
      IsShown b marked c n i e
  pub numbers : m.numbers ≡ as_marked b.numbers

-- the cells are those that the life began with
pub record Unchanged (b : Book) (newest : Option Mark) (c : Cells) (m : Option Mark) : Type 0 where
  pub opened : OpeningRight b newest c
  pub newest_is : m ≡ newest
  pub none_new : b.groups ≡ []

pub record Changed (b : Book) (frontier marked : ℕ) (c : Cells) (m : Option Mark) : Type 0 where
  pub mark : Mark
  pub is : m ≡ Some mark
  pub image : Image b frontier marked c mark

-- Pages that stand are shown

abbrev pub Outcome : Translation → Cells → Option Mark → Type 0
Outcome t c m =
    Unchanged (book t) t.ledger.newest c m ⊎ Changed (book t) t.ledger.frontier (recorded_in t.ledger.newest) c m

pub record Parts (b : Book) (frontier marked : ℕ) (c : Cells) (m : Mark) : Type 0 where
  pub marks : (p : Place) (other : Mark) → c p ≡ MarkPage other → other.records ≤ frontier
  pub same : (p q : Place) (a other : Mark) → c p ≡ MarkPage a → c q ≡ MarkPage other → a.number ≡ other.number →
      a ≡ other
  pub place : Place
  pub there : c place ≡ MarkPage m
  pub above : marked ≤ m.records
  pub good : IsRepairing b m ⊎ IsPlainMark b m
  pub whole : AreWholeAbove b m.records
  pub numbers : m.numbers ≡ as_marked b.numbers

module _ {t : Translation} {c : Cells} (v : Valid t) (crash : StopLeaves t c) where
  secure_shown : {n i : ℕ} → SecureOf t n i → HasPage c n i
  secure_shown s = (s.place, s.tag, s.body, page_stays v crash s.there s.stays, s.number, s.index)

  safe_shown : (n i : ℕ) (e : Entry) → IsSafe (book t) (recorded_in t.ledger.newest) t.ledger.standing t.disk.cells
      t.disk.finished t.disk.blocks t.disk.erasing n i e.item.key →
      IsShown (book t) (recorded_in t.ledger.newest) c n i e
  safe_shown n i e (inl s) = inl (secure_shown {n = n} {i = i} s)
  safe_shown n i e (inr o) = inr (o.by, secure_shown o.secure)

  pub shown : (n i : ℕ) (e : Entry) → n ≤ t.ledger.frontier → IsPageAt (book t) n i e →
      (IsLostNumber (book t) n → ⊥) → IsShown (book t) (recorded_in t.ledger.newest) c n i e
  shown n i e up is free =
      let s = v.frontier.stand n i e up is in
      safe_shown n i e (v.safe.safe n i e s.0 is s.1 free)

  -- An image, of the parts that differ

  pub image : {m : Mark} → Parts (book t) t.ledger.frontier (recorded_in t.ledger.newest) c m →
      Image (book t) t.ledger.frontier (recorded_in t.ledger.newest) c m
  image x = record {
    right = v.book_right;
    top = v.frontier.above;
    last = v.frontier.within;
    known = λ p tag body h. known v crash p tag body h;
    recorded = λ p tag body h. recorded v crash p tag body h;
    marks = x.marks;
    same = x.same;
    place = x.place;
    there = x.there;
    above = x.above;
    good = x.good;
    whole = x.whole;
    shown = shown;
    numbers = x.numbers;
  }

  -- Once a mark of this life, or the one it began with, is finished

  pub newest_stays : {newest : Mark} (r : MarksOf t newest) → c r.stands.place ≡ MarkPage newest
  newest_stays {newest} r = mark_stays v crash r.stands.place newest r.stands.there r.stands.stays

  -- the newest mark of the cells is the newest finished one, or a later one
  pub newest_or_later : {newest m : Mark} (p : Place) → MarksOf t newest → c p ≡ MarkPage m →
      newest.number ≤ m.number → (m ≡ newest) ⊎ IsLaterMark (book t) t.ledger.frontier newest m
  newest_or_later {newest} {m} p r h up = ⊎_elim
      (λ e. ⊎_elim (λ l. let n = l.0 in inl (r.same p r.stands.place m newest e r.stands.there (omega arith)))
      (λ l. inr l) (r.known p m e)) (λ e. inr (r.flies p.die p m e)) (mark_from t.disk c p crash h)

  pub finished_parts : {newest : Mark} {m : Mark} {p : Place} (r : MarksOf t newest) → t.ledger.newest ≡ Some newest →
      IsRepairing (book t) newest ⊎ IsPlainMark (book t) newest → c p ≡ MarkPage m → newest.number ≤ m.number →
      Parts (book t) t.ledger.frontier (recorded_in t.ledger.newest) c m
  finished_parts {newest} {m} {p} r is good h up = record {
    marks = λ q other k. ⊎_elim (λ e. ⊎_elim (λ l. l.1) (λ l. l.within) (r.known q other e))
        (λ e. (r.flies q.die q other e).within) (mark_from t.disk c q crash k);
    same = marks_differ c v crash r.same;
    place = p;
    there = h;
    above = let e = ap recorded_in is in let a = above in omega arith;
    good = ⊎_elim (λ e. subst (λ x. IsRepairing (book t) x ⊎ IsPlainMark (book t) x) (sym e) good)
        (λ l. inr l.plain) one;
    whole = λ n l u. let a = above in r.whole n (omega arith) u;
    numbers = ⊎_elim (λ e. ap (λ x. x.numbers) e ∙ r.numbers) (λ l. l.numbers) one;
  }
    where
      one : (m ≡ newest) ⊎ IsLaterMark (book t) t.ledger.frontier newest m
      one = newest_or_later p r h up

      above : newest.records ≤ m.records
      above = ⊎_elim (λ e. let x = ap (λ y. y.records) e in omega arith) (λ l. l.above) one

  pub finished : (newest : Mark) (m : Option Mark) (r : MarksOf t newest) → t.ledger.newest ≡ Some newest →
      IsRepairing (book t) newest ⊎ IsPlainMark (book t) newest → IsNewestMark c m → Outcome t c m
  finished newest None r is good n = absurd (n r.stands.place newest (newest_stays {newest = newest} r))
  finished newest (Some m) r is good n =
      inr record {
        mark = m;
        is = refl;
        image = image (finished_parts r is good n.0.1 (n.1 r.stands.place newest (newest_stays r)));
      }
